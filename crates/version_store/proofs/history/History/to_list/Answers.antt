use Rattle.std.proofs.Common.{◌≡◌, ◌≤◌, ◌∙◌, ℕ, List, length, drop, take, subst, sym}
use Rattle.dn_model.specs.declared.entry.Posted.{Posted}
use Rattle.version_store.proofs.GoingOn.{page-read}
use Rattle.version_store.proofs.history.History.to_list.Goals as goal

pub pages-preserved : goal.pages-preserved
pages-preserved c =
    let h : List Posted = c.self.inside.pages in
    let made : List Posted = c.pages.list.items in
    let run : List Posted = c.run_from-run.result.now in
    let page : take (length run) (drop (length made) h) ≡ run = subst (λ (n : ℕ). take (length run) (drop n h) ≡ run) (c.len-in-pages-2.ensures ∙ c.pages.list.ok.0) c.run_from-run.ensures.run in
    let new : List Posted = c.extend_from_slice.new.self.items in
    let read : (length new ≤ length h) × (new ≡ take (length new) h) = page-read h made run new c.pages.invariant.1 page c.in_ok-extend_from_slice.ensures.items in
    (subst (λ (n : ℕ). length new ≤ n) (sym c.len-count.ensures) read.0, read.1)
