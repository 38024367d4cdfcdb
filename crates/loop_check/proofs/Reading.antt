-- Reading a row: what its routers do, by one list.
use Rattle.std.proofs.Common.{◌≡◌, ℕ, ◌<◌, ◌≤◌, ◌∙◌, false, Option, None, List, [], ◌∷◌, ◌&&◌, length, get_or, refl, ap, sym, ⊎_elim, arith}
use Rattle.std.proofs.lemmas.Bool.{cases_lt}
use Rattle.std.proofs.lemmas.List.{get_or_past}
use Rattle.base.specs.Cycles.{goes_to, go_round, is_cycle}
use Rattle.base.specs.Forwarding.{AreForwarding, target_of}
use Rattle.base.specs.Reach.{is_router}
use Rattle.base.specs.Walk.{on_far}
use Rattle.base.specs.declared.forwarding_row.ForwardingRow.{ForwardingRow}
use Rattle.base.specs.declared.ids.RouterId.{RouterId}
use Rattle.base.specs.declared.target.Target.{Target}
use Rattle.label_view.proofs.Found.{each-at}
use Rattle.loop_check.specs.Following.{LeadInside, hops}
use Rattle.loop_check.specs.RowCycles.{AreCyclesOf}

pub cleared : (passed : List (Option RouterId)) → ((k : ℕ) → k < length passed → get_or passed k None ≡ None) → (r : RouterId) → get_or passed r.0 None ≡ None
cleared passed all = λ r. ⊎_elim
    (λ (b : r.0 < length passed). all r.0 b)
    (λ (b : length passed ≤ r.0). get_or_past passed r.0 None b)
    (cases_lt r.0 (length passed))

-- they lead to routers that there are
pub reads-inside : (n : ℕ) (rows : List ForwardingRow) (i : ℕ) (d : ForwardingRow) (ts : List Target) → AreForwarding n rows → i < length rows → length ts ≡ n → ((r : RouterId) → hops ts r ≡ target_of (get_or rows i d) r) → LeadInside ts
reads-inside n rows i d ts form l room is = record {
  inside = λ r s k to.
      let b : s.0 < n = (each-at n rows i d form.each l).within r s k (sym (is r) ∙ to) in
      omega arith;
}

-- ---- functions that agree at each router have the same cycles

round-same : (f g : RouterId → Target) → ((r : RouterId) → f r ≡ g r) → (s : RouterId) (rs : List RouterId) → go_round f s rs ≡ go_round g s rs
round-same f g h s [] = refl
round-same f g h s (r ∷ []) = ap (λ (t : Target). on_far t false (is_router s)) (h r)
round-same f g h s (r ∷ y ∷ ys) = ap (λ (t : Target). on_far t false (is_router y) && go_round f s (y ∷ ys)) (h r) ∙ ap (λ b. goes_to g r y && b) (round-same f g h s (y ∷ ys))

pub cycle-same : (f g : RouterId → Target) → ((r : RouterId) → f r ≡ g r) → (rs : List RouterId) → is_cycle f rs ≡ is_cycle g rs
cycle-same f g h [] = refl
cycle-same f g h (r ∷ rest) = rw (round-same f g h r (r ∷ rest)) refl

pub cycles-same : (f g : RouterId → Target) (cycles : List (List RouterId)) → ((r : RouterId) → f r ≡ g r) → AreCyclesOf f cycles → AreCyclesOf g cycles
cycles-same f g cycles h c = record {
  order = c.order;
  each = λ rs i. sym (cycle-same f g h rs) ∙ c.each rs i;
  all = λ rs k. c.all rs (cycle-same f g h rs ∙ k);
}
