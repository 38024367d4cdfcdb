-- What a part shows of the addresses that come to a router.
use Rattle.std.proofs.Common.{◌≡◌, ℕ, ◌<◌, ◌≤◌, ◌^◌, ◌⊎◌, inl, inr, ◌∙◌, ⊎_elim, Bool, true, false, ◌&&◌, List, ap, sym, arith}
use Rattle.std.specs.List.{list_any}
use Rattle.std.proofs.lemmas.Bool.{cases_lt}
use Rattle.base.specs.Forwarding.{does}
use Rattle.base.specs.Reach.{is_router, reaches}
use Rattle.base.specs.Runs.{AreRuns}
use Rattle.base.specs.Walk.{at_address}
use Rattle.base.specs.declared.forwarding_row.ForwardingRow.{ForwardingRow}
use Rattle.base.specs.declared.ids.RouterId.{RouterId}
use Rattle.base.specs.declared.run.Run.{Run}
use Rattle.base.proofs.Covers.{within-above, within-below, within-yes}
use Rattle.base.proofs.Walks.{walk-same}
use Rattle.walk_check.proofs.Reaching.{met-here, met-never}
use Rattle.par_scan.specs.Parts.{ShowsPart}
use Rattle.loop_check.specs.Bounds.{only_within}
use Rattle.par_scan.proofs.PartRows.{idle-stays}

-- a test that is what another one is within bounds, and false without
pub test-within : (low past a : ℕ) (t u : Bool) → (low ≤ a → a < past → t ≡ u) → ((a < low) ⊎ (past ≤ a) → t ≡ false) → t ≡ only_within low past (λ b. u) a
test-within low past a t u in-bounds out = ⊎_elim
    (λ (l : a < low). out (inl l) ∙ sym (ap (λ b. b && u) (within-below low past a l)))
    (λ (l : low ≤ a). ⊎_elim
    (λ (k : a < past). in-bounds l k ∙ sym (ap (λ b. b && u) (within-yes low past a l k)))
    (λ (k : past ≤ a). out (inr k) ∙ sym (ap (λ b. b && u) (within-above low past a k)))
    (cases_lt a past))
    (cases_lt a low)

-- where all others stay, none of them comes to another router
reach-stays : (n : ℕ) (rows part : List ForwardingRow) (low past a : ℕ) (first to : RouterId) → ShowsPart n rows part low past → a < 2 ^ 32 → (a < low) ⊎ (past ≤ a) → first.0 < n → (first.0 ≡ to.0 → ⊥) → reaches n (does part) first to a ≡ false
reach-stays n rows part low past a first to h b out l differ =
    met-never (at_address (does part) a) n first to (omega arith) differ (λ s k e. idle-stays n first.0 s k (sym (h.outside first a b out) ∙ e))

pub reach-part : (n m : ℕ) (rows part : List ForwardingRow) (low past : ℕ) (first to : RouterId) (runs : List Run) → m ≡ n → ShowsPart n rows part low past → first.0 < n → (first.0 ≡ to.0 → ⊥) → AreRuns runs (reaches m (does part) first to) → AreRuns runs (only_within low past (reaches n (does rows) first to))
reach-part n m rows part low past first to runs e h l differ are = record {
  apart = are.apart;
  exact = λ a b. are.exact a b ∙ ap (λ j. reaches j (does part) first to a) e ∙ test-within low past a (reaches n (does part) first to a) (reaches n (does rows) first to a)
      (λ from below. ap (list_any (is_router to)) (walk-same (at_address (does part) a) (at_address (does rows) a) (λ r. h.inside r a from below) n first))
      (λ out. reach-stays n rows part low past a first to h b out l differ);
}

-- the first router is met at once
pub reach-here : (n : ℕ) (rows : List ForwardingRow) (first to : RouterId) (runs : List Run) → first.0 ≡ to.0 → AreRuns runs (λ a. true) → AreRuns runs (reaches n (does rows) first to)
reach-here n rows first to runs e h = record { apart = h.apart; exact = λ a b. h.exact a b ∙ sym (met-here (at_address (does rows) a) n first to e) }
