-- What a part shows of cycles, and the cycles of all ranges as one.
use Rattle.std.proofs.Common.{◌≡◌, ℕ, ◌*◌, ◌<◌, ◌≤◌, ◌^◌, ◌∙◌, false, ◌&&◌, ltb, List, [], ◌∷◌, length, refl, ap, sym, subst}
use Rattle.std.specs.List.{list_all}
use Rattle.std.proofs.lemmas.Bool.{and_right}
use Rattle.base.specs.Cycles.{AreCycles, IsCycle, go_round, goes_round, goes_to, is_cycle}
use Rattle.base.specs.Forwarding.{AreForwarding, does}
use Rattle.base.specs.Reach.{is_router}
use Rattle.base.specs.Lists.{all_differ}
use Rattle.base.specs.Walk.{at_address, on_far}
use Rattle.base.specs.declared.cycle.Cycle.{Cycle}
use Rattle.base.specs.declared.forwarding_row.ForwardingRow.{ForwardingRow}
use Rattle.base.specs.declared.ids.LinkId.{LinkId}
use Rattle.base.specs.declared.ids.RouterId.{RouterId}
use Rattle.base.specs.declared.target.Target.{Target}
use Rattle.base.specs.declared.target.Target.TheVariants.{To}
use Rattle.base.proofs.Covers.{within-yes}
use Rattle.base.proofs.Walks.{on_far-last}
use Rattle.loop_check.proofs.Sorting.{ordered-differ}
use Rattle.loop_check.specs.CyclesByRange.{AreCyclePieces, AreCyclesByRange, AreCyclesWithin}
use Rattle.par_scan.specs.Parts.{ShowsPart}
use Rattle.loop_check.specs.Bounds.{only_within}
use Rattle.par_scan.specs.Ranges.{range_begin}
use Rattle.par_scan.proofs.PartRows.{idle-stays}
use Rattle.par_scan.proofs.RangeBounds.{bounds-are, bounds-end}
use Rattle.par_scan.proofs.ReachParts.{test-within}

-- ---- a part

go_round-same : (f g : RouterId → Target) → ((r : RouterId) → f r ≡ g r) → (first : RouterId) (rs : List RouterId) → go_round f first rs ≡ go_round g first rs
go_round-same f g h first [] = refl
go_round-same f g h first (r ∷ []) = ap (λ t. on_far t false (is_router first)) (h r)
go_round-same f g h first (r ∷ s ∷ rest) =
    ap (λ t. on_far t false (is_router s) && go_round f first (s ∷ rest)) (h r) ∙ ap (λ b. goes_to g r s && b) (go_round-same f g h first (s ∷ rest))

cycle-same : (f g : RouterId → Target) → ((r : RouterId) → f r ≡ g r) → (rs : List RouterId) → is_cycle f rs ≡ is_cycle g rs
cycle-same f g h [] = refl
cycle-same f g h (r ∷ rest) = ap (λ b. list_all (λ s. ltb r.0 s.0) rest && all_differ is_router (r ∷ rest) && b) (go_round-same f g h r (r ∷ rest))

go_round-stays : (f : RouterId → Target) → ((r s : RouterId) (l : LinkId) → f r ≡ To s l → ⊥) → (first r : RouterId) (rest : List RouterId) → go_round f first (r ∷ rest) ≡ false
go_round-stays f h first r [] = on_far-last (f r) false (is_router first) (h r)
go_round-stays f h first r (s ∷ rest) = ap (λ b. b && go_round f first (s ∷ rest)) (on_far-last (f r) false (is_router s) (h r))

cycle-stays : (f : RouterId → Target) → ((r s : RouterId) (l : LinkId) → f r ≡ To s l → ⊥) → (rs : List RouterId) → is_cycle f rs ≡ false
cycle-stays f h [] = refl
cycle-stays f h (r ∷ rest) =
    and_right (list_all (λ s. ltb r.0 s.0) rest && all_differ is_router (r ∷ rest)) (go_round f r (r ∷ rest)) (go_round-stays f h r r rest)

pub goes-part : (n : ℕ) (rows part : List ForwardingRow) (low past : ℕ) (rs : List RouterId) (a : ℕ) → ShowsPart n rows part low past → a < 2 ^ 32 → goes_round (does part) rs a ≡ only_within low past (goes_round (does rows) rs) a
goes-part n rows part low past rs a h b = test-within low past a (goes_round (does part) rs a) (goes_round (does rows) rs a)
    (λ from below. cycle-same (at_address (does part) a) (at_address (does rows) a) (λ r. h.inside r a from below) rs)
    (λ out. cycle-stays (at_address (does part) a) (λ r s l e. idle-stays n r.0 s l (sym (h.outside r a b out) ∙ e)) rs)

pub cycles-part : (n : ℕ) (rows part : List ForwardingRow) (low past : ℕ) (cycles : List Cycle) → ShowsPart n rows part low past → AreCycles (does part) cycles → AreCyclesWithin low past (does rows) cycles
cycles-part n rows part low past cycles h are = record {
  each = λ c i.
      let is : IsCycle (does part) c = are.each c i in
      record {
        runs = is.runs;
        are = record { apart = is.are.apart; exact = λ a b. is.are.exact a b ∙ goes-part n rows part low past c.routers a h b };
        least = is.least;
        addresses = is.addresses;
      };
  differ = ordered-differ (does part) cycles are.order are.each;
  all = λ rs a from below b so. are.all rs a b
      (goes-part n rows part low past rs a h b ∙ ap (λ z. z && goes_round (does rows) rs a) (within-yes low past a from below) ∙ so);
}

-- ---- all ranges

pub pieces-of-all : (n : ℕ) (rows : List ForwardingRow) (size : ℕ) (slice pieces : List (List Cycle)) → AreForwarding n rows → slice ≡ pieces → length rows ≤ size * length pieces → AreCyclesByRange (range_begin rows size) (does rows) pieces → AreCyclePieces (does rows) slice
pieces-of-all n rows size slice pieces form is l h =
    let P : List (List Cycle) → Type 0 = λ ps. AreCyclesByRange (range_begin rows size) (does rows) ps in
    let Q : List (List Cycle) → Type 0 = λ ps. length rows ≤ size * length ps in
    record {
      at = range_begin rows size;
      bounds = bounds-are n rows size form;
      end = bounds-end rows size (length slice) (subst Q (sym is) l);
      cycles = subst P (sym is) h;
    }
