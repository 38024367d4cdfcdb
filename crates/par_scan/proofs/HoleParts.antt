-- What a part shows of where addresses fall, and the holes of all ranges as one.
use Rattle.std.proofs.Common.{◌≡◌, ◌≢◌, ℕ, zero, suc, ◌+◌, ◌*◌, ◌<◌, ◌≤◌, ◌^◌, ◌⊎◌, ◌∙◌, ⊎_elim, Bool, true, false, ◌&&◌, eqb, List, [], ◌∷◌, length, drop, get_or, ◌||◌, refl, ap, sym, subst, arith}
use Rattle.std.specs.List.{Contains, list_any}
use Rattle.std.proofs.lemmas.Bool.{and_from, and_parts, and_right, both_ways, or_parts, cases_Bool, cases_lt, cond-true, cond-false, eq-eqb, eqb-true, true≢false}
use Rattle.std.proofs.lemmas.List.{drop_more, get_or_default}
use Rattle.base.specs.Forwarding.{AreForwarding, does}
use Rattle.base.specs.Holes.{AreHoles, HasHole, IsHole, cause_rank, ends_by, falls, is_cause}
use Rattle.base.specs.HolesFrom.{AreSomeHoles, IsPutAmong, is_hole_of}
use Rattle.base.specs.Reach.{is_router}
use Rattle.base.specs.Rows.{is_within}
use Rattle.base.specs.Runs.{AreRuns}
use Rattle.base.specs.Walk.{at_address, on_far, walk_end, walk_last}
use Rattle.base.specs.declared.hole.Hole.{Hole}
use Rattle.base.specs.declared.path_end.PathEnd.{PathEnd}
use Rattle.base.specs.declared.path_end.PathEnd.TheVariants.{At, Loop}
use Rattle.base.specs.declared.forwarding_row.ForwardingRow.{ForwardingRow}
use Rattle.base.specs.declared.ids.RouterId.{RouterId}
use Rattle.base.specs.declared.run.Run.{Run}
use Rattle.base.specs.declared.target.Target.{Target}
use Rattle.base.specs.declared.target.Target.TheVariants.{Local}
use Rattle.base.proofs.Elements.{contains-here, contains-none, contains-there}
use Rattle.base.proofs.Covers.{within-yes}
use Rattle.base.proofs.Picks.{any-none, any-some}
use Rattle.base.proofs.RunsOnce.{apart-bound, apart-head, first-holds}
use Rattle.base.proofs.Walks.{on_far-same, walk_end-last, walk_end-same}
use Rattle.par_scan.specs.HolesByRange.{AreHolePieces, AreHolesByRange, AreHolesWithin, IsHoleWithin, TellsHoleAt, TellsHolesOf, hole_runs}
use Rattle.loop_check.specs.Joined.{joined}
use Rattle.par_scan.specs.Parts.{ShowsPart}
use Rattle.loop_check.specs.Bounds.{only_within}
use Rattle.par_scan.specs.Ranges.{range_begin}
use Rattle.loop_check.proofs.Joining.{joined-runs, only-in}
use Rattle.par_scan.proofs.PartRows.{idle-local, idle-stays}
use Rattle.par_scan.proofs.RangeBounds.{bounds-are, bounds-end, range-of}
use Rattle.par_scan.proofs.ReachParts.{test-within}

-- ---- a part

walk_last-same : (f g : RouterId → Target) → ((r : RouterId) → f r ≡ g r) → (n : ℕ) (r : RouterId) → walk_last f n r ≡ walk_last g n r
walk_last-same f g h zero r = refl
walk_last-same f g h (suc n) r = on_far-same (f r) r (λ s. walk_last f n s) (λ s. walk_last g n s) (λ s. walk_last-same f g h n s) ∙ ap (λ t. on_far t r (λ s. walk_last g n s)) (h r)

falls-stays : (n : ℕ) (rows part : List ForwardingRow) (low past a : ℕ) (first last : RouterId) (cause : Target) → ShowsPart n rows part low past → a < 2 ^ 32 → (a < low) ⊎ (past ≤ a) → first.0 < n → falls n (does part) first last cause a ≡ false
falls-stays n rows part low past a first last cause h b out l =
    let f : RouterId → Target = at_address (does part) a in
    let end : walk_end f n first ≡ At (f first) = walk_end-last f n first (omega arith) (λ s k e. idle-stays n first.0 s k (sym (h.outside first a b out) ∙ e)) in
    let stays : f first ≡ Local = h.outside first a b out ∙ idle-local n first.0 l in
    and_right (is_router last (walk_last f n first)) (ends_by cause (walk_end f n first)) (ap (ends_by cause) (end ∙ ap At stays))

pub falls-part : (n m : ℕ) (rows part : List ForwardingRow) (low past : ℕ) (first last : RouterId) (cause : Target) (a : ℕ) → m ≡ n → ShowsPart n rows part low past → first.0 < n → a < 2 ^ 32 → falls m (does part) first last cause a ≡ only_within low past (falls n (does rows) first last cause) a
falls-part n m rows part low past first last cause a e h l b =
    ap (λ j. falls j (does part) first last cause a) e ∙ test-within low past a (falls n (does part) first last cause a) (falls n (does rows) first last cause a)
    (λ from below.
    let f : RouterId → Target = at_address (does part) a in
    let g : RouterId → Target = at_address (does rows) a in
    ap (λ r. is_router last r && ends_by cause (walk_end f n first)) (walk_last-same f g (λ r. h.inside r a from below) n first)
    ∙ ap (λ end. is_router last (walk_last g n first) && ends_by cause end) (walk_end-same f g (λ r. h.inside r a from below) n first))
    (λ out. falls-stays n rows part low past a first last cause h b out l)

pub holes-part : (n m : ℕ) (rows part : List ForwardingRow) (low past : ℕ) (first : RouterId) (holes : List Hole) → m ≡ n → ShowsPart n rows part low past → first.0 < n → AreHoles m (does part) first holes → AreHolesWithin low past n (does rows) first holes
holes-part n m rows part low past first holes e h l are = record {
  each = λ x i.
      let is : IsHole m (does part) first x = are.each x i in
      record {
        cause = is.cause;
        runs = record { apart = is.runs.apart; exact = λ a b. is.runs.exact a b ∙ falls-part n m rows part low past first x.router x.cause a e h l b };
        some = is.some;
      };
  all = λ last cause a from below b so. are.all last cause a b
      (falls-part n m rows part low past first last cause a e h l b ∙ ap (λ z. z && falls n (does rows) first last cause a) (within-yes low past a from below) ∙ so);
}

-- ---- the runs at one router by one cause

by-rank : (c d : Target) (end : PathEnd) → cause_rank c ≡ cause_rank d → ends_by c end ≡ ends_by d end
by-rank c d (At t) e = ap (λ j. is_cause t && eqb (cause_rank t) j) e
by-rank c d Loop e = refl

alike : (n : ℕ) (does : RouterId → ℕ → Target) (first r s : RouterId) (c d : Target) (a : ℕ) → r.0 ≡ s.0 → cause_rank c ≡ cause_rank d → falls n does first r c a ≡ falls n does first s d a
alike n does first r s c d a e f =
    ap (λ j. eqb (walk_last (at_address does a) n first).0 j && ends_by c (walk_end (at_address does a) n first)) e
    ∙ ap (λ b. is_router s (walk_last (at_address does a) n first) && b) (by-rank c d (walk_end (at_address does a) n first) f)

pub runs-some : (last : RouterId) (cause : Target) (hs : List Hole) → list_any (is_hole_of last cause) hs ≡ true → (h : Hole) × Contains hs h × (is_hole_of last cause h ≡ true) × (hole_runs last cause hs ≡ h.runs)
runs-some last cause [] e = absurd (true≢false (sym e))
runs-some last cause (h ∷ hs) e = ⊎_elim
    (λ (y : is_hole_of last cause h ≡ true). (h, contains-here h hs, y, cond-true (is_hole_of last cause h) h.runs (hole_runs last cause hs) y))
    (λ (z : is_hole_of last cause h ≡ false).
    let rest = runs-some last cause hs (sym (ap (λ b. b || list_any (is_hole_of last cause) hs) z) ∙ e) in
    (rest.0, contains-there h rest.0 hs rest.1, rest.2, cond-false (is_hole_of last cause h) h.runs (hole_runs last cause hs) z ∙ rest.3))
    (cases_Bool (is_hole_of last cause h))

pub runs-none : (last : RouterId) (cause : Target) (hs : List Hole) → list_any (is_hole_of last cause) hs ≡ false → hole_runs last cause hs ≡ []
runs-none last cause [] e = refl
runs-none last cause (h ∷ hs) e =
    let parts : (is_hole_of last cause h ≡ false) × (list_any (is_hole_of last cause) hs ≡ false) = or_parts (is_hole_of last cause h) (list_any (is_hole_of last cause) hs) e in
    cond-false (is_hole_of last cause h) h.runs (hole_runs last cause hs) parts.0 ∙ runs-none last cause hs parts.1

hole-is : (last : RouterId) (cause : Target) (h : Hole) → h.router.0 ≡ last.0 → cause_rank h.cause ≡ cause_rank cause → is_hole_of last cause h ≡ true
hole-is last cause h e f = and_from (eqb h.router.0 last.0) (eqb (cause_rank h.cause) (cause_rank cause)) (eq-eqb h.router.0 last.0 e) (eq-eqb (cause_rank h.cause) (cause_rank cause) f)

pub key-of : (last : RouterId) (cause : Target) (h : Hole) → is_hole_of last cause h ≡ true → (h.router.0 ≡ last.0) × (cause_rank h.cause ≡ cause_rank cause)
key-of last cause h so =
    let parts = and_parts (eqb h.router.0 last.0) (eqb (cause_rank h.cause) (cause_rank cause)) so in
    (eqb-true h.router.0 last.0 parts.0, eqb-true (cause_rank h.cause) (cause_rank cause) parts.1)

pub runs-within : (low past n : ℕ) (does : RouterId → ℕ → Target) (first last : RouterId) (cause : Target) (piece : List Hole) → AreHolesWithin low past n does first piece → AreRuns (hole_runs last cause piece) (only_within low past (falls n does first last cause))
runs-within low past n does first last cause piece h =
    let P : List Run → Type 0 = λ rs. AreRuns rs (only_within low past (falls n does first last cause)) in
    ⊎_elim
    (λ (y : list_any (is_hole_of last cause) piece ≡ true).
    let found = runs-some last cause piece y in
    let key = key-of last cause found.0 found.2 in
    let is : IsHoleWithin low past n does first found.0 = h.each found.0 found.1 in
    subst P (sym found.3) (record { apart = is.runs.apart; exact = λ a b. is.runs.exact a b ∙ ap (λ z. is_within low past a && z) (alike n does first found.0.router last found.0.cause cause a key.0 key.1) }))
    (λ (z : list_any (is_hole_of last cause) piece ≡ false).
    subst P (sym (runs-none last cause piece z)) (record {
      apart = tt;
      exact = λ a b. ⊎_elim
          (λ (y : only_within low past (falls n does first last cause) a ≡ true).
          let in-bounds = only-in low past a (falls n does first last cause) y in
          let parts = and_parts (is_within low past a) (falls n does first last cause a) y in
          let has : HasHole piece last cause = h.all last cause a in-bounds.0 in-bounds.1 b parts.1 in
          absurd (both_ways (is_hole_of last cause has.hole) (any-none (is_hole_of last cause) has.hole piece z has.among) (hole-is last cause has.hole has.router has.same)))
          (λ (w : only_within low past (falls n does first last cause) a ≡ false). sym w)
          (cases_Bool (only_within low past (falls n does first last cause) a));
    }))
    (cases_Bool (list_any (is_hole_of last cause) piece))

pub more-within : (n : ℕ) (does : RouterId → ℕ → Target) (first last : RouterId) (cause : Target) (pieces : List (List Hole)) (k : ℕ) (old new runs : List Run) (piece d : List Hole) (h : AreHolePieces n does first pieces) → k < length pieces → piece ≡ get_or pieces k d → runs ≡ hole_runs last cause piece → AreRuns old (only_within 0 (h.at k) (falls n does first last cause)) → new ≡ joined old runs → AreRuns new (only_within 0 (h.at (k + 1)) (falls n does first last cause))
more-within n does first last cause pieces k old new runs piece d h l is are so_far e =
    let P : List Run → Type 0 = λ rs. AreRuns rs (only_within 0 (h.at (k + 1)) (falls n does first last cause)) in
    let Q : List Run → Type 0 = λ rs. AreRuns rs (only_within (h.at k) (h.at (k + 1)) (falls n does first last cause)) in
    let R : List Hole → Type 0 = λ hs. AreHolesWithin (h.at k) (h.at (k + 1)) n does first hs in
    subst P (sym e) (joined-runs 0 (h.at k) (h.at (k + 1)) (falls n does first last cause) old runs (omega arith) (h.bounds.rise k) so_far
    (subst Q (sym are) (runs-within (h.at k) (h.at (k + 1)) n does first last cause piece (subst R (sym is) (h.holes.each k d l)))))

-- ---- holes told

some-address : (runs : List Run) (test : ℕ → Bool) → AreRuns runs test → runs ≢ [] → (a : ℕ) × (a < 2 ^ 32) × (test a ≡ true)
some-address [] test h some = absurd (some refl)
some-address (r ∷ rs) test h some =
    let low : r.lo ≤ r.hi = apart-head r rs h.apart in
    let bound : r.hi < 2 ^ 32 = apart-bound r rs h.apart in
    let b : r.lo < 2 ^ 32 = omega arith in
    (r.lo, b, sym (h.exact r.lo b) ∙ first-holds r.lo r rs (omega arith) low)

none-some : (runs : List Run) (test : ℕ → Bool) (a : ℕ) → AreRuns runs test → a < 2 ^ 32 → test a ≡ true → runs ≢ []
none-some runs test a h l t e =
    let P : List Run → Type 0 = λ rs. AreRuns rs test in
    let k : AreRuns [] test = subst P e h in
    true≢false (sym (k.exact a l ∙ t))

pub whole-hole : (low past n : ℕ) (does : RouterId → ℕ → Target) (first : RouterId) (h x : Hole) → IsHoleWithin low past n does first h → h.router ≡ x.router → h.cause ≡ x.cause → AreRuns x.runs (falls n does first x.router x.cause) → IsHole n does first x
whole-hole low past n does first h x is e f are =
    let at = some-address h.runs (only_within low past (falls n does first h.router h.cause)) is.runs is.some in
    let parts = and_parts (is_within low past at.0) (falls n does first h.router h.cause at.0) at.2 in
    let C : Target → Type 0 = λ c. is_cause c ≡ true in
    record {
      cause = subst C f is.cause;
      runs = are;
      some = none-some x.runs (falls n does first x.router x.cause) at.0 are at.1 (sym (alike n does first h.router x.router h.cause x.cause at.0 (ap (λ (r : RouterId). r.0) e) (ap cause_rank f)) ∙ parts.1);
    }

pub told-already : (n : ℕ) (does : RouterId → ℕ → Target) (first last : RouterId) (cause : Target) (holes : List Hole) → AreSomeHoles n does first holes → list_any (is_hole_of last cause) holes ≡ true → TellsHoleAt n does first last cause holes holes
told-already n does first last cause holes h so =
    let found = any-some (is_hole_of last cause) holes so in
    let key = key-of last cause found.0 found.2 in
    record {
      form = h;
      told = record { hole = found.0; among = found.1; router = key.0; same = key.1 };
      kept = λ x i. i;
    }

pub told-new : (n : ℕ) (does : RouterId → ℕ → Target) (first : RouterId) (x : Hole) (old new : List Hole) → AreSomeHoles n does first old → IsHole n does first x → IsPutAmong x old new → TellsHoleAt n does first x.router x.cause old new
told-new n does first x old new h is put =
    let P : Hole → Type 0 = λ y. IsHole n does first y in
    record {
      form = record {
        order = put.order;
        each = λ y i. ⊎_elim (λ (same : x ≡ y). subst P same is) (λ (o : Contains old y). h.each y o) (put.only y i);
      };
      told = record { hole = x; among = put.here; router = refl; same = refl };
      kept = put.kept;
    }

-- ---- the holes of one range, and of all

-- the first of these holes are told
pub record AreToldTo (n : ℕ) (does : RouterId → ℕ → Target) (first : RouterId) (piece : List Hole) (i : ℕ) (old new : List Hole) : Type 0 where
  pub form : AreSomeHoles n does first new
  pub told : (j : ℕ) (d : Hole) → j < i → j < length piece → HasHole new (get_or piece j d).router (get_or piece j d).cause
  pub kept : (x : Hole) → Contains old x → Contains new x

pub told-none : (n : ℕ) (does : RouterId → ℕ → Target) (first : RouterId) (piece holes : List Hole) → AreSomeHoles n does first holes → AreToldTo n does first piece 0 holes holes
told-none n does first piece holes h = record { form = h; told = λ j d b l. absurd (omega arith); kept = λ x i. i }

still-has : (old new : List Hole) (r : RouterId) (c : Target) → ((x : Hole) → Contains old x → Contains new x) → HasHole old r c → HasHole new r c
still-has old new r c kept h = record { hole = h.hole; among = kept h.hole h.among; router = h.router; same = h.same }

pub told-next : (n : ℕ) (does : RouterId → ℕ → Target) (first : RouterId) (piece : List Hole) (i : ℕ) (x : Hole) (old now new : List Hole) → i < length piece → x ≡ get_or piece i x → AreToldTo n does first piece i old now → TellsHoleAt n does first x.router x.cause now new → AreToldTo n does first piece (i + 1) old new
told-next n does first piece i x old now new l is h t = record {
  form = t.form;
  told = λ j e b k. ⊎_elim
      (λ (before : j < i). still-has now new (get_or piece j e).router (get_or piece j e).cause t.kept (h.told j e before k))
      (λ (not_before : i ≤ j).
      let same : i ≡ j = omega arith in
      let P : ℕ → Type 0 = λ m. HasHole new (get_or piece m e).router (get_or piece m e).cause in
      let Q : Hole → Type 0 = λ y. HasHole new y.router y.cause in
      subst P same (subst Q (is ∙ get_or_default piece i x e l) t.told))
      (cases_lt j i);
  kept = λ y c. t.kept y (h.kept y c);
}

pub told-piece : (n : ℕ) (does : RouterId → ℕ → Target) (first : RouterId) (piece : List Hole) (i : ℕ) (old new : List Hole) → length piece ≤ i → AreToldTo n does first piece i old new → TellsHolesOf n does first piece old new
told-piece n does first piece i old new l h = record {
  form = h.form;
  told = λ x c.
      let P : Hole → Type 0 = λ y. HasHole new y.router y.cause in
      let inside : c.0 < length piece = c.1 in
      subst P c.2 (h.told c.0 x (omega arith) inside);
  kept = h.kept;
}

-- the holes of the first of these ranges are told
pub record AreAllTold (n : ℕ) (does : RouterId → ℕ → Target) (first : RouterId) (pieces : List (List Hole)) (k : ℕ) (holes : List Hole) : Type 0 where
  pub form : AreSomeHoles n does first holes
  pub told : (j : ℕ) (d : List Hole) (h : Hole) → j < k → j < length pieces → Contains (get_or pieces j d) h → HasHole holes h.router h.cause

pub none-told : (n : ℕ) (does : RouterId → ℕ → Target) (first : RouterId) (pieces : List (List Hole)) (holes : List Hole) → holes ≡ [] → AreAllTold n does first pieces 0 holes
none-told n does first pieces holes e =
    let P : List Hole → Type 0 = λ hs. AreSomeHoles n does first hs in
    record {
      form = subst P (sym e) (record { order = tt; each = λ h i. absurd (contains-none h i) });
      told = λ j d h b l i. absurd (omega arith);
    }

pub all-next : (n : ℕ) (does : RouterId → ℕ → Target) (first : RouterId) (pieces : List (List Hole)) (k : ℕ) (piece d : List Hole) (old new : List Hole) → k < length pieces → piece ≡ get_or pieces k d → AreAllTold n does first pieces k old → TellsHolesOf n does first piece old new → AreAllTold n does first pieces (k + 1) new
all-next n does first pieces k piece d old new l is h t = record {
  form = t.form;
  told = λ j e x b m i. ⊎_elim
      (λ (before : j < k). still-has old new x.router x.cause t.kept (h.told j e x before m i))
      (λ (not_before : k ≤ j).
      let same : j ≡ k = omega arith in
      let P : ℕ → Type 0 = λ o. Contains (get_or pieces o e) x in
      let Q : List Hole → Type 0 = λ hs. Contains hs x in
      t.told x (subst Q (sym (is ∙ get_or_default pieces k d e l)) (subst P same i)))
      (cases_lt j k);
}

has-alike : (holes : List Hole) (r last : RouterId) (c cause : Target) → r.0 ≡ last.0 → cause_rank c ≡ cause_rank cause → HasHole holes r c → HasHole holes last cause
has-alike holes r last c cause e f h = record { hole = h.hole; among = h.among; router = h.router ∙ e; same = h.same ∙ f }

pub all-holes : (n : ℕ) (does : RouterId → ℕ → Target) (first : RouterId) (pieces : List (List Hole)) (k : ℕ) (holes : List Hole) → length pieces ≤ k → AreHolePieces n does first pieces → AreAllTold n does first pieces k holes → AreHoles n does first holes
all-holes n does first pieces k holes l h t = record {
  order = t.form.order;
  each = t.form.each;
  all = λ last cause a b so.
      let end : h.at (length pieces) ≡ 2 ^ 32 = h.end in
      let r : (j : ℕ) × (j < length pieces) × (h.at j ≤ a) × (a < h.at (j + 1)) = range-of h.at (length pieces) a h.bounds.first (omega arith) in
      let inside : r.0 < length pieces = r.1 in
      let has : HasHole (get_or pieces r.0 []) last cause = (h.holes.each r.0 [] inside).all last cause a r.2 r.3 b so in
      has-alike holes has.hole.router last has.hole.cause cause has.router has.same (t.told r.0 [] has.hole (omega arith) inside has.among);
}

-- ---- the hole at one router by one cause, looked for in order

pub runs-skip : (last : RouterId) (cause : Target) (hs : List Hole) (i : ℕ) (x d : Hole) → i < length hs → x ≡ get_or hs i d → is_hole_of last cause x ≡ false → hole_runs last cause (drop (i + 1) hs) ≡ hole_runs last cause (drop i hs)
runs-skip last cause hs i x d l at no_hole =
    sym (ap (λ (rs : List Hole). hole_runs last cause rs) (drop_more hs i d l)
    ∙ cond-false (is_hole_of last cause (get_or hs i d)) (get_or hs i d).runs (hole_runs last cause (drop (i + 1) hs)) (ap (is_hole_of last cause) (sym at) ∙ no_hole))

pub runs-here : (last : RouterId) (cause : Target) (hs : List Hole) (i : ℕ) (x d : Hole) → i < length hs → x ≡ get_or hs i d → is_hole_of last cause x ≡ true → x.runs ≡ hole_runs last cause (drop i hs)
runs-here last cause hs i x d l at so =
    ap (λ (h : Hole). h.runs) at
    ∙ sym (ap (λ (rs : List Hole). hole_runs last cause rs) (drop_more hs i d l)
    ∙ cond-true (is_hole_of last cause (get_or hs i d)) (get_or hs i d).runs (hole_runs last cause (drop (i + 1) hs)) (ap (is_hole_of last cause) (sym at) ∙ so))

pub runs-end : (last : RouterId) (cause : Target) (hs : List Hole) (i : ℕ) → length hs ≤ i → [] ≡ hole_runs last cause (drop i hs)
runs-end last cause [] zero l = refl
runs-end last cause [] (suc i) l = refl
runs-end last cause (h ∷ hs) zero l = absurd (omega arith)
runs-end last cause (h ∷ hs) (suc i) l = runs-end last cause hs i (omega arith)

pub pieces-of-all : (n : ℕ) (rows : List ForwardingRow) (size : ℕ) (first : RouterId) (slice pieces : List (List Hole)) → AreForwarding n rows → slice ≡ pieces → length rows ≤ size * length pieces → AreHolesByRange (range_begin rows size) n (does rows) first pieces → AreHolePieces n (does rows) first slice
pieces-of-all n rows size first slice pieces form is l h =
    let P : List (List Hole) → Type 0 = λ ps. AreHolesByRange (range_begin rows size) n (does rows) first ps in
    let Q : List (List Hole) → Type 0 = λ ps. length rows ≤ size * length ps in
    record {
      at = range_begin rows size;
      bounds = bounds-are n rows size form;
      end = bounds-end rows size (length slice) (subst Q (sym is) l);
      holes = subst P (sym is) h;
    }
