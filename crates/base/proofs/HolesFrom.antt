-- Black holes, put together from the last addresses down.
use Rattle.std.proofs.Common.{◌≡◌, ◌≢◌, ℕ, ◌-◌, ◌<◌, ◌≤◌, ◌^◌, ◌∙◌, Bool, true, false, ◌&&◌, eqb, cond, Some, None, List, [], ◌∷◌, length, get_or, refl, ap, sym, subst, ⊎_elim, arith, slice_get, IsTrue}
use Rattle.std.specs.List.{Contains, insert, list_any}
use Rattle.std.proofs.lemmas.Bool.{cases_Bool, eq-eqb, eqb-true, and_from, and_parts, both_ways, true≢false}
use Rattle.std.proofs.lemmas.List.Elements.{Contains-get_or}
use Rattle.base.specs.Holes.{cause_rank, is_cause, ends_by, falls, IsHole, AreInOrder, HasHole, AreHoles}
use Rattle.base.specs.HolesFrom.{is_hole_of, is_before, fall_of, fall_at, IsPutAmong, AreSomeHoles, TellsHole, AreHolesFrom}
use Rattle.base.specs.Reach.{is_router}
use Rattle.base.specs.Runs.{AreRuns}
use Rattle.base.specs.Walk.{at_address, walk, walk_end, walk_last}
use Rattle.base.specs.declared.hole.Hole.{Hole}
use Rattle.base.specs.declared.path_end.PathEnd.{PathEnd}
use Rattle.base.specs.declared.path_end.PathEnd.TheVariants.{At, Loop}
use Rattle.base.specs.declared.ids.RouterId.{RouterId}
use Rattle.base.specs.declared.run.Run.{Run}
use Rattle.base.specs.declared.target.Target.{Target}
use Rattle.base.proofs.Elements.{contains-none}
use Rattle.base.proofs.Ordered.{before, before-yes, before-not, Ordered, ordered-insert, insert-here, insert-kept, insert-only}
use Rattle.base.proofs.WalkLast.{walk_last-last}
use Rattle.base.proofs.Picks.{any-some, any-none}

-- ---- where a walk falls

fall-cases : (last : RouterId) (cause : Target) (p : RouterId × Target) → fall_of last (At cause) ≡ Some p → (is_cause cause ≡ true) × (p ≡ (last, cause))
fall-cases last cause p h = ⊎_elim
    (λ (y : is_cause cause ≡ true).
    let e : Some (last, cause) ≡ Some p = sym (ap (λ b. cond b (Some (last, cause)) None) y) ∙ h in
    (y, (cc)))
    (λ (n : is_cause cause ≡ false). absurd (let e : None ≡ Some p = sym (ap (λ b. cond b (Some (last, cause)) None) n) ∙ h in cc))
    (cases_Bool (is_cause cause))

pub fall-some : (last : RouterId) (end : PathEnd) (p : RouterId × Target) → fall_of last end ≡ Some p → (is_cause p.1 ≡ true) × ((is_router p.0 last && ends_by p.1 end) ≡ true)
fall-some last Loop p h = absurd (let e : None ≡ Some p = h in cc)
fall-some last (At cause) p h =
    let k : (is_cause cause ≡ true) × (p ≡ (last, cause)) = fall-cases last cause p h in
    let P : RouterId × Target → Type 0 = λ q. (is_cause q.1 ≡ true) × ((is_router q.0 last && ends_by q.1 (At cause)) ≡ true) in
    subst P (sym k.1) (k.0, and_from (is_router last last) (ends_by cause (At cause)) (eq-eqb last.0 last.0 refl) (and_from (is_cause cause) (eqb (cause_rank cause) (cause_rank cause)) k.0 (eq-eqb (cause_rank cause) (cause_rank cause) refl)))

pub fall-only : (last : RouterId) (end : PathEnd) (p : RouterId × Target) → fall_of last end ≡ Some p → (r : RouterId) (c : Target) → (is_router r last && ends_by c end) ≡ true → (p.0.0 ≡ r.0) × (cause_rank p.1 ≡ cause_rank c)
fall-only last Loop p h r c e = absurd (let k : None ≡ Some p = h in cc)
fall-only last (At cause) p h r c e =
    let k : (is_cause cause ≡ true) × (p ≡ (last, cause)) = fall-cases last cause p h in
    let m : (is_router r last ≡ true) × (ends_by c (At cause) ≡ true) = and_parts (is_router r last) (ends_by c (At cause)) e in
    let n : (is_cause cause ≡ true) × (eqb (cause_rank cause) (cause_rank c) ≡ true) = and_parts (is_cause cause) (eqb (cause_rank cause) (cause_rank c)) m.1 in
    let P : RouterId × Target → Type 0 = λ q. (q.0.0 ≡ r.0) × (cause_rank q.1 ≡ cause_rank c) in
    subst P (sym k.1) (eqb-true last.0 r.0 m.0, eqb-true (cause_rank cause) (cause_rank c) n.1)

pub fall-none : (last : RouterId) (end : PathEnd) → fall_of last end ≡ None → (r : RouterId) (c : Target) → (is_router r last && ends_by c end) ≡ true → ⊥
fall-none last Loop h r c e =
    let m : (is_router r last ≡ true) × (false ≡ true) = and_parts (is_router r last) false e in
    true≢false (sym m.1)
fall-none last (At cause) h r c e =
    let m : (is_router r last ≡ true) × (ends_by c (At cause) ≡ true) = and_parts (is_router r last) (ends_by c (At cause)) e in
    let n : (is_cause cause ≡ true) × (eqb (cause_rank cause) (cause_rank c) ≡ true) = and_parts (is_cause cause) (eqb (cause_rank cause) (cause_rank c)) m.1 in
    let k : Some (last, cause) ≡ None = sym (ap (λ b. cond b (Some (last, cause)) None) n.0) ∙ h in
    cc

-- a walk has a last router
pub some-last : (f : RouterId → Target) (n : ℕ) (r : RouterId) (routers : List RouterId) → routers ≡ walk f n r → slice_get routers (length routers - 1) ≡ None → ⊥
some-last f n r routers e h =
    let P : List RouterId → Type 0 = λ rs. slice_get rs (length rs - 1) ≡ None in
    let k : slice_get (walk f n r) (length (walk f n r) - 1) ≡ None = subst P e h in
    let w : slice_get (walk f n r) (length (walk f n r) - 1) ≡ Some (walk_last f n r) = walk_last-last f n r in
    let z : None ≡ Some (walk_last f n r) = sym k ∙ w in
    cc

-- ---- the place of a hole

abbrev pub place : Hole → ℕ
place h = h.router.0

abbrev pub rank : Hole → ℕ
rank h = cause_rank h.cause

pub ordered-holes : (hs : List Hole) → AreInOrder hs → Ordered place rank hs
ordered-holes [] h = tt
ordered-holes (x ∷ []) h = tt
ordered-holes (x ∷ y ∷ rest) h = (h.0, ordered-holes (y ∷ rest) h.1)

holes-ordered : (hs : List Hole) → Ordered place rank hs → AreInOrder hs
holes-ordered [] h = tt
holes-ordered (x ∷ []) h = tt
holes-ordered (x ∷ y ∷ rest) h = (h.0, holes-ordered (y ∷ rest) h.1)

other-hole : (h x : Hole) (hs : List Hole) → list_any (is_hole_of h.router h.cause) hs ≡ false → Contains hs x → x.router.0 ≡ h.router.0 → cause_rank x.cause ≡ cause_rank h.cause → ⊥
other-hole h x hs n i e f = both_ways (is_hole_of h.router h.cause x) (any-none (is_hole_of h.router h.cause) x hs n i)
    (and_from (eqb x.router.0 h.router.0) (eqb (cause_rank x.cause) (cause_rank h.cause)) (eq-eqb x.router.0 h.router.0 e) (eq-eqb (cause_rank x.cause) (cause_rank h.cause) f))

pub put-among : (h : Hole) (old : List Hole) (i : ℕ) → AreInOrder old → list_any (is_hole_of h.router h.cause) old ≡ false → i ≤ length old
    → ((k : ℕ) (d : Hole) → k < i → IsTrue (is_before (get_or old k d) h))
    → ((d : Hole) → i < length old → is_before (get_or old i d) h ≡ false)
    → IsPutAmong h old (insert old i h)
put-among h old i order other le before after = record {
  order = holes-ordered (insert old i h) (ordered-insert place rank old i h h (ordered-holes old order) le
      (λ n l. before-yes place rank (get_or old n h) h (before n h l))
      (λ l. before-not place rank (get_or old i h) h (after h l) (other-hole h (get_or old i h) old other (Contains-get_or old i h l))));
  only = insert-only old i h;
  here = insert-here old i h;
  kept = insert-kept old i h;
}

-- ---- one hole more

pub tell-none : (n : ℕ) (does : RouterId → ℕ → Target) (first : RouterId) (a : ℕ) (holes : List Hole) → AreSomeHoles n does first holes → fall_at n does first a ≡ None → TellsHole n does first a holes holes
tell-none n does first a holes h e = record {
  form = h;
  told = λ r c f. absurd (fall-none (walk_last (at_address does a) n first) (walk_end (at_address does a) n first) e r c f);
  kept = λ x i. i;
}

has-same : (holes : List Hole) (last r : RouterId) (cause c : Target) → (last.0 ≡ r.0) × (cause_rank cause ≡ cause_rank c) → HasHole holes last cause → HasHole holes r c
has-same holes last r cause c e h = record {
  hole = h.hole;
  among = h.among;
  router = h.router ∙ e.0;
  same = h.same ∙ e.1;
}

pub tell-old : (n : ℕ) (does : RouterId → ℕ → Target) (first : RouterId) (a : ℕ) (holes : List Hole) (p : RouterId × Target) → AreSomeHoles n does first holes → fall_at n does first a ≡ Some p → list_any (is_hole_of p.0 p.1) holes ≡ true → TellsHole n does first a holes holes
tell-old n does first a holes p h e y =
    let found : (x : Hole) × Contains holes x × (is_hole_of p.0 p.1 x ≡ true) = any-some (is_hole_of p.0 p.1) holes y in
    let parts : (eqb found.0.router.0 p.0.0 ≡ true) × (eqb (cause_rank found.0.cause) (cause_rank p.1) ≡ true) = and_parts (eqb found.0.router.0 p.0.0) (eqb (cause_rank found.0.cause) (cause_rank p.1)) found.2 in
    let has : HasHole holes p.0 p.1 = record {
      hole = found.0;
      among = found.1;
      router = eqb-true found.0.router.0 p.0.0 parts.0;
      same = eqb-true (cause_rank found.0.cause) (cause_rank p.1) parts.1;
    } in
    record {
      form = h;
      told = λ r c f. has-same holes p.0 r p.1 c (fall-only (walk_last (at_address does a) n first) (walk_end (at_address does a) n first) p e r c f) has;
      kept = λ x i. i;
    }

-- runs of addresses of which there is one
some-runs : (runs : List Run) (test : ℕ → Bool) (a : ℕ) → AreRuns runs test → a < 2 ^ 32 → test a ≡ true → runs ≢ []
some-runs runs test a h l t e =
    let P : List Run → Type 0 = λ rs. AreRuns rs test in
    let k : AreRuns [] test = subst P e h in
    true≢false (sym (k.exact a l ∙ t))

pub tell-new : (n : ℕ) (does : RouterId → ℕ → Target) (first : RouterId) (a : ℕ) (old new : List Hole) (h : Hole) → a < 2 ^ 32 → AreSomeHoles n does first old → fall_at n does first a ≡ Some (h.router, h.cause) → AreRuns h.runs (falls n does first h.router h.cause) → IsPutAmong h old new → TellsHole n does first a old new
tell-new n does first a old new h l so-far e runs put =
    let fall : (is_cause h.cause ≡ true) × (falls n does first h.router h.cause a ≡ true) = fall-some (walk_last (at_address does a) n first) (walk_end (at_address does a) n first) (h.router, h.cause) e in
    let this : IsHole n does first h = record { cause = fall.0; runs = runs; some = some-runs h.runs (falls n does first h.router h.cause) a runs l fall.1 } in
    let P : Hole → Type 0 = λ x. IsHole n does first x in
    let has : HasHole new h.router h.cause = record { hole = h; among = put.here; router = refl; same = refl } in
    record {
      form = record {
        order = put.order;
        each = λ x i. ⊎_elim (λ (same : h ≡ x). subst P same this) (λ (o : Contains old x). so-far.each x o) (put.only x i);
      };
      told = λ r c f. has-same new h.router r h.cause c (fall-only (walk_last (at_address does a) n first) (walk_end (at_address does a) n first) (h.router, h.cause) e r c f) has;
      kept = put.kept;
    }

-- ---- the whole

pub no-holes : (n : ℕ) (does : RouterId → ℕ → Target) (first : RouterId) → AreHolesFrom n does first (2 ^ 32) []
no-holes n does first = record {
  form = record { order = tt; each = λ h i. absurd (contains-none h i) };
  all = λ r c a from below. absurd (let z : ⊥ = omega arith in z);
}

pub all-holes : (n : ℕ) (does : RouterId → ℕ → Target) (first : RouterId) (holes : List Hole) → AreHolesFrom n does first 0 holes → AreHoles n does first holes
all-holes n does first holes h = record {
  order = h.form.order;
  each = h.form.each;
  all = λ r c a below f. h.all r c a (omega arith) below f;
}
