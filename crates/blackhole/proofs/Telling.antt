-- Holes, by what falls where.
use Rattle.std.proofs.Common.{◌≡◌, ℕ, zero, suc, ◌+◌, ◌<◌, ◌≤◌, ◌^◌, ◌∙◌, ⊎_elim, Bool, true, List, [], ◌∷◌, ◌++◌, length, get_or, refl, ap, sym, subst, arith}
use Rattle.std.proofs.Math.Seq.{get_or-append_seam}
use Rattle.std.proofs.lemmas.Bool.{cases_lt}
use Rattle.std.proofs.lemmas.List.{get_or_append_left, get_or_default, length_push}
use Rattle.base.specs.Forwarding.{AreForwarding, row_low, row_past}
use Rattle.base.specs.Holes.{AreHoles, AreInOrder, ComesBefore, IsHole, cause_rank, falls, is_cause}
use Rattle.base.specs.Rows.{CoverFrom}
use Rattle.base.specs.Runs.{AreApart, AreRuns}
use Rattle.base.specs.declared.hole.Hole.{Hole}
use Rattle.base.specs.declared.forwarding_row.ForwardingRow.{ForwardingRow}
use Rattle.base.specs.declared.ids.RouterId.{RouterId}
use Rattle.base.specs.declared.target.Target.{Target}
use Rattle.base.specs.declared.target.Target.TheVariants.{NoRoute}
use Rattle.label_view.specs.Places.{begin_of}
use Rattle.label_view.proofs.InRow.{gathered-all}
use Rattle.blackhole.specs.Gathering.{AreFalls, AreHolesOf, HasFall, IsFall, IsHoleOf}
use Rattle.blackhole.specs.declared.fall.Fall.{Fall}
use Rattle.blackhole.proofs.Order.{Before, before-is}

-- ---- holes of what was gathered

pub holes-none : (holes : List Hole) → holes ≡ [] → AreHolesOf holes []
holes-none holes e = record { as_many = ap length e; each = λ k h d b. absurd (omega arith) }

pub hole-of : (hole : Hole) (fall : Fall) → hole.router ≡ fall.router → hole.cause ≡ fall.cause → hole.runs ≡ fall.runs.runs → AreApart hole.runs → IsHoleOf hole fall
hole-of hole fall r c is apart = record { router = r; cause = c; runs = is; apart = apart }

pub holes-more : (old new : List Hole) (falls : List Fall) (hole : Hole) (fall : Fall) → new ≡ old ++ hole ∷ [] → AreHolesOf old falls → IsHoleOf hole fall → AreHolesOf new (falls ++ fall ∷ [])
holes-more old new falls hole fall e h is =
    let same : length old ≡ length falls = h.as_many in
    let more : length new ≡ length old + 1 = ap length e ∙ length_push old hole in
    let count : length (falls ++ fall ∷ []) ≡ length falls + 1 = length_push falls fall in
    record {
      as_many = omega arith;
      each = λ k x d b. ⊎_elim
          (λ (l : k < length falls).
          let hole_is : get_or new k x ≡ get_or old k x = ap (λ (hs : List Hole). get_or hs k x) e ∙ get_or_append_left old (hole ∷ []) x k (omega arith) in
          let fall_is : get_or (falls ++ fall ∷ []) k d ≡ get_or falls k d = get_or_append_left falls (fall ∷ []) d k l in
          let P : Hole → Type 0 = λ y. IsHoleOf y (get_or (falls ++ fall ∷ []) k d) in
          let Q : Fall → Type 0 = λ y. IsHoleOf (get_or old k x) y in
          subst P (sym hole_is) (subst Q (sym fall_is) (h.each k x d l)))
          (λ (o : length falls ≤ k).
          let at_falls : k ≡ length falls = omega arith in
          let at_holes : k ≡ length old = omega arith in
          let hole_is : get_or new k x ≡ hole = ap (λ (hs : List Hole). get_or hs k x) e ∙ ap (λ j. get_or (old ++ hole ∷ []) j x) at_holes ∙ get_or-append_seam old hole [] x in
          let fall_is : get_or (falls ++ fall ∷ []) k d ≡ fall = ap (λ j. get_or (falls ++ fall ∷ []) j d) at_falls ∙ get_or-append_seam falls fall [] d in
          let P : Hole → Type 0 = λ y. IsHoleOf y (get_or (falls ++ fall ∷ []) k d) in
          let Q : Fall → Type 0 = λ y. IsHoleOf hole y in
          subst P (sym hole_is) (subst Q (sym fall_is) is))
          (cases_lt k (length falls));
    }

-- ---- all of them

-- any fall, and any hole
some_fall : Fall
some_fall = record { router = record { 0 = 0 }; cause = NoRoute; runs = record { runs = []; past = 0 } }

some_hole : Hole
some_hole = record { router = record { 0 = 0 }; cause = NoRoute; runs = [] }

all-before : (rows : List ForwardingRow) (i : ℕ) → length rows ≤ i → begin_of rows i ≡ 2 ^ 32
all-before [] i l = refl
all-before (row ∷ rows) zero l = absurd (omega arith)
all-before (row ∷ rows) (suc i) l = all-before rows i (omega arith)

in-order : (holes : List Hole) → ((j k : ℕ) (h : Hole) → j < k → k < length holes → ComesBefore (get_or holes j h) (get_or holes k h)) → AreInOrder holes
in-order [] o = tt
in-order (x ∷ []) o = tt
in-order (x ∷ y ∷ rest) o = (o 0 1 x (omega arith) (omega arith), in-order (y ∷ rest) (λ j k h b l. o (suc j) (suc k) h (omega arith) (omega arith)))

before-alike : (x y : Hole) (v w : Fall) → IsHoleOf x v → IsHoleOf y w → Before v.router v.cause w.router w.cause → ComesBefore x y
before-alike x y v w a b h =
    let P : RouterId → Type 0 = λ r. Before r v.cause w.router w.cause in
    let Q : Target → Type 0 = λ t. Before x.router t w.router w.cause in
    let R : RouterId → Type 0 = λ r. Before x.router x.cause r w.cause in
    let S : Target → Type 0 = λ t. Before x.router x.cause y.router t in
    subst S (sym b.cause) (subst R (sym b.router) (subst Q (sym a.cause) (subst P (sym a.router) h)))

hole-is : (n : ℕ) (does : RouterId → ℕ → Target) (first : RouterId) (rows : List ForwardingRow) (i : ℕ) (h : Hole) (f : Fall) → length rows ≤ i → IsFall f rows i (falls n does first) → IsHoleOf h f → IsHole n does first h
hole-is n does first rows i h f l is of =
    let C : Target → Type 0 = λ t. is_cause t ≡ true in
    let P : RouterId → Type 0 = λ r. AreRuns h.runs (falls n does first r f.cause) in
    let Q : Target → Type 0 = λ t. AreRuns h.runs (falls n does first h.router t) in
    record {
      cause = subst C (sym of.cause) is.cause;
      runs = subst Q (sym of.cause) (subst P (sym of.router) (gathered-all rows i f.runs h.runs (falls n does first f.router f.cause) l is.runs of.runs of.apart));
      some = λ e. is.some (sym of.runs ∙ e);
    }

pub holes-are : (n : ℕ) (does : RouterId → ℕ → Target) (first : RouterId) (rows : List ForwardingRow) (i : ℕ) (holes : List Hole) (gathered : List Fall) → length rows ≤ i → AreFalls gathered rows i (falls n does first) → AreHolesOf holes gathered → AreHoles n does first holes
holes-are n does first rows i holes gathered l h of =
    let same : length holes ≡ length gathered = of.as_many in
    let end : begin_of rows i ≡ 2 ^ 32 = all-before rows i l in
    record {
      order = in-order holes (λ j k x b c. before-alike (get_or holes j x) (get_or holes k x) (get_or gathered j some_fall) (get_or gathered k some_fall) (of.each j x some_fall (omega arith)) (of.each k x some_fall (omega arith))
          (before-is (get_or gathered j some_fall).router (get_or gathered j some_fall).cause (get_or gathered k some_fall).router (get_or gathered k some_fall).cause (h.order.rise j k some_fall b (omega arith))));
      each = λ x c.
          let inside : c.0 < length gathered = (let b : c.0 < length holes = c.1 in omega arith) in
          let P : Hole → Type 0 = λ y. IsHole n does first y in
          subst P c.2 (hole-is n does first rows i (get_or holes c.0 x) (get_or gathered c.0 some_fall) l (h.each c.0 some_fall inside) (of.each c.0 x some_fall inside));
      all = λ last cause a b yes.
          let has : HasFall gathered last cause = h.all last cause a (omega arith) yes in
          let x : Hole = get_or holes has.at some_hole in
          let is : IsHoleOf x (get_or gathered has.at some_fall) = of.each has.at some_hole some_fall has.inside in
          let inside : has.at < length holes = (let b : has.at < length gathered = has.inside in omega arith) in
          record {
            hole = x;
            among = (has.at, inside, get_or_default holes has.at x some_hole inside);
            router = ap (λ (r : RouterId). r.0) is.router ∙ has.router some_fall;
            same = ap cause_rank is.cause ∙ has.cause some_fall;
          };
    }

-- ---- no row yet

begin-first : (rows : List ForwardingRow) → CoverFrom row_low row_past 0 rows → begin_of rows 0 ≡ 0
begin-first [] h = sym h
begin-first (row ∷ rows) h = h.0

pub none-yet : (n : ℕ) (falls : List Fall) (rows : List ForwardingRow) (test : RouterId → Target → ℕ → Bool) → AreForwarding n rows → falls ≡ [] → AreFalls falls rows 0 test
none-yet n falls rows test form e =
    let first : begin_of rows 0 ≡ 0 = begin-first rows form.cover in
    let none : length falls ≡ 0 = ap length e in
    record {
      order = record { rise = λ j k d b l. absurd (omega arith) };
      each = λ k d l. absurd (omega arith);
      all = λ r t a b yes. absurd (omega arith);
    }
