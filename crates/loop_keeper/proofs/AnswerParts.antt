-- Kept segments as they are told.
use Rattle.std.proofs.Common.{◌≡◌, ℕ, zero, suc, ◌+◌, ◌-◌, ◌<◌, ◌≤◌, ◌^◌, ◌∙◌, Bool, true, false, ◌&&◌, ◌||◌, List, [], ◌∷◌, ◌++◌, length, get_or, map, refl, ap, sym, subst, ⊎_elim, arith}
use Rattle.std.specs.List.{Contains}
use Rattle.std.proofs.lemmas.Bool.{cases_lt}
use Rattle.std.proofs.lemmas.List.{get_or_append_left, get_or_push, length_push}
use Rattle.std.proofs.lemmas.List.Elements.{Contains-get_or}
use Rattle.std.proofs.lemmas.List.Sums.{sum_by-cons}
use Rattle.base.specs.Cycles.{goes_round}
use Rattle.base.specs.Runs.{addresses_in, run_length}
use Rattle.base.specs.declared.cycle.Cycle.{Cycle}
use Rattle.base.specs.declared.ids.RouterId.{RouterId}
use Rattle.base.specs.declared.run.Run.{Run}
use Rattle.base.specs.declared.target.Target.{Target}
use Rattle.base.proofs.Covers.{within-above, within-below, within-yes}
use Rattle.base.proofs.Elements.{contains-cases, contains-here, contains-none, contains-there}
use Rattle.base.proofs.RunsOnce.{holds-above, holds-below, holds-in}
use Rattle.loop_check.specs.CycleOrder.{AreOfOtherRouters}
use Rattle.loop_check.specs.CyclesByRange.{AreCyclePieces, AreCyclesWithin, IsCycleWithin}
use Rattle.loop_keeper.specs.Answer.{ArePieces, begin_at, cycle_between, cycles_at, piece_of}
use Rattle.loop_keeper.specs.Kept.{AreKept, AreSegments, HasKept, IsAt, IsOnce, Kept}
use Rattle.loop_keeper.proofs.Segments.{one-place, rise-le, some_kept}

pub begin-in : (kept : List Kept) (k : ℕ) (d : Kept) → k < length kept → begin_at kept k ≡ (get_or kept k d).low
begin-in [] k d l = absurd (omega arith)
begin-in (x ∷ xs) zero d l = refl
begin-in (x ∷ xs) (suc k) d l = begin-in xs k d (omega arith)

pub begin-end : (kept : List Kept) (k : ℕ) → length kept ≤ k → begin_at kept k ≡ 2 ^ 32
begin-end [] k l = refl
begin-end (x ∷ xs) zero l = absurd (omega arith)
begin-end (x ∷ xs) (suc k) l = begin-end xs k (omega arith)

pub cycles-in : (kept : List Kept) (k : ℕ) (d : Kept) → k < length kept → cycles_at kept k ≡ (get_or kept k d).cycles
cycles-in [] k d l = absurd (omega arith)
cycles-in (x ∷ xs) zero d l = refl
cycles-in (x ∷ xs) (suc k) d l = cycles-in xs k d (omega arith)

pub piece-is : (kept : List Kept) (k low past : ℕ) (cycles : List (List RouterId)) → low ≡ begin_at kept k → past ≡ begin_at kept (k + 1) → cycles ≡ cycles_at kept k → map (cycle_between low past) cycles ≡ piece_of kept k
piece-is kept k low past cycles e f g =
    ap (λ (n : ℕ). map (cycle_between n past) cycles) e
    ∙ ap (λ (n : ℕ). map (cycle_between (begin_at kept k) n) cycles) f
    ∙ ap (λ (v : List (List RouterId)). map (cycle_between (begin_at kept k) (begin_at kept (k + 1))) v) g

-- ---- piece after piece

pub pieces-first : (kept : List Kept) (pieces : List (List Cycle)) → pieces ≡ [] ∷ [] → ArePieces kept 0 pieces
pieces-first kept pieces e =
    let P : List (List Cycle) → Type 0 = λ v. ArePieces kept 0 v in
    subst P (sym e) (record { long = refl; first = λ d. refl; rest = λ k d l. absurd (omega arith) })

pub pieces-next : (kept : List Kept) (k : ℕ) (piece : List Cycle) (old new : List (List Cycle)) → ArePieces kept k old → piece ≡ piece_of kept k → new ≡ old ++ piece ∷ [] → ArePieces kept (k + 1) new
pieces-next kept k piece old new h is e =
    let P : List (List Cycle) → Type 0 = λ v. ArePieces kept (k + 1) v in
    let long : length old ≡ k + 1 = h.long in
    let more : length (old ++ piece ∷ []) ≡ length old + 1 = length_push old piece in
    subst P (sym e) (record {
      long = omega arith;
      first = λ d. get_or_append_left old (piece ∷ []) d 0 (omega arith) ∙ h.first d;
      rest = λ j d l. ⊎_elim
          (λ (m : j < k). get_or_append_left old (piece ∷ []) d (j + 1) (omega arith) ∙ h.rest j d m)
          (λ (m : k ≤ j).
          let same : k ≡ j = omega arith in
          get_or_push old piece d (j + 1) (omega arith) ∙ is ∙ ap (λ (n : ℕ). piece_of kept n) same)
          (cases_lt j k);
    })

-- ---- the cycles of one segment

record HasFrom (f : List RouterId → Cycle) (cycles : List (List RouterId)) (c : Cycle) : Type 0 where
  one : List RouterId
  among : Contains cycles one
  is : f one ≡ c

from-map : (f : List RouterId → Cycle) (cycles : List (List RouterId)) (c : Cycle) → Contains (map f cycles) c → HasFrom f cycles c
from-map f [] c m = absurd (contains-none c m)
from-map f (x ∷ xs) c m = ⊎_elim
    (λ (e : f x ≡ c). record { one = x; among = contains-here x xs; is = e })
    (λ (n : Contains (map f xs) c). let k : HasFrom f xs c = from-map f xs c n in record { one = k.one; among = contains-there x k.one xs k.among; is = k.is })
    (contains-cases (f x) c (map f xs) m)

in-map : (f : List RouterId → Cycle) (cycles : List (List RouterId)) (rs : List RouterId) → Contains cycles rs → Contains (map f cycles) (f rs)
in-map f [] rs m = absurd (contains-none rs m)
in-map f (x ∷ xs) rs m = ⊎_elim
    (λ (e : x ≡ rs). let P : List RouterId → Type 0 = λ v. Contains (map f (x ∷ xs)) (f v) in subst P e (contains-here (f x) (map f xs)))
    (λ (n : Contains xs rs). contains-there (f x) (f rs) (map f xs) (in-map f xs rs n))
    (contains-cases x rs xs m)

differ-once : (low past : ℕ) (cycles : List (List RouterId)) → IsOnce cycles → AreOfOtherRouters (map (cycle_between low past) cycles)
differ-once low past [] h i j d l b = absurd (omega arith)
differ-once low past (x ∷ xs) h zero zero d l b = absurd (omega arith)
differ-once low past (x ∷ xs) h zero (suc j) d l b = λ same.
    let ys : List Cycle = map (cycle_between low past) xs in
    let k : HasFrom (cycle_between low past) xs (get_or (map (cycle_between low past) xs) j d) = from-map (cycle_between low past) xs (get_or (map (cycle_between low past) xs) j d) (Contains-get_or (map (cycle_between low past) xs) j d (omega arith)) in
    let P : List RouterId → Type 0 = λ v. Contains xs v in
    h.0 (subst P (ap (λ (c : Cycle). c.routers) k.is ∙ sym same) k.among)
differ-once low past (x ∷ xs) h (suc i) zero d l b = absurd (omega arith)
differ-once low past (x ∷ xs) h (suc i) (suc j) d l b = differ-once low past xs h.1 i j d (omega arith) (omega arith)

begin-rise : (kept : List Kept) (k : ℕ) → AreSegments kept → k < length kept → (begin_at kept k < begin_at kept (k + 1)) × (begin_at kept (k + 1) ≤ 2 ^ 32)
begin-rise kept k form l =
    let e : begin_at kept k ≡ (get_or kept k some_kept).low = begin-in kept k some_kept l in
    let b : (get_or kept k some_kept).low < 2 ^ 32 = form.below k some_kept l in
    ⊎_elim
    (λ (m : k + 1 < length kept).
    let f : begin_at kept (k + 1) ≡ (get_or kept (k + 1) some_kept).low = begin-in kept (k + 1) some_kept m in
    let r : (get_or kept k some_kept).low < (get_or kept (k + 1) some_kept).low = form.rise k (k + 1) some_kept (omega arith) m in
    let c : (get_or kept (k + 1) some_kept).low < 2 ^ 32 = form.below (k + 1) some_kept m in
    ((let x : begin_at kept k < begin_at kept (k + 1) = omega arith in x), (let x : begin_at kept (k + 1) ≤ 2 ^ 32 = omega arith in x)))
    (λ (m : length kept ≤ k + 1).
    let f : begin_at kept (k + 1) ≡ 2 ^ 32 = begin-end kept (k + 1) m in
    ((let x : begin_at kept k < begin_at kept (k + 1) = omega arith in x), (let x : begin_at kept (k + 1) ≤ 2 ^ 32 = omega arith in x)))
    (cases_lt (k + 1) (length kept))

in-segment : (kept : List Kept) (k a : ℕ) → k < length kept → begin_at kept k ≤ a → a < begin_at kept (k + 1) → IsAt kept k a
in-segment kept k a l from to = record {
  inside = l;
  from = λ d. (let e : begin_at kept k ≡ (get_or kept k d).low = begin-in kept k d l in omega arith);
  to = λ d m. (let e : begin_at kept (k + 1) ≡ (get_or kept (k + 1) d).low = begin-in kept (k + 1) d m in omega arith);
}

told-cycle : (does : RouterId → ℕ → Target) (low past : ℕ) (rs : List RouterId) → low < past → past ≤ 2 ^ 32 → ((a : ℕ) → low ≤ a → a < past → goes_round does rs a ≡ true) → IsCycleWithin low past does (cycle_between low past rs)
told-cycle does low past rs l b goes =
    let r : Run = record { lo = low; hi = past - 1 } in
    let sum : addresses_in (r ∷ []) ≡ run_length r + addresses_in [] = sum_by-cons (λ (n : ℕ). n) (run_length r) [] in
    record {
      runs = r ∷ [];
      are = record {
        apart = ((let x : low ≤ past - 1 = omega arith in x), (let x : past - 1 < 2 ^ 32 = omega arith in x));
        exact = λ a c. ⊎_elim
            (λ (x : a < low). ap (λ (v : Bool). v || false) (holds-below a r x) ∙ sym (ap (λ (v : Bool). v && goes_round does rs a) (within-below low past a x)))
            (λ (x : low ≤ a). ⊎_elim
            (λ (y : a < past).
            ap (λ (v : Bool). v || false) (holds-in a r x (let z : a ≤ past - 1 = omega arith in z))
            ∙ sym (ap (λ (v : Bool). v && goes_round does rs a) (within-yes low past a x y) ∙ goes a x y))
            (λ (y : past ≤ a). ap (λ (v : Bool). v || false) (holds-above a r (let z : past - 1 < a = omega arith in z)) ∙ sym (ap (λ (v : Bool). v && goes_round does rs a) (within-above low past a y)))
            (cases_lt a past))
            (cases_lt a low);
      };
      least = refl;
      addresses = omega arith;
    }

segment-cycles : (does : RouterId → ℕ → Target) (kept : List Kept) (k : ℕ) → AreKept does kept → k < length kept → AreCyclesWithin (begin_at kept k) (begin_at kept (k + 1)) does (piece_of kept k)
segment-cycles does kept k h l =
    let low : ℕ = begin_at kept k in
    let past : ℕ = begin_at kept (k + 1) in
    let bounds : (begin_at kept k < begin_at kept (k + 1)) × (begin_at kept (k + 1) ≤ 2 ^ 32) = begin-rise kept k h.form l in
    let rise : begin_at kept k < begin_at kept (k + 1) = bounds.0 in
    let most : begin_at kept (k + 1) ≤ 2 ^ 32 = bounds.1 in
    let f : List RouterId → Cycle = cycle_between (begin_at kept k) (begin_at kept (k + 1)) in
    record {
      each = λ c m.
          let one : HasFrom f (cycles_at kept k) c = from-map f (cycles_at kept k) c m in
          let P : Cycle → Type 0 = λ v. IsCycleWithin (begin_at kept k) (begin_at kept (k + 1)) does v in
          let C : List (List RouterId) → Type 0 = λ v. Contains v one.one in
          subst P one.is (told-cycle does (begin_at kept k) (begin_at kept (k + 1)) one.one rise most (λ a from to. h.sound one.one a (omega arith)
          (record { place = k; at = in-segment kept k a l from to; among = λ d. subst C (cycles-in kept k d l) one.among })));
      differ =
          let O : List (List RouterId) → Type 0 = λ v. IsOnce v in
          differ-once (begin_at kept k) (begin_at kept (k + 1)) (cycles_at kept k) (subst O (sym (cycles-in kept k some_kept l)) (h.form.once k some_kept l));
      all = λ rs a from to b goes.
          let has : HasKept kept rs a = h.all rs a b goes in
          let same : has.place ≡ k = one-place kept has.place k a h.form has.at (in-segment kept k a l from to) in
          let N : ℕ → Type 0 = λ n. Contains (get_or kept n some_kept).cycles rs in
          let C : List (List RouterId) → Type 0 = λ v. Contains v rs in
          record {
            cycle = f rs;
            among = in-map f (cycles_at kept k) rs (subst C (sym (cycles-in kept k some_kept l)) (subst N same (has.among some_kept)));
            is = refl;
          };
    }

-- ---- all segments

-- where each piece begins
abbrev starts : List Kept → ℕ → ℕ
starts kept zero = 0
starts kept (suc k) = begin_at kept k

begin-le : (kept : List Kept) (k : ℕ) → AreSegments kept → begin_at kept k ≤ begin_at kept (k + 1)
begin-le kept k form = ⊎_elim
    (λ (l : k < length kept). let r : begin_at kept k < begin_at kept (k + 1) = (begin-rise kept k form l).0 in omega arith)
    (λ (l : length kept ≤ k).
    let e : begin_at kept k ≡ 2 ^ 32 = begin-end kept k l in
    let f : begin_at kept (k + 1) ≡ 2 ^ 32 = begin-end kept (k + 1) (omega arith) in
    omega arith)
    (cases_lt k (length kept))

starts-rise : (kept : List Kept) (k : ℕ) → AreSegments kept → starts kept k ≤ starts kept (k + 1)
starts-rise kept zero form = omega arith
starts-rise kept (suc k) form =
    let e : suc k + 1 ≡ suc (k + 1) = omega arith in
    let f : starts kept (suc k + 1) ≡ begin_at kept (k + 1) = ap (λ (n : ℕ). starts kept n) e in
    let l : begin_at kept k ≤ begin_at kept (k + 1) = begin-le kept k form in
    omega arith

none-before : (does : RouterId → ℕ → Target) (kept : List Kept) → AreKept does kept → AreCyclesWithin 0 (begin_at kept 0) does []
none-before does kept h = record {
  each = λ c m. absurd (contains-none c m);
  differ = λ i j d l b. absurd (omega arith);
  all = λ rs a from to b goes.
      let has : HasKept kept rs a = h.all rs a b goes in
      let inside : has.place < length kept = has.at.inside in
      let e : begin_at kept 0 ≡ (get_or kept 0 some_kept).low = begin-in kept 0 some_kept (omega arith) in
      let rise : (get_or kept 0 some_kept).low ≤ (get_or kept has.place some_kept).low = rise-le kept 0 has.place some_kept h.form (omega arith) inside in
      let low : (get_or kept has.place some_kept).low ≤ a = has.at.from some_kept in
      absurd (omega arith);
}

each-piece : (does : RouterId → ℕ → Target) (kept : List Kept) (pieces : List (List Cycle)) (k : ℕ) (d : List Cycle) → AreKept does kept → ArePieces kept (length kept) pieces → k < length pieces → AreCyclesWithin (starts kept k) (starts kept (k + 1)) does (get_or pieces k d)
each-piece does kept pieces zero d h are l =
    let P : List Cycle → Type 0 = λ v. AreCyclesWithin 0 (begin_at kept 0) does v in
    subst P (sym (are.first d)) (none-before does kept h)
each-piece does kept pieces (suc k) d h are l =
    let long : length pieces ≡ length kept + 1 = are.long in
    let inside : k < length kept = omega arith in
    let e : suc k ≡ k + 1 = omega arith in
    let f : suc k + 1 ≡ suc (k + 1) = omega arith in
    let P : List Cycle → Type 0 = λ v. AreCyclesWithin (begin_at kept k) (begin_at kept (k + 1)) does v in
    let Q : ℕ → Type 0 = λ n. AreCyclesWithin (begin_at kept k) (starts kept n) does (get_or pieces (suc k) d) in
    subst Q (sym f) (subst P (sym (ap (λ (n : ℕ). get_or pieces n d) e ∙ are.rest k d inside)) (segment-cycles does kept k h inside))

pub pieces-all : (does : RouterId → ℕ → Target) (kept : List Kept) (pieces : List (List Cycle)) → AreKept does kept → ArePieces kept (length kept) pieces → AreCyclePieces does pieces
pieces-all does kept pieces h are =
    let long : length pieces ≡ suc (length kept) = (let l : length pieces ≡ length kept + 1 = are.long in omega arith) in
    record {
      at = starts kept;
      bounds = record { first = refl; rise = λ k. starts-rise kept k h.form };
      end = ap (λ (n : ℕ). starts kept n) long ∙ begin-end kept (length kept) (omega arith);
      cycles = record { each = λ k d l. each-piece does kept pieces k d h are l };
    }
