-- The addresses of one cycle, by ranges.
use Rattle.std.proofs.Common.{◌≡◌, ◌≢◌, ℕ, ◌+◌, ◌<◌, ◌≤◌, ◌^◌, ◌∙◌, ⊎_elim, Bool, true, false, eqb, List, [], ◌∷◌, map, refl, sym, subst, arith}
use Rattle.std.specs.List.{Contains}
use Rattle.std.proofs.lemmas.Bool.{and_parts, cases_Bool, cond_both}
use Rattle.std.proofs.lemmas.List.Sums.{sum_by-cons}
use Rattle.base.specs.Cycles.{BeginAt, HasCycle, goes_round}
use Rattle.base.specs.Forwarding.{does}
use Rattle.base.specs.Rows.{is_within}
use Rattle.base.specs.Runs.{AreApart, AreRuns, addresses_in, run_length}
use Rattle.base.specs.declared.cycle.Cycle.{Cycle}
use Rattle.base.specs.declared.ids.RouterId.{RouterId}
use Rattle.base.specs.declared.run.Run.{Run}
use Rattle.base.specs.declared.target.Target.{Target}
use Rattle.base.proofs.CyclesFrom.{few}
use Rattle.base.proofs.RunsOnce.{apart-head}
use Rattle.loop_check.specs.CyclesByRange.{AreCyclesWithin, IsCycleWithin, IsShare}
use Rattle.loop_check.specs.Joined.{joined}
use Rattle.loop_check.specs.Bounds.{only_within}
use Rattle.loop_check.specs.declared.share.Share.{Share}
use Rattle.loop_check.proofs.Joining.{joined-count, joined-runs, only-in}

-- ---- the addresses of one cycle

pub share-here : (low past : ℕ) (does : RouterId → ℕ → Target) (cycles : List Cycle) (c : Cycle) (rs : List RouterId) → AreCyclesWithin low past does cycles → Contains cycles c → c.routers ≡ rs → IsShare (only_within low past (goes_round does rs)) (record { least = c.least; addresses = c.addresses })
share-here low past does cycles c rs h i e =
    let is : IsCycleWithin low past does c = h.each c i in
    let P : List RouterId → Type 0 = λ v. AreRuns is.runs (only_within low past (goes_round does v)) in
    record { runs = is.runs; are = subst P e is.are; least = λ some. is.least; addresses = is.addresses }

none-goes : (low past : ℕ) (does : RouterId → ℕ → Target) (cycles : List Cycle) (rs : List RouterId) → AreCyclesWithin low past does cycles → ((c : Cycle) → Contains cycles c → c.routers ≡ rs → ⊥) → (a : ℕ) → a < 2 ^ 32 → only_within low past (goes_round does rs) a ≡ false
none-goes low past does cycles rs h none a b = ⊎_elim
    (λ (y : only_within low past (goes_round does rs) a ≡ true).
    let in-bounds = only-in low past a (goes_round does rs) y in
    let parts = and_parts (is_within low past a) (goes_round does rs a) y in
    let has : HasCycle cycles rs = h.all rs a in-bounds.0 in-bounds.1 b parts.1 in
    absurd (none has.cycle has.among has.is))
    (λ (z : only_within low past (goes_round does rs) a ≡ false). z)
    (cases_Bool (only_within low past (goes_round does rs) a))

pub share-none : (low past : ℕ) (does : RouterId → ℕ → Target) (cycles : List Cycle) (rs : List RouterId) (share : Share) → share.addresses ≡ 0 → AreCyclesWithin low past does cycles → ((c : Cycle) → Contains cycles c → c.routers ≡ rs → ⊥) → IsShare (only_within low past (goes_round does rs)) share
share-none low past does cycles rs share e h none = record {
  runs = [];
  are = record { apart = tt; exact = λ a b. sym (none-goes low past does cycles rs h none a b) };
  least = λ some. absurd (some refl);
  addresses = e;
}

-- ---- addresses of two ranges that meet

begin-joined : (x : Run) (xs ys : List Run) (a : ℕ) → x.lo ≡ a → BeginAt (joined (x ∷ xs) ys) a
begin-joined x [] [] a e = e
begin-joined x [] (y ∷ ys) a e =
    let P : List Run → Type 0 = λ rs. BeginAt rs a in
    let one : Run = record { lo = x.lo; hi = y.hi } in
    cond_both (eqb (x.hi + 1) y.lo) (one ∷ ys) (x ∷ y ∷ ys) P (λ t. e) (λ f. e)
begin-joined x (z ∷ rest) ys a e = e

pub some-addresses : (x : Run) (xs : List Run) → AreApart (x ∷ xs) → 0 < addresses_in (x ∷ xs)
some-addresses x xs h =
    let low : x.lo ≤ x.hi = apart-head x xs h in
    let e : addresses_in (x ∷ xs) ≡ run_length x + addresses_in xs = sum_by-cons (λ (n : ℕ). n) (run_length x) (map run_length xs) in
    omega arith

begin-both : (xs ys : List Run) (x y z : Share) → AreApart xs → x.addresses ≡ addresses_in xs → (xs ≢ [] → BeginAt xs x.least) → (ys ≢ [] → BeginAt ys y.least) → (0 < x.addresses → z.least ≡ x.least) → (x.addresses ≡ 0 → z.least ≡ y.least) → joined xs ys ≢ [] → BeginAt (joined xs ys) z.least
begin-both [] ys x y z h count bx by later first some =
    let P : ℕ → Type 0 = λ a. BeginAt ys a in
    subst P (sym (first count)) (by some)
begin-both (r ∷ rs) ys x y z h count bx by later first some =
    let more : 0 < addresses_in (r ∷ rs) = some-addresses r rs h in
    let begin : r.lo ≡ x.least = bx (λ e. (cc)) in
    begin-joined r rs ys z.least (begin ∙ sym (later (omega arith)))

pub share-both : (low mid past : ℕ) (test : ℕ → Bool) (x y z : Share) → low ≤ mid → mid ≤ past → IsShare (only_within low mid test) x → IsShare (only_within mid past test) y → (x.addresses + y.addresses < 2 ^ 64 → z.addresses ≡ x.addresses + y.addresses) → (0 < x.addresses → z.least ≡ x.least) → (x.addresses ≡ 0 → z.least ≡ y.least) → IsShare (only_within low past test) z
share-both low mid past test x y z l k hx hy count later first =
    let are : AreRuns (joined hx.runs hy.runs) (only_within low past test) = joined-runs low mid past test hx.runs hy.runs l k hx.are hy.are in
    let sum : addresses_in (joined hx.runs hy.runs) ≡ addresses_in hx.runs + addresses_in hy.runs = joined-count hx.runs hy.runs hx.are.apart hy.are.apart in
    let most : addresses_in (joined hx.runs hy.runs) ≤ 2 ^ 32 = few (joined hx.runs hy.runs) are.apart in
    let ax : x.addresses ≡ addresses_in hx.runs = hx.addresses in
    let ay : y.addresses ≡ addresses_in hy.runs = hy.addresses in
    let total : z.addresses ≡ x.addresses + y.addresses = count (omega arith) in
    record {
      runs = joined hx.runs hy.runs;
      are = are;
      least = begin-both hx.runs hy.runs x y z hx.are.apart hx.addresses hx.least hy.least later first;
      addresses = omega arith;
    }
