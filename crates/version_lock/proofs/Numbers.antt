-- The numbers of a seat.
use Rattle.std.proofs.Common.{◌≡◌, ◌⊎◌, ℕ, zero, suc, ◌+◌, ◌-◌, ◌<◌, ◌≤◌, List, [], ◌∷◌, ◌++◌, length, get_or, sym, refl, subst, inl, inr, ⊎_elim, arith}
use Rattle.std.specs.Prelude.{Contains}
use Rattle.std.proofs.lemmas.List.Elements.{Contains-append_left, Contains-append_right, Contains-append_cases}
use mathlib.Core.Logic.{dite}
use native.Mathlib.Decide.{ℕ_discrete, dec_le}
use Rattle.dn_model.specs.declared.entry.Posted.{Posted}
use Rattle.version_lock.specs.Callers.{Caller, Lock, HasNumber, IsSameSeat, first_seat, numbers, upper_seat}
use Rattle.version_lock.specs.Rule.{numbers_from, numbers_of}

-- a number that is used, or stands in the span
abbrev pub HasNumberIn : ℕ → ℕ → List ℕ → ℕ → Type 0
HasNumberIn first span used n = Contains used n ⊎ ((first ≤ n) × (n < first + span))

pub first_of : (x : ℕ) (xs : List ℕ) → Contains (x ∷ xs) x
first_of x xs = (0, omega arith, refl)

later_of : (x : ℕ) (xs : List ℕ) (n : ℕ) → Contains xs n → Contains (x ∷ xs) n
later_of x xs n c = let inside = c.1 in (suc c.0, omega arith, c.2)

cases_of : (x : ℕ) (xs : List ℕ) (n : ℕ) → Contains (x ∷ xs) n → (n ≡ x) ⊎ Contains xs n
cases_of x xs n c = by_place c.0 c.1 c.2
  where
    by_place : (k : ℕ) → k < length (x ∷ xs) → get_or (x ∷ xs) k n ≡ n → (n ≡ x) ⊎ Contains xs n
    by_place zero l e = inl (sym e)
    by_place (suc k) l e = inr (k, omega arith, e)

-- a number of a list of one
pub only_one : (x n : ℕ) → Contains (x ∷ []) n → n ≡ x
only_one x n c = ⊎_elim (λ e. e) (λ none_left. let inside = none_left.1 in absurd (omega arith)) (cases_of x [] n c)

in_range : (first span n : ℕ) → Contains (numbers_from first span) n → (first ≤ n) × (n < first + span)
in_range first zero n c = let inside = c.1 in absurd (omega arith)
in_range first (suc span) n c = ⊎_elim (λ (e : n ≡ first). (omega arith, omega arith))
    (λ c. let r = in_range (suc first) span n c in let low = r.0 in let high = r.1 in (omega arith, omega arith)) (cases_of first (numbers_from (suc first) span) n c)

from_range : (first span n : ℕ) → first ≤ n → n < first + span → Contains (numbers_from first span) n
from_range first zero n low high = absurd (omega arith)
from_range first (suc span) n low high = dite (ℕ_discrete first n)
    (λ is. (0, omega arith, is))
    (λ apart. later_of first (numbers_from (suc first) span) n (from_range (suc first) span n (omega arith) (omega arith)))

pub range_of : (first span : ℕ) (used : List ℕ) (n : ℕ) → Contains (numbers_of first span used) n → HasNumberIn first span used n
range_of first span used n c = ⊎_elim (λ c. inl c) (λ c. inr (in_range first span n c)) (Contains-append_cases used (numbers_from first span) n c)

-- every number of a seat stands among its numbers
pub has_all : (first span : ℕ) (used : List ℕ) (n : ℕ) → HasNumberIn first span used n → Contains (numbers_of first span used) n
has_all first span used n has = ⊎_elim (Contains-append_left used (numbers_from first span) n)
    (λ (r : (first ≤ n) × (n < first + span)). Contains-append_right used (numbers_from first span) n (from_range first span n r.0 r.1)) has

-- a number of a seat that is split is then the seat's or the new one's
pub split_has : (seat : Caller) (count n : ℕ) → count < seat.span → HasNumber seat n
    → HasNumber (record seat { span = seat.span - count }) n ⊎ HasNumber (upper_seat count seat) n
split_has seat count n fewer has = ⊎_elim (λ c. inl (inl c))
    (λ (r : (seat.number ≤ n) × (n < seat.number + seat.span)). let low = r.0 in let high = r.1 in dite (dec_le (suc n) (seat.number + (seat.span - count)))
    (λ below. inl (inr (low, omega (arith, below))))
    (λ above. inr (inr (omega arith, omega arith)))) has

-- a number of either of two seats is the joined one's
pub join_has : (seat other : Caller) (seen : List Posted) (n : ℕ) → HasNumber seat n ⊎ HasNumber other n
    → HasNumber (record seat { used = seat.used ++ numbers other; seen = seen }) n
join_has seat other seen n has = ⊎_elim
    (λ mine. ⊎_elim (λ c. inl (Contains-append_left seat.used (numbers other) n c)) (λ r. inr r) mine)
    (λ theirs. inl (Contains-append_right seat.used (numbers other) n (has_all other.number other.span other.used n theirs))) has

-- a seat that only saw more has the numbers that it had
pub same_has : (old new : Caller) (n : ℕ) → IsSameSeat old new → HasNumber old n → HasNumber new n
same_has old new n same has = subst (λ (s : Caller). HasNumber s n) (sym same) has

-- the first seat of a lock has every number
pub first_has : (lock : Lock) (n : ℕ) → n < lock.setup.seats → HasNumber (first_seat lock) n
first_has lock n l = inr (omega arith, omega (arith, l))
