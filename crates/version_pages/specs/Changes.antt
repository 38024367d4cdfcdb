-- One element of a list, or some that follow one another, changed by a call, and more elements at its end or at a place.
use Rattle.std.specs.Prelude.{ℕ, ◌≡◌, ◌+◌, ◌<◌, ◌≤◌, ◌++◌, List, length, set, slice_index_or, take, drop}
use Rattle.std.specs.Fn.{FnOnceReturnsAtMut}
use denote.Param.Members.{Once}
use denote.Ref.{MutBor}

-- the call of f on the element at a place answers r, and what it leaves there is all that changes
pub record Changes {F T R : Type 0} (g : Once F (MutBor T × Unit {0}) (R × (MutBor T × Unit {0}))) (f : F) (old new : List T) (i : ℕ) (r : R) : Type 0 where
  pub value : T
  pub called : (d : T) → FnOnceReturnsAtMut g f (slice_index_or old i d) r value
  pub list : new ≡ set old i value

-- the call of f on some elements from a place on, one at least, answers r, and what it leaves of them is all that changes
pub record ChangesRun {F T R : Type 0} (g : Once F (MutBor (List T) × Unit {0}) (R × (MutBor (List T) × Unit {0}))) (f : F) (old new : List T) (i : ℕ) (r : R) : Type 0 where
  pub count : ℕ
  pub some : 0 < count
  pub inside : i + count ≤ length old
  pub run : List T
  pub long : length run ≡ count
  pub called : FnOnceReturnsAtMut g f (take count (drop i old)) r run
  pub list : new ≡ take i old ++ run ++ drop (i + count) old

-- the first of some elements were put at the end of a list
pub record IsExtended {T : Type 0} (old new items : List T) : Type 0 where
  pub count : ℕ
  pub few : count ≤ length items
  pub list : new ≡ old ++ take count items

-- the first of some elements were put before the one that stands at a place
pub record IsInserted {T : Type 0} (old new items : List T) (i : ℕ) : Type 0 where
  pub count : ℕ
  pub few : count ≤ length items
  pub list : new ≡ take i old ++ take count items ++ drop i old
