-- A change that is joined to what stands before and after its place among others.
use Rattle.std.specs.Prelude.{ℕ, true, false, List, [], ◌∷◌, take, drop, length, ◌≡◌, ◌+◌, ◌≤◌}
use Rattle.base.specs.Delta.{IsApart, IsApartFromFirst, IsChange, change_at, is_change_at}
use Rattle.base.specs.declared.change.Change.{Change}
use Rattle.base.specs.declared.ids.RouterId.{RouterId}

abbrev pub IsApartFromLast : Change → List Change → Change → Type 0
IsApartFromLast f [] c = IsApart f c
IsApartFromLast f (g ∷ gs) c = IsApartFromLast g gs c

-- a change stands apart from the last of those before it
abbrev pub EndsApart : List Change → Change → Type 0
EndsApart [] c = Unit {0}
EndsApart (f ∷ fs) c = IsApartFromLast f fs c

-- the change c, which has this place among others, joined to the one before it if it goes on from that one: it takes
-- the place of those from `from` on
pub record JoinsLeft (changes : List Change) (place : ℕ) (c : Change) (from : ℕ) (joined : Change) : Type 0 where
  pub low : from ≤ place
  pub few : place ≤ from + 1
  pub change : IsChange joined
  pub router : joined.router ≡ c.router
  pub hi : joined.run.hi ≡ c.run.hi
  pub before : joined.before ≡ c.before
  pub after : joined.after ≡ c.after
  pub apart : EndsApart (take from changes) joined
  pub here : (r : RouterId) (a : ℕ) → is_change_at r a c ≡ true → is_change_at r a joined ≡ true
  pub there : (r : RouterId) (a : ℕ) → is_change_at r a c ≡ false → change_at (joined ∷ drop place changes) r a ≡ change_at (drop from changes) r a

-- the same with the one after it: it takes the place of those up to `to`
pub record JoinsRight (changes : List Change) (place : ℕ) (c : Change) (to : ℕ) (joined : Change) : Type 0 where
  pub high : place ≤ to
  pub few : to ≤ place + 1
  pub inside : to ≤ length changes
  pub change : IsChange joined
  pub router : joined.router ≡ c.router
  pub lo : joined.run.lo ≡ c.run.lo
  pub before : joined.before ≡ c.before
  pub after : joined.after ≡ c.after
  pub apart : IsApartFromFirst joined (drop to changes)
  pub here : (r : RouterId) (a : ℕ) → is_change_at r a c ≡ true → is_change_at r a joined ≡ true
  pub there : (r : RouterId) (a : ℕ) → is_change_at r a c ≡ false → change_at (joined ∷ drop to changes) r a ≡ change_at (drop place changes) r a
