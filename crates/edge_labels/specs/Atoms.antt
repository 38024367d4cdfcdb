-- Sets of atoms, as the ascending lists of their numbers (a label of Delta-net is such a set: NSDI 2017).
use Rattle.std.specs.Prelude.{ℕ, Bool, List, map, ◌≡◌, ◌==◌}
use Rattle.std.specs.List.{list_any}
use Rattle.std.specs.List.Sorted.{IsStrictlyIncreasing}
use Rattle.base.specs.declared.ids.AtomId.{AtomId}

-- the numbers of atoms
abbrev pub numbers : List AtomId → List ℕ
numbers atoms = map (λ a. a.0) atoms

-- whether a number is there
abbrev pub has_atom : List ℕ → ℕ → Bool
has_atom set a = list_any (λ b. b == a) set

-- exactly the numbers that pass a test, in ascending order
pub record AreAtoms (set : List ℕ) (test : ℕ → Bool) : Type 0 where
  pub ascending : IsStrictlyIncreasing set
  pub exact : (a : ℕ) → has_atom set a ≡ test a
