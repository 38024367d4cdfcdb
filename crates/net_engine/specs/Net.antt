-- Atoms with what each router does there and the rules that it has there, and how a step changes them. Nothing here
-- says how they are kept.
use Rattle.std.specs.Prelude.{ℕ, List, [], ◌∷◌, length, replicate, ◌≡◌, ◌^◌, ◌&&◌, ◌==◌, not, if◌then◌else◌}
use Rattle.base.specs.Rows.{is_within, CoverFrom}
use Rattle.net_engine.specs.Version.{Atom, first_of, past_of}
use Rattle.base.specs.declared.target.Target.TheVariants.{NoRoute}

-- so many routers, and the atoms in order
pub record Net : Type 0 where
  pub routers : ℕ
  pub atoms : List Atom

-- an atom has a target and a list of rules for each of so many routers
pub record IsWide (routers : ℕ) (x : Atom) : Type 0 where
  pub targets : length x.row.targets ≡ routers
  pub owners : length x.owners ≡ routers

abbrev pub AreWide : ℕ → List Atom → Type 0
AreWide routers [] = Unit {0}
AreWide routers (x ∷ xs) = IsWide routers x × AreWide routers xs

-- atoms in order, which cover the addresses from 0 to 2^32 once, and have what each router does and its rules
pub record IsNet (net : Net) : Type 0 where
  pub cover : CoverFrom first_of past_of 0 net.atoms
  pub wide : AreWide net.routers net.atoms

-- one atom of all addresses, for which no router has a rule
abbrev pub first_atom : ℕ → Atom
first_atom routers = record {
  row = record { low = 0; past = 2 ^ 32; targets = replicate routers NoRoute };
  owners = replicate routers [];
}

-- an atom with other bounds
abbrev pub between : ℕ → ℕ → Atom → Atom
between lo hi x = record { row = record { low = lo; past = hi; targets = x.row.targets }; owners = x.owners }

-- the atoms, where the one that has an address is cut in two there, if it doesn't begin there: both parts have the
-- targets and the rules of the whole
abbrev pub cut_atoms : List Atom → ℕ → List Atom
cut_atoms [] at = []
cut_atoms (x ∷ xs) at =
    if is_within (first_of x) (past_of x) at && not (first_of x == at)
    then between (first_of x) at x ∷ between at (past_of x) x ∷ xs
    else x ∷ cut_atoms xs at
