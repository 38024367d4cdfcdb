-- Links as flags: one for each link, from the first on.
use Rattle.std.specs.Prelude.{ℕ, suc, Bool, true, false, List, [], ◌∷◌, slice_index_or, ◌≡◌, ◌==◌, if◌then◌else◌}
use Rattle.base.specs.Links.{is_down}
use Rattle.base.specs.declared.ids.LinkId.{LinkId}

-- the links whose flags are set, of which the first one is that of the link of this number
abbrev pub links_from : ℕ → List Bool → List LinkId
links_from first [] = []
links_from first (true ∷ flags) = record { 0 = first } ∷ links_from (suc first) flags
links_from first (false ∷ flags) = links_from (suc first) flags

-- no flag is set, unless it is said that one is
abbrev pub AreNone : Bool → List Bool → Type 0
AreNone some flags = some ≡ false → links_from 0 flags ≡ []

-- one flag is put, and all others stay
abbrev pub IsFlagPut : List Bool → List Bool → ℕ → Bool → Type 0
IsFlagPut old new place flag = (k : ℕ)
    → slice_index_or new k false ≡ (if place == k then flag else slice_index_or old k false)

-- a link is down or up, and all others are as before
abbrev pub IsLinkPut : List LinkId → List LinkId → LinkId → Bool → Type 0
IsLinkPut old new l down = (k : LinkId) → is_down new k ≡ (if l.0 == k.0 then down else is_down old k)

-- the same links are down, but maybe for one
abbrev pub AreAlikeBut : List LinkId → List LinkId → LinkId → Type 0
AreAlikeBut old new l = (k : LinkId) → (l.0 == k.0) ≡ false → is_down new k ≡ is_down old k
