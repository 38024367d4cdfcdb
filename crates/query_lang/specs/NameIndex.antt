-- An index from names to routers.
use denote.Ref.{Bor}
use Rattle.std.specs.Prelude.{◌≡◌, ℕ, Bool, IsTrue, List, Option, Some, find, if◌then◌else◌}
use Rattle.std.specs.Map.{lookup}
use Rattle.std.specs.Str.{bytes_eq}
use Rattle.dn_formats.specs.ScriptText.{is_named}
use Rattle.base.specs.Name.{is_name_text}
use Rattle.base.specs.declared.ids.RouterId.{RouterId}
use Rattle.query_lang.specs.declared.name_guess.Named.{Named}

-- the router under a name
unfoldable pub router_in : List (Bor (List ℕ) × RouterId) → List ℕ → Option RouterId
router_in index name = lookup (λ k. bytes_eq name k.now) index

-- under the names that pass stands this router now, and under the others what stood there
abbrev pub IsPut : (List ℕ → Bool) → RouterId → (old new : List (Bor (List ℕ) × RouterId)) → Type 0
IsPut passes r old new = (name : List ℕ) → router_in new name ≡ (if passes name then Some r else router_in old name)

-- the same of a router's own name, where it has one
abbrev pub IsAdded : List (List ℕ) → RouterId → (old new : List (Bor (List ℕ) × RouterId)) → Type 0
IsAdded routers r old new = IsPut (λ name. is_named routers name r) r old new

-- under each name stands the first of these routers that has it, and under others none
abbrev pub IsIndex : List (List ℕ) → List RouterId → List (Bor (List ℕ) × RouterId) → Type 0
IsIndex routers fed index = (name : List ℕ) → router_in index name ≡ find (is_named routers name) fed

-- a name, whose first router among these is this one
abbrev pub IsNamed : List (List ℕ) → List RouterId → Named → Type 0
IsNamed routers fed named =
    IsTrue (is_name_text named.name.now) × (find (is_named routers named.name.now) fed ≡ Some named.router)
