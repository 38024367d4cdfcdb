-- Loops: the cycles of routers in which addresses go round for ever.
use Rattle.std.specs.Prelude.{ℕ, Bool, false, List, [], ◌∷◌, ◌≡◌, ◌<◌, ◌^◌, ◌⊎◌, ◌&&◌, nat_lt, Contains, IsTrue}
use Rattle.std.specs.List.{list_all}
use Rattle.base.specs.Reach.{is_router}
use Rattle.base.specs.Runs.{AreRuns, addresses_in}
use Rattle.base.specs.Lists.{all_differ}
use Rattle.base.specs.Walk.{at_address, on_far}
use Rattle.base.specs.declared.cycle.Cycle.{Cycle}
use Rattle.base.specs.declared.ids.RouterId.{RouterId}
use Rattle.base.specs.declared.run.Run.{Run}
use Rattle.base.specs.declared.target.Target.{Target}

-- whether a router goes on to another
abbrev pub goes_to : (RouterId → Target) → RouterId → RouterId → Bool
goes_to target_at r s = on_far (target_at r) false (is_router s)

-- whether each of these routers goes on to the next, and the last one to `first`
abbrev pub go_round : (RouterId → Target) → RouterId → List RouterId → Bool
go_round target_at first [] = false
go_round target_at first (r ∷ []) = goes_to target_at r first
go_round target_at first (r ∷ s ∷ rest) = goes_to target_at r s && go_round target_at first (s ∷ rest)

-- whether these routers are a cycle: they differ, the first one is the first of them in the topology's order, each goes
-- on to the next and the last one to the first
abbrev pub is_cycle : (RouterId → Target) → List RouterId → Bool
is_cycle target_at [] = false
is_cycle target_at (r ∷ rest) =
    list_all (λ s. nat_lt r.0 s.0) rest && all_differ is_router (r ∷ rest) && go_round target_at r (r ∷ rest)

-- whether an address goes round a cycle
abbrev pub goes_round : (RouterId → ℕ → Target) → List RouterId → ℕ → Bool
goes_round does routers a = is_cycle (at_address does a) routers

-- the first address of runs
abbrev pub BeginAt : List Run → ℕ → Type 0
BeginAt [] a = ⊥
BeginAt (run ∷ runs) a = run.lo ≡ a

-- a cycle of some address, with the least such address and the number of them
pub record IsCycle (does : RouterId → ℕ → Target) (c : Cycle) : Type 0 where
  pub runs : List Run
  pub are : AreRuns runs (goes_round does c.routers)
  pub least : BeginAt runs c.least
  pub addresses : c.addresses ≡ addresses_in runs

abbrev pub first_router : List RouterId → ℕ
first_router [] = 0
first_router (r ∷ rs) = r.0

-- by least address, then by first router
abbrev pub ComesBefore : Cycle → Cycle → Type 0
ComesBefore x y = (x.least < y.least) ⊎ ((x.least ≡ y.least) × (first_router x.routers < first_router y.routers))

abbrev pub AreInOrder : List Cycle → Type 0
AreInOrder [] = Unit {0}
AreInOrder (x ∷ []) = Unit {0}
AreInOrder (x ∷ y ∷ rest) = ComesBefore x y × AreInOrder (y ∷ rest)

-- a cycle among these of these routers
pub record HasCycle (cycles : List Cycle) (routers : List RouterId) : Type 0 where
  pub cycle : Cycle
  pub among : Contains cycles cycle
  pub is : cycle.routers ≡ routers

-- all cycles of all addresses, in order, each once
pub record AreCycles (does : RouterId → ℕ → Target) (cycles : List Cycle) : Type 0 where
  pub order : AreInOrder cycles
  pub each : (c : Cycle) → Contains cycles c → IsCycle does c
  pub all : (routers : List RouterId) (a : ℕ) → a < 2 ^ 32 → IsTrue (goes_round does routers a) → HasCycle cycles routers
