-- The answer to a query over a history: what following the addresses hop by hop gives, or what the last entry changed.
use Rattle.std.specs.Prelude.{ℕ, List, ◌≡◌, Bool, IsSomeAnd, length, slice_get}
use Rattle.std.specs.List.{filter_map}
use Rattle.base.specs.Cycles.{AreCycles}
use Rattle.dn_model.specs.LastDelta.{IsDeltaOf}
use Rattle.base.specs.Holes.{AreHoles}
use Rattle.dn_model.specs.Lookup.{router_of, link_of}
use Rattle.dn_model.specs.Query.{Question}
use Rattle.base.specs.Reach.{reaches, misses, goes_over}
use Rattle.base.specs.Runs.{AreRuns}
use Rattle.base.specs.Walk.{at_address, walk, walk_end}
use Rattle.dn_model.specs.Next.{next}
use Rattle.base.specs.declared.ids.RouterId.{RouterId}
use Rattle.base.specs.declared.ids.LinkId.{LinkId}
use Rattle.dn_model.specs.declared.topology.Topology.{Topology}
use Rattle.dn_model.specs.declared.topology.TopoLink.{TopoLink}
use Rattle.dn_model.specs.declared.entry.Entry.{Entry}
use Rattle.dn_model.specs.declared.query.Ask.{Ask}
use Rattle.dn_model.specs.declared.query.Ask.TheVariants as ask
use Rattle.dn_model.specs.declared.answer.Answer.{Answer}
use Rattle.dn_model.specs.declared.answer.Answer.TheVariants.{Path, Runs, Uses, Loops, Holes, Delta}
use Rattle.base.specs.declared.target.Target.{Target}

-- the links with these names
abbrev pub links_of : Topology → List (List ℕ) → List LinkId
links_of t names = filter_map (link_of t) names

-- the walk of an address from a router
abbrev pub path_answer : ℕ → (RouterId → ℕ → Target) → RouterId → ℕ → Answer
path_answer routers does r a = Path (walk (at_address does a) routers r) (walk_end (at_address does a) routers r)

-- the runs of the addresses that pass a test
abbrev pub IsRunsAnswer : (ℕ → Bool) → Answer → Type 0
IsRunsAnswer test (Runs runs) = AreRuns runs test
IsRunsAnswer test (Path hops end) = ⊥
IsRunsAnswer test (Uses first second) = ⊥
IsRunsAnswer test (Loops cycles) = ⊥
IsRunsAnswer test (Holes holes) = ⊥
IsRunsAnswer test (Delta changes) = ⊥

-- the runs of the addresses that each end of a link sends over it
abbrev pub IsUsesAnswer : (RouterId → ℕ → Target) → LinkId → TopoLink → Answer → Type 0
IsUsesAnswer does l link (Uses first second) =
    AreRuns first (goes_over does link.first.router l) × AreRuns second (goes_over does link.second.router l)
IsUsesAnswer does l link (Path hops end) = ⊥
IsUsesAnswer does l link (Runs runs) = ⊥
IsUsesAnswer does l link (Loops cycles) = ⊥
IsUsesAnswer does l link (Holes holes) = ⊥
IsUsesAnswer does l link (Delta changes) = ⊥

abbrev pub IsLoopsAnswer : (RouterId → ℕ → Target) → Answer → Type 0
IsLoopsAnswer does (Loops cycles) = AreCycles does cycles
IsLoopsAnswer does (Path hops end) = ⊥
IsLoopsAnswer does (Runs runs) = ⊥
IsLoopsAnswer does (Uses first second) = ⊥
IsLoopsAnswer does (Holes holes) = ⊥
IsLoopsAnswer does (Delta changes) = ⊥

abbrev pub IsHolesAnswer : ℕ → (RouterId → ℕ → Target) → RouterId → Answer → Type 0
IsHolesAnswer routers does r (Holes holes) = AreHoles routers does r holes
IsHolesAnswer routers does r (Path hops end) = ⊥
IsHolesAnswer routers does r (Runs runs) = ⊥
IsHolesAnswer routers does r (Uses first second) = ⊥
IsHolesAnswer routers does r (Loops cycles) = ⊥
IsHolesAnswer routers does r (Delta changes) = ⊥

-- the changes that the last entry of a history makes
abbrev pub IsDeltaAnswer : Topology → List Entry → Answer → Type 0
IsDeltaAnswer t history (Delta changes) = IsDeltaOf t history changes
IsDeltaAnswer t history (Path hops end) = ⊥
IsDeltaAnswer t history (Runs runs) = ⊥
IsDeltaAnswer t history (Uses first second) = ⊥
IsDeltaAnswer t history (Loops cycles) = ⊥
IsDeltaAnswer t history (Holes holes) = ⊥

-- the answer to what is asked of a network of which each router does this with each address; `delta` asks for something
-- else, the changes of a history
abbrev pub IsAnswerOf : Topology → (RouterId → ℕ → Target) → Ask → Answer → Type 0
IsAnswerOf t does (ask.Path n a) answer = IsSomeAnd (router_of t n) (λ r. answer ≡ path_answer (length t.routers) does r a)
IsAnswerOf t does (ask.Reach n m) answer =
    IsSomeAnd (router_of t n) (λ r. IsSomeAnd (router_of t m) (λ s. IsRunsAnswer (reaches (length t.routers) does r s) answer))
IsAnswerOf t does (ask.Uses n) answer =
    IsSomeAnd (link_of t n) (λ l. IsSomeAnd (slice_get t.links l.0) (λ link. IsUsesAnswer does l link answer))
IsAnswerOf t does ask.Loops answer = IsLoopsAnswer does answer
IsAnswerOf t does (ask.Blackholes n) answer = IsSomeAnd (router_of t n) (λ r. IsHolesAnswer (length t.routers) does r answer)
IsAnswerOf t does (ask.Waypoint n m w) answer =
    IsSomeAnd (router_of t n) (λ r. IsSomeAnd (router_of t m) (λ s. IsSomeAnd (router_of t w) (λ v.
    IsRunsAnswer (misses (length t.routers) does r s v) answer)))
IsAnswerOf t does ask.Delta answer = ⊥

-- the answer to what is asked over a history, with these links down besides those that are down after it
abbrev pub IsAnswerTo : Topology → List Entry → List LinkId → Ask → Answer → Type 0
IsAnswerTo t history down ask.Delta answer = IsDeltaAnswer t history answer
IsAnswerTo t history down (ask.Path n a) answer = IsAnswerOf t (next t history down) (ask.Path n a) answer
IsAnswerTo t history down (ask.Reach n m) answer = IsAnswerOf t (next t history down) (ask.Reach n m) answer
IsAnswerTo t history down (ask.Uses n) answer = IsAnswerOf t (next t history down) (ask.Uses n) answer
IsAnswerTo t history down ask.Loops answer = IsAnswerOf t (next t history down) ask.Loops answer
IsAnswerTo t history down (ask.Blackholes n) answer = IsAnswerOf t (next t history down) (ask.Blackholes n) answer
IsAnswerTo t history down (ask.Waypoint n m w) answer = IsAnswerOf t (next t history down) (ask.Waypoint n m w) answer

-- the answer to a query whose names the topology has
abbrev pub IsAnswer : Topology → List Entry → Question → Answer → Type 0
IsAnswer t history q answer = IsAnswerTo t history (links_of t q.without) q.ask answer
