-- How addresses, prefixes, runs and targets are written.
use Rattle.std.specs.Prelude.{ℕ, Bool, true, false, List, [], ◌∷◌, ◌++◌, map, codes, decimal, slice_get, unwrap_or, ◌/◌, ◌%◌, ◌^◌}
use Rattle.base.specs.Cidr.{Cidr}
use Rattle.base.specs.declared.ids.RouterId.{RouterId}
use Rattle.base.specs.declared.ids.LinkId.{LinkId}
use Rattle.base.specs.declared.run.Run.{Run}
use Rattle.dn_model.specs.declared.topology.Topology.{Topology}
use Rattle.base.specs.declared.target.DropKind.{DropKind}
use Rattle.base.specs.declared.target.DropKind.TheVariants.{Blackhole, Unreachable, Prohibit}
use Rattle.base.specs.declared.target.Target.{Target}
use Rattle.base.specs.declared.target.Target.TheVariants.{NoRoute, Dropped, Local, Exit, OnLink, To, LinkDown}

-- a line: its text and a line feed
abbrev pub line : List ℕ → List ℕ
line text = text ++ 10 ∷ []

-- four decimal numbers parted by dots
abbrev pub address_text : ℕ → List ℕ
address_text a =
    decimal (a / 2 ^ 24) ++ codes "." ++ decimal (a / 2 ^ 16 % 256) ++ codes "." ++ decimal (a / 2 ^ 8 % 256)
    ++ codes "." ++ decimal (a % 256)

abbrev pub prefix_text : Cidr → List ℕ
prefix_text p = address_text p.base ++ codes "/" ++ decimal p.len

-- both ends, also where they are equal
abbrev pub run_text : Run → List ℕ
run_text run = address_text run.lo ++ codes "-" ++ address_text run.hi

abbrev pub name_of_router : Topology → RouterId → List ℕ
name_of_router t r = unwrap_or (slice_get t.routers r.0) []

abbrev pub name_of_link : Topology → LinkId → List ℕ
name_of_link t l = unwrap_or (slice_get (map (λ link. link.name) t.links) l.0) []

abbrev pub drop_text : DropKind → List ℕ
drop_text Blackhole = codes "blackhole"
drop_text Unreachable = codes "unreachable"
drop_text Prohibit = codes "prohibit"

abbrev pub target_text : Topology → Target → List ℕ
target_text t NoRoute = codes "noroute"
target_text t (Dropped kind) = codes "dropped " ++ drop_text kind
target_text t Local = codes "local"
target_text t (Exit i) = codes "exit " ++ decimal i
target_text t (OnLink i) = codes "onlink " ++ decimal i
target_text t (To s l) = codes "to " ++ name_of_router t s ++ codes " by " ++ name_of_link t l
target_text t (LinkDown l) = codes "linkdown " ++ name_of_link t l

-- what a link does: it goes down or comes up
abbrev pub link_state_text : Bool → List ℕ
link_state_text true = codes "down "
link_state_text false = codes "up "
