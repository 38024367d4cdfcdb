-- What each router does with each address after a history, with links taken as down.
use Rattle.std.specs.Prelude.{ℕ, List}
use Rattle.base.specs.declared.ids.RouterId.{RouterId}
use Rattle.base.specs.declared.ids.LinkId.{LinkId}
use Rattle.base.specs.declared.target.Target.{Target}
use Rattle.base.specs.Links.{without}
use Rattle.dn_model.specs.Table.{does_after}
use Rattle.dn_model.specs.declared.entry.Entry.{Entry}
use Rattle.dn_model.specs.declared.topology.Topology.{Topology}

-- what each router does with each address after a history, with these links down
abbrev pub next : Topology → List Entry → List LinkId → RouterId → ℕ → Target
next t history down r a = without down (does_after t history r a)
