-- What is told of an update where links are down, by what it changes while all are up.
use Rattle.std.specs.Prelude.{ℕ, List, Option, None, Some, ◌≡◌}
use Rattle.base.specs.Delta.{TellsChange, change_at}
use Rattle.base.specs.Links.{without}
use Rattle.base.specs.declared.change.Change.{Change}
use Rattle.base.specs.declared.ids.LinkId.{LinkId}
use Rattle.base.specs.declared.ids.RouterId.{RouterId}
use Rattle.base.specs.declared.target.Target.{Target}

-- where nothing changes nothing is told, and else what is shown of the two targets, if they then differ
abbrev pub ShowsChange : List LinkId → Option (Target × Target) → Option (Target × Target) → Type 0
ShowsChange down None told = told ≡ None
ShowsChange down (Some p) told = TellsChange (without down p.0) (without down p.1) told

-- so it is at each router and address
abbrev pub AreShown : List LinkId → List Change → List Change → Type 0
AreShown down changes shown = (r : RouterId) (a : ℕ) → ShowsChange down (change_at changes r a) (change_at shown r a)
