-- When two runs end alike.
use Rattle.std.specs.Prelude.{ℕ, List, ◌≡◌, ◌⊎◌}
use Rattle.base.specs.declared.ids.RouterId.{RouterId}
use Rattle.dn_model.specs.declared.topology.Topology.{Topology}
use Rattle.dn_run.specs.Run.{ScriptLines, IsRunOf, OpenedFeed}
use Rattle.dn_run.specs.declared.status.Verdict.{Verdict}

-- these are the texts of two runs whose jobs ran over the same feeds
abbrev pub AreRunsOfOne : Verdict → List ℕ → Verdict → List ℕ → Type 0
AreRunsOfOne v x w y =
    (t : Topology) × (routers : List RouterId) × (scripts : ScriptLines) × (opened : List OpenedFeed)
    × IsRunOf t routers scripts opened v x × IsRunOf t routers scripts opened w y

-- One verdict, and one text too where no job of a `run` ran.
abbrev pub AreAlike : Verdict → List ℕ → Verdict → List ℕ → Type 0
AreAlike v x w y = (v ≡ w) × ((x ≡ y) ⊎ AreRunsOfOne v x w y)
