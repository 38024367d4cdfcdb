-- The answer to what is asked, where each router does this with each address and an update made these changes. The
-- address of a path is one.
use Rattle.std.specs.Prelude.{ℕ, List, ◌≡◌, ◌<◌, ◌^◌}
use Rattle.dn_model.specs.Answer.{IsAnswerOf}
use Rattle.dn_model.specs.LastDelta.{IsDeltaOf}
use Rattle.dn_model.specs.declared.answer.Answer.{Answer}
use Rattle.dn_model.specs.declared.answer.Answer.TheVariants as answers
use Rattle.base.specs.declared.change.Change.{Change}
use Rattle.dn_model.specs.declared.entry.Entry.{Entry}
use Rattle.base.specs.declared.ids.RouterId.{RouterId}
use Rattle.dn_model.specs.declared.query.Ask.{Ask}
use Rattle.dn_model.specs.declared.query.Ask.TheVariants.{Path, Delta}
use Rattle.base.specs.declared.target.Target.{Target}
use Rattle.dn_model.specs.declared.topology.Topology.{Topology}

abbrev pub IsShown : Topology → (RouterId → ℕ → Target) → List Change → Ask → Answer → Type 0
IsShown t does changes Delta answer = answer ≡ answers.Delta changes
IsShown t does changes (Path n a) answer = (a < 2 ^ 32) × IsAnswerOf t does (Path n a) answer
IsShown t does changes ask answer = IsAnswerOf t does ask answer

-- the changes are those that the last entry of a history made, where they are asked for; of other queries nothing hangs on
-- them
abbrev pub AreToldIf : Topology → List Entry → List Change → Ask → Type 0
AreToldIf t history changes Delta = IsDeltaOf t history changes
AreToldIf t history changes ask = Unit {0}
