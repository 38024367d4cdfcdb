-- The rule of the two copies that readers take: all who know of which publisher the shown snapshot is agree.
use Rattle.std.specs.Prelude.{ℕ, ◌≡◌, List, Option, Some}
use mathlib.Core.Option.{some}
use lib.ListN.{get_elem?}
use Rattle.fast_pins.specs.declared.issue.Origin.{Origin}
use Rattle.fast_pins.specs.Known.{Known}

abbrev pub AllOf : Known → List (Option Origin) → Type 0
AllOf shown views = (seat : ℕ) (origin : Origin) → get_elem? views seat ≡ some (Some origin) → origin ≡ shown.origin
