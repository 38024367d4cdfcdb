-- What the one job that applies shows to the jobs that read alone.
use Rattle.std.specs.Prelude.{◌≡◌, List, Option, None, Some, IfSome}
use mathlib.Core.List.{IsPrefix}
use Rattle.dn_model.specs.declared.entry.Posted.{Posted}
use Rattle.dn_model.specs.declared.topology.Topology.{Topology}
use Rattle.fast_pins.specs.Known.{Known, published}
use Rattle.fast_pins.specs.declared.issue.Origin.{Origin}

-- a publisher shows this network, and last a beginning of this history
pub record IsShownOf (t : Topology) (seen : List Posted) (known : Known) : Type 0 where
  pub topology : known.topology ≡ t
  pub begins : IsPrefix (published known) seen

-- the same where there is a publisher
abbrev pub IsShown : Topology → List Posted → Option Known → Type 0
IsShown t seen shown = IfSome shown (IsShownOf t seen)

-- which publisher it is, if there is one
abbrev pub origin_of : Option Known → Option Origin
origin_of None = None
origin_of (Some known) = Some known.origin

-- the same publisher as before, if there is one, shows last a beginning of this history
pub record ShowsOn (t : Topology) (seen : List Posted) (before after : Option Known) : Type 0 where
  pub shown : IsShown t seen after
  pub same : origin_of after ≡ origin_of before
