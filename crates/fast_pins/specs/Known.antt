-- What contracts see of a publisher, a reader and a mark.
use Rattle.std.specs.Prelude.{List, [], fold}
use Rattle.dn_model.specs.declared.entry.Posted.{Posted}
use Rattle.dn_model.specs.declared.topology.Topology.{Topology}
use Rattle.fast_pins.specs.declared.issue.Origin.{Origin}

-- Which publisher it is of, its network, and the lists that it published, in order: of a publisher all of them, of a
-- reader or a mark a beginning that it knows.
pub record Known : Type 0 where
  pub origin : Origin
  pub topology : Topology
  pub lists : List (List Posted)

-- the list that was published last, as far as is known
abbrev pub published : Known → List Posted
published known = fold (λ _ list. list) [] known.lists
