-- Routing tables up to the order of their routes.
use Rattle.std.specs.Prelude.{List, Contains}
use Rattle.base.specs.Cidr.{IsCidr}
use Rattle.dn_model.specs.Table.{HasKeysOnce}
use Rattle.dn_model.specs.declared.entry.Route.{Route}

-- each prefix and metric once, and no prefix with host bits
pub record IsTable (routes : List Route) : Type 0 where
  pub keys : HasKeysOnce routes
  pub prefixes : (r : Route) → Contains routes r → IsCidr r.prefix
