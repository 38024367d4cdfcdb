-- How many targets are looked at for an answer.
use Rattle.std.specs.Prelude.{ℕ, ◌*◌}
use Rattle.dn_model.specs.declared.query.Ask.{Ask}
use Rattle.dn_model.specs.declared.query.Ask.TheVariants.{Path, Delta}

-- the most targets that are looked at for what is asked, over so many rows of so many routers: for the way of one address
-- one of each router, for the changes of an update none, and for anything else one of each router in each row
abbrev pub most_looks : Ask → ℕ → ℕ → ℕ
most_looks (Path n a) rows routers = routers
most_looks Delta rows routers = 0
most_looks ask rows routers = rows * routers
