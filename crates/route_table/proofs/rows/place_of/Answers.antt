use Rattle.std.proofs.Common.{subst}
use Rattle.version_pages.specs.Search.{EndsBelow}
use Rattle.route_table.specs.Ascending.{IsPlace}
use Rattle.route_table.specs.Rows.{row_key}
use Rattle.route_table.proofs.Places.{place-of}
use Rattle.route_table.proofs.SideBySide.{keys-in}
use Rattle.route_table.proofs.rows.place_of.Goals as goal

pub returns-clause-place : goal.returns-clause-place
returns-clause-place c =
    let e : EndsBelow row_key c.args.rows.now c.prefix_key.result c.count_below.result = c.count_below.ensures in
    subst (λ k. IsPlace row_key c.args.rows.now k c.count_below.result) c.prefix_key.ensures.value
    (place-of row_key 0 c.args.rows.now c.prefix_key.result c.count_below.result (keys-in 0 0 c.args.rows.now (c.requires 0).keys) e.inside e.before e.after)
