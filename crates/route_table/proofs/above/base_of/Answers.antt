use Rattle.route_table.proofs.SideBySide.{base-at}
use Rattle.route_table.proofs.above.base_of.Goals as goal

pub returns-in-Some-get : goal.returns-in-Some-get
returns-in-Some-get c = λ lane h. base-at lane c.args.rows.now c.args.place c.base.result c.in-Some-get.row.now c.requires.some c.requires.inside (c.in-Some-get.ensures.element c.in-Some-get.row.now) c.base.ensures.value
