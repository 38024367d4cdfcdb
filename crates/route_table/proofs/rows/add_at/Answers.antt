use Rattle.route_table.proofs.Changing.{added-is, added-others}
use Rattle.route_table.proofs.rows.add_at.Goals as goal

pub returns-clause-ok : goal.returns-clause-ok
returns-clause-ok c = added-is c.insert_at.result c.args.lane.index c.args.rows.now c.insert_at.new.self c.args.place c.args.route.now c.row_of-row.result c.requires.sound c.row_of-row.ensures.prefix c.row_of-row.ensures.targets c.insert_at.ensures

pub returns-clause-others : goal.returns-clause-others
returns-clause-others c = added-others c.insert_at.result c.args.lane.index c.args.rows.now c.insert_at.new.self c.args.place c.args.route.now.prefix c.row_of-row.result c.row_of-row.ensures.prefix c.row_of-row.ensures.others c.insert_at.ensures
