use Rattle.std.proofs.Common.{◌∙◌, arith}
use Rattle.par_scan.proofs.PartRows.{row-after, row-before, row-between}
use Rattle.par_scan.proofs.part.PartLabelView.row.Goals as goal

pub returns-then-i-before : goal.returns-then-i-before
returns-then-i-before g c = row-before (g.V.LabelView.width c.args.self.now.view.now) (g.V.LabelView.rows c.args.self.now.view.now) c.args.self.now.from c.args.self.now.count c.args.self.now.low c.before-before.result c.args.i c.stay.new.targets c.args.self.now.begins c.before-before.ensures.value c.if-i-before.true (c.stay.auto.targets ∙ c.requires.wide) c.stay.ensures

pub returns-then-i-before-2 : goal.returns-then-i-before-2
returns-then-i-before-2 g c = row-between (g.V.LabelView.width c.args.self.now.view.now) (g.V.LabelView.rows c.args.self.now.view.now) c.args.self.now.from c.args.self.now.count c.args.self.now.low c.before-before.result c.args.i c.row.new.out c.args.self.now.inside c.args.self.now.begins c.before-before.ensures.value (omega (arith, c.if-i-before.false)) c.if-i-before-2.true c.row.ensures

pub returns : goal.returns
returns g c = row-after (g.V.LabelView.width c.args.self.now.view.now) (g.V.LabelView.rows c.args.self.now.view.now) c.args.self.now.from c.args.self.now.count c.args.self.now.low c.args.self.now.past c.before-before.result c.args.i c.stay-2.new.targets c.args.self.now.inside c.args.self.now.begins c.args.self.now.ends c.before-before.ensures.value (omega (arith, c.if-i-before.false, c.if-i-before-2.false)) c.requires.place (c.stay-2.auto.targets ∙ c.requires.wide) c.stay-2.ensures
