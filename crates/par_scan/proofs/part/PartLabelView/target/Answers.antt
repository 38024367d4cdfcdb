use Rattle.std.proofs.Common.{arith}
use Rattle.par_scan.proofs.PartRows.{target-after, target-before}
use Rattle.par_scan.proofs.part.PartLabelView.target.Goals as goal

pub returns-then-i-before : goal.returns-then-i-before
returns-then-i-before g c = λ d. target-before (g.V.LabelView.width c.args.self.now.view.now) (g.V.LabelView.rows c.args.self.now.view.now) c.args.self.now.from c.args.self.now.count c.args.self.now.low c.before-before.result c.args.i d c.args.r c.args.self.now.begins c.before-before.ensures.value c.if-i-before.true c.requires.router

pub returns : goal.returns
returns g c = λ d. target-after (g.V.LabelView.width c.args.self.now.view.now) (g.V.LabelView.rows c.args.self.now.view.now) c.args.self.now.from c.args.self.now.count c.args.self.now.low c.args.self.now.past c.before-before.result c.args.i d c.args.r c.args.self.now.inside c.args.self.now.begins c.args.self.now.ends c.before-before.ensures.value (omega (arith, c.if-i-before.false, c.if-i-before-2.false)) c.requires.place c.requires.router
