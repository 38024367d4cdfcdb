use Rattle.std.proofs.Common.{arith}
use Rattle.par_scan.proofs.PartRows.{column-between, one-idle, target-after, target-before}
use Rattle.par_scan.proofs.part.PartLabelView.column.Goals as goal

pub returns-then-i-before-clause-targets : goal.returns-then-i-before-clause-targets
returns-then-i-before-clause-targets g c = one-idle _ c.args.i c.args.r c.args.out.now c.requires.room
    (λ d. target-before (g.V.LabelView.width c.args.self.now.view.now) (g.V.LabelView.rows c.args.self.now.view.now) c.args.self.now.from c.args.self.now.count c.args.self.now.low c.before-before.result c.args.i d c.args.r c.args.self.now.begins c.before-before.ensures.value c.if-i-before.true c.requires.router)

pub returns-then-i-before-2-clause-targets : goal.returns-then-i-before-2-clause-targets
returns-then-i-before-2-clause-targets g c = column-between (g.V.LabelView.width c.args.self.now.view.now) (g.V.LabelView.rows c.args.self.now.view.now) c.args.self.now.from c.args.self.now.count c.args.self.now.low c.before-before.result c.args.i c.column-read.result c.min.result c.args.r c.column-read.new.out c.args.self.now.inside c.args.self.now.begins c.before-before.ensures.value (omega (arith, c.if-i-before.false)) c.if-i-before-2.true c.min.ensures c.column-read.ensures.targets

pub returns-clause-targets : goal.returns-clause-targets
returns-clause-targets g c = one-idle _ c.args.i c.args.r c.args.out.now c.requires.room
    (λ d. target-after (g.V.LabelView.width c.args.self.now.view.now) (g.V.LabelView.rows c.args.self.now.view.now) c.args.self.now.from c.args.self.now.count c.args.self.now.low c.args.self.now.past c.before-before.result c.args.i d c.args.r c.args.self.now.inside c.args.self.now.begins c.args.self.now.ends c.before-before.ensures.value (omega (arith, c.if-i-before.false, c.if-i-before-2.false)) c.requires.place c.requires.router)
