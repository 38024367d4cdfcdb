use Rattle.par_scan.proofs.PartRows.{ends-at, few-between, shows-part}
use Rattle.par_scan.proofs.part.Part.new.Goals as goal

pub invariant_of-result-clause-few : goal.invariant_of-result-clause-few
invariant_of-result-clause-few g c = few-between (g.V.LabelView.rows c.args.view.now) c.args.from c.args.to c.atoms-form.ensures.form.cover c.requires.order c.requires.inside

pub invariant_of-result-clause-ends : goal.invariant_of-result-clause-ends
invariant_of-result-clause-ends g c = ends-at (g.V.LabelView.rows c.args.view.now) c.args.from c.args.to c.begin_at-past.result c.requires.order c.begin_at-past.ensures

pub returns-clause-shows : goal.returns-clause-shows
returns-clause-shows g c = shows-part _ (g.V.LabelView.rows c.args.view.now) c.args.from c.args.to c.atoms-form.ensures.form c.requires.order
