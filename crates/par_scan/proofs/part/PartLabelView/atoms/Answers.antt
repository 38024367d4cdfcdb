use Rattle.par_scan.proofs.PartRows.{part-form}
use Rattle.par_scan.proofs.part.PartLabelView.atoms.Goals as goal

pub returns-clause-form : goal.returns-clause-form
returns-clause-form g c = part-form _ _ c.args.self.now.from c.args.self.now.count c.atoms-form.ensures.form
