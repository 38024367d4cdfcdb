use Rattle.std.proofs.Common.{List, ap, slice_index_or}
use Rattle.base.specs.declared.target.Target.{Target}
use Rattle.base.specs.declared.target.Target.TheVariants.{NoRoute}
use Rattle.loop_check.proofs.row.read_row.Goals as goal

pub returns-clause-row : goal.returns-clause-row
returns-clause-row g c = λ d r. ap (λ (ts : List Target). slice_index_or ts r.0 NoRoute) (c.row.ensures d)
