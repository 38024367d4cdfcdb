use Rattle.std.proofs.Common.{◌+◌, ◌*◌, ◌<◌, arith}
use Rattle.edge_labels.proofs.RowLemmas.{from-fits}
use Rattle.edge_labels.proofs.code_rows.row_of.Goals as goal

pub overflow_mul-result : goal.overflow_mul-result
overflow_mul-result c = record { fits = (let all : c.args.atom.0 * c.args.routers + c.args.routers < 18446744073709551616 = from-fits c.args.atom.0 c.args.routers (omega arith) (omega arith) in omega arith) }

pub returns-clause-fits : goal.returns-clause-fits
returns-clause-fits c = from-fits c.args.atom.0 c.args.routers (omega arith) (omega arith)
