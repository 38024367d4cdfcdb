use Rattle.route_table.proofs.SharedBits.{apart}
use Rattle.route_table.proofs.lengths.shared_bits.Goals as goal

pub returns-clause-apart : goal.returns-clause-apart
returns-clause-apart c = λ k more most. apart c.args.a c.args.other k c.ranges.a.fits c.ranges.other.fits more most
