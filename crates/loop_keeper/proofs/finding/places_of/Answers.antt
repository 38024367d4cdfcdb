use Rattle.std.proofs.Common.{arith}
use Rattle.loop_keeper.proofs.finding.places_of.Goals as goal

pub returns : goal.returns
returns g c = record {
  begins = c.row_near-first.ensures.inside;
  inside = c.row_from-last.ensures.inside;
  from = λ d. omega (arith, c.row_near-first.ensures.from d);
  to = c.row_near-first.ensures.to;
  low = c.row_from-last.ensures.from;
  past = c.row_from-last.ensures.to;
}

pub row_from-last-requires-clause-from : goal.row_from-last-requires-clause-from
row_from-last-requires-clause-from g c = λ d. omega (arith, c.row_near-first.ensures.from d, c.requires.ends)
