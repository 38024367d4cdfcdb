use Rattle.std.proofs.Common.{length, ap, arith}
use Rattle.dn_run.proofs.DealtLemmas.{given-tags, no-others}
use Rattle.dn_run.proofs.jobs.give_back_jobs.Goals as goal

pub give_back-requires-clause-room : goal.give_back-requires-clause-room
give_back-requires-clause-room g c κs within =
    let same = ap length (no-others g.S.Source.place c.args.list c.into_jobs.result.items c.new.result.items c.new-2.result.items c.into_jobs.ensures c.new.ensures.items c.new-2.ensures.items) in omega (arith, same)

pub returns : goal.returns
returns g c = record {
  tags =
      given-tags g.S.Source.place c.args.list c.into_jobs.result.items c.new.result.items c.new-2.result.items c.give_back.result.items
      c.into_jobs.ensures c.new.ensures.items c.new-2.ensures.items c.give_back.ensures;
}
