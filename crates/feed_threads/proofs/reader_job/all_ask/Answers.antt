use Rattle.std.proofs.Common.{rules, ◌≡◌, ◌+◌, ◌++◌, ◌∷◌, [], All, take, take_all, arith, subst}
use Rattle.std.proofs.lemmas.Grind.{common_steps}
use Rattle.feed_threads.specs.Reads.{IsAsk}
use Rattle.feed_threads.proofs.ReadLemmas.{asks-more}
use Rattle.feed_threads.proofs.reader_job.all_ask.Goals as goal

pub loop-line-preserved : goal.loop-line-preserved
loop-line-preserved c =
    let more : take (c.loop-line.line-index + 1) c.args.lines.now ≡ take c.loop-line.line-index c.args.lines.now ++ c.line-item.result ∷ [] = first_of (search rules, grind (arith, common_steps)) in
    asks-more _ _ _ _ _ more c.in-Ask.is c.loop-line.invariant

pub returns : goal.returns
returns c = λ e. subst (All IsAsk) (take_all c.loop-line.line-index c.args.lines.now c.loop-line-test.false) c.loop-line.invariant
