use Rattle.std.proofs.Common.{All, take}
use Rattle.feed_threads.specs.Reads.{IsAsk}
use Rattle.feed_threads.proofs.reader_job.all_ask.Given as goal

-- the lines so far ask
abbrev pub invariant-loop-line : goal.invariant-loop-line
invariant-loop-line l = All IsAsk (take l.line-index l.lines)
