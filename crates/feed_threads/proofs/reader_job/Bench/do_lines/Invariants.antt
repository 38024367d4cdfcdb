use Rattle.std.proofs.Common.{take}
use Rattle.fast_pins.specs.Known.{published}
use Rattle.feed_threads.specs.Reads.{PinsOn, TellsRead}
use Rattle.feed_threads.proofs.reader_job.Bench.do_lines.Given as goal

-- the lines so far were asked
abbrev pub invariant-loop-line : goal.invariant-loop-line
invariant-loop-line g l = record {
  pins : PinsOn l.fn.reader l.reader;
  told : TellsRead l.self (published l.fn.reader) (published l.reader) (take l.line-index l.lines) l.told;
}
