use Rattle.std.proofs.Common.{◌≡◌, All, take}
use mathlib.Core.List.{IsPrefix}
use Rattle.fast_pins.specs.Known.{published}
use Rattle.feed_threads.proofs.reader_jobs.confirm_all.Given as goal

-- each reader so far was confirmed
abbrev pub invariant-loop-read : goal.invariant-loop-read
invariant-loop-read g l = record {
  same : l.publisher ≡ l.fn.publisher;
  begins : All (λ r. IsPrefix (published r.reader) (published l.fn.publisher)) (take l.read-index l.reads);
}
