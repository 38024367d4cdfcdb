-- How much a run takes.
use Rattle.std.specs.Prelude.{ℕ}

-- at most so many bytes of a feed are looked at
abbrev pub feed_limit : ℕ
feed_limit = 1073741824

-- a history has at most so many entries: a position in it has 32 bits
abbrev pub history_limit : ℕ
history_limit = 4294967295

-- a run has at most so many jobs
abbrev pub most_jobs : ℕ
most_jobs = 64

-- a script has at most so many lines
abbrev pub most_lines : ℕ
most_lines = 65536

-- an input of at most so many updates is made
abbrev pub most_updates : ℕ
most_updates = 1000000
