-- What contracts see of the real ends. Of bytes they see what std says of the reader or the writer: of a file of the
-- system, and of standard output, that is nothing.
use Rattle.std.specs.Prelude.{ℕ}

-- a source: what it reads, its place in the world's calls, and how many of its reads have failed
pub record SourceView (F : Type 0) : Type 0 where
  pub reader : F
  pub place : ℕ
  pub faults : ℕ

-- a sink: what it writes to, and how many of its writes have failed
pub record SinkView (W : Type 0) : Type 0 where
  pub writer : W
  pub faults : ℕ
