-- Codes in two halves of 16 bits, in two lists of chunks: the lower halves, and the upper halves, or nothing where these are 0.
use Rattle.std.specs.Prelude.{List, [], ◌∷◌, length, map, slice_index, ◌≡◌, ◌+◌, ◌*◌, ◌<◌}
use Rattle.std.specs.List.{range_with_len}
use Rattle.target_rows.specs.declared.code_chunk.CodeChunk.{CodeChunk}
use Rattle.target_rows.specs.ChunkRows.{no_codes}

-- eight codes of their halves
unfoldable pub joined : CodeChunk → CodeChunk → CodeChunk
joined low high = record { codes = map (λ lane. slice_index low.codes lane + 65536 * slice_index high.codes lane) (range_with_len 0 8) }

-- the codes of all chunks; where there is none of upper halves, these are 0
abbrev pub side_by_side : List CodeChunk → List CodeChunk → List CodeChunk
side_by_side [] highs = []
side_by_side (low ∷ lows) [] = joined low no_codes ∷ side_by_side lows []
side_by_side (low ∷ lows) (high ∷ highs) = joined low high ∷ side_by_side lows highs

-- there is no chunk of upper halves, or one for each chunk of lower ones
pub record AreHalves (lows highs : List CodeChunk) : Type 0 where
  pub long : 0 < length highs → length highs ≡ length lows
