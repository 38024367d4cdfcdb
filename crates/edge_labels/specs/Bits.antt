-- Sets of numbers as bits: number a is in a set where bit a is 1. The bits stand in chunks of 512, and each chunk in eight
-- words of 64, lowest first. Bits past the last chunk are 0.
use Rattle.std.specs.Prelude.{ℕ, Bool, List, length, count_by, replicate, slice_index, slice_index_or, ◌==◌, ◌-◌, ◌*◌, ◌/◌, ◌%◌, ◌&&◌, ◌||◌, not}
use Rattle.std.specs.Int.{bit_at}
use Rattle.std.specs.List.{filter, range_with_len}
use Rattle.edge_labels.specs.declared.chunk.Chunk.{Chunk}
use Rattle.edge_labels.specs.declared.chunk.Operation.{Operation}
use Rattle.edge_labels.specs.declared.chunk.Operation.TheVariants.{Union, Intersection, Difference}

-- a chunk without a bit that is 1
abbrev pub empty_chunk : Chunk
empty_chunk = record { words = replicate 8 0 }

-- whether a bit of a chunk is 1
unfoldable pub chunk_bit : Chunk → ℕ → Bool
chunk_bit c k = bit_at (slice_index c.words (k / 64)) (k % 64) == 1

-- whether a bit of chunks is 1
unfoldable pub has_bit : List Chunk → ℕ → Bool
has_bit chunks a = chunk_bit (slice_index_or chunks (a / 512) empty_chunk) (a % 512)

-- how many of the first numbers pass a test
unfoldable pub count_below : (ℕ → Bool) → ℕ → ℕ
count_below test n = count_by test (range_with_len 0 n)

-- the numbers, from a base on, of those of a chunk's first bits that are 1
unfoldable pub numbers_from : Chunk → ℕ → ℕ → List ℕ
numbers_from c base n = filter (λ a. chunk_bit c (a - base)) (range_with_len base n)

-- the numbers of the bits that are 1, in ascending order
unfoldable pub members : List Chunk → List ℕ
members chunks = filter (has_bit chunks) (range_with_len 0 (512 * length chunks))

-- whether a number is in what an operation makes of two sets, if it is in the first or not, and in the second or not
abbrev pub holds : Operation → Bool → Bool → Bool
holds Union x y = x || y
holds Intersection x y = x && y
holds Difference x y = x && not y
