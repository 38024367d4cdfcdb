-- How rows of codes stand in chunks of eight, in order: each atom's row has so many whole chunks that each router has a place.
-- What stands behind the last router's code means nothing.
use Rattle.std.specs.Prelude.{ℕ, List, length, map, replicate, slice_index, slice_index_or, take, drop, ◌++◌, ◌≡◌, ◌+◌, ◌*◌, ◌/◌, ◌%◌, ◌<◌, ◌==◌, if◌then◌else◌}
use Rattle.std.specs.List.{range_with_len}
use Rattle.base.specs.declared.target.Target.{Target}
use Rattle.target_rows.specs.declared.code_chunk.CodeChunk.{CodeChunk}
use Rattle.target_rows.specs.declared.codes.Edge.{Edge}
use Rattle.target_rows.specs.Codes.{edge_at}
use Rattle.target_rows.specs.Labels.{Labels}
use Rattle.target_rows.specs.Rows.{AreRows, labels_of}

-- a chunk whose codes are all 0
abbrev pub no_codes : CodeChunk
no_codes = record { codes = replicate 8 0 }

-- the code at a place of a chunk
abbrev pub lane_at : List CodeChunk → ℕ → ℕ → ℕ
lane_at chunks i lane = slice_index (slice_index_or chunks i no_codes).codes lane

-- what the code at a place stands for
abbrev pub meant_at : List Edge → List CodeChunk → ℕ → ℕ → Target
meant_at edges chunks i lane = (edge_at edges (lane_at chunks i lane)).target

-- how many chunks a row has
abbrev pub stride_of : ℕ → ℕ
stride_of routers = (routers + 7) / 8

-- the code of a router at an atom
abbrev pub code_in : ℕ → List CodeChunk → ℕ → ℕ → ℕ
code_in routers chunks a r = lane_at chunks (a * stride_of routers + r / 8) (r % 8)

-- the codes of all routers at all atoms, atom by atom, and nothing between them
unfoldable pub codes_in : ℕ → ℕ → List CodeChunk → List ℕ
codes_in routers atoms chunks =
    map (λ k. code_in routers chunks (k / routers) (k % routers)) (range_with_len 0 (atoms * routers))

-- the labels that so many rows of chunks stand for
abbrev pub labels_in : ℕ → ℕ → List CodeChunk → List Edge → Labels
labels_in routers atoms chunks edges = labels_of routers atoms (codes_in routers atoms chunks) edges

-- the rows are whole, each code in them is one of the row's router, and no other router has a code
pub record AreChunkRows (routers atoms : ℕ) (chunks : List CodeChunk) (edges : List Edge) : Type 0 where
  pub long : length chunks ≡ atoms * stride_of routers
  pub rows : AreRows routers atoms (codes_in routers atoms chunks) edges

-- one code is written, and all else stays
pub record IsWritten (old new : List CodeChunk) (i lane code : ℕ) : Type 0 where
  pub long : length new ≡ length old
  pub here : lane_at new i lane ≡ code
  pub others : (j k : ℕ) → (j ≡ i → k ≡ lane → ⊥) → lane_at new j k ≡ lane_at old j k

-- one code is written at so many chunks, each so much further on than the one before, and all else stays
pub record AreWritten (old new : List CodeChunk) (from stride lane count code : ℕ) : Type 0 where
  pub long : length new ≡ length old
  pub inside : (k : ℕ) → k < count → from + k * stride < length old
  pub here : (k : ℕ) → k < count → lane_at new (from + k * stride) lane ≡ code
  pub others : (j m : ℕ) → ((k : ℕ) → k < count → j ≡ from + k * stride → m ≡ lane → ⊥) → lane_at new j m ≡ lane_at old j m

-- a router has this code at so many atoms that stand side by side, and all else stays
abbrev pub IsColumnWritten : ℕ → ℕ → ℕ → List CodeChunk → List CodeChunk → ℕ → ℕ → Type 0
IsColumnWritten routers r first old new count code =
    AreWritten old new (first * stride_of routers + r / 8) (stride_of routers) (r % 8) count code

-- at how many of so many places a code is put, where at the first of them another one or the same stands before
abbrev pub turned_count : ℕ → ℕ → ℕ → ℕ
turned_count before code count = if before == code then 0 else count

-- so many chunks from a place on, once more before the one that stands at another place
abbrev pub repeated : List CodeChunk → ℕ → ℕ → ℕ → List CodeChunk
repeated chunks from count next = take next chunks ++ take count (drop from chunks) ++ drop next chunks

-- the first of some codes stand in a row of chunks
pub record AreLaid (codes : List ℕ) (chunks : List CodeChunk) (count so_far : ℕ) : Type 0 where
  pub long : length chunks ≡ stride_of count
  pub each : (r : ℕ) → r < so_far → lane_at chunks (r / 8) (r % 8) ≡ slice_index codes r
