-- The addresses between boundaries: intervals in order, which cover all addresses, and how one is cut in two
-- (Delta-net, NSDI 2017). No interval has a number here.
use Rattle.std.specs.Prelude.{ℕ, Bool, true, false, List, [], ◌∷◌, length, ◌≡◌, ◌+◌, ◌<◌, ◌≤◌, ◌^◌, ◌==◌, slice_index_or, if◌then◌else◌}
use Rattle.std.specs.List.{list_any}
use Rattle.base.specs.Rows.{is_within, CoverFrom}
use Rattle.base.specs.declared.run.Run.{Run}

-- the addresses from `low` up to, and without, `past`
pub record Span : Type 0 where
  pub low : ℕ
  pub past : ℕ

abbrev pub span_low : Span → ℕ
span_low s = s.low

abbrev pub span_past : Span → ℕ
span_past s = s.past

-- spans in order, which cover the addresses from 0 to 2^32 once
pub record AreSpans (spans : List Span) : Type 0 where
  pub cover : CoverFrom span_low span_past 0 spans

-- where the next one begins, or all addresses end
abbrev pub next_low : List ℕ → ℕ
next_low [] = 2 ^ 32
next_low (low ∷ lows) = low

-- the spans that begin at some addresses: each ends where the next one begins, and the last with all addresses
abbrev pub spans_of : List ℕ → List Span
spans_of [] = []
spans_of (low ∷ lows) = record { low = low; past = next_low lows } ∷ spans_of lows

-- one span, of all addresses
abbrev pub one_span : List Span
one_span = record { low = 0; past = 2 ^ 32 } ∷ []

-- whether a span has an address
abbrev pub has_address : ℕ → Span → Bool
has_address a s = is_within s.low s.past a

-- whether one begins at an address
abbrev pub is_boundary : List Span → ℕ → Bool
is_boundary spans at = list_any (λ s. s.low == at) spans

-- a span's part below an address, and that from there on
abbrev pub lower_part : ℕ → Span → Span
lower_part at s = record { low = s.low; past = at }

abbrev pub upper_part : ℕ → Span → Span
upper_part at s = record { low = at; past = s.past }

-- the spans, where the one that has an address is cut in two there
abbrev pub cut_spans : List Span → ℕ → List Span
cut_spans [] at = []
cut_spans (s ∷ ss) at = if has_address at s then lower_part at s ∷ upper_part at s ∷ ss else s ∷ cut_spans ss at

-- what a cut at an address makes of the spans, and whether it cuts one: none where one begins there
abbrev pub IsCut : List Span → List Span → ℕ → Bool → Type 0
IsCut old new at false = (is_boundary old at ≡ true) × (new ≡ old)
IsCut old new at true = (is_boundary old at ≡ false) × (new ≡ cut_spans old at)

-- the span of an address `a` stands at this place
pub record IsSpanPlace (spans : List Span) (place a : ℕ) : Type 0 where
  pub inside : place < length spans
  pub from : (d : Span) → (slice_index_or spans place d).low ≤ a
  pub to : (d : Span) → a < (slice_index_or spans place d).past

-- and begins at this address
pub record IsSpanAt (spans : List Span) (place a low : ℕ) : Type 0 where
  pub inside : place < length spans
  pub is : (d : Span) → low ≡ (slice_index_or spans place d).low
  pub from : low ≤ a
  pub to : (d : Span) → a < (slice_index_or spans place d).past

-- these are the runs of addresses of so many spans side by side, from the one at a place on
abbrev pub AreRunsOf : List Span → ℕ → ℕ → List Run → Type 0
AreRunsOf spans from count runs = (k : ℕ) (d : Run) (s : Span) → k < count
    → ((slice_index_or runs k d).lo ≡ (slice_index_or spans (from + k) s).low)
    × ((slice_index_or runs k d).hi + 1 ≡ (slice_index_or spans (from + k) s).past)

-- so they are, as addresses follow one another in a page: each ends where the next begins
abbrev pub AreRunsIn : List ℕ → ℕ → List Run → Type 0
AreRunsIn page count runs = (k : ℕ) (d : Run) (e : ℕ) → k < count
    → ((slice_index_or runs k d).lo ≡ slice_index_or page k e)
    × ((slice_index_or runs k d).hi + 1 ≡ slice_index_or page (k + 1) e)

-- addresses ascend
abbrev pub DoRise : List ℕ → Type 0
DoRise page = (k : ℕ) (e : ℕ) → k + 1 < length page → slice_index_or page k e < slice_index_or page (k + 1) e

-- Of some addresses that ascend, which begin so many spans, this is the last one that isn't above an address `a`: what
-- follows it is, where there is something.
pub record IsLastBegun (page : List ℕ) (left place a : ℕ) : Type 0 where
  pub inside : place < length page
  pub from : (d : ℕ) → slice_index_or page place d ≤ a
  pub seen : place + 1 < left → place + 1 < length page
  pub next : (d : ℕ) → place + 1 < left → a < slice_index_or page (place + 1) d
