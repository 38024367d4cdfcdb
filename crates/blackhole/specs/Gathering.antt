-- What falls where, gathered from the rows before a place.
use Rattle.std.specs.Prelude.{ℕ, Bool, true, List, [], Option, ◌≡◌, ◌<◌, length, slice_index_or}
use Rattle.base.specs.Holes.{cause_rank, is_cause}
use Rattle.base.specs.Runs.{AreApart}
use Rattle.base.specs.declared.hole.Hole.{Hole}
use Rattle.base.specs.declared.forwarding_row.ForwardingRow.{ForwardingRow}
use Rattle.base.specs.declared.ids.RouterId.{RouterId}
use Rattle.base.specs.declared.target.Target.{Target}
use Rattle.label_view.specs.Places.{AreGatheredTo, IsInRows, begin_of}
use Rattle.blackhole.specs.Falls.{is_before, is_fall, is_same}
use Rattle.blackhole.specs.declared.fall.Fall.{Fall}

-- whether a fall comes before a router and a cause, and whether it is at them
abbrev pub is_fall_before : Fall → RouterId → Target → Bool
is_fall_before fall r t = is_before fall.router fall.cause r t

abbrev pub is_fall_at : Fall → RouterId → Target → Bool
is_fall_at fall r t = is_same fall.router fall.cause r t

-- the addresses of the rows before a place that fall there: there are some
pub record IsFall (fall : Fall) (rows : List ForwardingRow) (i : ℕ) (test : RouterId → Target → ℕ → Bool) : Type 0 where
  pub cause : is_cause fall.cause ≡ true
  pub runs : AreGatheredTo fall.runs rows i (test fall.router fall.cause)
  pub some : fall.runs.runs ≡ [] → ⊥

-- one of these is at a router by a cause
pub record HasFall (falls : List Fall) (r : RouterId) (t : Target) : Type 0 where
  pub at : ℕ
  pub inside : at < length falls
  pub router : (d : Fall) → (slice_index_or falls at d).router.0 ≡ r.0
  pub cause : (d : Fall) → cause_rank (slice_index_or falls at d).cause ≡ cause_rank t

-- falls by router, then cause, each once
pub record AreOrdered (falls : List Fall) : Type 0 where
  pub rise : (j k : ℕ) (d : Fall) → j < k → k < length falls →
      is_fall_before (slice_index_or falls j d) (slice_index_or falls k d).router (slice_index_or falls k d).cause ≡ true

-- all that falls in the rows before a place, by router and cause, each once
pub record AreFalls (falls : List Fall) (rows : List ForwardingRow) (i : ℕ) (test : RouterId → Target → ℕ → Bool) : Type 0 where
  pub order : AreOrdered falls
  pub each : (k : ℕ) (d : Fall) → k < length falls → IsFall (slice_index_or falls k d) rows i test
  pub all : (r : RouterId) (t : Target) (a : ℕ) → a < begin_of rows i → test r t a ≡ true → HasFall falls r t

-- an end tells where the addresses of the rows from a place up to, and without, another fall
abbrev pub TellsRows : List ForwardingRow → ℕ → ℕ → Option (RouterId × Target) → (RouterId → Target → ℕ → Bool) → Type 0
TellsRows rows i j end test = (r : RouterId) (t : Target) (a : ℕ) → IsInRows rows i j a → is_fall end r t ≡ test r t a

-- a hole is of the addresses that fall
pub record IsHoleOf (hole : Hole) (fall : Fall) : Type 0 where
  pub router : hole.router ≡ fall.router
  pub cause : hole.cause ≡ fall.cause
  pub runs : hole.runs ≡ fall.runs.runs
  pub apart : AreApart hole.runs

pub record AreHolesOf (holes : List Hole) (falls : List Fall) : Type 0 where
  pub as_many : length holes ≡ length falls
  pub each : (k : ℕ) (h : Hole) (d : Fall) → k < length falls →
      IsHoleOf (slice_index_or holes k h) (slice_index_or falls k d)
