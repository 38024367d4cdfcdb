-- What a router does in rows side by side, read ahead of the changes that come there.
use Rattle.std.specs.Prelude.{ℕ, List, ◌≡◌, ◌+◌, ◌<◌, ◌≤◌, length, slice_index_or}
use Rattle.base.specs.Forwarding.{AreForwarding, target_of}
use Rattle.base.specs.declared.forwarding_row.ForwardingRow.{ForwardingRow}
use Rattle.base.specs.declared.ids.LinkId.{LinkId}
use Rattle.base.specs.declared.ids.RouterId.{RouterId}
use Rattle.base.specs.declared.run.Run.{Run}
use Rattle.base.specs.declared.target.Target.{Target}
use Rattle.base.specs.declared.target.Target.TheVariants.{To}
use Rattle.label_view.specs.Places.{AreRunsFrom}
use Rattle.loop_keeper.specs.Places.{IsReached}
use Rattle.loop_keeper.specs.declared.ahead.Ahead.{Ahead}
use Rattle.loop_keeper.specs.declared.in_turn.Reach.{Reach}

-- what was read ahead are the rows' runs and what the router does in them; where it is of no row, nothing is known
pub record IsAhead (width : ℕ) (rows : List ForwardingRow) (ahead : Ahead) : Type 0 where
  pub form : 0 < ahead.count → AreForwarding width rows
  pub room : ahead.count ≤ 16
  pub inside : 0 < ahead.count → ahead.from + ahead.count ≤ length rows
  pub runs : AreRunsFrom rows ahead.from ahead.count ahead.runs
  pub targets : (k : ℕ) (d : ForwardingRow) (e : Target) → k < ahead.count
      → slice_index_or ahead.targets k e ≡ target_of (slice_index_or rows (ahead.from + k) d) ahead.router

-- the last row that was followed does not begin above an address, and rows may have been read ahead
pub record IsReach (width : ℕ) (rows : List ForwardingRow) (reach : Reach) (a : ℕ) : Type 0 where
  pub reached : IsReached rows reach.past a
  pub ahead : IsAhead width rows reach.ahead

-- the row at a place of what was read ahead has all of a run
pub record HasAll (ahead : Ahead) (at : ℕ) (run : Run) : Type 0 where
  pub inside : at < ahead.count
  pub from : (d : Run) → (slice_index_or ahead.runs at d).lo ≤ run.lo
  pub to : (d : Run) → run.hi ≤ (slice_index_or ahead.runs at d).hi

-- a router goes on to nobody at the addresses of a run
abbrev pub EndsOn : (RouterId → ℕ → Target) → RouterId → Run → Type 0
EndsOn does r run = (a : ℕ) → run.lo ≤ a → a ≤ run.hi → (s : RouterId) (l : LinkId) → does r a ≡ To s l → ⊥
