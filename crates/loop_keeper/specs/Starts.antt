-- Where following a row begins: at a router of which it is said what it does there.
use Rattle.std.specs.Prelude.{ℕ, List, ◌≡◌, ◌<◌, slice_index_or}
use Rattle.base.specs.Forwarding.{target_of}
use Rattle.base.specs.declared.change.Change.{Change}
use Rattle.base.specs.declared.forwarding_row.ForwardingRow.{ForwardingRow}
use Rattle.base.specs.declared.ids.LinkId.{LinkId}
use Rattle.base.specs.declared.ids.RouterId.{RouterId}
use Rattle.base.specs.declared.target.Target.TheVariants.{To}
use Rattle.loop_keeper.specs.declared.following.Start.{Start}

-- one of so many routers, which goes on to one of them, if to any
pub record IsStartOf (routers : ℕ) (start : Start) : Type 0 where
  pub router : start.router.0 < routers
  pub within : (s : RouterId) (l : LinkId) → start.target ≡ To s l → s.0 < routers

-- in the row at a place the router does what is said
abbrev pub DoesSo : List ForwardingRow → Start → ℕ → Type 0
DoesSo rows start i = (d : ForwardingRow) → target_of (slice_index_or rows i d) start.router ≡ start.target

-- the router of a change, and what it does after it
abbrev pub start_of : Change → Start
start_of c = record { router = c.router; target = c.after }
