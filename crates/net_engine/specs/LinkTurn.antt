-- What is told where other links are down than before: router by router, from address to address.
use Rattle.std.specs.Prelude.{ℕ, Bool, false, List, None, length, slice_index_or, ◌≡◌, ◌+◌, ◌<◌, ◌≤◌, ◌^◌}
use Rattle.base.specs.Delta.{AreChanges, IsDelta, TellsChange, change_at}
use Rattle.base.specs.Forwarding.{does}
use Rattle.base.specs.Walk.{with_down}
use Rattle.base.specs.declared.change.Change.{Change}
use Rattle.base.specs.declared.forwarding_row.ForwardingRow.{ForwardingRow}
use Rattle.base.specs.declared.ids.LinkId.{LinkId}
use Rattle.base.specs.declared.ids.RouterId.{RouterId}
use Rattle.base.specs.declared.target.Target.{Target}
use Rattle.label_view.specs.Places.{IsInRows, begin_of}
use Rattle.net_engine.specs.declared.link_turn.Stretch.{Stretch}

-- It is told where what the routers before one do differs between two moments, and what that one does with the addresses
-- below `x`, and nothing else.
pub record IsToldTo (before after : RouterId → ℕ → Target) (changes : List Change) (r x : ℕ) : Type 0 where
  pub form : AreChanges changes
  pub earlier : (q : RouterId) (a : ℕ) → q.0 < r → a < 2 ^ 32
      → TellsChange (before q a) (after q a) (change_at changes q a)
  pub here : (q : RouterId) (a : ℕ) → q.0 ≡ r → a < x → TellsChange (before q a) (after q a) (change_at changes q a)
  pub ahead : (q : RouterId) (a : ℕ) → q.0 ≡ r → x ≤ a → change_at changes q a ≡ None
  pub later : (q : RouterId) (a : ℕ) → r < q.0 → change_at changes q a ≡ None

-- so it is told of rows, with these links down before, and those after
abbrev pub IsTurnTold : List LinkId → List LinkId → List ForwardingRow → List Change → ℕ → ℕ → Type 0
IsTurnTold before after rows changes r x =
    IsToldTo (with_down before (does rows)) (with_down after (does rows)) changes r x

-- and of all of them
abbrev pub IsTurnDelta : List LinkId → List LinkId → List ForwardingRow → List Change → Type 0
IsTurnDelta before after rows changes = IsDelta (with_down before (does rows)) (with_down after (does rows)) changes

-- a router that isn't marked shows the same with these links down as with those
abbrev pub AreMarked : List LinkId → List LinkId → List ForwardingRow → List Bool → Type 0
AreMarked before after rows marks = (r : RouterId) (a : ℕ) → slice_index_or marks r.0 false ≡ false
    → with_down before (does rows) r a ≡ with_down after (does rows) r a

-- a router does one and the same with the addresses of rows side by side
pub record IsStretch (rows : List ForwardingRow) (stretch : Stretch) : Type 0 where
  pub some : stretch.rows.from < stretch.rows.past
  pub inside : stretch.rows.past ≤ length rows
  pub lo : stretch.run.lo ≡ begin_of rows stretch.rows.from
  pub hi : stretch.run.hi + 1 ≡ begin_of rows stretch.rows.past
  pub same : (a : ℕ) → IsInRows rows stretch.rows.from stretch.rows.past a → does rows stretch.router a ≡ stretch.target
