use Rattle.std.proofs.Common.{ℕ, ◌<◌, ◌≤◌, length, slice_index_or, take}
use Rattle.base.specs.Forwarding.{does}
use Rattle.base.specs.declared.change.Change.{Change}
use Rattle.loop_keeper.specs.Ahead.{IsAhead}
use Rattle.loop_keeper.specs.Finding.{AllTellAfter, AllInside, FindLast, FindsMore}
use Rattle.loop_keeper.specs.Looks.{AreLookedAt, meets_some}
use Rattle.loop_keeper.specs.Places.{IsReached}
use Rattle.loop_keeper.proofs.in_turn.find_in_turn.Given as goal

-- the cycles of the changes so far are found, also those of the last row, which the next change may meet too
abbrev pub invariant-loop-change : goal.invariant-loop-change
invariant-loop-change g l = record {
  reach : (k : ℕ) (d : Change) → l.change-index ≤ k → k < length l.changes → IsReached (g.V.LabelView.rows l.view) l.reach.past (slice_index_or l.changes k d).run.lo;
  ahead : IsAhead (g.V.LabelView.width l.view) (g.V.LabelView.rows l.view) l.reach.ahead;
  found : AllTellAfter (does (g.V.LabelView.rows l.view)) l.changes → FindsMore (does (g.V.LabelView.rows l.view)) (take l.change-index l.changes) l.initial.search.found.items l.search.found.items;
  last : AllTellAfter (does (g.V.LabelView.rows l.view)) l.changes → (k : ℕ) (d : Change) → l.change-index ≤ k → k < length l.changes → FindLast (g.V.LabelView.rows l.view) l.search.found.items (slice_index_or l.changes k d).router l.reach.past;
  inside : AllInside l.initial.search.found.items → AllInside l.search.found.items;
  cost : AreLookedAt (g.V.LabelView.width l.view) (g.V.LabelView.rows l.view) (meets_some l.changes) 0 l.reach.past l.initial.steps l.steps;
}
