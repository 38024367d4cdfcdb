use Rattle.std.proofs.Common.{ℕ, ◌<◌, ◌≤◌, length, slice_index_or}
use Rattle.base.specs.Forwarding.{does}
use Rattle.loop_keeper.specs.Finding.{AllInside, AllTellAfter}
use Rattle.loop_keeper.specs.Looks.{AreLookedAt, meets_some}
use Rattle.loop_keeper.specs.Together.{AreInOrder, ArePassed, AreStretches, IsFront}
use Rattle.loop_keeper.specs.declared.stretch.Stretch.{Stretch}
use Rattle.loop_keeper.proofs.together.find_together.Given as goal

-- the rows before the front were looked at, and the front has what is left of the stretches so far
abbrev pub invariant-loop-stretch : goal.invariant-loop-stretch
invariant-loop-stretch g l = record {
  are : AreStretches (g.V.LabelView.width l.view) (g.V.LabelView.rows l.view) l.changes l.stretch-items;
  order : AreInOrder l.stretch-items;
  front : IsFront (g.V.LabelView.width l.view) (g.V.LabelView.rows l.view) l.changes l.front;
  rise : (k : ℕ) (d : Stretch) → l.stretch-index ≤ k → k < length l.stretch-items → l.front.place ≤ (slice_index_or l.stretch-items k d).first;
  passed : AllTellAfter (does (g.V.LabelView.rows l.view)) l.changes → ArePassed (g.V.LabelView.rows l.view) l.stretch-items l.stretch-index l.front l.initial.search.found.items l.search.found.items;
  inside : AllInside l.initial.search.found.items → AllInside l.search.found.items;
  cost : AreLookedAt (g.V.LabelView.width l.view) (g.V.LabelView.rows l.view) (meets_some l.changes) 0 l.front.place l.initial.steps l.steps;
}
