use Rattle.std.proofs.Common.{List, length}
use Rattle.loop_keeper.specs.Edits.{ArePutIn}
use Rattle.loop_keeper.specs.Finding.{AllInside}
use Rattle.loop_keeper.specs.Kept.{AreSegments, Kept}
use Rattle.loop_keeper.proofs.editing.put_all_in.Given as goal

-- those that are left, put in, make all
abbrev pub invariant-putting : goal.invariant-putting
invariant-putting l = record {
  inside : AllInside l.left.items;
  whole : (new : List Kept) → (AreSegments l.segments → ArePutIn l.left.items l.segments new) → AreSegments l.initial.segments → ArePutIn l.fn.found.items l.initial.segments new;
}

abbrev pub decreases-putting : goal.decreases-putting
decreases-putting l = length l.left.items
