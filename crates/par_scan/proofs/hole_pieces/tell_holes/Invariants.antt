use Rattle.std.proofs.Common.{ℕ}
use Rattle.base.specs.HolesFrom.{AreSomeHoles}
use Rattle.base.specs.declared.ids.RouterId.{RouterId}
use Rattle.base.specs.declared.target.Target.{Target}
use Rattle.par_scan.specs.HolesByRange.{AreHolePieces, AreHolesWithin}
use Rattle.par_scan.proofs.HoleParts.{AreToldTo}
use Rattle.par_scan.proofs.hole_pieces.tell_holes.Given as goal

-- those so far are told
abbrev pub invariant-loop-i : goal.invariant-loop-i
invariant-loop-i l = (n : ℕ) (does : RouterId → ℕ → Target) (first : RouterId) (low past : ℕ) → AreHolePieces n does first l.pieces → AreHolesWithin low past n does first l.piece → AreSomeHoles n does first l.initial.holes.items → AreToldTo n does first l.piece l.i l.initial.holes.items l.holes.items
