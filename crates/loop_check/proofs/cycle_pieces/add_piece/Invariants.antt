use Rattle.std.proofs.Common.{◌≤◌, ℕ}
use Rattle.base.specs.declared.ids.RouterId.{RouterId}
use Rattle.base.specs.declared.target.Target.{Target}
use Rattle.loop_check.specs.CyclesByRange.{AreCyclesWithin}
use Rattle.loop_check.specs.Shares.{AreShares}
use Rattle.loop_check.proofs.ShareParts.{AreSharesTo}
use Rattle.loop_check.proofs.cycle_pieces.add_piece.Given as goal

-- those so far are added
abbrev pub invariant-loop-i : goal.invariant-loop-i
invariant-loop-i l = (does : RouterId → ℕ → Target) (low past : ℕ) → low ≤ past → AreCyclesWithin low past does l.piece → AreShares low does l.initial.known.entries → AreSharesTo low past does l.piece l.i l.known.entries
