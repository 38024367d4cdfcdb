use Rattle.std.proofs.Common.{sym, ap, ◌∙◌}
use Rattle.std.specs.Prelude.{Option}
use Rattle.atomic_table.specs.Table.{Me}
use Rattle.atomic_table.specs.declared.badge.Badge.{Badge}
use Rattle.version_lock.specs.declared.view.View.{View}
use Rattle.version_lock.proofs.SeatsKept.{seat_joined}
use Rattle.version_lock.proofs.lock.VersionLock.meet.Goals as goal

pub invariant_of-seat : goal.invariant_of-seat
invariant_of-seat g c =
    let had = sym (ap (λ (b : Badge View). b.views) c.replace.ensures.value) ∙ c.into_seat-token.ensures.2 in
    seat_joined c.seat.inside c.into_badge.result _ c.into_seat-told.result.me.0 _ c.seat.invariant had c.into_badge.ensures.2 (ap (λ (m : Me (Option g.row.B.Denot) View). m.0) c.take_in.ensures.both)
