use Rattle.std.proofs.Common.{sym, ap, ◌∙◌}
use Rattle.std.specs.Prelude.{Option}
use Rattle.atomic_table.specs.Table.{Me}
use Rattle.atomic_table.specs.declared.badge.Badge.{Badge}
use Rattle.version_lock.specs.declared.view.View.{View}
use Rattle.version_lock.proofs.SeatsKept.{seat_after}
use Rattle.version_lock.proofs.lock.VersionLock.pin.Goals as goal

pub invariant_of-seat : goal.invariant_of-seat
invariant_of-seat g c =
    let had = sym (ap (λ (b : Badge View). b.views) c.replace.ensures.value) ∙ c.into_seat-token.ensures.2 in
    let freed = c.snap_in-snap.ensures.freed in
    seat_after c.seat.inside c.into_badge.result _ _ _ _ c.seat.invariant had (ap (λ (m : Me (Option g.row.B.Denot) View). m.0) c.take_book-book.ensures.holds)
    freed.2 freed.0 c.into_badge.ensures.2

pub invariant_of-seat-2 : goal.invariant_of-seat-2
invariant_of-seat-2 g c =
    let had = sym (ap (λ (b : Badge View). b.views) c.replace.ensures.value) ∙ c.into_seat-token.ensures.2 in
    let freed = c.snap_in-snap.ensures.freed in
    seat_after c.seat.inside c.into_badge.result _ _ _ _ c.seat.invariant had (ap (λ (m : Me (Option g.row.B.Denot) View). m.0) c.take_book-book.ensures.holds)
    freed.2 freed.0 c.into_badge.ensures.2
