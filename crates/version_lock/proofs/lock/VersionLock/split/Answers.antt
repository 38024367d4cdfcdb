use Rattle.std.proofs.Common.{ℕ, ◌<◌, sym, ap, ◌∙◌, subst}
use Rattle.std.specs.Prelude.{Option}
use Rattle.atomic_table.specs.Table.{Me}
use Rattle.atomic_table.specs.declared.badge.Badge.{Badge}
use Rattle.version_lock.specs.declared.view.View.{View}
use Rattle.version_lock.specs.Callers.{Caller}
use Rattle.version_lock.proofs.SeatsKept.{seat_lower}
use Rattle.version_lock.proofs.lock.VersionLock.split.Goals as goal

pub invariant_of-seat : goal.invariant_of-seat
invariant_of-seat g c =
    let had = sym (ap (λ (b : Badge View). b.views) c.replace.ensures.value) ∙ c.into_seat-token.ensures.2 in
    seat_lower c.seat.inside c.into_badge.result _ _ c.args.count c.seat.invariant had c.into_badge.ensures.2 (ap (λ (m : Me (Option g.row.B.Denot) View). m.0) c.give-given.ensures.left)
    (subst (λ (k : ℕ). c.args.count < k) (sym (c.seat.invariant.span_is ∙ ap (λ (s : Caller). s.span) c.seat.view_is)) c.requires.fewer)
