use Rattle.std.proofs.Common.{ℕ, ◌<◌, length, sym, ap, ◌∙◌, subst}
use Rattle.std.specs.Prelude.{Option, OnOk}
use Rattle.atomic_table.specs.Table.{Me}
use Rattle.atomic_table.specs.declared.badge.Badge.{Badge}
use Rattle.version_lock.specs.declared.book.Basis.{Basis}
use Rattle.version_lock.specs.declared.view.View.{View}
use Rattle.version_lock.specs.Callers.{Lock}
use Rattle.version_lock.proofs.SeatsKept.{seat_after, seen_after, applied_after}
use Rattle.version_lock.proofs.lock.VersionLock.apply.Goals as goal

pub invariant_of-seat : goal.invariant_of-seat
invariant_of-seat g c =
    let had = sym (ap (λ (b : Badge View). b.views) c.replace.ensures.value) ∙ c.into_seat-token.ensures.2 in
    let freed = c.post_in-answer.ensures.freed in
    seat_after c.seat.inside c.into_badge.result _ _ _ _ c.seat.invariant had (ap (λ (m : Me (Option g.row.B.Denot) View). m.0) c.take_book-book.ensures.holds)
    freed.2 freed.0 c.into_badge.ensures.2

pub returns-clause-seen : goal.returns-clause-seen
returns-clause-seen g c =
    let had = sym (ap (λ (b : Badge View). b.views) c.replace.ensures.value) ∙ c.into_seat-token.ensures.2 in
    seen_after c.seat.inside c.args.seat.now c.into_badge.result _ _ _ _ c.seat.view_is had
    (ap (λ (m : Me (Option g.row.B.Denot) View). m.0) c.take_book-book.ensures.holds) c.take_book-book.ensures.seen c.post_in-answer.ensures.seen c.into_badge.ensures.2

pub returns-clause-ok : goal.returns-clause-ok
returns-clause-ok g c =
    let had = sym (ap (λ (b : Badge View). b.views) c.replace.ensures.value) ∙ c.into_seat-token.ensures.2 in
    let post = c.post_in-answer.ensures in
    let limit = ap (λ (b : Basis). b.limit) (c.take_book-book.ensures.basis ∙ ap (λ (l : Lock). l.setup.basis) c.self.view_is) in
    applied_after c.seat.inside c.args.seat.now c.into_badge.result _ _ c.post_in-answer.new.token.me _ c.post_in-answer.result c.args.entry.now _ c.seat.invariant c.seat.view_is had
    (ap (λ (m : Me (Option g.row.B.Denot) View). m.0) c.take_book-book.ensures.holds) c.take_book-book.ensures.seen c.take_book-book.ensures.own post.ok post.number
    (subst (λ (k : ℕ). OnOk c.post_in-answer.result (length c.take_book-book.new.token.me.0.seen < k)) limit post.room) c.into_badge.ensures.2
