use Rattle.std.proofs.Common.{◌≡◌, ◌∙◌, ◌+◌, ◌++◌, ◌∷◌, [], take, ap, rules, arith}
use Rattle.std.proofs.lemmas.Grind.{common_steps}
use Rattle.std.proofs.lemmas.Result.{err_from_is_err_and}
use Rattle.version_store.specs.Events.{posts}
use Rattle.version_store.specs.Kept.{Ledger}
use Rattle.version_store.proofs.Playing.{history-more, ledger-more, ledger-same, pins-more, refused-at}
use Rattle.version_store.proofs.store.Store.play.Goals as goal

pub returns-in_err-play_one-clause-refused : goal.returns-in_err-play_one-clause-refused
returns-in_err-play_one-clause-refused c =
    let p = err_from_is_err_and c.from_residual.result c.from_residual.ensures.1 in
    rw (p.1, p.2)
    (refused-at c.args.self.now c.loop-event.self c.play_one.new.store c.args.seat c.args.events.now c.loop-event.event-index c.event-item.result c.in_err-play_one.field-0.0
    c.loop-event-test.true c.event-item.is c.loop-event.invariant.now
    (ledger-same c.loop-event.self c.play_one.new.store c.in_err-play_one.ensures.basis c.in_err-play_one.ensures.same)
    c.in_err-play_one.ensures.refused)

pub loop-event-preserved : goal.loop-event-preserved
loop-event-preserved c =
    let old = c.args.self.now in
    let now = c.loop-event.invariant.now in
    let front = take c.loop-event.event-index c.args.events.now in
    let next = take (c.loop-event.event-index + 1) c.args.events.now in
    let longer : take (c.loop-event.event-index + 1) c.args.events.now ≡ take c.loop-event.event-index c.args.events.now ++ c.event-item.result ∷ [] = first_of (search rules, grind (arith, common_steps)) in
    record {
      now = ledger-more old c.play_one.new.store (posts c.args.seat next)
          (c.in_ok-play_one.ensures.basis ∙ ap (λ (s : Ledger). s.basis) now)
          (history-more old.history c.loop-event.self.history c.play_one.new.store.history c.args.seat front next c.event-item.result longer
          (ap (λ (s : Ledger). s.history) now) c.in_ok-play_one.ensures.history);
      few = c.in_ok-play_one.ensures.few;
      pinned = pins-more old c.loop-event.self c.args.seat front next c.event-item.result c.loop-event.snapshots.items c.play_one.new.snapshots.items longer
          now c.loop-event.invariant.pinned c.in_ok-play_one.ensures.pins;
    }
