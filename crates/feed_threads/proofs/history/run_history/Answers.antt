use denote.Param.Send.{sendable}
use Rattle.std.proofs.Common.{◌≡◌, ◌≤◌, ◌∙◌, ap, arith, length, refl, subst, sym}
use Rattle.std.proofs.Crossing.{crosses}
use Rattle.version_store.proofs.Crossing.{Store-send}
use Rattle.version_lock.specs.Callers.{Caller, IsSeatOf}
use Rattle.version_lock.specs.declared.view.Setup.{Setup}
use Rattle.feed_threads.proofs.AllLemmas.{jobs-ready}
use Rattle.feed_threads.proofs.LawLemmas.{has-all, ran-with}
use Rattle.feed_threads.proofs.history.run_history.Goals as goal

pub new-requires-send-B : goal.new-requires-send-B
new-requires-send-B g c κs = search (Store-send, sendable, crosses) depth 40

pub close-store-requires-send-B : goal.close-store-requires-send-B
close-store-requires-send-B g c κs = search (Store-send, sendable, crosses) depth 40

pub run_jobs-seat-requires-clause-jobs : goal.run_jobs-seat-requires-clause-jobs
run_jobs-seat-requires-clause-jobs g c κs within =
    let at : IsSeatOf c.in-Ok.lock c.in-Ok.seat = subst (λ (s : Caller). IsSeatOf c.in-Ok.lock s) (sym c.in-Ok.ensures.seat) (refl, refl) in
    let span : c.in-Ok.seat.span ≡ c.numbers_for-numbers.result = ap (λ (s : Caller). s.span) c.in-Ok.ensures.seat ∙ ap (λ (s : Setup). s.seats) c.in-Ok.ensures.setup in
    let enough : length c.args.jobs ≤ c.in-Ok.seat.span = omega (arith, span, c.numbers_for-numbers.ensures.enough) in
    jobs-ready c.new-site.result c.in-Ok.lock c.args.topology.now g.S.Source.faults c.in-Ok.seat c.args.jobs c.new-site.ensures
    (c.requires.topology ∙ ap (λ (s : Setup). s.basis.topology) (sym c.in-Ok.ensures.setup)) at enough c.requires.fresh c.requires.apart

pub close-store-requires-clause-whole : goal.close-store-requires-clause-whole
close-store-requires-clause-whole g c κs = has-all c.in-Ok.lock c.in-Ok.seat c.run_jobs-seat.result.0 c.in-Ok.ensures.seat c.run_jobs-seat.ensures.keeps

pub returns-clause-ran : goal.returns-clause-ran
returns-clause-ran g c =
    ran-with _ _ _ _ _ _ c.args.store.basis c.close-store.result.basis c.new-site.result c.in-Ok.lock c.in-Ok.seat c.run_jobs-seat.result.0 _ _ _
    c.in-Ok.ensures.setup c.new-site.ensures c.requires.topology refl c.in-Ok.ensures.seat c.run_jobs-seat.ensures c.close-store.ensures.history c.close-store.ensures.own c.close-store.ensures.basis c.len-length.ensures.few c.requires.numbers
