use Rattle.std.proofs.Common.{◌≡◌, ◌+◌, arith, length}
use Rattle.std.proofs.lemmas.Grind.{common_steps}
use Rattle.feed_threads.proofs.BesideLemmas.{beside-ends, came-length}
use Rattle.feed_threads.proofs.one_writer.run_beside.Goals as goal

pub insert-requires : goal.insert-requires
insert-requires g c =
    let came : length c.run_with-seat.result.2.items ≡ length c.remove-applying.new.self.items = came-length _ _ _ _ _ c.run_with-seat.ensures.ran.reads in
    let len = c.remove-applying.ensures.len in let place = c.requires.place in
    grind (arith, common_steps, came, len, place)

pub unreachable-requires : goal.unreachable-requires
unreachable-requires g c =
    let came : length c.run_with-seat.result.2.items ≡ length c.remove-applying.new.self.items = came-length _ _ _ _ _ c.run_with-seat.ensures.ran.reads in
    let len = c.remove-applying.ensures.len in let capacity = c.run_with-seat.ensures.room in let room = c.requires.batch.room.1 in let full = c.in-Err.ensures.full in
    grind (arith, common_steps, came, len, capacity, room, full)

pub returns : goal.returns
returns g c =
    let place = c.requires.place in let span = c.requires.batch.jobs.span in let len = c.remove-applying.ensures.len in
    let fewer : length c.remove-applying.new.self.items + 1 ≡ length c.args.batch.jobs.items = grind (arith, common_steps, len) in
    beside-ends c.args.site.now.setup.basis.topology g.S.Source.left g.S.Source.faults g.S.Source.place c.args.site.now.setup.basis.limit c.args.site.now c.args.seat c.use_all.new.seat c.run_with-seat.result.0 c.use_all.ensures c.run_with-seat.ensures.ran.ran.saw c.number-number.ensures.used (omega (arith, place, span))
    c.args.at c.args.batch.jobs.items c.remove-applying.new.self.items c.remove-applying.result _ c.run_with-seat.result.2.items c.run_with-seat.result.1 c.requires.batch.jobs.is_seat place span
    c.remove-applying.ensures.value c.remove-applying.ensures.items fewer c.in-Ok.ensures.items c.run_with-seat.ensures.ran.ran.number c.run_with-seat.ensures.ran.ran.ends c.run_with-seat.ensures.ran.reads
