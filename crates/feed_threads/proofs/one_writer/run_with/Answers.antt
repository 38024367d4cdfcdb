use Rattle.std.proofs.Common.{◌∙◌, arith, refl}
use Rattle.version_lock.proofs.Histories.{prefix_self}
use Rattle.feed_threads.proofs.BesideLemmas.{none-reads, not-run, beside-later}
use Rattle.feed_threads.proofs.ReadLemmas.{readers-of}
use Rattle.feed_threads.proofs.SeatLemmas.{looks_none, saw-seat}
use Rattle.feed_threads.proofs.one_writer.run_with.Goals as goal

pub returns-in_default-clause-ran : goal.returns-in_default-clause-ran
returns-in_default-clause-ran g c = record {
  ran = not-run c.args.site.now g.S.Source.left g.S.Source.faults g.S.Source.place c.args.seat c.args.seat c.args.job c.not_run.result (looks_none c.args.seat) c.requires.job.1 c.not_run.ensures;
  reads = none-reads _ _ _ _ _ (prefix_self c.args.seat.seen) c.requires.alone c.none_run.ensures.dones;
}

pub returns-in-Ok-show_readers-clause-ran : goal.returns-in-Ok-show_readers-clause-ran
returns-in-Ok-show_readers-clause-ran g c =
    beside-later c.args.site.now g.S.Source.left g.S.Source.faults g.S.Source.place c.args.seat c.show_readers.new.seat c.args.job c.args.batch.jobs.items c.run_parted.result c.show_readers.ensures.looks c.run_parted.ensures.ran

pub returns-in-Err-clause-ran : goal.returns-in-Err-clause-ran
returns-in-Err-clause-ran g c = record {
  ran = not-run c.args.site.now g.S.Source.left g.S.Source.faults g.S.Source.place c.args.seat c.show_readers.new.seat c.args.job c.not_run-in-Err.result c.show_readers.ensures.looks c.requires.job.1 c.not_run-in-Err.ensures;
  reads = none-reads _ _ _ _ _ c.show_readers.ensures.looks.saw.seen c.requires.alone c.none_run-in-Err.ensures.dones;
}

pub run_parted-requires-clause-parted : goal.run_parted-requires-clause-parted
run_parted-requires-clause-parted g c κs within =
    let shows = c.in-Ok-show_readers.ensures.shown in
    record {
      writes = (saw-seat c.args.site.now c.args.seat c.show_readers.new.seat c.show_readers.ensures.looks.saw c.requires.job.0, c.requires.job.1);
      known = c.in-Ok-show_readers.field-0.publisher;
      shown_is = refl;
      shown = shows.begins;
      all = shows.all;
      readers = shows.readers;
      reads = record {
        topology = readers-of _ c.in-Ok-show_readers.field-0.publisher c.in-Ok-show_readers.field-0.readers.items shows.begins.topology shows.readers;
        alone = c.requires.alone;
        count = shows.many ∙ c.len-count.ensures ∙ c.args.batch.jobs.ok.0;
        room = (c.in-Ok.ensures.items, omega (arith, c.in-Ok.ensures.capacity, c.len-count.ensures));
      };
      empty = c.requires.empty;
      room = c.requires.room;
    }
