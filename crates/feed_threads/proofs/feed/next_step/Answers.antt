use Rattle.feed_threads.proofs.StepLemmas.{Answers, handed-on, waits-on, end-on, counted-on, again-on}
use Rattle.feed_threads.proofs.feed.next_step.Goals as goal

pub returns : goal.returns
returns g c =
    let a : Answers c.args.topology.now g.S.Source.left g.S.Source.faults g.S.Source.place c.args.reader.now c.next_frame.new.self c.next_frame.result = record {
      outcome = c.next_frame.ensures.outcome;
      again = c.next_frame.ensures.again;
      told = c.next_frame.ensures.told;
      counts = c.next_frame.ensures.faults;
      limit = c.next_frame.ensures.limit;
      router = c.next_frame.ensures.router;
      feed_no = c.next_frame.ensures.feed_no;
      stays = c.next_frame.ensures.stays;
      own = c.next_frame.ensures.own;
    } in
    record {
      handed = handed-on _ _ _ _ _ _ _ a;
      waits = waits-on _ _ _ _ _ _ _ a;
      end = end-on _ _ _ _ _ _ _ a;
      again = again-on _ _ _ _ _ _ _ a;
      counted = counted-on _ _ _ _ _ _ _ a;
      advances = c.next_frame.ensures.advances;
      within = c.next_frame.ensures.within;
      limit = c.next_frame.ensures.limit;
      router = c.next_frame.ensures.router;
      feed_no = c.next_frame.ensures.feed_no;
    }
