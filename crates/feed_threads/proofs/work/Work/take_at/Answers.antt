use Rattle.feed_threads.proofs.DoesLemmas.{work-took}
use Rattle.feed_threads.proofs.work.Work.take_at.Goals as goal

pub returns : goal.returns
returns g c =
    work-took c.args.desk.now g.S.Source.left g.S.Source.faults g.S.Source.place c.take_frames.result c.args.self.now c.self.inside.number c.self.inside.seat c.take_frames.new.seat c.self.inside.shown c.take_frames.new.shown c.self.inside.feeds.items c.self.inside.told c.args.at c.args.count c.index_mut.result.now c.take_frames.new.feed
    c.self.view_is c.requires.place c.index_mut.ensures.value c.take_frames.ensures.shows c.take_frames.ensures.takes
