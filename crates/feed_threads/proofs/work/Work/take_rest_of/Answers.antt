use Rattle.std.proofs.Common.{ap, refl}
use Rattle.feed_threads.specs.Tracks.{rest_of}
use Rattle.feed_threads.proofs.DoesLemmas.{does-none, on-none, works-same}
use Rattle.feed_threads.proofs.work.Work.take_rest_of.Goals as goal

pub returns-in-Take : goal.returns-in-Take
returns-in-Take g c =
    let took = c.take_of.ensures c.in-Take.line in
    record { works = works-same c.args.desk.now g.S.Source.left g.S.Source.faults g.S.Source.place c.take_of.result c.args.self.now c.take_of.new.self _ _ (ap rest_of c.in-Take.is) took.works; told = took.told }

pub returns-in-Link : goal.returns-in-Link
returns-in-Link g c = record {
  works = works-same c.args.desk.now g.S.Source.left g.S.Source.faults g.S.Source.place _ c.args.self.now c.args.self.now _ _ (ap rest_of c.in-Link.is) (record { on = on-none c.args.desk.now g.S.Source.left g.S.Source.faults g.S.Source.place c.args.self.now c.requires.work; does = does-none c.args.desk.now g.S.Source.left g.S.Source.faults g.S.Source.place c.args.self.now; breaks = tt });
  told = refl;
}

pub returns-in-Ask : goal.returns-in-Ask
returns-in-Ask g c = record {
  works = works-same c.args.desk.now g.S.Source.left g.S.Source.faults g.S.Source.place _ c.args.self.now c.args.self.now _ _ (ap rest_of c.in-Ask.is) (record { on = on-none c.args.desk.now g.S.Source.left g.S.Source.faults g.S.Source.place c.args.self.now c.requires.work; does = does-none c.args.desk.now g.S.Source.left g.S.Source.faults g.S.Source.place c.args.self.now; breaks = tt });
  told = refl;
}
