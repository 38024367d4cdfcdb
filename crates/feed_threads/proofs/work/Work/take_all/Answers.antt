use Rattle.std.proofs.Common.{◌≡◌, ◌+◌, ◌++◌, ◌∷◌, [], List, take, drop, take_all, ap, sym, ◌∙◌, subst, arith, None, refl, length}
use Rattle.std.proofs.lemmas.List.{length-map, take-append-drop}
use Rattle.dn_formats.specs.declared.script.Line.{Line}
use Rattle.dn_formats.specs.declared.script.Line.TheVariants as line
use Rattle.feed_model.specs.declared.feed_told.FeedTold.{FeedTold}
use Rattle.feed_threads.specs.Feeds.{Feed}
use Rattle.feed_threads.specs.Places.{ReadOn}
use Rattle.feed_threads.specs.Tracks.{rest_by, rests_by}
use Rattle.feed_threads.specs.Works.{Does, Work}
use Rattle.feed_threads.proofs.DoesLemmas.{at-work, breaks-after, does-none, does-more, on-more, on-none, read-length, rests-at, works-broke}
use Rattle.feed_threads.proofs.work.Work.take_all.Goals as goal

pub loop-at-init : goal.loop-at-init
loop-at-init g c = record { here = c.requires.work; on = on-none c.args.desk.now g.S.Source.left g.S.Source.faults g.S.Source.place c.args.self.now c.requires.work; does = does-none c.args.desk.now g.S.Source.left g.S.Source.faults g.S.Source.place c.args.self.now; told = refl }

pub loop-at-preserved : goal.loop-at-preserved
loop-at-preserved g c =
    let same = ap (λ (w : Work g.row.S.Denot). length w.feeds) c.self.view_is in
    let reads : ReadOn c.args.desk.now.setup.basis.topology g.S.Source.left g.S.Source.faults g.S.Source.place c.args.self.now.feeds c.self-in-loop-at.inside.feeds.items =
    subst (λ (fs : List (Feed g.row.S.Denot)). ReadOn c.args.desk.now.setup.basis.topology g.S.Source.left g.S.Source.faults g.S.Source.place c.args.self.now.feeds fs) (sym (ap (λ (w : Work g.row.S.Denot). w.feeds) c.self-in-loop-at.view_is)) c.loop-at.invariant.on.reads in
    let more : take (c.loop-at.at + 1) (rests_by c.args.self.now.feeds) ≡ take c.loop-at.at (rests_by c.args.self.now.feeds) ++ line.Take 0 c.told.result.now.router None ∷ [] =
    rests-at c.args.desk.now.setup.basis.topology g.S.Source.left g.S.Source.faults g.S.Source.place c.args.self.now.feeds c.self-in-loop-at.inside.feeds.items c.loop-at.at c.index.result.now reads
    (omega (arith, c.loop-at-test.true, c.len-at-end.ensures, same, read-length c.args.desk.now.setup.basis.topology g.S.Source.left g.S.Source.faults g.S.Source.place c.args.self.now.feeds c.self-in-loop-at.inside.feeds.items reads))
    c.index.ensures c.told.result.now.router (ap (λ (x : FeedTold). x.router) c.told.ensures ∙ ap (λ (f : Feed _). f.reader.told.router) c.behind-self.view_is) in
    record {
      here = at-work c.args.desk.now g.S.Source.left g.S.Source.faults g.S.Source.place c.loop-at.self c.take_of.new.self (c.take_of.ensures 0).works.on c.loop-at.invariant.here;
      on = on-more c.args.desk.now g.S.Source.left g.S.Source.faults g.S.Source.place c.args.self.now c.loop-at.self c.take_of.new.self c.loop-at.invariant.on (c.take_of.ensures 0).works.on;
      does = does-more c.args.desk.now g.S.Source.left g.S.Source.faults g.S.Source.place c.args.self.now c.loop-at.self c.take_of.new.self (take c.loop-at.at (rests_by c.args.self.now.feeds)) (line.Take 0 c.told.result.now.router None ∷ []) (take (c.loop-at.at + 1) (rests_by c.args.self.now.feeds))
          c.loop-at.invariant.on c.loop-at.invariant.does (c.in_ok-take_of.ensures 0).works.does more;
      told = (c.take_of.ensures 0).told ∙ c.loop-at.invariant.told;
    }

pub returns-in_err-take_of : goal.returns-in_err-take_of
returns-in_err-take_of g c =
    let same = ap (λ (w : Work g.row.S.Denot). length w.feeds) c.self.view_is in
    let reads : ReadOn c.args.desk.now.setup.basis.topology g.S.Source.left g.S.Source.faults g.S.Source.place c.args.self.now.feeds c.self-in-loop-at.inside.feeds.items =
    subst (λ (fs : List (Feed g.row.S.Denot)). ReadOn c.args.desk.now.setup.basis.topology g.S.Source.left g.S.Source.faults g.S.Source.place c.args.self.now.feeds fs) (sym (ap (λ (w : Work g.row.S.Denot). w.feeds) c.self-in-loop-at.view_is)) c.loop-at.invariant.on.reads in
    let y : Line = line.Take 0 c.told.result.now.router None in
    let rests : List Line = rests_by c.args.self.now.feeds in
    let more : take (c.loop-at.at + 1) rests ≡ take c.loop-at.at rests ++ y ∷ [] =
    rests-at c.args.desk.now.setup.basis.topology g.S.Source.left g.S.Source.faults g.S.Source.place c.args.self.now.feeds c.self-in-loop-at.inside.feeds.items c.loop-at.at c.index.result.now reads
    (omega (arith, c.loop-at-test.true, c.len-at-end.ensures, same, read-length c.args.desk.now.setup.basis.topology g.S.Source.left g.S.Source.faults g.S.Source.place c.args.self.now.feeds c.self-in-loop-at.inside.feeds.items reads))
    c.index.ensures c.told.result.now.router (ap (λ (x : FeedTold). x.router) c.told.ensures ∙ ap (λ (f : Feed _). f.reader.told.router) c.behind-self.view_is) in
    record {
      works = works-broke c.args.desk.now g.S.Source.left g.S.Source.faults g.S.Source.place c.from_residual.result c.args.self.now c.take_of.new.self rests c.from_residual.ensures.0
          (on-more c.args.desk.now g.S.Source.left g.S.Source.faults g.S.Source.place c.args.self.now c.loop-at.self c.take_of.new.self c.loop-at.invariant.on (c.take_of.ensures 0).works.on)
          (breaks-after c.args.desk.now g.S.Source.left g.S.Source.faults g.S.Source.place c.args.self.now c.loop-at.self c.take_of.new.self (take c.loop-at.at rests) (y ∷ []) (drop (c.loop-at.at + 1) rests) rests
          c.loop-at.invariant.on c.loop-at.invariant.does (c.in_err-take_of.ensures 0).works.breaks
          (sym (take-append-drop (c.loop-at.at + 1) rests) ∙ ap (λ (ls : List Line). ls ++ drop (c.loop-at.at + 1) rests) more));
      told = (c.take_of.ensures 0).told ∙ c.loop-at.invariant.told;
    }

pub returns : goal.returns
returns g c = record {
  works = record {
    on = c.loop-at.invariant.on;
    does = subst (λ (ls : List Line). Does c.args.desk.now g.S.Source.left g.S.Source.faults g.S.Source.place c.args.self.now c.loop-at.self ls)
        (take_all c.loop-at.at (rests_by c.args.self.now.feeds) (omega (arith, c.loop-at-test.false, c.len-at-end.ensures, ap (λ (w : Work g.row.S.Denot). length w.feeds) c.self.view_is, length-map c.args.self.now.feeds (rest_by)))) c.loop-at.invariant.does;
    breaks = tt;
  };
  told = c.loop-at.invariant.told;
}
