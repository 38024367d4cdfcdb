use Rattle.std.proofs.Common.{rules, ◌≡◌, ◌+◌, ◌++◌, ◌∷◌, [], List, take, drop, take_all, ap, sym, ◌∙◌, subst, arith, refl}
use Rattle.std.proofs.lemmas.Grind.{common_steps}
use Rattle.std.proofs.lemmas.List.{take-append-drop}
use Rattle.dn_formats.specs.declared.script.Line.{Line}
use Rattle.feed_threads.specs.Tracks.{rest_of, rests_of}
use Rattle.feed_threads.specs.Works.{Does}
use Rattle.feed_threads.proofs.DoesLemmas.{at-work, breaks-after, does-none, does-more, on-more, on-none, rests-push, rests-split, works-broke}
use Rattle.feed_threads.proofs.work.Work.take_rests.Goals as goal

pub loop-line-init : goal.loop-line-init
loop-line-init g c = record { at = c.requires.work; on = on-none c.args.desk.now g.S.Source.left g.S.Source.faults g.S.Source.place c.args.self.now c.requires.work; does = does-none c.args.desk.now g.S.Source.left g.S.Source.faults g.S.Source.place c.args.self.now; told = refl }

pub loop-line-preserved : goal.loop-line-preserved
loop-line-preserved g c =
    let more : take (c.loop-line.line-index + 1) c.args.lines.now ≡ take c.loop-line.line-index c.args.lines.now ++ c.line-item.result ∷ [] = first_of (search rules, grind (arith, common_steps)) in
    record {
      at = at-work c.args.desk.now g.S.Source.left g.S.Source.faults g.S.Source.place c.loop-line.self c.take_rest_of.new.self c.take_rest_of.ensures.works.on c.loop-line.invariant.at;
      on = on-more c.args.desk.now g.S.Source.left g.S.Source.faults g.S.Source.place c.args.self.now c.loop-line.self c.take_rest_of.new.self c.loop-line.invariant.on c.take_rest_of.ensures.works.on;
      does = does-more c.args.desk.now g.S.Source.left g.S.Source.faults g.S.Source.place c.args.self.now c.loop-line.self c.take_rest_of.new.self (rests_of (take c.loop-line.line-index c.args.lines.now)) (rest_of c.line-item.result) (rests_of (take (c.loop-line.line-index + 1) c.args.lines.now))
          c.loop-line.invariant.on c.loop-line.invariant.does c.in_ok-take_rest_of.ensures.works.does (rests-push _ _ _ more);
      told = c.take_rest_of.ensures.told ∙ c.loop-line.invariant.told;
    }

pub returns-in_err-take_rest_of : goal.returns-in_err-take_rest_of
returns-in_err-take_rest_of g c =
    let more : take (c.loop-line.line-index + 1) c.args.lines.now ≡ take c.loop-line.line-index c.args.lines.now ++ c.line-item.result ∷ [] = first_of (search rules, grind (arith, common_steps)) in
    let later : List Line = drop (c.loop-line.line-index + 1) c.args.lines.now in
    let parts : rests_of c.args.lines.now ≡ (rests_of (take c.loop-line.line-index c.args.lines.now) ++ rest_of c.line-item.result) ++ rests_of later =
    rests-split c.args.lines.now (take (c.loop-line.line-index + 1) c.args.lines.now) later (sym (take-append-drop (c.loop-line.line-index + 1) c.args.lines.now))
    ∙ ap (λ (ls : List Line). ls ++ rests_of later) (rests-push _ _ _ more) in
    record {
      works = works-broke c.args.desk.now g.S.Source.left g.S.Source.faults g.S.Source.place c.from_residual.result c.args.self.now c.take_rest_of.new.self (rests_of c.args.lines.now) c.from_residual.ensures.0
          (on-more c.args.desk.now g.S.Source.left g.S.Source.faults g.S.Source.place c.args.self.now c.loop-line.self c.take_rest_of.new.self c.loop-line.invariant.on c.take_rest_of.ensures.works.on)
          (breaks-after c.args.desk.now g.S.Source.left g.S.Source.faults g.S.Source.place c.args.self.now c.loop-line.self c.take_rest_of.new.self (rests_of (take c.loop-line.line-index c.args.lines.now)) (rest_of c.line-item.result) (rests_of later) (rests_of c.args.lines.now)
          c.loop-line.invariant.on c.loop-line.invariant.does c.in_err-take_rest_of.ensures.works.breaks parts);
      told = c.take_rest_of.ensures.told ∙ c.loop-line.invariant.told;
    }

pub returns : goal.returns
returns g c = record {
  works = record {
    on = c.loop-line.invariant.on;
    does = subst (λ (ls : List Line). Does c.args.desk.now g.S.Source.left g.S.Source.faults g.S.Source.place c.args.self.now c.loop-line.self (rests_of ls)) (take_all c.loop-line.line-index c.args.lines.now c.loop-line-test.false) c.loop-line.invariant.does;
    breaks = tt;
  };
  told = c.loop-line.invariant.told;
}
