use Rattle.std.proofs.Common.{rules, ◌≡◌, ◌+◌, ◌++◌, ◌∷◌, [], List, take, drop, take_all, ap, sym, ◌∙◌, subst, arith, refl}
use Rattle.std.proofs.lemmas.Grind.{common_steps}
use Rattle.std.proofs.lemmas.List.{take-append-drop}
use Rattle.dn_formats.specs.declared.script.Line.{Line}
use Rattle.feed_threads.specs.Works.{Does}
use Rattle.feed_threads.proofs.DoesLemmas.{at-work, breaks-after, does-none, does-more, front-told, on-more, on-none, works-broke}
use Rattle.feed_threads.proofs.SeatLemmas.{saw-none}
use Rattle.feed_threads.proofs.work.Work.do_lines.Goals as goal

pub loop-line-init : goal.loop-line-init
loop-line-init g c = record { at = c.requires.work; on = on-none c.args.desk.now g.S.Source.left g.S.Source.faults g.S.Source.place c.args.self.now c.requires.work; does = does-none c.args.desk.now g.S.Source.left g.S.Source.faults g.S.Source.place c.args.self.now }

pub loop-line-preserved : goal.loop-line-preserved
loop-line-preserved g c =
    let more : take (c.loop-line.line-index + 1) c.args.lines.now ≡ take c.loop-line.line-index c.args.lines.now ++ c.line-item.result ∷ [] = first_of (search rules, grind (arith, common_steps)) in
    record {
      at = at-work c.args.desk.now g.S.Source.left g.S.Source.faults g.S.Source.place c.loop-line.self c.do_line.new.self c.do_line.ensures.works.on c.loop-line.invariant.at;
      on = on-more c.args.desk.now g.S.Source.left g.S.Source.faults g.S.Source.place c.args.self.now c.loop-line.self c.do_line.new.self c.loop-line.invariant.on c.do_line.ensures.works.on;
      does = does-more c.args.desk.now g.S.Source.left g.S.Source.faults g.S.Source.place c.args.self.now c.loop-line.self c.do_line.new.self (take c.loop-line.line-index c.args.lines.now) (c.line-item.result ∷ []) (take (c.loop-line.line-index + 1) c.args.lines.now)
          c.loop-line.invariant.on c.loop-line.invariant.does c.in_ok-do_line.ensures.works.does more;
    }

pub returns-in_err-do_line-clause-works : goal.returns-in_err-do_line-clause-works
returns-in_err-do_line-clause-works g c =
    let more : take (c.loop-line.line-index + 1) c.args.lines.now ≡ take c.loop-line.line-index c.args.lines.now ++ c.line-item.result ∷ [] = first_of (search rules, grind (arith, common_steps)) in
    works-broke c.args.desk.now g.S.Source.left g.S.Source.faults g.S.Source.place c.from_residual.result c.args.self.now c.do_line.new.self c.args.lines.now c.from_residual.ensures.0
    (on-more c.args.desk.now g.S.Source.left g.S.Source.faults g.S.Source.place c.args.self.now c.loop-line.self c.do_line.new.self c.loop-line.invariant.on c.do_line.ensures.works.on)
    (breaks-after c.args.desk.now g.S.Source.left g.S.Source.faults g.S.Source.place c.args.self.now c.loop-line.self c.do_line.new.self (take c.loop-line.line-index c.args.lines.now) (c.line-item.result ∷ []) (drop (c.loop-line.line-index + 1) c.args.lines.now) c.args.lines.now
    c.loop-line.invariant.on c.loop-line.invariant.does c.in_err-do_line.ensures.works.breaks
    (sym (take-append-drop (c.loop-line.line-index + 1) c.args.lines.now) ∙ ap (λ (ls : List Line). ls ++ drop (c.loop-line.line-index + 1) c.args.lines.now) more))

pub returns-in_err-do_line-clause-front : goal.returns-in_err-do_line-clause-front
returns-in_err-do_line-clause-front g c =
    front-told c.args.desk.now g.S.Source.left g.S.Source.faults g.S.Source.place c.args.self.now c.loop-line.self c.do_line.new.self (take c.loop-line.line-index c.args.lines.now) (drop c.loop-line.line-index c.args.lines.now) c.args.lines.now
    c.do_line.ensures.works.on.saw c.in_err-do_line.ensures.err c.loop-line.invariant.does (sym (take-append-drop c.loop-line.line-index c.args.lines.now))

pub returns-clause-works : goal.returns-clause-works
returns-clause-works g c = record {
  on = c.loop-line.invariant.on;
  does = subst (λ (ls : List Line). Does c.args.desk.now g.S.Source.left g.S.Source.faults g.S.Source.place c.args.self.now c.loop-line.self ls) (take_all c.loop-line.line-index c.args.lines.now c.loop-line-test.false) c.loop-line.invariant.does;
  breaks = tt;
}

pub returns-clause-front : goal.returns-clause-front
returns-clause-front g c =
    front-told c.args.desk.now g.S.Source.left g.S.Source.faults g.S.Source.place c.args.self.now c.loop-line.self c.loop-line.self (take c.loop-line.line-index c.args.lines.now) (drop c.loop-line.line-index c.args.lines.now) c.args.lines.now
    (saw-none c.loop-line.self.seat) refl c.loop-line.invariant.does (sym (take-append-drop c.loop-line.line-index c.args.lines.now))
