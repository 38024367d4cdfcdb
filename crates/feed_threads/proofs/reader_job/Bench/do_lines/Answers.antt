use Rattle.std.proofs.Common.{rules, ◌≡◌, ◌+◌, ◌++◌, ◌∷◌, ◌∙◌, [], List, take, drop, ap, sym, subst, arith}
use Rattle.std.proofs.lemmas.Grind.{common_steps}
use Rattle.std.proofs.lemmas.List.{take-append-drop}
use Rattle.dn_model.specs.Query.{Question}
use Rattle.dn_formats.specs.declared.script.Line.{Line}
use Rattle.dn_formats.specs.declared.script.Line.TheVariants as line
use Rattle.dn_formats.specs.declared.told.Told.{Told}
use Rattle.fast_pins.specs.Known.{published}
use Rattle.feed_threads.specs.Reads.{TellsRead, TellsReadFront}
use Rattle.feed_threads.proofs.ReadLemmas.{pins-more, read-ask, read-front, read-later}
use Rattle.feed_threads.proofs.reader_job.Bench.do_lines.Goals as goal

pub loop-line-preserved : goal.loop-line-preserved
loop-line-preserved g c =
    let more : take (c.loop-line.line-index + 1) c.args.lines.now ≡ take c.loop-line.line-index c.args.lines.now ++ c.line-item.result ∷ [] = first_of (search rules, grind (arith, common_steps)) in
    let is : c.line-item.result ≡ line.Ask c.in-Ask.line c.get.result.now = c.in-Ask.is ∙ ap (λ (q : Question). line.Ask c.in-Ask.line q) (sym c.get.ensures) in
    record {
      pins = pins-more _ _ _ c.loop-line.invariant.pins c.ask.ensures.pins;
      told = subst (λ (ls : List Line). TellsRead c.args.self.now (published c.args.reader.now) (published c.ask.new.reader) ls c.ask.new.told)
          (sym (more ∙ ap (λ (y : Line). take c.loop-line.line-index c.args.lines.now ++ y ∷ []) is))
          (read-ask _ _ _ _ _ _ _ _ _ c.ask.ensures.pins.mine c.loop-line.invariant.told c.in_ok-ask-in-Ask.ensures.told);
    }

pub returns-in_err-ask-in-Ask-clause-front : goal.returns-in_err-ask-in-Ask-clause-front
returns-in_err-ask-in-Ask-clause-front g c =
    subst (λ (ts : List Told). TellsReadFront c.args.self.now (published c.args.reader.now) (published c.ask.new.reader) c.args.lines.now ts) (sym c.in_err-ask-in-Ask.ensures.err)
    (read-front _ _ _ (take c.loop-line.line-index c.args.lines.now) (drop c.loop-line.line-index c.args.lines.now) _ _ (sym (take-append-drop c.loop-line.line-index c.args.lines.now))
    (read-later _ _ _ _ _ _ c.ask.ensures.pins.mine c.loop-line.invariant.told))
