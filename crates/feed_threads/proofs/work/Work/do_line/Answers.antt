use Rattle.std.proofs.Common.{◌∷◌, ◌∙◌, [], ap, sym}
use Rattle.dn_model.specs.Query.{Question}
use Rattle.dn_formats.specs.declared.script.Line.TheVariants as line
use Rattle.feed_threads.proofs.DoesLemmas.{works-same}
use Rattle.feed_threads.proofs.SeatLemmas.{on-err}
use Rattle.feed_threads.proofs.work.Work.do_line.Goals as goal

pub returns-in-Take-clause-works : goal.returns-in-Take-clause-works
returns-in-Take-clause-works g c =
    works-same c.args.desk.now g.S.Source.left g.S.Source.faults g.S.Source.place c.take_of.result c.args.self.now c.take_of.new.self _ _ (ap (λ y. y ∷ []) c.in-Take.is) (c.take_of.ensures c.in-Take.line).works

pub returns-in-Take-clause-err : goal.returns-in-Take-clause-err
returns-in-Take-clause-err g c = on-err c.take_of.result _ (c.take_of.ensures c.in-Take.line).told

pub returns-in-Link-clause-works : goal.returns-in-Link-clause-works
returns-in-Link-clause-works g c = works-same c.args.desk.now g.S.Source.left g.S.Source.faults g.S.Source.place c.set_link.result c.args.self.now c.set_link.new.self _ _ (ap (λ y. y ∷ []) c.in-Link.is) c.set_link.ensures.works

pub returns-in-Ask-clause-works : goal.returns-in-Ask-clause-works
returns-in-Ask-clause-works g c = works-same c.args.desk.now g.S.Source.left g.S.Source.faults g.S.Source.place c.ask.result c.args.self.now c.ask.new.self _ _ (ap (λ y. y ∷ []) (c.in-Ask.is ∙ ap (λ (q : Question). line.Ask c.in-Ask.line q) (sym c.get.ensures))) c.ask.ensures.works
