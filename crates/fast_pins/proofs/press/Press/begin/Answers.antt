use Rattle.std.proofs.Common.{sym, ◌∙◌, ap}
use Rattle.logbook.specs.Pages.{step}
use Rattle.fast_pins.specs.Law.{issue_in}
use Rattle.fast_pins.proofs.Adding.{opens, begins, exchanged}
use Rattle.fast_pins.proofs.press.Press.begin.Goals as goal

pub open-seen-requires : goal.open-seen-requires
open-seen-requires g c = (opens, (λ _. tt), c.alone.ensures.1)

pub compare_exchange-requires : goal.compare_exchange-requires
compare_exchange-requires g c =
    let o = c.open-seen.ensures in
    let t = c.tracked-head.ensures.0 in
    let offer = c.plain-offer.ensures in
    let book = ap (λ w. w.book) t ∙ o.2 in (
      ap (λ w. w.tracked) t,
      sym book,
      c.arm-pen.ensures.book ∙ sym book,
      offer.0,
      rw (ap (λ w. w.key) t ∙ ap (λ n. n.key) o.4, o.1, offer.3) (begins _ exchanged (step 0 0 0 c.plain-offer.result.ask) c.arm-pen.ensures.right),
    )

pub returns-clause-ends : goal.returns-clause-ends
returns-clause-ends g c =
    let offer = c.plain-offer.ensures in
    let told = c.compare_exchange.ensures.7 in record {
      before = told.0;
      last = issue_in c.arm-pen.result.nib.key c.plain-offer.result.ask.next c.plain-offer.result.ask;
      log_is = told.1;
      topology_is = ap (λ a. a.topology) offer.1 ∙ ap g.S.Shot.shown_topology c.of.ensures;
      list_is = ap (λ a. a.list) offer.1 ∙ ap g.S.Shot.shown c.of.ensures;
    }
