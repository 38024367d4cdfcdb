use Rattle.std.proofs.Common.{◌≡◌, sym, ◌∙◌, ap, subst, Some}
use mathlib.Core.List.{IsPrefix}
use Rattle.fast_pins.specs.Law.{issue_in, line_in, list_in, topology_in}
use Rattle.logbook.specs.Pages.{step}
use Rattle.fast_pins.proofs.Adding.{goes_on, exchanged}
use Rattle.fast_pins.proofs.press.Press.add.Goals as goal

pub compare_exchange-requires : goal.compare_exchange-requires
compare_exchange-requires g c =
    let self = c.args.self.now in
    let h = self.head_is in
    let p = self.pen_is in
    let offer = c.plain-offer.ensures in
    let same : topology_in self.seen.log ≡ Some c.plain-offer.result.ask.topology = c.requires.topology ∙ ap Some (sym (ap (λ a. a.topology) offer.1 ∙ ap g.S.Shot.shown_topology c.of.ensures)) in
    let begins : IsPrefix (list_in self.seen.log) c.plain-offer.result.ask.list = subst (IsPrefix (list_in self.seen.log)) (sym (ap (λ a. a.list) offer.1 ∙ ap g.S.Shot.shown c.of.ensures)) c.requires.begins in (
      ap (λ w. w.tracked) h,
      sym (ap (λ w. w.book) h),
      p.0 ∙ sym (ap (λ w. w.book) h),
      offer.0,
      rw (ap (λ w. w.key) h, offer.3) (goes_on self.seen.log self.pen.nib exchanged (step 0 0 0 c.plain-offer.result.ask) p.1 p.2 self.some_issue same begins),
    )

pub returns-clause-ends : goal.returns-clause-ends
returns-clause-ends g c =
    let offer = c.plain-offer.ensures in
    let told = c.compare_exchange.ensures.7 in record {
      before = told.0;
      last = issue_in (line_in c.args.self.now.seen.log) c.plain-offer.result.ask.next c.plain-offer.result.ask;
      log_is = told.1;
      topology_is = ap (λ a. a.topology) offer.1 ∙ ap g.S.Shot.shown_topology c.of.ensures;
      list_is = ap (λ a. a.list) offer.1 ∙ ap g.S.Shot.shown c.of.ensures;
    }
