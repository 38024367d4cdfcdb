use Rattle.std.proofs.Common.{◌≡◌, List, sym, ◌∙◌, ap, subst}
use mathlib.Core.List.{IsPrefix}
use Rattle.logbook.specs.Pages.{step}
use Rattle.fast_pins.specs.declared.issue.Issue.{Issue}
use Rattle.fast_pins.specs.Law.{line_in, lists_of}
use Rattle.fast_pins.proofs.Prefixes.{prefix_trans}
use Rattle.fast_pins.proofs.Issues.{lists_prefix}
use Rattle.fast_pins.proofs.Editions.{begins_last}
use Rattle.fast_pins.proofs.Adding.{looks, exchanged}
use Rattle.fast_pins.proofs.press.Press.confirm.Goals as goal

pub compare_exchange-requires : goal.compare_exchange-requires
compare_exchange-requires g c =
    let self = c.args.self.now in
    let h = self.head_is in
    let p = self.pen_is in
    let offer = c.plain-offer.ensures in
    let book = c.learn.ensures.0 ∙ ap (λ s. s.book) c.again-both.ensures in (
      ap (λ w. w.tracked) h,
      book ∙ sym (ap (λ w. w.book) h),
      p.0 ∙ sym (ap (λ w. w.book) h),
      offer.0,
      rw (ap (λ w. w.key) h, offer.3) (looks c.learn.new.self.log self.pen.nib exchanged (step 0 0 0 c.plain-offer.result.ask) p.1),
    )

pub returns-clause-lists : goal.returns-clause-lists
returns-clause-lists g c =
    let self = c.args.self.now in
    let line = line_in self.seen.log in
    let end = c.compare_exchange.new.seen.log in
    let mine : IsPrefix self.seen.log c.learn.new.self.log = subst (λ (l : List Issue). IsPrefix l c.learn.new.self.log) (ap (λ s. s.log) c.again-both.ensures) c.learn.ensures.2 in
    let theirs : IsPrefix c.args.seen.now.log end = prefix_trans c.args.seen.now.log c.learn.new.self.log end c.learn.ensures.3 c.compare_exchange.ensures.6 in
    let all : lists_of line end ≡ lists_of line self.seen.log = c.compare_exchange.ensures.7.1 self.seen.log mine self.some_issue self.pen_is.2 in
    subst (IsPrefix (lists_of line c.args.seen.now.log)) all (lists_prefix line c.args.seen.now.log end theirs)

pub returns-clause-begins : goal.returns-clause-begins
returns-clause-begins g c is =
    let self = c.args.self.now in
    let mine : IsPrefix self.seen.log c.learn.new.self.log = subst (λ (l : List Issue). IsPrefix l c.learn.new.self.log) (ap (λ s. s.log) c.again-both.ensures) c.learn.ensures.2 in
    begins_last c.args.seen.now.log self.seen.log c.learn.new.self.log c.learn.ensures.3 mine c.learn.ensures.4 self.some_issue (returns-clause-lists g c) is
