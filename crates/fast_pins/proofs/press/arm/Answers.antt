use Rattle.std.proofs.Common.{sym, ◌∙◌, ap}
use Rattle.logbook.specs.Pages.{step}
use Rattle.fast_pins.proofs.Adding.{arms, exchanged}
use Rattle.fast_pins.proofs.press.arm.Goals as goal

pub compare_exchange-requires : goal.compare_exchange-requires
compare_exchange-requires g c =
    let h = c.requires.head in
    let offer = c.plain-offer.ensures in
    let pen = c.no_pen-pen.ensures in
    let seen = c.again-look.ensures in (
      ap (λ w. w.tracked) h,
      ap (λ s. s.book) seen ∙ sym (ap (λ w. w.book) h),
      pen.0 ∙ sym (ap (λ w. w.book) h),
      offer.0 ∙ sym (ap (λ s. s.names) seen),
      rw (ap (λ w. w.key) h, pen.1, offer.3) (arms _ exchanged (step 0 0 0 c.plain-offer.result.ask)),
    )
