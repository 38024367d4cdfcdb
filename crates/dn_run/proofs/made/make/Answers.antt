use Rattle.std.proofs.Common.{◌≡◌, ◌∙◌, ap, refl, subst, sym}
use Rattle.dn_run.specs.Made.{IsMadeRun, TellsCycles, summary_text}
use Rattle.dn_run.proofs.MadeLemmas.{tells-cycles}
use Rattle.dn_run.proofs.made.make.Goals as goal

pub cycles_of-requires : goal.cycles_of-requires
cycles_of-requires g c = subst (λ told. TellsCycles told) (sym c.as_slice.ensures.value) (tells-cycles c.args.n c.in_ok-told.told.items c.in_ok-told.ensures)

pub returns : goal.returns
returns g c =
    let tells : TellsCycles c.in_ok-told.told.items = tells-cycles c.args.n c.in_ok-told.told.items c.in_ok-told.ensures in
    let cycles : c.cycles_of.result.now ≡ tells.1 = c.cycles_of.ensures tells.0 tells.1 (c.as_slice.ensures.value ∙ tells.2) in
    (refl, (tells.0, tells.1, subst (λ told. IsMadeRun c.args.n told) tells.2 c.in_ok-told.ensures, c.of_text.ensures ∙ c.in_ok-text.ensures ∙ ap (summary_text c.args.n) cycles))
