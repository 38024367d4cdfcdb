use Rattle.std.proofs.Common.{◌≡◌, true, false, ap, refl, sym, ◌∙◌}
use Rattle.std.proofs.lemmas.Bool.{eqb-true, both_ways, eq-eqb}
use Rattle.route_table.specs.Targets.{metric_of}
use Rattle.route_table.proofs.Places.{found-at, gap-at}
use Rattle.route_table.proofs.metrics.has_at.Goals as goal

pub returns-in-Some-clause-found : goal.returns-in-Some-clause-found
returns-in-Some-clause-found c = λ h. found-at metric_of c.args.ways.now c.args.metric c.args.place c.in-Some.entry.now c.requires (c.in-Some.ensures.inside.0 refl)
    (ap metric_of (sym (c.in-Some.ensures.element c.in-Some.entry.now)) ∙ eqb-true _ _ h)

pub returns-in-Some-clause-gap : goal.returns-in-Some-clause-gap
returns-in-Some-clause-gap c = λ h. gap-at metric_of c.args.ways.now c.args.metric c.args.place c.requires
    (λ d l e. both_ways _ h (eq-eqb _ _ (ap metric_of (c.in-Some.ensures.element d) ∙ e)))

pub returns-in-None-clause-gap : goal.returns-in-None-clause-gap
returns-in-None-clause-gap c = λ h. gap-at metric_of c.args.ways.now c.args.metric c.args.place c.requires
    (λ d l e. let t : false ≡ true = c.in-None.ensures.inside.1 l in cc)
