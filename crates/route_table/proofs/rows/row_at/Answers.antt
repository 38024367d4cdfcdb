use Rattle.std.proofs.Common.{◌≡◌, true, false, ap, refl, sym, ◌∙◌}
use Rattle.route_table.specs.Rows.{row_key}
use Rattle.route_table.specs.Slots.{key_of}
use Rattle.route_table.proofs.Places.{found-at, gap-at}
use Rattle.route_table.proofs.Searching.{none-then, some-each, some-then}
use Rattle.route_table.proofs.rows.row_at.Goals as goal

pub returns-in_default-clause-gap : goal.returns-in_default-clause-gap
returns-in_default-clause-gap c = gap-at row_key c.args.rows.now (key_of c.args.prefix) c.args.place c.requires
    (λ d l e. let t : false ≡ true = c.in_default.ensures.inside.1 l in cc)

pub returns-clause-found : goal.returns-clause-found
returns-clause-found c = some-then c.own_row.result _ _ (λ own h. found-at row_key c.args.rows.now (key_of c.args.prefix) c.args.place c.in-Some.row.now c.requires (c.in-Some.ensures.inside.0 refl)
    (ap row_key (sym (c.in-Some.ensures.element c.in-Some.row.now)) ∙ h.1)) c.own_row.ensures.some

pub returns-clause-row : goal.returns-clause-row
returns-clause-row c = λ d. some-each c.own_row.result _ _ (λ own h. h.0 ∙ c.in-Some.ensures.element d) c.own_row.ensures.some

pub returns-clause-gap : goal.returns-clause-gap
returns-clause-gap c = none-then c.own_row.result _ _ (λ n. gap-at row_key c.args.rows.now (key_of c.args.prefix) c.args.place c.requires
    (λ d l e. n (ap row_key (c.in-Some.ensures.element d) ∙ e))) c.own_row.ensures.none
