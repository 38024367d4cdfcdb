use Rattle.std.proofs.Common.{◌*◌, ◌≤◌, length, arith}
use Rattle.base.specs.Forwarding.{does}
use Rattle.row_answers.proofs.LinkEnds.{first-within, second-within, two-each, uses-is}
use Rattle.row_answers.proofs.asked.uses.Goals as goal

pub uses-requires-clause-first : goal.uses-requires-clause-first
uses-requires-clause-first g c = first-within c.args.topology.now c.known_link-over.result.0 _ c.link_at-link.result.now c.link_at-link.ensures c.requires.wide

pub uses-requires-clause-second : goal.uses-requires-clause-second
uses-requires-clause-second g c = second-within c.args.topology.now c.known_link-over.result.0 _ c.link_at-link.result.now c.link_at-link.ensures c.requires.wide

pub returns-clause-answer : goal.returns-clause-answer
returns-clause-answer g c =
    uses-is c.args.topology.now (does (g.V.LabelView.rows c.args.view.now)) c.args.name.now c.known_link-over.result c.link_at-link.result.now c.in_ok-first.first c.in_ok-first.second
    c.known_link-over.ensures.value c.link_at-link.ensures c.in_ok-first.ensures.first c.in_ok-first.ensures.second

pub returns-clause-cost : goal.returns-clause-cost
returns-clause-cost g c =
    let most : 2 * length (g.V.LabelView.rows c.args.view.now) ≤ length (g.V.LabelView.rows c.args.view.now) * g.V.LabelView.width c.args.view.now =
    two-each c.args.topology.now c.known_link-over.result.0 _ (length (g.V.LabelView.rows c.args.view.now)) c.link_at-link.result.now c.link_at-link.ensures c.requires.wide in
    omega (arith, c.uses.ensures.cost)

pub returns-in_err-first-clause-cost : goal.returns-in_err-first-clause-cost
returns-in_err-first-clause-cost g c =
    let most : 2 * length (g.V.LabelView.rows c.args.view.now) ≤ length (g.V.LabelView.rows c.args.view.now) * g.V.LabelView.width c.args.view.now =
    two-each c.args.topology.now c.known_link-over.result.0 _ (length (g.V.LabelView.rows c.args.view.now)) c.link_at-link.result.now c.link_at-link.ensures c.requires.wide in
    omega (arith, c.uses.ensures.cost)
