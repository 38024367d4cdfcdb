use Rattle.std.proofs.Common.{◌∙◌, ◌∷◌, [], sym}
use Rattle.dn_model.specs.Query.{RouterName, LinkName}
use Rattle.dn_model.specs.declared.query.Ask.TheVariants.{Path, Uses, Waypoint}
use Rattle.base.proofs.Elements.{contains-here, contains-there}
use Rattle.dn_model.proofs.Known.{router-known, link-known}
use Rattle.row_answers.proofs.NamesKnown.{holes-from, reach-from, reach-to}
use Rattle.row_answers.proofs.asked.shown.Goals as goal

pub path-requires-clause-name : goal.path-requires-clause-name
path-requires-clause-name g c =
    router-known c.args.topology.now c.args.query.now (Path c.in-Path.name c.in-Path.address) c.in-Path.name c.requires.known (sym c.ask.ensures.value ∙ c.in-Path.is) (contains-here (RouterName c.in-Path.name) [])

pub reach-requires-clause-from : goal.reach-requires-clause-from
reach-requires-clause-from g c = reach-from c.args.topology.now c.args.query.now c.in-Reach.from c.in-Reach.to c.requires.known (sym c.ask.ensures.value ∙ c.in-Reach.is)

pub reach-requires-clause-to : goal.reach-requires-clause-to
reach-requires-clause-to g c = reach-to c.args.topology.now c.args.query.now c.in-Reach.from c.in-Reach.to c.requires.known (sym c.ask.ensures.value ∙ c.in-Reach.is)

pub uses-requires-clause-name : goal.uses-requires-clause-name
uses-requires-clause-name g c =
    link-known c.args.topology.now c.args.query.now (Uses c.in-Uses.name) c.in-Uses.name c.requires.known (sym c.ask.ensures.value ∙ c.in-Uses.is) (contains-here (LinkName c.in-Uses.name) [])

pub waypoint-requires-clause-from : goal.waypoint-requires-clause-from
waypoint-requires-clause-from g c =
    let ask = Waypoint c.in-Waypoint.from c.in-Waypoint.to c.in-Waypoint.through in
    router-known c.args.topology.now c.args.query.now ask c.in-Waypoint.from c.requires.known (sym c.ask.ensures.value ∙ c.in-Waypoint.is)
    (contains-here (RouterName c.in-Waypoint.from) (RouterName c.in-Waypoint.to ∷ RouterName c.in-Waypoint.through ∷ []))

pub waypoint-requires-clause-to : goal.waypoint-requires-clause-to
waypoint-requires-clause-to g c =
    let ask = Waypoint c.in-Waypoint.from c.in-Waypoint.to c.in-Waypoint.through in
    router-known c.args.topology.now c.args.query.now ask c.in-Waypoint.to c.requires.known (sym c.ask.ensures.value ∙ c.in-Waypoint.is)
    (contains-there (RouterName c.in-Waypoint.from) (RouterName c.in-Waypoint.to) (RouterName c.in-Waypoint.to ∷ RouterName c.in-Waypoint.through ∷ [])
    (contains-here (RouterName c.in-Waypoint.to) (RouterName c.in-Waypoint.through ∷ [])))

pub waypoint-requires-clause-through : goal.waypoint-requires-clause-through
waypoint-requires-clause-through g c =
    let ask = Waypoint c.in-Waypoint.from c.in-Waypoint.to c.in-Waypoint.through in
    router-known c.args.topology.now c.args.query.now ask c.in-Waypoint.through c.requires.known (sym c.ask.ensures.value ∙ c.in-Waypoint.is)
    (contains-there (RouterName c.in-Waypoint.from) (RouterName c.in-Waypoint.through) (RouterName c.in-Waypoint.to ∷ RouterName c.in-Waypoint.through ∷ [])
    (contains-there (RouterName c.in-Waypoint.to) (RouterName c.in-Waypoint.through) (RouterName c.in-Waypoint.through ∷ [])
    (contains-here (RouterName c.in-Waypoint.through) [])))

pub holes-requires-clause-name : goal.holes-requires-clause-name
holes-requires-clause-name g c = holes-from c.args.topology.now c.args.query.now c.in-Blackholes.name c.requires.known (sym c.ask.ensures.value ∙ c.in-Blackholes.is)
