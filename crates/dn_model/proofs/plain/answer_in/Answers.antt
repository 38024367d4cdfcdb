use Rattle.std.proofs.Common.{◌∷◌, []}
use Rattle.dn_model.specs.Query.{RouterName, LinkName}
use Rattle.dn_model.specs.declared.query.Ask.TheVariants.{Path, Reach, Uses, Blackholes, Waypoint}
use Rattle.base.proofs.Elements.{contains-here, contains-there}
use Rattle.dn_model.proofs.Known.{known-of}
use Rattle.dn_model.proofs.plain.answer_in.Goals as goal

pub plain_path-requires-clause-name : goal.plain_path-requires-clause-name
plain_path-requires-clause-name c =
    known-of c.args.t.now c.args.ask.now (Path c.in-Path.name c.in-Path.a) (RouterName c.in-Path.name) c.requires.known c.in-Path.is
    (contains-here (RouterName c.in-Path.name) ([]))

pub plain_reach-requires-clause-from : goal.plain_reach-requires-clause-from
plain_reach-requires-clause-from c =
    known-of c.args.t.now c.args.ask.now (Reach c.in-Reach.from c.in-Reach.to) (RouterName c.in-Reach.from) c.requires.known c.in-Reach.is
    (contains-here (RouterName c.in-Reach.from) (RouterName c.in-Reach.to ∷ []))

pub plain_reach-requires-clause-to : goal.plain_reach-requires-clause-to
plain_reach-requires-clause-to c =
    known-of c.args.t.now c.args.ask.now (Reach c.in-Reach.from c.in-Reach.to) (RouterName c.in-Reach.to) c.requires.known c.in-Reach.is
    (contains-there (RouterName c.in-Reach.from) (RouterName c.in-Reach.to) (RouterName c.in-Reach.to ∷ []) (contains-here (RouterName c.in-Reach.to) ([])))

pub plain_uses-requires : goal.plain_uses-requires
plain_uses-requires c = record {
  name = known-of c.args.t.now c.args.ask.now (Uses c.in-Uses.name) (LinkName c.in-Uses.name) c.requires.known c.in-Uses.is (contains-here (LinkName c.in-Uses.name) []);
}

pub plain_waypoint-requires-clause-from : goal.plain_waypoint-requires-clause-from
plain_waypoint-requires-clause-from c =
    known-of c.args.t.now c.args.ask.now (Waypoint c.in-Waypoint.from c.in-Waypoint.to c.in-Waypoint.through) (RouterName c.in-Waypoint.from) c.requires.known c.in-Waypoint.is
    (contains-here (RouterName c.in-Waypoint.from) (RouterName c.in-Waypoint.to ∷ RouterName c.in-Waypoint.through ∷ []))

pub plain_waypoint-requires-clause-to : goal.plain_waypoint-requires-clause-to
plain_waypoint-requires-clause-to c =
    known-of c.args.t.now c.args.ask.now (Waypoint c.in-Waypoint.from c.in-Waypoint.to c.in-Waypoint.through) (RouterName c.in-Waypoint.to) c.requires.known c.in-Waypoint.is
    (contains-there (RouterName c.in-Waypoint.from) (RouterName c.in-Waypoint.to) (RouterName c.in-Waypoint.to ∷ RouterName c.in-Waypoint.through ∷ []) (contains-here (RouterName c.in-Waypoint.to) (RouterName c.in-Waypoint.through ∷ [])))

pub plain_waypoint-requires-clause-through : goal.plain_waypoint-requires-clause-through
plain_waypoint-requires-clause-through c =
    known-of c.args.t.now c.args.ask.now (Waypoint c.in-Waypoint.from c.in-Waypoint.to c.in-Waypoint.through) (RouterName c.in-Waypoint.through) c.requires.known c.in-Waypoint.is
    (contains-there (RouterName c.in-Waypoint.from) (RouterName c.in-Waypoint.through) (RouterName c.in-Waypoint.to ∷ RouterName c.in-Waypoint.through ∷ []) (contains-there (RouterName c.in-Waypoint.to) (RouterName c.in-Waypoint.through) (RouterName c.in-Waypoint.through ∷ []) (contains-here (RouterName c.in-Waypoint.through) ([]))))

pub plain_holes-requires-clause-name : goal.plain_holes-requires-clause-name
plain_holes-requires-clause-name c =
    known-of c.args.t.now c.args.ask.now (Blackholes c.in-Blackholes.name) (RouterName c.in-Blackholes.name) c.requires.known c.in-Blackholes.is
    (contains-here (RouterName c.in-Blackholes.name) ([]))
