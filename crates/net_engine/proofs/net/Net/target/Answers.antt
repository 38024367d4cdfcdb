use Rattle.std.proofs.Common.{◌∙◌, refl}
use Rattle.net_engine.specs.Seen.{net_in}
use Rattle.net_engine.proofs.Standing.{place-below, target-at-place, there-below}
use Rattle.net_engine.proofs.net.Net.target.Goals as goal

pub target-requires-clause-place : goal.target-requires-clause-place
target-requires-clause-place c =
    there-below c.args.self.now.routers c.args.self.now.atoms c.args.self.now.labels c.args.self.now.tables c.args.i c.requires.paired
    (place-below (net_in c.args.self.now) c.args.self.now.routers c.args.self.now.atoms c.args.self.now.labels c.args.self.now.tables c.args.i refl c.requires.place)

pub returns : goal.returns
returns c = λ d.
    c.target.ensures
    ∙ target-at-place (net_in c.args.self.now) c.args.self.now.routers c.args.self.now.atoms c.args.self.now.labels c.args.self.now.tables c.args.i d c.args.r refl (place-below (net_in c.args.self.now) c.args.self.now.routers c.args.self.now.atoms c.args.self.now.labels c.args.self.now.tables c.args.i refl c.requires.place)
