use Rattle.std.proofs.Common.{◌∙◌, ap, refl, sym}
use Rattle.net_engine.specs.Seen.{net_in}
use Rattle.net_engine.specs.Version.{Atom}
use Rattle.net_engine.proofs.RowsRead.{targets-read}
use Rattle.net_engine.proofs.Standing.{atom-at-place, place-below, some-row, there-below}
use Rattle.net_engine.proofs.net.Net.row.Goals as goal

pub row-requires-clause-place : goal.row-requires-clause-place
row-requires-clause-place c =
    there-below c.args.self.now.routers c.args.self.now.atoms c.args.self.now.labels c.args.self.now.tables c.args.i c.requires.paired
    (place-below (net_in c.args.self.now) c.args.self.now.routers c.args.self.now.atoms c.args.self.now.labels c.args.self.now.tables c.args.i refl c.requires.place)

pub row-requires-clause-wide : goal.row-requires-clause-wide
row-requires-clause-wide c = c.requires.wide ∙ sym c.requires.paired.same_routers

pub returns : goal.returns
returns c = λ d.
    let place = place-below (net_in c.args.self.now) c.args.self.now.routers c.args.self.now.atoms c.args.self.now.labels c.args.self.now.tables c.args.i refl c.requires.place in
    targets-read c.args.self.now.atoms c.args.self.now.labels c.args.i c.row.new.out c.requires.paired.labelled place (c.row.ensures.room ∙ c.requires.wide ∙ sym c.requires.paired.same_routers) c.row.ensures.targets
    ∙ ap (λ (x : Atom). x.row.targets) (atom-at-place (net_in c.args.self.now) c.args.self.now.routers c.args.self.now.atoms c.args.self.now.labels c.args.self.now.tables c.args.i d some-row refl place)
