use Rattle.std.proofs.Common.{Option, IfSome, subst}
use Rattle.std.specs.Arc.{arc_value}
use Rattle.dn_model.specs.Entry.{entries}
use Rattle.net_engine.specs.Version.{Kept}
use Rattle.version_store.specs.Kept.{StandsWith}
use Rattle.version_store.proofs.versions.picture_of.Goals as goal

pub returns-in-Some : goal.returns-in-Some
returns-in-Some c =
    let t = arc_value c.args.topology.now in
    let es = entries c.args.history.now in
    let P : Option Kept → Type 0 = λ o. IfSome o (λ v. StandsWith t es v c.args.loops.now) in
    c.in_ok-picture.ensures t es (subst P c.in-Some.is c.requires.stands)
