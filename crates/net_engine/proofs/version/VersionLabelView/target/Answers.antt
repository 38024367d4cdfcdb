use Rattle.std.proofs.Common.{◌≡◌, get_or, subst, sym}
use Rattle.base.specs.Forwarding.{target_of}
use Rattle.base.specs.Links.{without}
use Rattle.net_engine.specs.Seen.{IsSound, kept_in, net_in}
use Rattle.net_engine.specs.Version.{Atom}
use Rattle.net_engine.specs.declared.state.State.{State}
use Rattle.net_engine.proofs.RowsOfAtoms.{place-in, target-read}
use Rattle.net_engine.proofs.version.VersionLabelView.target.Goals as goal

pub target-requires-clause-paired : goal.target-requires-clause-paired
target-requires-clause-paired c = (subst (λ (s : State). IsSound s) (sym c.deref-2.ensures) c.self.invariant).paired

pub returns : goal.returns
returns c =
    target-read (kept_in c.self.inside.state.value) c.args.self.now c.args.i c.args.r c.target.result c.shown.result c.self.view_is
    (place-in (kept_in c.self.inside.state.value) c.args.self.now c.args.i c.self.view_is c.requires.place)
    (subst (λ (s : State). (d : Atom) → c.target.result ≡ target_of (get_or (net_in s.net).atoms c.args.i d).row c.args.r) c.deref-2.ensures c.target.ensures)
    (subst (λ (s : State). c.shown.result ≡ without s.down c.target.result) c.deref.ensures c.shown.ensures)
