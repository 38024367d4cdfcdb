use Rattle.std.proofs.Common.{◌≡◌, get_or, map, subst}
use Rattle.base.specs.Links.{without}
use Rattle.net_engine.specs.Seen.{kept_in, net_in}
use Rattle.net_engine.specs.Version.{Atom}
use Rattle.net_engine.specs.declared.state.State.{State}
use Rattle.net_engine.proofs.RowsOfAtoms.{place-in, targets-read}
use Rattle.net_engine.proofs.version.VersionLabelView.row.Goals as goal

pub returns : goal.returns
returns c =
    targets-read (kept_in c.self.inside.state.value) c.args.self.now c.args.i c.row.new.out c.put_over.new.targets c.self.view_is
    (place-in (kept_in c.self.inside.state.value) c.args.self.now c.args.i c.self.view_is c.requires.place)
    (subst (λ (s : State). (d : Atom) → c.row.new.out ≡ (get_or (net_in s.net).atoms c.args.i d).row.targets) c.deref.ensures c.row.ensures)
    (subst (λ (s : State). c.put_over.new.targets ≡ map (without s.down) c.row.new.out) c.deref-2.ensures c.put_over.ensures)
