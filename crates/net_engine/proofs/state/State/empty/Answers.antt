use Rattle.std.proofs.Common.{◌∙◌, ap, length}
use Rattle.dn_model.specs.declared.topology.Topology.{Topology}
use Rattle.net_engine.proofs.Making.{empty-stands, empty-whole}
use Rattle.net_engine.proofs.state.State.empty.Goals as goal

pub returns-clause-sound : goal.returns-clause-sound
returns-clause-sound c =
    let count = c.router_count-routers.ensures.value ∙ ap (λ (t : Topology). length t.routers) c.deref.ensures in
    record {
      whole = empty-whole _ c.router_count-routers.result _ _ _ c.router_count-routers.ensures.few count c.in_ok-net.ensures.atoms c.in_ok-net.ensures.tables c.in_ok-down.ensures;
      paired = c.in_ok-net.ensures.paired;
      routers = c.in_ok-net.ensures.routers ∙ count;
    }

pub returns-clause-stands : goal.returns-clause-stands
returns-clause-stands c =
    let count = c.router_count-routers.ensures.value ∙ ap (λ (t : Topology). length t.routers) c.deref.ensures in
    empty-stands _ c.router_count-routers.result _ _ _ c.router_count-routers.ensures.few count c.in_ok-net.ensures.atoms c.in_ok-net.ensures.tables c.in_ok-down.ensures
