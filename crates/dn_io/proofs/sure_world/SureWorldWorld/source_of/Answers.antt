use Rattle.dn_io.proofs.CallsLemmas.{NoneFailed-added}
use Rattle.dn_io.proofs.sure_world.SureWorldWorld.source_of.Goals as goal

pub invariant_of-self : goal.invariant_of-self
invariant_of-self c =
    NoneFailed-added c.add_out.result c.self.inside.calls c.add_out.new.self c.args.name.now c.add_out.ensures.added c.add_out.ensures.same c.self.invariant
