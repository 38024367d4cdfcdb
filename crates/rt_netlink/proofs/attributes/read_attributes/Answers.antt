use Rattle.std.proofs.Common.{arith, ◌∙◌, None, Some, sym}
use Rattle.feed_model.specs.Attributes.{attributes_of}
use Rattle.rt_netlink.proofs.AttributesLemmas.{kept-all}
use Rattle.rt_netlink.proofs.KeptLemmas.{keeps_all}
use Rattle.rt_netlink.proofs.attributes.read_attributes.Goals as goal

pub returns-in_err-rest : goal.returns-in_err-rest
returns-in_err-rest c =
    rw c.from_residual.ensures (keeps_all c.args.is_set (attributes_of c.args.bytes.now) None (sym c.in_err-rest.ensures ∙ c.loop-rest.invariant))

pub returns : goal.returns
returns c =
    keeps_all c.args.is_set (attributes_of c.args.bytes.now) (Some c.loop-rest.kept)
    (kept-all c.args.is_set c.loop-rest.kept c.loop-rest.rest.now (omega arith) ∙ c.loop-rest.invariant)
