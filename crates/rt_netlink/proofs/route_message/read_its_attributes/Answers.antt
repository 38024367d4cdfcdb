use Rattle.std.proofs.lemmas.Slice.{between_is}
use Rattle.rt_netlink.proofs.route_message.read_its_attributes.Goals as goal

pub returns : goal.returns
returns c =
    let cut = between_is c.args.bytes.now 28 c.args.length in
    rw (cut, c.requires.whole.length_is, ← c.requires.del) at c.read_attributes.ensures
