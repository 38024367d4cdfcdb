use Rattle.std.proofs.Common.{◌≡◌, length}
use Rattle.feed_model.specs.Attributes.{attributes_of}
use Rattle.rt_netlink.specs.Gathered.{nothing_kept, kept_after}
use Rattle.rt_netlink.proofs.attributes.read_attributes.Given as goal

-- what is kept, with what is left, is what all attributes say
abbrev pub invariant-loop-rest : goal.invariant-loop-rest
invariant-loop-rest l =
    kept_after l.is_set l.kept (attributes_of l.rest) ≡ kept_after l.fn.is_set nothing_kept (attributes_of l.fn.bytes)

abbrev pub decreases-loop-rest : goal.decreases-loop-rest
decreases-loop-rest l = length l.rest
