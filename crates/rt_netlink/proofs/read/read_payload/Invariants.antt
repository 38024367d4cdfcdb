use Rattle.std.proofs.Common.{All, ◌≡◌, ◌≤◌, length}
use Rattle.feed_model.specs.Payload.{payload_of, IsSayable}
use Rattle.rt_netlink.specs.Read.{with_items, said_from}
use Rattle.rt_netlink.proofs.read.read_payload.Given as goal

-- the items so far, and then what is said from here on, are what the payload says
abbrev pub invariant-loop-what : goal.invariant-loop-what
invariant-loop-what l = record {
  within : length l.left ≤ length l.fn.bytes;
  told : with_items l.items (said_from l.tables (length l.fn.bytes) l.left) ≡ payload_of l.fn.tables l.fn.bytes;
  sayable : All (λ item. IsSayable item.what) l.items;
}

abbrev pub decreases-loop-what : goal.decreases-loop-what
decreases-loop-what l = length l.left
