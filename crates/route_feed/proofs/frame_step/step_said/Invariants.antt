use Rattle.std.proofs.Common.{◌≡◌, ◌+◌, ◌≤◌, All, length}
use Rattle.feed_model.specs.Feed.{IsToTableOf, gathered, nothing_gathered}
use Rattle.feed_model.specs.Payload.{payload_of}
use Rattle.rt_netlink.specs.Read.{said_from}
use Rattle.route_feed.specs.FeedReader.{IsFeedUpdate}
use Rattle.route_feed.specs.FrameStep.{count}
use Rattle.route_feed.proofs.frame_step.step_said.Given as goal

-- what is gathered, with what is left, comes to what the payload comes to; each message has at least one byte
abbrev pub invariant-loop-what : goal.invariant-loop-what
invariant-loop-what l =
    let all = payload_of l.device.tables.now l.payload in
    let rest = said_from l.device.tables.now (length l.payload) l.left in
    record {
      comes_to : gathered l.device.topology.now l.device.router l.gathered rest.items rest.refused ≡ gathered l.device.topology.now l.device.router nothing_gathered all.items all.refused;
      few : count l.gathered + length l.left ≤ length l.payload;
      own : All (IsToTableOf l.device.topology.now l.device.router) l.gathered.ops;
      within : All (IsFeedUpdate l.device.topology.now) l.gathered.ops;
    }

abbrev pub decreases-loop-what : goal.decreases-loop-what
decreases-loop-what l = length l.left
