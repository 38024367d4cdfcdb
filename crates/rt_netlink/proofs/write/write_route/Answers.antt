use Rattle.std.proofs.Common.{rules, ◌≡◌, arith}
use Rattle.feed_model.specs.Message.{message_text}
use Rattle.rt_netlink.proofs.WrittenRoute.{route_said}
use Rattle.rt_netlink.proofs.write.write_route.Goals as goal

pub returns-clause-says : goal.returns-clause-says
returns-clause-says c =
    let text : c.push_attributes.new.out.items ≡ message_text c.args.route.now = search rules in
    λ tables read. rw text (route_said tables c.args.route.now c.requires.sayable read (omega arith))
