use Rattle.std.proofs.Common.{◌≡◌, true, subst}
use Rattle.base.specs.Cycles.{is_cycle}
use Rattle.loop_check.specs.Following.{IsFollowed, hops, is_among}
use Rattle.loop_check.specs.declared.follow.Followed.{Followed}
use Rattle.loop_check.proofs.Rounds.{one-shared}
use Rattle.loop_check.proofs.follow.find_cycle.Goals as goal

pub returns-in-Round : goal.returns-in-Round
returns-in-Round c =
    let P : Followed → Type 0 = λ w. IsFollowed (hops c.args.targets.now) c.earlier.first c.follow.new.path.items w in
    let back : (is_cycle (hops c.args.targets.now) c.follow.new.path.items ≡ true) × (is_among c.follow.new.path.items c.earlier.first ≡ true) = subst P c.in-Round.is c.in_ok-follow.ensures in (
      back.0,
      λ rs k m. one-shared (hops c.args.targets.now) rs c.follow.new.path.items c.earlier.first k back.0 (c.earlier.invariant.follows rs k m) back.1,
    )
