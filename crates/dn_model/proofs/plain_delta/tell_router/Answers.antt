use Rattle.std.proofs.Common.{◌<◌, ◌≤◌, ◌^◌, refl, arith}
use Rattle.base.proofs.DeltaParts.{from-part}
use Rattle.dn_model.specs.Network.{does_in}
use Rattle.dn_model.proofs.plain_delta.tell_router.Goals as goal

pub loop-past-preserved : goal.loop-past-preserved
loop-past-preserved c =
    let lower : c.in_ok-past.past < c.loop-past.past = c.in_ok-past.ensures.lower in
    let below : c.loop-past.past ≤ 2 ^ 32 = c.loop-past.invariant.0 in (
      (omega arith),
      from-part (does_in c.args.before.now) (does_in c.args.after.now) c.args.router c.in_ok-past.past c.loop-past.past (does_in c.args.before.now c.args.router) (does_in c.args.after.now c.args.router) c.loop-past.changes.items c.tell_interval.new.changes.items lower
          (λ a. refl) (λ a. refl) c.loop-past.invariant.1 c.in_ok-past.ensures.told,
    )
