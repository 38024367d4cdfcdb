use Rattle.std.proofs.Common.{◌∙◌, arith}
use Rattle.dn_run.proofs.deal.deal_owns.Goals as goal

pub loop-alloc-preserved : goal.loop-alloc-preserved
loop-alloc-preserved g c =
    let more = c.in_ok-dealt.ensures.more in
    let fewer = c.in_ok-dealt.ensures.fewer in
    let few = c.loop-alloc.invariant.few in
    let room = c.loop-alloc.invariant.room in
    let same = c.in_ok-dealt.ensures.room in
    record {
      jobs = c.in_ok-dealt.ensures.jobs ∙ c.loop-alloc.invariant.jobs;
      readers = c.in_ok-dealt.ensures.readers ∙ c.loop-alloc.invariant.readers;
      few = omega (arith, more, fewer, few);
      room = omega (arith, more, fewer, room, same);
    }
