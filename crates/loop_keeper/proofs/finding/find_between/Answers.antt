use Rattle.std.proofs.Common.{◌+◌, ◌-◌, ◌*◌, ◌≤◌, arith}
use Rattle.loop_keeper.proofs.Looking.{looks-more, looks-most}
use Rattle.loop_keeper.proofs.Meeting.{finds-next, finds-start}
use Rattle.loop_keeper.proofs.finding.find_between.Goals as goal

pub loop-i-init : goal.loop-i-init
loop-i-init g c = record {
  found = λ does. finds-start (g.V.LabelView.rows c.args.view.now) c.args.first c.args.start.router c.args.search.now.found.items;
  inside = λ h. h;
  within = omega arith;
  cost = omega arith;
}

pub loop-i-preserved : goal.loop-i-preserved
loop-i-preserved g c =
    let one : c.find_at.new.steps ≤ c.loop-i.steps + g.V.LabelView.width c.args.view.now * 1 = omega (arith, c.find_at.ensures.cost) in
    let sum : c.loop-i.i - c.args.first + 1 ≤ c.loop-i.i + 1 - c.args.first = omega arith in
    record {
      found = λ does. finds-next (g.V.LabelView.rows c.args.view.now) c.args.first c.loop-i.i c.args.start.router c.args.search.now.found.items c.loop-i.search.found.items c.find_at.new.search.found.items
          (c.loop-i.invariant.found (λ k f b. does k f (omega arith))) (c.in_ok-find_at.ensures.found (does c.loop-i.i (omega arith) (omega arith)));
      inside = λ h. c.in_ok-find_at.ensures.inside (c.loop-i.invariant.inside h);
      within = omega arith;
      cost = looks-more (g.V.LabelView.width c.args.view.now) c.args.steps.now c.loop-i.steps c.find_at.new.steps (c.loop-i.i - c.args.first) 1 (c.loop-i.i + 1 - c.args.first) c.loop-i.invariant.cost one sum;
    }

pub returns-clause-cost : goal.returns-clause-cost
returns-clause-cost g c = looks-most (g.V.LabelView.width c.args.view.now) c.args.steps.now c.loop-i.steps (c.loop-i.i - c.args.first) (c.args.past - c.args.first) c.loop-i.invariant.cost c.loop-i.invariant.within

pub returns-clause-found : goal.returns-clause-found
returns-clause-found g c = λ does.
    let so-far = c.loop-i.invariant.found (λ k f b. does k f (omega (arith, c.loop-i.invariant.within))) in
    record {
      sound = so-far.sound;
      inside = so-far.inside;
      kept = so-far.kept;
      found = λ k f b. so-far.found k f (omega (arith, c.loop-i-test.false));
    }
