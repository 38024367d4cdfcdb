use Rattle.std.proofs.Common.{Bool, true, List, subst}
use Rattle.base.specs.declared.ids.RouterId.{RouterId}
use Rattle.loop_check.specs.Following.{IsCycleAt, hops}
use Rattle.loop_check.specs.FirstOrder.{IsPutByFirst}
use Rattle.loop_check.proofs.ByFirst.{some-put, told-put}
use Rattle.loop_check.proofs.row.tell_from.Goals as goal
use Rattle.loop_check.proofs.row.tell_from.Goals.{In_ok-put_cycle}

found : (c : In_ok-put_cycle) → IsCycleAt (hops c.args.targets.now) c.in-Some.router c.find_cycle.new.path.items true
found c =
    let P : Bool → Type 0 = λ b. IsCycleAt (hops c.args.targets.now) c.in-Some.router c.find_cycle.new.path.items b in
    subst P c.if-branch.true c.in_ok-find_cycle.ensures

put : (c : In_ok-put_cycle) → IsPutByFirst c.find_cycle.new.path.items c.args.cycles.now.items c.put_cycle.new.cycles.items
put c =
    let P : List RouterId → Type 0 = λ rs. IsPutByFirst rs c.args.cycles.now.items c.put_cycle.new.cycles.items in
    subst P c.as_slice.ensures.value c.in_ok-put_cycle.ensures

pub returns-in_ok-put_cycle-clause-form : goal.returns-in_ok-put_cycle-clause-form
returns-in_ok-put_cycle-clause-form c = some-put (hops c.args.targets.now) c.find_cycle.new.path.items c.args.cycles.now.items c.put_cycle.new.cycles.items c.requires.form (found c).0 (put c)

pub returns-in_ok-put_cycle-clause-told : goal.returns-in_ok-put_cycle-clause-told
returns-in_ok-put_cycle-clause-told c =
    told-put (hops c.args.targets.now) c.in-Some.router c.find_cycle.new.path.items c.args.passed.now c.walk_from.new.passed c.args.cycles.now.items c.put_cycle.new.cycles.items c.requires.form (put c) (found c) c.requires.told c.in-Some.ensures.told
