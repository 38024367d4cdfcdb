use Rattle.std.proofs.Common.{◌≡◌, ◌∙◌, Option, List, sym, subst}
use Rattle.std.specs.List.{Contains}
use Rattle.base.specs.CyclesFrom.{IsCycleOf}
use Rattle.dn_model.specs.Network.{does_in}
use Rattle.base.specs.declared.cycle.Cycle.{Cycle}
use Rattle.base.proofs.CyclesFrom.{other-cycle, tell-new}
use Rattle.dn_model.proofs.plain_loops.tell_cycle.Goals as goal

pub put_cycle-requires-clause-other : goal.put_cycle-requires-clause-other
put_cycle-requires-clause-other c =
    let does = does_in c.args.net.now in
    let P : Option Cycle → Type 0 = λ o. IsCycleOf does c.args.routers o in
    let Q : List Cycle → Type 0 = λ cs. (x : Cycle) → Contains cs x → x.routers ≡ c.args.routers → ⊥ in
    other-cycle does c.in-Some.cycle c.args.routers c.args.cycles.now.items c.requires.form (subst P c.in-Some.is c.in_ok-cycle.ensures)
    (subst Q c.as_slice.ensures.value (λ x i e. c.has_cycle.ensures.refused c.if-has_cycle.false x i (e ∙ sym c.as_slice-2.ensures.value)))

pub returns : goal.returns
returns c =
    let does = does_in c.args.net.now in
    let P : Option Cycle → Type 0 = λ o. IsCycleOf does c.args.routers o in
    tell-new does c.in-Some.cycle c.args.routers c.args.cycles.now.items c.put_cycle.new.cycles.items c.requires.form (subst P c.in-Some.is c.in_ok-cycle.ensures) c.in_ok-put_cycle.ensures
