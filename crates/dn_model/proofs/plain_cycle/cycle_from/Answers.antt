use Rattle.std.proofs.Common.{◌≡◌, ◌∙◌, ◌&&◌, not, nat_lt, true, false, ◌-◌, ◌+◌, ◌<◌, ◌≤◌, ◌++◌, ◌∷◌, [], List, length, ap, sym, subst, arith}
use Rattle.std.proofs.lemmas.List.{length-append}
use Rattle.std.specs.List.{list_any}
use Rattle.base.specs.Reach.{is_router}
use Rattle.base.specs.Cycles.{is_cycle, first_router}
use Rattle.base.specs.Walk.{at_address}
use Rattle.dn_model.specs.Network.{does_in, routers_in}
use Rattle.base.specs.declared.ids.RouterId.{RouterId}
use Rattle.base.proofs.CycleFrom.{IsTrail, trail-start, trail-next, none-last, none-other, none-left, found-back}
use Rattle.dn_model.proofs.plain_cycle.cycle_from.Goals as goal

pub loop-left-init : goal.loop-left-init
loop-left-init c =
    let f = at_address (does_in c.args.net.now) c.args.a in
    let P : List RouterId → Type 0 = λ rs. (length rs + c.router_count-left.result ≡ routers_in c.args.net.now + 1) × IsTrail f (routers_in c.args.net.now) c.args.first c.args.first rs in
    let n : c.router_count-left.result ≡ routers_in c.args.net.now = c.router_count-left.ensures in
    subst P (sym (c.in_ok-push.ensures.items ∙ ap (λ (rs : List RouterId). rs ++ c.args.first ∷ []) c.new-routers.ensures.items)) ((omega arith), trail-start f (routers_in c.args.net.now) c.args.first c.requires.first)

pub returns-in_default : goal.returns-in_default
returns-in_default c =
    let f = at_address (does_in c.args.net.now) c.args.a in
    none-last f (routers_in c.args.net.now) c.args.first c.loop-left.last c.loop-left.routers.items c.loop-left.invariant.1
    (λ s l e. c.in_default.not-To s l (c.target.ensures ∙ e))

pub returns-then-far-first : goal.returns-then-far-first
returns-then-far-first c =
    let f = at_address (does_in c.args.net.now) c.args.a in
    let P : List RouterId → Type 0 = λ rs. (is_cycle f rs ≡ true) × (first_router rs ≡ c.args.first.0) in
    subst P (sym c.from_vec.ensures)
    (found-back f (routers_in c.args.net.now) c.args.first c.loop-left.last c.in-To.far c.in-To.field-1 c.loop-left.routers.items c.loop-left.invariant.1 (sym (c.target.ensures) ∙ c.in-To.is) c.if-far-first.true)

pub returns-then-not-is_new_after : goal.returns-then-not-is_new_after
returns-then-not-is_new_after c =
    let f = at_address (does_in c.args.net.now) c.args.a in
    let P : List RouterId → Type 0 = λ rs. (nat_lt c.args.first.0 c.in-To.far.0 && not (list_any (is_router c.in-To.far) rs)) ≡ false in
    none-other f (routers_in c.args.net.now) c.args.first c.loop-left.last c.in-To.far c.in-To.field-1 c.loop-left.routers.items c.loop-left.invariant.1 (sym (c.target.ensures) ∙ c.in-To.is) c.if-far-first.false
    (subst P c.as_slice.ensures.value (sym c.is_new_after.ensures ∙ c.if-not-is_new_after.true))

pub loop-left-preserved : goal.loop-left-preserved
loop-left-preserved c =
    let f = at_address (does_in c.args.net.now) c.args.a in
    let n = routers_in c.args.net.now in
    let P : List RouterId → Type 0 = λ rs. (nat_lt c.args.first.0 c.in-To.far.0 && not (list_any (is_router c.in-To.far) rs)) ≡ true in
    let Q : List RouterId → Type 0 = λ rs. (length rs + (c.loop-left.left - 1) ≡ n + 1) × IsTrail f n c.args.first c.in-To.far rs in
    let to = sym (c.target.ensures) ∙ c.in-To.is in
    let trail : IsTrail f n c.args.first c.loop-left.last c.loop-left.routers.items = c.loop-left.invariant.1 in
    let more : length (c.loop-left.routers.items ++ c.in-To.far ∷ []) ≡ length c.loop-left.routers.items + 1 = length-append c.loop-left.routers.items (c.in-To.far ∷ []) in
    let some : 0 < c.loop-left.left = c.loop-left-test.true in
    let all : length c.loop-left.routers.items + c.loop-left.left ≡ n + 1 = c.loop-left.invariant.0 in
    subst Q (sym c.in_ok-push-2.ensures.items) (
      (omega arith),
      trail-next f n c.args.first c.loop-left.last c.in-To.far c.in-To.field-1 c.loop-left.routers.items trail to c.if-far-first.false
          (c.requires.closed c.args.a c.loop-left.last c.in-To.far c.in-To.field-1 trail.inside to)
          (subst P c.as_slice.ensures.value (sym c.is_new_after.ensures ∙ c.if-not-is_new_after.false)),
    )

pub returns : goal.returns
returns c =
    let f = at_address (does_in c.args.net.now) c.args.a in
    let all : length c.loop-left.routers.items + c.loop-left.left ≡ routers_in c.args.net.now + 1 = c.loop-left.invariant.0 in
    let none : c.loop-left.left ≤ 0 = c.loop-left-test.false in
    absurd (none-left f (routers_in c.args.net.now) c.args.first c.loop-left.last c.loop-left.routers.items c.loop-left.invariant.1 (omega arith))
