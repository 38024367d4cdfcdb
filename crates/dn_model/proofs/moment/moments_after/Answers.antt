use Rattle.std.proofs.Common.{◌≡◌, ◌+◌, ◌<◌, ◌∙◌, List, [], ◌∷◌, ◌++◌, length, ap, sym, subst, arith}
use Rattle.std.proofs.lemmas.List.{length-append}
use Rattle.dn_model.specs.Moment.{AreMomentsOf, IsMoment}
use Rattle.dn_model.specs.declared.moment.Moment.{Moment}
use Rattle.dn_model.proofs.Moments.{moments-push}
use Rattle.dn_model.proofs.moment.moments_after.Goals as goal

pub loop-next-preserved : goal.loop-next-preserved
loop-next-preserved c =
    let so_far = c.loop-next.moments.items in
    let count : length so_far ≡ c.loop-next.next = c.loop-next.invariant.1 in
    let more : length (so_far ++ c.in_ok-moment.moment ∷ []) ≡ length so_far + 1 = length-append so_far (c.in_ok-moment.moment ∷ []) in
    let below : c.loop-next.next < c.router_count-count.result = c.loop-next-test.true in
    let last : IsMoment c.args.t.now c.args.entries.now (record { 0 = length so_far }) c.in_ok-moment.moment =
    subst (λ n. IsMoment c.args.t.now c.args.entries.now (record { 0 = n }) c.in_ok-moment.moment) (sym count) c.in_ok-moment.ensures in
    let long : length c.push.new.self.items ≡ c.loop-next.next + 1 = ap (λ (ms : List Moment). length ms) c.in_ok-push.ensures.items ∙ more ∙ ap (λ n. n + 1) count in (
      (omega arith),
      long,
      subst (AreMomentsOf c.args.t.now c.args.entries.now) (sym c.in_ok-push.ensures.items) (moments-push c.args.t.now c.args.entries.now so_far c.in_ok-moment.moment c.loop-next.invariant.2 last),
    )
