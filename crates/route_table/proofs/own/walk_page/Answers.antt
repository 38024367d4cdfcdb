use Rattle.std.proofs.Common.{◌≡◌, ◌≢◌, ◌<◌, ◌≤◌, ◌+◌, ◌∙◌, [], ap, sym, subst, get_or, length, take, arith}
use Rattle.std.proofs.lemmas.Bool.{both_ways}
use Rattle.route_table.specs.Along.{Along, along}
use Rattle.route_table.specs.Rows.{slot_in, slots_in}
use Rattle.route_table.specs.Slots.{PrefixRoutes}
use Rattle.route_table.proofs.Along.{ends-at}
use Rattle.route_table.proofs.SideBySide.{inside, stands}
use Rattle.route_table.proofs.Walking.{ended, few-more, gone-at, gone-few, gone-runs, passed-below, passed-empty}
use Rattle.route_table.proofs.own.walk_page.Goals.{then-base-at+then-not-is_empty+in_ok-push_gap, else-base-at, else-base-at-via-then-base-at+else-not-is_empty, else-base-at-via-else-base-at}
use Rattle.route_table.proofs.own.walk_page.Goals as goal

pub returns-then-base-past-clause-at : goal.returns-then-base-past-clause-at
returns-then-base-past-clause-at g c =
    let from : Along = record { at = c.args.at; runs = c.args.runs.now.items; begun = [] } in
    c.loop-row.invariant.at ∙ sym (ap (λ (v : Along). v.at) (ended c.args.past from (slots_in c.args.lane.index c.args.page.now) c.loop-row.row-index (slot_in c.args.lane.index c.row-item.result) (inside c.args.lane.index c.args.page.now c.loop-row.row-index (omega arith)) (stands c.args.lane.index c.args.page.now c.loop-row.row-index c.row-item.result (slot_in c.args.lane.index c.row-item.result) (omega arith) c.row-item.is) c.from-base.result c.requires.form (c.from-base.ensures ∙ c.base.ensures.value) c.if-base-past.true))

pub returns-then-base-past-clause-runs : goal.returns-then-base-past-clause-runs
returns-then-base-past-clause-runs g c =
    let from : Along = record { at = c.args.at; runs = c.args.runs.now.items; begun = [] } in
    c.loop-row.invariant.runs ∙ sym (ap (λ (v : Along). v.runs) (ended c.args.past from (slots_in c.args.lane.index c.args.page.now) c.loop-row.row-index (slot_in c.args.lane.index c.row-item.result) (inside c.args.lane.index c.args.page.now c.loop-row.row-index (omega arith)) (stands c.args.lane.index c.args.page.now c.loop-row.row-index c.row-item.result (slot_in c.args.lane.index c.row-item.result) (omega arith) c.row-item.is) c.from-base.result c.requires.form (c.from-base.ensures ∙ c.base.ensures.value) c.if-base-past.true))

pub returns-then-base-past-clause-ended : goal.returns-then-base-past-clause-ended
returns-then-base-past-clause-ended g c = λ _.
    let is : slot_in c.args.lane.index c.row-item.result ≡ get_or (slots_in c.args.lane.index c.args.page.now) c.loop-row.row-index (slot_in c.args.lane.index c.row-item.result) =
    stands c.args.lane.index c.args.page.now c.loop-row.row-index c.row-item.result (slot_in c.args.lane.index c.row-item.result) (omega arith) c.row-item.is in
    let base : c.from-base.result ≡ (slot_in c.args.lane.index c.row-item.result).prefix.base = c.from-base.ensures ∙ c.base.ensures.value in
    ends-at c.args.past (slots_in c.args.lane.index c.args.page.now) c.loop-row.row-index (slot_in c.args.lane.index c.row-item.result) (inside c.args.lane.index c.args.page.now c.loop-row.row-index (omega arith))
    (subst (λ (s : PrefixRoutes). c.args.past ≤ s.prefix.base) is (omega (arith, base, c.if-base-past.true)))

pub returns-then-base-past-clause-cost : goal.returns-then-base-past-clause-cost
returns-then-base-past-clause-cost g c =
    let from : Along = record { at = c.args.at; runs = c.args.runs.now.items; begun = [] } in
    let few = few-more c.args.past from (slots_in c.args.lane.index c.args.page.now) c.loop-row.row-index in
    omega (arith, few, c.loop-row.invariant.few)

pub returns-in_err-push_gap-clause-cost : goal.returns-in_err-push_gap-clause-cost
returns-in_err-push_gap-clause-cost g c =
    let from : Along = record { at = c.args.at; runs = c.args.runs.now.items; begun = [] } in
    let few = few-more c.args.past from (slots_in c.args.lane.index c.args.page.now) (c.loop-row.row-index + 1) in
    let more = gone-few c.args.past from (slots_in c.args.lane.index c.args.page.now) c.loop-row.row-index (slot_in c.args.lane.index c.row-item.result) (inside c.args.lane.index c.args.page.now c.loop-row.row-index (omega arith)) (stands c.args.lane.index c.args.page.now c.loop-row.row-index c.row-item.result (slot_in c.args.lane.index c.row-item.result) (omega arith) c.row-item.is) c.loop-row.at c.from-base.result c.args.steps.now c.tick.new.self (c.from-base.ensures ∙ c.base.ensures.value) c.if-base-past.false c.if-base-at.true
    (λ e. both_ways c.is_empty.result c.if-not-is_empty.true (c.is_empty.ensures.1 (c.targets.ensures ∙ e))) c.loop-row.invariant.at (omega arith) in
    omega (arith, few, more)

pub loop-row-preserved : goal.loop-row-preserved
loop-row-preserved g c =
    let from : Along = record { at = c.args.at; runs = c.args.runs.now.items; begun = [] } in
    let l : c.loop-row.row-index < length (slots_in c.args.lane.index c.args.page.now) = inside c.args.lane.index c.args.page.now c.loop-row.row-index (omega arith) in
    let base = c.from-base.ensures ∙ c.base.ensures.value in
    elim c.if-base-at.branch [
      | then-base-at+then-not-is_empty+in_ok-push_gap w ↦
          let some : (slot_in c.args.lane.index c.row-item.result).targets ≢ [] = λ e. both_ways w.is_empty.result w.if-not-is_empty.true (w.is_empty.ensures.1 (w.targets.ensures ∙ e)) in
          record {
            at = w.at-is ∙ gone-at c.args.past from (slots_in c.args.lane.index c.args.page.now) c.loop-row.row-index (slot_in c.args.lane.index c.row-item.result) l (stands c.args.lane.index c.args.page.now c.loop-row.row-index c.row-item.result (slot_in c.args.lane.index c.row-item.result) (omega arith) c.row-item.is) c.loop-row.at c.from-base.result w.past_of-at.result base c.if-base-past.false w.if-base-at.true some c.loop-row.invariant.at w.past_of-at.ensures.value;
            runs = gone-runs c.args.past from (slots_in c.args.lane.index c.args.page.now) c.loop-row.row-index (slot_in c.args.lane.index c.row-item.result) l (stands c.args.lane.index c.args.page.now c.loop-row.row-index c.row-item.result (slot_in c.args.lane.index c.row-item.result) (omega arith) c.row-item.is) c.loop-row.at c.from-base.result c.loop-row.runs.items c.if-base-at.runs.items base c.if-base-past.false w.if-base-at.true some c.loop-row.invariant.at c.loop-row.invariant.runs (ap (λ v. v.items) w.runs-is ∙ w.in_ok-push_gap.ensures);
            few = gone-few c.args.past from (slots_in c.args.lane.index c.args.page.now) c.loop-row.row-index (slot_in c.args.lane.index c.row-item.result) l (stands c.args.lane.index c.args.page.now c.loop-row.row-index c.row-item.result (slot_in c.args.lane.index c.row-item.result) (omega arith) c.row-item.is) c.loop-row.at c.from-base.result c.args.steps.now c.if-base-at.steps base c.if-base-past.false w.if-base-at.true some c.loop-row.invariant.at (omega arith);
          }
      | else-base-at w ↦
          let same : along c.args.past from (take (c.loop-row.row-index + 1) (slots_in c.args.lane.index c.args.page.now)) ≡ along c.args.past from (take c.loop-row.row-index (slots_in c.args.lane.index c.args.page.now)) =
          elim w.else-base-at.branch [
            | else-base-at-via-then-base-at+else-not-is_empty w' ↦ passed-empty c.args.past from (slots_in c.args.lane.index c.args.page.now) c.loop-row.row-index (slot_in c.args.lane.index c.row-item.result) l (stands c.args.lane.index c.args.page.now c.loop-row.row-index c.row-item.result (slot_in c.args.lane.index c.row-item.result) (omega arith) c.row-item.is) (sym w'.targets.ensures ∙ w'.is_empty.ensures.0 w'.if-not-is_empty.false)
            | else-base-at-via-else-base-at w' ↦ passed-below c.args.past from (slots_in c.args.lane.index c.args.page.now) c.loop-row.row-index (slot_in c.args.lane.index c.row-item.result) l (stands c.args.lane.index c.args.page.now c.loop-row.row-index c.row-item.result (slot_in c.args.lane.index c.row-item.result) (omega arith) c.row-item.is) c.loop-row.at c.from-base.result base w'.if-base-at.false c.loop-row.invariant.at
          ] in
          record {
            at = w.at-is ∙ c.loop-row.invariant.at ∙ sym (ap (λ (v : Along). v.at) same);
            runs = ap (λ v. v.items) w.runs-is ∙ c.loop-row.invariant.runs ∙ sym (ap (λ (v : Along). v.runs) same);
            few = let e = ap (λ (v : Along). length v.begun) same in omega (arith, e, w.steps-is, c.loop-row.invariant.few);
          }
    ]
