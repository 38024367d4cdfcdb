use Rattle.std.proofs.Common.{◌≡◌, ◌≤◌, ◌<◌, ◌+◌, ◌-◌, ◌∙◌, [], ap, sym, refl, take, drop, length, arith}
use Rattle.route_table.specs.Along.{Along, along}
use Rattle.route_table.specs.Rows.{slots_in}
use Rattle.route_table.specs.Slots.{key_of, slot_key}
use Rattle.route_table.proofs.Listed.{run-inside}
use Rattle.route_table.proofs.OwnRuns.{own-are, passed-few}
use Rattle.route_table.proofs.OwnWalk.{few-done, left-last, none-ended, ok-then, page-at, page-ended, page-few, page-runs, place-fits, slots-page, walked-all, walked-past}
use Rattle.route_table.proofs.Places.{found-inside}
use Rattle.route_table.proofs.SideBySide.{long, page-of, within}
use Rattle.route_table.proofs.own.push_own_runs.Goals.{then-pages-test+else-place-len, else-pages-test}
use Rattle.route_table.proofs.own.push_own_runs.Goals as goal

pub overflow_add-place : goal.overflow_add-place
overflow_add-place g c = let few = place-fits (slots_in c.args.lane.index c.args.rows.now) (key_of c.args.prefix) c.args.place c.requires.form c.requires.place in omega (arith, few)

pub walk_page-requires-clause-form : goal.walk_page-requires-clause-form
walk_page-requires-clause-form g c = slots-page (slots_in c.args.lane.index c.args.rows.now) (slots_in c.args.lane.index c.run_from-page.result.now) c.pages.place c.requires.form (page-of c.args.lane.index c.args.rows.now c.run_from-page.result.now c.pages.place c.run_from-page.ensures.run)

pub pages-init : goal.pages-init
pages-init g c =
    let inside : c.args.place < length c.args.rows.now = within c.args.lane.index c.args.rows.now c.args.place (found-inside slot_key (slots_in c.args.lane.index c.args.rows.now) (key_of c.args.prefix) c.args.place c.requires.place) in
    let from : Along = record { at = c.from-at.result; runs = c.args.runs.now.items; begun = [] } in
    let none : c.args.place + 1 - (c.args.place + 1) ≡ 0 = omega arith in
    let start : along c.past_of-past.result from (take (c.args.place + 1 - (c.args.place + 1)) (drop (c.args.place + 1) (slots_in c.args.lane.index c.args.rows.now))) ≡ from = ap (λ n. along c.past_of-past.result from (take n (drop (c.args.place + 1) (slots_in c.args.lane.index c.args.rows.now)))) none in
    record {
      from = omega arith;
      inside = omega arith;
      at = sym (ap (λ (w : Along). w.at) start);
      runs = sym (ap (λ (w : Along). w.runs) start);
      few = omega arith;
      ended = λ e. none-ended c.past_of-past.result (take (c.args.place + 1 - (c.args.place + 1)) (drop (c.args.place + 1) (slots_in c.args.lane.index c.args.rows.now))) e;
    }

pub returns-in_err-walk-clause-cost : goal.returns-in_err-walk-clause-cost
returns-in_err-walk-clause-cost g c =
    let from : Along = record { at = c.from-at.result; runs = c.args.runs.now.items; begun = [] } in
    let few = page-few (slots_in c.args.lane.index c.args.rows.now) (slots_in c.args.lane.index c.run_from-page.result.now) (c.args.place + 1) c.pages.place c.past_of-past.result (length c.run_from-page.result.now) from c.pages.invariant.from (sym (long c.args.lane.index c.run_from-page.result.now)) (page-of c.args.lane.index c.args.rows.now c.run_from-page.result.now c.pages.place c.run_from-page.ensures.run) c.pages.at c.pages.runs.items c.pages.invariant.at c.pages.invariant.runs c.args.steps.now c.pages.steps c.walk_page.new.steps c.pages.invariant.few c.walk_page.ensures.cost in
    passed-few (slots_in c.args.lane.index c.args.rows.now) c.args.prefix c.args.place (c.args.place + 1) c.past_of-past.result c.from-at.result c.args.steps.now c.walk_page.new.steps c.args.runs.now.items c.requires.form c.past_of-past.ensures.sound c.requires.place refl c.past_of-past.ensures.value (c.from-at.ensures ∙ c.base.ensures.value)
    (few-done (slots_in c.args.lane.index c.args.rows.now) (c.args.place + 1) _ c.past_of-past.result c.args.steps.now c.walk_page.new.steps from few)

pub pages-preserved : goal.pages-preserved
pages-preserved g c =
    let from : Along = record { at = c.from-at.result; runs = c.args.runs.now.items; begun = [] } in
    let inside : c.pages.place + length c.run_from-page.result.now ≤ length c.args.rows.now = run-inside c.args.rows.now c.run_from-page.result.now c.pages.place c.run_from-page.ensures.run c.pages.invariant.inside in
    record {
      from = let o : c.args.place + 1 ≤ c.pages.place = c.pages.invariant.from in omega arith;
      inside = inside;
      at = page-at (slots_in c.args.lane.index c.args.rows.now) (slots_in c.args.lane.index c.run_from-page.result.now) (c.args.place + 1) c.pages.place c.past_of-past.result (length c.run_from-page.result.now) from c.pages.invariant.from (sym (long c.args.lane.index c.run_from-page.result.now)) (page-of c.args.lane.index c.args.rows.now c.run_from-page.result.now c.pages.place c.run_from-page.ensures.run) c.pages.at c.pages.runs.items c.pages.invariant.at c.pages.invariant.runs c.in_ok-walk.walk.at c.in_ok-walk.ensures.at;
      runs = page-runs (slots_in c.args.lane.index c.args.rows.now) (slots_in c.args.lane.index c.run_from-page.result.now) (c.args.place + 1) c.pages.place c.past_of-past.result (length c.run_from-page.result.now) from c.pages.invariant.from (sym (long c.args.lane.index c.run_from-page.result.now)) (page-of c.args.lane.index c.args.rows.now c.run_from-page.result.now c.pages.place c.run_from-page.ensures.run) c.pages.at c.pages.runs.items c.pages.invariant.at c.pages.invariant.runs c.walk_page.new.runs.items c.in_ok-walk.ensures.runs;
      few = page-few (slots_in c.args.lane.index c.args.rows.now) (slots_in c.args.lane.index c.run_from-page.result.now) (c.args.place + 1) c.pages.place c.past_of-past.result (length c.run_from-page.result.now) from c.pages.invariant.from (sym (long c.args.lane.index c.run_from-page.result.now)) (page-of c.args.lane.index c.args.rows.now c.run_from-page.result.now c.pages.place c.run_from-page.ensures.run) c.pages.at c.pages.runs.items c.pages.invariant.at c.pages.invariant.runs c.args.steps.now c.pages.steps c.walk_page.new.steps c.pages.invariant.few c.walk_page.ensures.cost;
      ended = λ e. page-ended (slots_in c.args.lane.index c.args.rows.now) (slots_in c.args.lane.index c.run_from-page.result.now) (c.args.place + 1) c.pages.place c.past_of-past.result (length c.run_from-page.result.now) from c.pages.invariant.from (sym (long c.args.lane.index c.run_from-page.result.now)) (page-of c.args.lane.index c.args.rows.now c.run_from-page.result.now c.pages.place c.run_from-page.ensures.run) (c.in_ok-walk.ensures.ended e);
    }

pub returns-clause-own : goal.returns-clause-own
returns-clause-own g c =
    let from : Along = record { at = c.from-at.result; runs = c.args.runs.now.items; begun = [] } in
    let all : along c.past_of-past.result from (drop (c.args.place + 1) (slots_in c.args.lane.index c.args.rows.now)) ≡ along c.past_of-past.result from (take (c.pages.place - (c.args.place + 1)) (drop (c.args.place + 1) (slots_in c.args.lane.index c.args.rows.now))) =
    elim c.pages-test.branch [
      | then-pages-test+else-place-len w ↦ walked-all (slots_in c.args.lane.index c.args.rows.now) (c.args.place + 1) c.pages.place c.past_of-past.result from (let many = long c.args.lane.index c.args.rows.now in omega arith)
      | else-pages-test w ↦ walked-past (slots_in c.args.lane.index c.args.rows.now) (c.args.place + 1) c.pages.place c.past_of-past.result from c.requires.form (c.pages.invariant.ended w.pages-test.false)
    ] in
    ok-then c.push_gap.result _ _ (λ is. own-are (slots_in c.args.lane.index c.args.rows.now) c.args.prefix c.args.place (c.args.place + 1) c.past_of-past.result c.push_gap.new.runs.items c.requires.form c.past_of-past.ensures.sound c.requires.place refl c.past_of-past.ensures.value
    (left-last (slots_in c.args.lane.index c.args.rows.now) (c.args.place + 1) c.pages.place c.past_of-past.result c.args.prefix.base c.from-at.result c.pages.at c.args.runs.now.items c.pages.runs.items c.push_gap.new.runs.items all c.requires.empty (c.from-at.ensures ∙ c.base.ensures.value) c.pages.invariant.at c.pages.invariant.runs is)) c.push_gap.ensures

pub returns-clause-cost : goal.returns-clause-cost
returns-clause-cost g c =
    let from : Along = record { at = c.from-at.result; runs = c.args.runs.now.items; begun = [] } in
    passed-few (slots_in c.args.lane.index c.args.rows.now) c.args.prefix c.args.place (c.args.place + 1) c.past_of-past.result c.from-at.result c.args.steps.now c.pages.steps c.args.runs.now.items c.requires.form c.past_of-past.ensures.sound c.requires.place refl c.past_of-past.ensures.value (c.from-at.ensures ∙ c.base.ensures.value)
    (few-done (slots_in c.args.lane.index c.args.rows.now) (c.args.place + 1) _ c.past_of-past.result c.args.steps.now c.pages.steps from c.pages.invariant.few)
