use Rattle.std.proofs.Common.{◌≡◌, ◌≤◌, ◌+◌, ◌∙◌, ℕ, false, ap, sym, subst, arith}
use Rattle.base.specs.Cidr.{IsCidr}
use Rattle.dn_model.specs.Table.{prefix_of_op}
use Rattle.dn_model.specs.Table.{way_in}
use Rattle.route_table.specs.Above.{IsDoneAbove}
use Rattle.route_table.specs.Made.{IsMade}
use Rattle.route_table.specs.Own.{AreOwnRuns, IsTurned, SetsOrHas, TellsNew}
use Rattle.route_table.specs.Rows.{slots_in}
use Rattle.route_table.specs.Slots.{routes_of}
use Rattle.route_table.specs.Tables.{table_at}
use Rattle.route_table.proofs.Made.{where-there}
use Rattle.route_table.proofs.Searching.{at-none}
use Rattle.route_table.proofs.Tabled.{on-table, others-set, permuted, permuted-same, table-form, table-same, was}
use Rattle.route_table.proofs.Updated.{update-above, update-cost, update-first, update-same}
use Rattle.route_table.proofs.tables.RouteTables.update.Goals.{in-Some-first, in-None}
use Rattle.route_table.proofs.tables.RouteTables.update.Goals as goal

pub returns-in_err-made-clause-form : goal.returns-in_err-made-clause-form
returns-in_err-made-clause-form g c =
    table-form c.args.lane.index c.make.new.rows c.make.new.lengths c.args.lane.inside c.make.ensures.whole

pub returns-in_err-made-clause-others : goal.returns-in_err-made-clause-others
returns-in_err-made-clause-others g c =
    others-set c.args.lane.index c.self.inside.rows c.args.self.now c.args.lane.inside c.self.view_is c.make.new.rows c.make.ensures.others

pub returns-in_default-clause-form : goal.returns-in_default-clause-form
returns-in_default-clause-form g c =
    table-form c.args.lane.index c.make.new.rows c.make.new.lengths c.args.lane.inside c.make.ensures.whole

pub returns-in_default-clause-others : goal.returns-in_default-clause-others
returns-in_default-clause-others g c =
    others-set c.args.lane.index c.self.inside.rows c.args.self.now c.args.lane.inside c.self.view_is c.make.new.rows c.make.ensures.others

pub returns-then-eq-clause-form : goal.returns-then-eq-clause-form
returns-then-eq-clause-form g c =
    table-form c.args.lane.index c.make.new.rows c.make.new.lengths c.args.lane.inside c.make.ensures.whole

pub returns-then-eq-clause-others : goal.returns-then-eq-clause-others
returns-then-eq-clause-others g c =
    others-set c.args.lane.index c.self.inside.rows c.args.self.now c.args.lane.inside c.self.view_is c.make.new.rows c.make.ensures.others

pub returns-in_err-push_own_runs-clause-form : goal.returns-in_err-push_own_runs-clause-form
returns-in_err-push_own_runs-clause-form g c =
    table-form c.args.lane.index c.make.new.rows c.make.new.lengths c.args.lane.inside c.make.ensures.whole

pub returns-in_err-push_own_runs-clause-others : goal.returns-in_err-push_own_runs-clause-others
returns-in_err-push_own_runs-clause-others g c =
    others-set c.args.lane.index c.self.inside.rows c.args.self.now c.args.lane.inside c.self.view_is c.make.new.rows c.make.ensures.others

pub returns-clause-form : goal.returns-clause-form
returns-clause-form g c =
    table-form c.args.lane.index c.make.new.rows c.make.new.lengths c.args.lane.inside c.make.ensures.whole

pub returns-clause-others : goal.returns-clause-others
returns-clause-others g c =
    others-set c.args.lane.index c.self.inside.rows c.args.self.now c.args.lane.inside c.self.view_is c.make.new.rows c.make.ensures.others

pub returns-in_err-push_own_runs-clause-cost : goal.returns-in_err-push_own_runs-clause-cost
returns-in_err-push_own_runs-clause-cost g c =
    let made : IsMade (slots_in c.args.lane.index c.self.inside.rows) (slots_in c.args.lane.index c.make.new.rows) c.args.update.now.alone c.args.update.now.op c.in-Some.made.place c.in-Some.made.base c.in-Some.made.before c.in-Some.made.first =
    where-there (λ m. IsMade (slots_in c.args.lane.index c.self.inside.rows) (slots_in c.args.lane.index c.make.new.rows) c.args.update.now.alone c.args.update.now.op m.place m.base m.before m.first) c.in_ok-made.field-0 c.in-Some.made c.in-Some.is c.in_ok-made.ensures.made in
    let few : c.match-made.steps ≤ c.args.steps.now + 2 =
    elim c.match-made.branch [
      | in-Some-first w ↦ omega (arith, w.steps-is, c.tick.ensures)
      | in-None w ↦ omega (arith, w.steps-is, c.tick.ensures, w.done_above-after.ensures.cost)
    ] in
    update-cost (slots_in c.args.lane.index c.self.inside.rows) (slots_in c.args.lane.index c.make.new.rows) (table_at c.args.self.now c.args.lane.index) c.args.update.now.alone c.args.update.now.op c.in-Some.made.place c.in-Some.made.base (was c.args.lane.index c.self.inside.rows c.args.self.now c.args.lane.inside c.self.view_is) (c.self.invariant c.args.lane.index).form (c.make.ensures.whole c.args.lane.index).form c.in-Some.made.before c.in-Some.made.first made c.args.steps.now c.match-made.steps c.push_own_runs.new.steps c.prefix-prefix.result c.prefix-prefix.ensures few c.push_own_runs.ensures.cost

pub returns-clause-cost : goal.returns-clause-cost
returns-clause-cost g c =
    let made : IsMade (slots_in c.args.lane.index c.self.inside.rows) (slots_in c.args.lane.index c.make.new.rows) c.args.update.now.alone c.args.update.now.op c.in-Some.made.place c.in-Some.made.base c.in-Some.made.before c.in-Some.made.first =
    where-there (λ m. IsMade (slots_in c.args.lane.index c.self.inside.rows) (slots_in c.args.lane.index c.make.new.rows) c.args.update.now.alone c.args.update.now.op m.place m.base m.before m.first) c.in_ok-made.field-0 c.in-Some.made c.in-Some.is c.in_ok-made.ensures.made in
    let few : c.match-made.steps ≤ c.args.steps.now + 2 =
    elim c.match-made.branch [
      | in-Some-first w ↦ omega (arith, w.steps-is, c.tick.ensures)
      | in-None w ↦ omega (arith, w.steps-is, c.tick.ensures, w.done_above-after.ensures.cost)
    ] in
    update-cost (slots_in c.args.lane.index c.self.inside.rows) (slots_in c.args.lane.index c.make.new.rows) (table_at c.args.self.now c.args.lane.index) c.args.update.now.alone c.args.update.now.op c.in-Some.made.place c.in-Some.made.base (was c.args.lane.index c.self.inside.rows c.args.self.now c.args.lane.inside c.self.view_is) (c.self.invariant c.args.lane.index).form (c.make.ensures.whole c.args.lane.index).form c.in-Some.made.before c.in-Some.made.first made c.args.steps.now c.match-made.steps c.push_own_runs.new.steps c.prefix-prefix.result c.prefix-prefix.ensures few c.push_own_runs.ensures.cost

pub returns-in_default-clause-made : goal.returns-in_default-clause-made
returns-in_default-clause-made g c =
    record {
      table = permuted-same c.args.lane.index c.self.inside.rows c.args.self.now c.args.lane.inside c.self.view_is c.make.new.rows c.args.update.now.alone c.args.update.now.op (at-none c.in_ok-made.field-0 _ c.in_default.is c.in_ok-made.ensures.same) (at-none c.in_ok-made.field-0 _ c.in_default.is c.in_ok-made.ensures.unmade);
      same = λ a. ap (λ rs. way_in rs a) (table-same c.args.lane.index c.self.inside.rows c.args.self.now c.args.lane.inside c.self.view_is c.make.new.rows (at-none c.in_ok-made.field-0 _ c.in_default.is c.in_ok-made.ensures.same));
      turned = tt;
      own = tt;
      had = tt;
      is_new = subst (λ ts. TellsNew ts c.args.update.now.op false) c.self.view_is (at-none c.in_ok-made.field-0 _ c.in_default.is c.in_ok-made.ensures.known);
    }

pub returns-then-eq-clause-made : goal.returns-then-eq-clause-made
returns-then-eq-clause-made g c =
    let made : IsMade (slots_in c.args.lane.index c.self.inside.rows) (slots_in c.args.lane.index c.make.new.rows) c.args.update.now.alone c.args.update.now.op c.in-Some.made.place c.in-Some.made.base c.in-Some.made.before c.in-Some.made.first =
    where-there (λ m. IsMade (slots_in c.args.lane.index c.self.inside.rows) (slots_in c.args.lane.index c.make.new.rows) c.args.update.now.alone c.args.update.now.op m.place m.base m.before m.first) c.in_ok-made.field-0 c.in-Some.made c.in-Some.is c.in_ok-made.ensures.made in
    record {
      table = permuted c.args.lane.index c.self.inside.rows c.args.self.now c.args.lane.inside c.self.view_is c.make.new.rows c.args.update.now.alone c.args.update.now.op made.routes;
      same = on-table c.args.lane.index c.make.new.rows c.args.lane.inside (λ rs. (a : ℕ) → way_in rs a ≡ way_in (table_at c.args.self.now c.args.lane.index) a)
          (update-same (slots_in c.args.lane.index c.self.inside.rows) (slots_in c.args.lane.index c.make.new.rows) (table_at c.args.self.now c.args.lane.index) c.args.update.now.alone c.args.update.now.op c.in-Some.made.place c.in-Some.made.base (was c.args.lane.index c.self.inside.rows c.args.self.now c.args.lane.inside c.self.view_is) (c.self.invariant c.args.lane.index).form (c.make.ensures.whole c.args.lane.index).form c.in-Some.made.before c.in-Some.made.first made (sym c.is_some.ensures ∙ c.if-is_some.true) (sym c.eq.ensures ∙ c.if-eq.true));
      turned = tt;
      own = tt;
      had = tt;
      is_new = subst (λ ts. TellsNew ts c.args.update.now.op c.in-Some.made.is_new) c.self.view_is (where-there _ c.in_ok-made.field-0 c.in-Some.made c.in-Some.is c.in_ok-made.ensures.is_new);
    }

pub returns-clause-made : goal.returns-clause-made
returns-clause-made g c =
    let made : IsMade (slots_in c.args.lane.index c.self.inside.rows) (slots_in c.args.lane.index c.make.new.rows) c.args.update.now.alone c.args.update.now.op c.in-Some.made.place c.in-Some.made.base c.in-Some.made.before c.in-Some.made.first =
    where-there (λ m. IsMade (slots_in c.args.lane.index c.self.inside.rows) (slots_in c.args.lane.index c.make.new.rows) c.args.update.now.alone c.args.update.now.op m.place m.base m.before m.first) c.in_ok-made.field-0 c.in-Some.made c.in-Some.is c.in_ok-made.ensures.made in
    let sound : IsCidr (prefix_of_op c.args.update.now.op) = subst (λ p. IsCidr p) c.prefix-prefix.ensures c.push_own_runs.ensures.sound in
    record {
      table = permuted c.args.lane.index c.self.inside.rows c.args.self.now c.args.lane.inside c.self.view_is c.make.new.rows c.args.update.now.alone c.args.update.now.op made.routes;
      same = tt;
      turned = on-table c.args.lane.index c.make.new.rows c.args.lane.inside (λ rs. IsTurned (table_at c.args.self.now c.args.lane.index) rs (prefix_of_op c.args.update.now.op) c.match-made.after)
          (elim c.match-made.branch [
            | in-Some-first w ↦ update-first (slots_in c.args.lane.index c.self.inside.rows) (slots_in c.args.lane.index c.make.new.rows) (table_at c.args.self.now c.args.lane.index) c.args.update.now.alone c.args.update.now.op c.in-Some.made.place c.in-Some.made.base (was c.args.lane.index c.self.inside.rows c.args.self.now c.args.lane.inside c.self.view_is) (c.self.invariant c.args.lane.index).form (c.make.ensures.whole c.args.lane.index).form c.in-Some.made.before c.in-Some.made.first made w.in-Some-first.way c.match-made.after sound w.in-Some-first.is w.after-is
            | in-None w ↦ update-above (slots_in c.args.lane.index c.self.inside.rows) (slots_in c.args.lane.index c.make.new.rows) (table_at c.args.self.now c.args.lane.index) c.args.update.now.alone c.args.update.now.op c.in-Some.made.place c.in-Some.made.base (was c.args.lane.index c.self.inside.rows c.args.self.now c.args.lane.inside c.self.view_is) (c.self.invariant c.args.lane.index).form (c.make.ensures.whole c.args.lane.index).form c.in-Some.made.before c.in-Some.made.first made w.done_above-after.result c.match-made.after sound w.in-None.is (subst (λ p. IsDoneAbove (slots_in c.args.lane.index c.make.new.rows) p w.done_above-after.result) c.prefix-prefix.ensures w.done_above-after.ensures.above) w.after-is
          ]);
      own = on-table c.args.lane.index c.make.new.rows c.args.lane.inside (λ rs. AreOwnRuns rs (prefix_of_op c.args.update.now.op) c.push_own_runs.new.runs.items)
          (subst (λ p. AreOwnRuns (routes_of (slots_in c.args.lane.index c.make.new.rows)) p c.push_own_runs.new.runs.items) c.prefix-prefix.ensures c.in_ok-push_own_runs.ensures.own);
      had = subst (λ rs. SetsOrHas rs c.args.update.now.op) (was c.args.lane.index c.self.inside.rows c.args.self.now c.args.lane.inside c.self.view_is) made.had;
      is_new = subst (λ ts. TellsNew ts c.args.update.now.op c.in-Some.made.is_new) c.self.view_is (where-there _ c.in_ok-made.field-0 c.in-Some.made c.in-Some.is c.in_ok-made.ensures.is_new);
    }
