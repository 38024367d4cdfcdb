use Rattle.std.proofs.Common.{◌+◌, List, slice_index_or, sym, subst, arith}
use Rattle.std.proofs.lemmas.Result.{on_ok_weaker}
use Rattle.std.proofs.lemmas.List.Elements.{Contains-get_or}
use Rattle.base.specs.declared.target.Target.TheVariants.{NoRoute}
use Rattle.loop_keeper.specs.Looks.{meets_some}
use Rattle.loop_keeper.specs.Together.{AreInOrder, AreStretches}
use Rattle.loop_keeper.specs.declared.stretch.Stretch.{Stretch}
use Rattle.loop_keeper.proofs.Fronts.{finds-together, front-more, front-none, looks-last, looks-to, looks-with, passed-more, passed-none, rise-more}
use Rattle.loop_keeper.proofs.Looking.{looks-all, looks-none, looks-then}
use Rattle.loop_keeper.proofs.together.find_together.Goals as goal

abbrev no_stretch : Stretch
no_stretch = record { first = 0; past = 0; start = record { router = record { 0 = 0 }; target = NoRoute } }

pub loop-stretch-init : goal.loop-stretch-init
loop-stretch-init g c =
    let A : List Stretch → Type 0 = λ v. AreStretches (g.V.LabelView.width c.args.view.now) (g.V.LabelView.rows c.args.view.now) c.args.changes.now v in
    let O : List Stretch → Type 0 = λ v. AreInOrder v in
    record {
      are = subst A (sym c.as_slice-stretch-items.ensures.value) c.in_ok-stretches.ensures.are;
      order = subst O (sym c.as_slice-stretch-items.ensures.value) c.in_ok-stretches.ensures.order;
      front = front-none (g.V.LabelView.width c.args.view.now) (g.V.LabelView.rows c.args.view.now) c.args.changes.now c.empty-front.result c.empty-front.ensures.place c.empty-front.ensures.past c.empty-front.ensures.shared;
      rise = λ k d f l. omega (arith, c.empty-front.ensures.place);
      passed = λ tell. passed-none (g.V.LabelView.rows c.args.view.now) c.as_slice-stretch-items.result.now c.empty-front.result c.args.search.now.found.items;
      inside = λ h. h;
      cost = looks-none (g.V.LabelView.width c.args.view.now) (g.V.LabelView.rows c.args.view.now) (meets_some c.args.changes.now) 0 c.empty-front.result.place c.args.steps.now (omega arith);
    }

pub find_to-requires : goal.find_to-requires
find_to-requires g c = c.loop-stretch.invariant.front.form

pub returns-in_err-find_to-clause-cost : goal.returns-in_err-find_to-clause-cost
returns-in_err-find_to-clause-cost g c =
    looks-all (g.V.LabelView.width c.args.view.now) (g.V.LabelView.rows c.args.view.now) (meets_some c.args.changes.now) 0 _ c.args.steps.now c.find_to.new.steps
    (looks-then (g.V.LabelView.width c.args.view.now) (g.V.LabelView.rows c.args.view.now) (meets_some c.args.changes.now) 0 c.loop-stretch.front.place _ c.args.steps.now c.loop-stretch.steps c.find_to.new.steps c.loop-stretch.invariant.cost
    (looks-to (g.V.LabelView.width c.args.view.now) (g.V.LabelView.rows c.args.view.now) c.args.changes.now c.loop-stretch.front _ c.loop-stretch.steps c.find_to.new.steps c.loop-stretch.invariant.front c.find_to.ensures.cost (c.loop-stretch.invariant.rise c.loop-stretch.stretch-index _ (omega arith) c.loop-stretch-test.true)))

pub loop-stretch-preserved : goal.loop-stretch-preserved
loop-stretch-preserved g c =
    let rise = c.loop-stretch.invariant.rise c.loop-stretch.stretch-index no_stretch (omega arith) c.loop-stretch-test.true in
    let has = c.loop-stretch.invariant.are.each (slice_index_or c.as_slice-stretch-items.result.now c.loop-stretch.stretch-index no_stretch) (Contains-get_or c.as_slice-stretch-items.result.now c.loop-stretch.stretch-index no_stretch c.loop-stretch-test.true) in
    record {
      are = c.loop-stretch.invariant.are;
      order = c.loop-stretch.invariant.order;
      front = front-more (g.V.LabelView.width c.args.view.now) (g.V.LabelView.rows c.args.view.now) c.args.changes.now c.loop-stretch.front c.with-front.result (slice_index_or c.as_slice-stretch-items.result.now c.loop-stretch.stretch-index no_stretch) c.with-front.ensures c.loop-stretch.invariant.front has rise;
      rise = λ k e f l. rise-more c.as_slice-stretch-items.result.now c.loop-stretch.stretch-index no_stretch c.loop-stretch.front c.with-front.result c.with-front.ensures c.loop-stretch-test.true c.loop-stretch.invariant.order k e (omega arith) l;
      passed = λ tell. passed-more (g.V.LabelView.rows c.args.view.now) c.as_slice-stretch-items.result.now c.loop-stretch.stretch-index no_stretch c.loop-stretch.front c.with-front.result c.args.search.now.found.items c.loop-stretch.search.found.items c.find_to.new.search.found.items c.with-front.ensures c.loop-stretch-test.true (c.loop-stretch.invariant.passed tell) (c.in_ok-find_to.ensures.found (c.loop-stretch.invariant.front.does_so tell));
      inside = λ h. c.in_ok-find_to.ensures.inside (c.loop-stretch.invariant.inside h);
      cost = looks-then (g.V.LabelView.width c.args.view.now) (g.V.LabelView.rows c.args.view.now) (meets_some c.args.changes.now) 0 c.loop-stretch.front.place c.with-front.result.place c.args.steps.now c.loop-stretch.steps c.find_to.new.steps c.loop-stretch.invariant.cost
          (looks-with (g.V.LabelView.width c.args.view.now) (g.V.LabelView.rows c.args.view.now) c.args.changes.now c.loop-stretch.front c.with-front.result (slice_index_or c.as_slice-stretch-items.result.now c.loop-stretch.stretch-index no_stretch) c.loop-stretch.steps c.find_to.new.steps c.with-front.ensures c.loop-stretch.invariant.front c.find_to.ensures.cost rise);
    }

pub returns-clause-found : goal.returns-clause-found
returns-clause-found g c = on_ok_weaker c.find_to-2.result
    (λ to tell. finds-together (g.V.LabelView.width c.args.view.now) (g.V.LabelView.rows c.args.view.now) c.args.changes.now c.as_slice-stretch-items.result.now c.loop-stretch.stretch-index c.loop-stretch.front c.args.search.now.found.items c.loop-stretch.search.found.items c.find_to-2.new.search.found.items c.loop-stretch.invariant.inside (omega (arith, c.loop-stretch-test.false)) c.loop-stretch.invariant.are tell (c.loop-stretch.invariant.passed tell) (to (c.loop-stretch.invariant.front.does_so tell)))
    c.find_to-2.ensures.found

pub returns-clause-inside : goal.returns-clause-inside
returns-clause-inside g c = on_ok_weaker c.find_to-2.result (λ to h. to (c.loop-stretch.invariant.inside h)) c.find_to-2.ensures.inside

pub returns-clause-cost : goal.returns-clause-cost
returns-clause-cost g c = looks-all (g.V.LabelView.width c.args.view.now) (g.V.LabelView.rows c.args.view.now) (meets_some c.args.changes.now) 0 (c.loop-stretch.front.place + c.loop-stretch.front.past) c.args.steps.now c.find_to-2.new.steps
    (looks-then (g.V.LabelView.width c.args.view.now) (g.V.LabelView.rows c.args.view.now) (meets_some c.args.changes.now) 0 c.loop-stretch.front.place (c.loop-stretch.front.place + c.loop-stretch.front.past) c.args.steps.now c.loop-stretch.steps c.find_to-2.new.steps c.loop-stretch.invariant.cost
    (looks-last (g.V.LabelView.width c.args.view.now) (g.V.LabelView.rows c.args.view.now) c.args.changes.now c.loop-stretch.front c.loop-stretch.steps c.find_to-2.new.steps c.loop-stretch.invariant.front c.find_to-2.ensures.cost))
