use Rattle.std.proofs.Common.{◌≡◌, ℕ, ◌<◌, ◌∙◌, length, slice_index_or, ap, subst, sym, arith}
use Rattle.std.proofs.lemmas.List.{get_or_default}
use Rattle.base.specs.Forwarding.{does}
use Rattle.base.specs.declared.change.Change.{Change}
use Rattle.base.specs.declared.ids.RouterId.{RouterId}
use Rattle.base.specs.declared.target.Target.TheVariants.{NoRoute}
use Rattle.loop_keeper.specs.Finding.{FindLast, FindsOn}
use Rattle.loop_keeper.specs.Looks.{meets_some}
use Rattle.loop_keeper.proofs.Along.{meets-at, more-next, more-none, reach-later, reach-none}
use Rattle.loop_keeper.proofs.Looking.{looks-all, looks-none, looks-then}
use Rattle.loop_keeper.proofs.Taking.{each-change}
use Rattle.loop_keeper.proofs.in_turn.find_in_turn.Goals as goal

abbrev no_change : Change
no_change = record { router = record { 0 = 0 }; run = record { lo = 0; hi = 0 }; before = NoRoute; after = NoRoute }

pub loop-change-init : goal.loop-change-init
loop-change-init g c = record {
  reach = λ k d f l. reach-none (g.V.LabelView.rows c.args.view.now) (slice_index_or c.args.changes.now k d).run.lo;
  ahead = c.none.ensures (g.V.LabelView.width c.args.view.now) (g.V.LabelView.rows c.args.view.now);
  found = λ tell. more-none (does (g.V.LabelView.rows c.args.view.now)) c.args.search.now.found.items;
  last = λ tell k d f l p. absurd (omega arith);
  inside = λ h. h;
  cost = looks-none (g.V.LabelView.width c.args.view.now) (g.V.LabelView.rows c.args.view.now) (meets_some c.args.changes.now) 0 0 c.args.steps.now (omega arith);
}

pub find_along-requires-clause-change : goal.find_along-requires-clause-change
find_along-requires-clause-change g c =
    let inside : c.loop-change.change-index < length c.args.changes.now = omega arith in
    each-change c.args.changes.now c.loop-change.change-index no_change c.requires.form inside

pub find_along-requires-clause-reach : goal.find_along-requires-clause-reach
find_along-requires-clause-reach g c = record {
  reached = c.loop-change.invariant.reach c.loop-change.change-index no_change (omega arith) (omega arith);
  ahead = c.loop-change.invariant.ahead;
}

pub returns-in_err-find_along-clause-cost : goal.returns-in_err-find_along-clause-cost
returns-in_err-find_along-clause-cost g c =
    looks-all (g.V.LabelView.width c.args.view.now) (g.V.LabelView.rows c.args.view.now) (meets_some c.args.changes.now) 0 c.find_along.new.reach.past c.args.steps.now c.find_along.new.steps
    (looks-then (g.V.LabelView.width c.args.view.now) (g.V.LabelView.rows c.args.view.now) (meets_some c.args.changes.now) 0 c.loop-change.reach.past c.find_along.new.reach.past c.args.steps.now c.loop-change.steps c.find_along.new.steps c.loop-change.invariant.cost
    (c.find_along.ensures.cost (meets_some c.args.changes.now) (λ row m. meets-at c.args.changes.now c.loop-change.change-index no_change row (omega arith) m)))

pub loop-change-preserved : goal.loop-change-preserved
loop-change-preserved g c =
    let inside : c.loop-change.change-index < length c.args.changes.now = omega arith in
    record {
      reach = λ k d f l.
          let P : Change → Type 0 = λ v. v.run.hi < (slice_index_or c.args.changes.now k d).run.lo in
          let rise : (slice_index_or c.args.changes.now c.loop-change.change-index no_change).run.hi < (slice_index_or c.args.changes.now k d).run.lo = subst P (sym (get_or_default c.args.changes.now c.loop-change.change-index no_change d inside)) (c.requires.turn.rise c.loop-change.change-index k d (omega arith) l) in
          reach-later (g.V.LabelView.rows c.args.view.now) c.find_along.new.reach.past (slice_index_or c.args.changes.now c.loop-change.change-index no_change).run.hi (slice_index_or c.args.changes.now k d).run.lo (omega arith) c.find_along.ensures.reach.reached;
      ahead = c.find_along.ensures.reach.ahead;
      found = λ tell.
          let on : FindsOn (g.V.LabelView.rows c.args.view.now) (slice_index_or c.args.changes.now c.loop-change.change-index no_change) c.find_along.new.reach.past c.loop-change.search.found.items c.find_along.new.search.found.items = c.in_ok-find_along.ensures.found (tell c.loop-change.change-index no_change inside) (c.loop-change.invariant.last tell c.loop-change.change-index no_change (omega arith) inside) in
          more-next (does (g.V.LabelView.rows c.args.view.now)) c.args.changes.now c.loop-change.change-index no_change c.args.search.now.found.items c.loop-change.search.found.items c.find_along.new.search.found.items inside (c.loop-change.invariant.found tell) on.more;
      last = λ tell k d f l.
          let on : FindsOn (g.V.LabelView.rows c.args.view.now) (slice_index_or c.args.changes.now c.loop-change.change-index no_change) c.find_along.new.reach.past c.loop-change.search.found.items c.find_along.new.search.found.items = c.in_ok-find_along.ensures.found (tell c.loop-change.change-index no_change inside) (c.loop-change.invariant.last tell c.loop-change.change-index no_change (omega arith) inside) in
          let P : RouterId → Type 0 = λ v. FindLast (g.V.LabelView.rows c.args.view.now) c.find_along.new.search.found.items v c.find_along.new.reach.past in
          subst P (router-of d k inside l) on.last;
      inside = λ h. c.in_ok-find_along.ensures.inside (c.loop-change.invariant.inside h);
      cost = looks-then (g.V.LabelView.width c.args.view.now) (g.V.LabelView.rows c.args.view.now) (meets_some c.args.changes.now) 0 c.loop-change.reach.past c.find_along.new.reach.past c.args.steps.now c.loop-change.steps c.find_along.new.steps c.loop-change.invariant.cost
          (c.find_along.ensures.cost (meets_some c.args.changes.now) (λ row m. meets-at c.args.changes.now c.loop-change.change-index no_change row inside m));
    }
  where
    router-of : (d : Change) (k : ℕ) → c.loop-change.change-index < length c.args.changes.now → k < length c.args.changes.now → (slice_index_or c.args.changes.now c.loop-change.change-index no_change).router ≡ (slice_index_or c.args.changes.now k d).router
    router-of d k i l = ap (λ (v : Change). v.router) (get_or_default c.args.changes.now c.loop-change.change-index no_change d i) ∙ c.requires.turn.router c.loop-change.change-index k d i l

pub returns-clause-cost : goal.returns-clause-cost
returns-clause-cost g c = looks-all (g.V.LabelView.width c.args.view.now) (g.V.LabelView.rows c.args.view.now) (meets_some c.args.changes.now) 0 c.loop-change.reach.past c.args.steps.now c.loop-change.steps c.loop-change.invariant.cost
