use Rattle.std.proofs.Common.{◌≡◌, ◌≤◌, true, ◌+◌, ◌∙◌, sym, ap, subst, length, List, [], ◌∷◌, ◌++◌, slice_index_or, arith}
use Rattle.std.proofs.lemmas.List.{get_or_default, length-append}
use Rattle.base.specs.Forwarding.{target_of}
use Rattle.base.specs.declared.forwarding_row.ForwardingRow.{ForwardingRow}
use Rattle.base.specs.declared.ids.RouterId.{RouterId}
use Rattle.label_view.proofs.InRow.{leads-within, some_row}
use Rattle.loop_check.specs.Following.{IsInNone, is_among}
use Rattle.loop_keeper.specs.Following.{ComesBack, IsFollowed}
use Rattle.loop_keeper.proofs.Turning.{goes-within}
use Rattle.loop_keeper.proofs.Ways.{way-back, way-ends, way-last, way-next, way-passed, way-start}
use Rattle.loop_keeper.proofs.following.follow.Goals as goal

pub hops-init : goal.hops-init
hops-init g c =
    let one : length c.push.new.self.items ≡ 1 = ap (λ (rs : List RouterId). length rs) c.in_ok-push.ensures.items ∙ ap (λ (rs : List RouterId). length (rs ++ c.args.start.router ∷ [])) c.clear.ensures.items in
    record {
      within = c.requires.start.within;
      count = omega arith;
      some = omega arith;
      way = λ does. record {
        last = c.args.start.router;
        way = way-start (target_of (slice_index_or (g.V.LabelView.rows c.args.view.now) c.args.i some_row)) c.args.start.router c.push.new.self.items (c.in_ok-push.ensures.items ∙ ap (λ (rs : List RouterId). rs ++ c.args.start.router ∷ []) c.clear.ensures.items);
        does = does some_row;
      };
      cost = omega arith;
    }

pub returns-in_default-clause-followed : goal.returns-in_default-clause-followed
returns-in_default-clause-followed g c = λ does d.
    let P : ForwardingRow → Type 0 = λ row. IsInNone (target_of row) c.args.start.router in
    subst P (get_or_default (g.V.LabelView.rows c.args.view.now) c.args.i some_row d c.requires.place)
    (way-ends (target_of (slice_index_or (g.V.LabelView.rows c.args.view.now) c.args.i some_row)) c.args.start.router (c.hops.invariant.way does).last c.hops.path.items (c.hops.invariant.way does).way (λ s l e. c.in_default.not-To s l (sym (c.hops.invariant.way does).does ∙ e)))

pub returns-then-far-start-clause-followed : goal.returns-then-far-start-clause-followed
returns-then-far-start-clause-followed g c = λ does d.
    let P : ForwardingRow → Type 0 = λ row. ComesBack (target_of row) c.args.start.router c.hops.path.items in
    subst P (get_or_default (g.V.LabelView.rows c.args.view.now) c.args.i some_row d c.requires.place)
    (way-back (target_of (slice_index_or (g.V.LabelView.rows c.args.view.now) c.args.i some_row)) c.args.start.router (c.hops.invariant.way does).last c.in-To.far c.in-To.field-1 c.hops.path.items (c.hops.invariant.way does).way ((c.hops.invariant.way does).does ∙ c.in-To.is) c.if-far-start.true)

pub target-target-requires-clause-router : goal.target-target-requires-clause-router
target-target-requires-clause-router g c = c.hops.invariant.within c.in-To.far c.in-To.field-1 c.in-To.is

pub hops-preserved : goal.hops-preserved
hops-preserved g c =
    let more : length c.push-in-hops.new.self.items ≡ length c.hops.path.items + 1 =
    ap (λ (rs : List RouterId). length rs) c.in_ok-push-2.ensures.items ∙ length-append c.hops.path.items (c.in-To.far ∷ []) in
    record {
      within = λ s k e. leads-within (g.V.LabelView.width c.args.view.now) (g.V.LabelView.rows c.args.view.now) c.args.i c.in-To.far s k c.target-target.result c.requires.form c.requires.place c.target-target.ensures e;
      count = omega (arith, c.hops.invariant.count);
      some = omega arith;
      way = λ does. record {
        last = c.in-To.far;
        way = way-next (target_of (slice_index_or (g.V.LabelView.rows c.args.view.now) c.args.i some_row)) c.args.start.router (c.hops.invariant.way does).last c.in-To.far c.in-To.field-1 c.hops.path.items c.push-in-hops.new.self.items (c.hops.invariant.way does).way ((c.hops.invariant.way does).does ∙ c.in-To.is) c.if-far-start.false c.in_ok-push-2.ensures.items;
        does = sym (c.target-target.ensures some_row);
      };
      cost = omega (arith, c.hops.invariant.cost);
    }

pub returns-then-has_passed-clause-followed : goal.returns-then-has_passed-clause-followed
returns-then-has_passed-clause-followed g c = λ does d.
    let P : ForwardingRow → Type 0 = λ row. IsInNone (target_of row) c.args.start.router in
    let M : List RouterId → Type 0 = λ v. is_among v c.in-To.far ≡ true in
    let passed : is_among c.hops.path.items c.in-To.far ≡ true = subst M c.as_slice.ensures.value (c.has_passed.ensures c.if-has_passed.true) in
    subst P (get_or_default (g.V.LabelView.rows c.args.view.now) c.args.i some_row d c.requires.place)
    (way-passed (target_of (slice_index_or (g.V.LabelView.rows c.args.view.now) c.args.i some_row)) c.args.start.router (c.hops.invariant.way does).last c.in-To.far c.in-To.field-1 c.hops.path.items (c.hops.invariant.way does).way ((c.hops.invariant.way does).does ∙ c.in-To.is) c.if-far-start.false passed)

pub returns-clause-followed : goal.returns-clause-followed
returns-clause-followed g c = λ does d.
    let P : ForwardingRow → Type 0 = λ row. IsFollowed (target_of row) c.args.start.router c.hops.path.items c.leads_to.result in
    let long : g.V.LabelView.width c.args.view.now ≤ length c.hops.path.items = omega (arith, c.hops.invariant.count) in
    subst P (get_or_default (g.V.LabelView.rows c.args.view.now) c.args.i some_row d c.requires.place)
    (way-last (target_of (slice_index_or (g.V.LabelView.rows c.args.view.now) c.args.i some_row)) (g.V.LabelView.width c.args.view.now) c.args.start.router (c.hops.invariant.way does).last c.hops.path.items c.leads_to.result (goes-within (g.V.LabelView.width c.args.view.now) (g.V.LabelView.rows c.args.view.now) c.args.i some_row c.requires.form.each c.requires.place) (c.hops.invariant.way does).way long
    (c.leads_to.ensures (target_of (slice_index_or (g.V.LabelView.rows c.args.view.now) c.args.i some_row)) (c.hops.invariant.way does).last (c.hops.invariant.way does).does))
