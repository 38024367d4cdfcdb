use Rattle.std.proofs.Common.{◌≡◌, ◌-◌, ◌<◌, length, arith}
use Rattle.label_view.specs.Places.{begin_of}
use Rattle.label_view.proofs.InRow.{some_row, begin-after, begin-before, begin-is, gathered-rows, row-bound}
use Rattle.label_view.proofs.runs.RunList.push_rows.Goals as goal

pub push-requires : goal.push-requires
push-requires g c =
    let first : c.args.i < length (g.V.LabelView.rows c.args.view.now) = omega (arith, c.requires.some, c.requires.inside) in
    let last : c.args.past - 1 < length (g.V.LabelView.rows c.args.view.now) = omega (arith, c.requires.some, c.requires.inside) in
    let some : 0 < c.args.past = omega (arith, c.requires.some) in
    let low : c.bounds-low.result.0 ≡ begin_of (g.V.LabelView.rows c.args.view.now) c.args.i = begin-is _ _ _ first (c.bounds-low.ensures.low some_row) in
    let end : c.bounds-end.result.1 ≡ begin_of (g.V.LabelView.rows c.args.view.now) c.args.past = begin-after _ _ _ _ c.requires.form some c.requires.inside (c.bounds-end.ensures.past some_row) in
    let order : begin_of (g.V.LabelView.rows c.args.view.now) c.args.i < begin_of (g.V.LabelView.rows c.args.view.now) c.args.past = begin-before _ _ _ _ c.requires.form c.requires.some c.requires.inside in
    record {
      order = omega (arith, low, c.requires.order);
      some = omega (arith, low, end, order);
      bound = row-bound _ _ _ _ c.requires.form last (c.bounds-end.ensures.past some_row);
    }

pub returns : goal.returns
returns g c =
    let first : c.args.i < length (g.V.LabelView.rows c.args.view.now) = omega (arith, c.requires.some, c.requires.inside) in
    let some : 0 < c.args.past = omega (arith, c.requires.some) in
    let low : c.bounds-low.result.0 ≡ begin_of (g.V.LabelView.rows c.args.view.now) c.args.i = begin-is _ _ _ first (c.bounds-low.ensures.low some_row) in
    let end : c.bounds-end.result.1 ≡ begin_of (g.V.LabelView.rows c.args.view.now) c.args.past = begin-after _ _ _ _ c.requires.form some c.requires.inside (c.bounds-end.ensures.past some_row) in
    λ test so_far is. gathered-rows _ _ _ _ c.bounds-low.result.0 c.bounds-end.result.1 c.args.self.now c.push.new.self test c.requires.form c.requires.some c.requires.inside low end c.in_ok-push.ensures.past c.in_ok-push.ensures.adds so_far is
