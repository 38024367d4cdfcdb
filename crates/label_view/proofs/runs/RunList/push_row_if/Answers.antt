use Rattle.label_view.proofs.InRow.{some_row, gathered-pass, gathered-skip, row-begin, row-bound, row-order}
use Rattle.label_view.proofs.runs.RunList.push_row_if.Goals as goal

pub push-requires : goal.push-requires
push-requires g c = record {
  order = row-begin _ _ c.bounds-low.result.0 c.args.self.now.past c.requires.place (c.bounds-low.ensures.low some_row) c.requires.order;
  some = row-order _ _ _ _ _ c.requires.form c.requires.place (c.bounds-low.ensures.low some_row) (c.bounds-low.ensures.past some_row);
  bound = row-bound _ _ _ _ c.requires.form c.requires.place (c.bounds-low.ensures.past some_row);
}

pub returns-then-passes : goal.returns-then-passes
returns-then-passes g c = λ test so_far is. gathered-pass _ _ _ c.bounds-low.result.0 c.bounds-low.result.1 c.args.self.now c.push.new.self c.args.passes test c.requires.form c.requires.place (c.bounds-low.ensures.low some_row) (c.bounds-low.ensures.past some_row) c.if-passes.true c.in_ok-push.ensures.past c.in_ok-push.ensures.adds so_far is

pub returns : goal.returns
returns g c = λ test so_far is. gathered-skip _ _ _ c.args.self.now c.args.passes test c.requires.form c.requires.place c.if-passes.false so_far is
