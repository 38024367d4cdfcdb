use Rattle.std.proofs.Common.{List, ℕ, subst}
use Rattle.run_report.specs.Written.{HasFront}
use Rattle.run_report.proofs.Fronts.{front-first, front-two, on-error, wrote-two}
use Rattle.run_report.proofs.rest.Rest.write.Goals as goal

pub returns-in_err-write_lines-clause-front : goal.returns-in_err-write_lines-clause-front
returns-in_err-write_lines-clause-front g c =
    let front = rw c.deref.ensures at c.in_err-write_lines.ensures.front in
    on-error c.from_residual.result _ (subst (λ (text : List ℕ). HasFront (g.K.Sink.written c.args.sink.now) (g.K.Sink.written c.write_lines.new.sink) text) c.self.view_is
    (front-first _ _ _ c.self.inside.last.items front))

pub returns-clause-front : goal.returns-clause-front
returns-clause-front g c =
    let before = rw c.deref.ensures at c.in_ok-write_lines.ensures.written in
    let front = rw c.as_slice.ensures.value at c.write_text.ensures.front in
    front-two c.write_text.result (g.K.Sink.written c.args.sink.now) (g.K.Sink.written c.write_lines.new.sink) (g.K.Sink.written c.write_text.new.sink)
    _ c.self.inside.last.items c.args.self before c.self.view_is front

pub returns-clause-written : goal.returns-clause-written
returns-clause-written g c =
    let before = rw c.deref.ensures at c.in_ok-write_lines.ensures.written in
    let wrote = rw c.as_slice.ensures.value at c.write_text.ensures.written in
    wrote-two c.write_text.result (g.K.Sink.written c.args.sink.now) (g.K.Sink.written c.write_lines.new.sink) (g.K.Sink.written c.write_text.new.sink)
    _ c.self.inside.last.items c.args.self before c.self.view_is wrote
