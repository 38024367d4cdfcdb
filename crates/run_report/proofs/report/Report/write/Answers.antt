use Rattle.std.proofs.Common.{List, ℕ, [], subst}
use Rattle.std.specs.Prelude.{unwrap_or}
use Rattle.run_report.specs.Written.{HasFront}
use Rattle.run_report.proofs.Fronts.{front-first, front-two, on-error, wrote-two}
use Rattle.run_report.proofs.report.Report.write.Goals as goal

pub returns-in_err-write_text-clause-front : goal.returns-in_err-write_text-clause-front
returns-in_err-write_text-clause-front g c =
    let front = rw c.as_slice.ensures.value at c.in_err-write_text.ensures.front in
    on-error c.from_residual.result _ (subst (λ (text : List ℕ). HasFront (g.K.Sink.written c.args.sink.now) (g.K.Sink.written c.write_text.new.sink) text) c.self.view_is
    (front-first _ _ c.self.inside.first.items _ front))

pub returns-clause-front : goal.returns-clause-front
returns-clause-front g c =
    let before = rw c.as_slice.ensures.value at c.in_ok-write_text.ensures.written in
    front-two c.write_rest.result (g.K.Sink.written c.args.sink.now) (g.K.Sink.written c.write_text.new.sink) (g.K.Sink.written c.write_rest.new.sink)
    c.self.inside.first.items (unwrap_or c.self.inside.rest []) c.args.self before c.self.view_is c.write_rest.ensures.front

pub returns-clause-written : goal.returns-clause-written
returns-clause-written g c =
    let before = rw c.as_slice.ensures.value at c.in_ok-write_text.ensures.written in
    wrote-two c.write_rest.result (g.K.Sink.written c.args.sink.now) (g.K.Sink.written c.write_text.new.sink) (g.K.Sink.written c.write_rest.new.sink)
    c.self.inside.first.items (unwrap_or c.self.inside.rest []) c.args.self before c.self.view_is c.write_rest.ensures.written
