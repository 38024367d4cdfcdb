use Rattle.std.proofs.Common.{◌≡◌, ◌+◌, ◌++◌, List, ℕ, arith, ◌∙◌, ap, ap₂, sym, subst, take, drop}
use Rattle.dn_io.specs.Told.{with_end}
use Rattle.dn_model.specs.Entry.{entries}
use Rattle.dn_formats.specs.Report.{entry_lines}
use Rattle.run_report.specs.Written.{HasFront}
use Rattle.run_report.proofs.Fronts.{front-first, front-second, with_end-two, on-error}
use Rattle.run_report.proofs.Lines.{lines-split, lines-upto}
use Rattle.run_report.proofs.history.write_lines.Goals as goal

pub returns-in_err-write_text-clause-front : goal.returns-in_err-write_text-clause-front
returns-in_err-write_text-clause-front g c =
    let t = c.args.t.now in
    let history = c.args.history.now in
    let done = c.rooms.done in
    let count = c.fill-count.result in
    let before : List ℕ = entry_lines t 1 (entries (take done history)) in
    let here : List ℕ = entry_lines t (done + 1) (entries (take count (drop done history))) in
    let filled : c.as_slice.result.now ≡ here = c.as_slice.ensures.value ∙ c.fill-count.ensures.text ∙ ap (λ (xs : List ℕ). xs ++ here) c.clear.ensures.items in
    let front = subst (λ (text : List ℕ). HasFront (g.K.Sink.written c.rooms.sink) (g.K.Sink.written c.write_text.new.sink) text) filled c.in_err-write_text.ensures.front in
    on-error c.from_residual.result _ (subst (λ (text : List ℕ). HasFront (g.K.Sink.written c.args.sink.now) (g.K.Sink.written c.write_text.new.sink) text) (sym (lines-split t history done count c.rooms.invariant.within))
    (front-first _ _ (before ++ here) _ (front-second _ (g.K.Sink.written c.rooms.sink) _ before here c.rooms.invariant.written front)))

pub rooms-preserved : goal.rooms-preserved
rooms-preserved g c =
    let t = c.args.t.now in
    let history = c.args.history.now in
    let done = c.rooms.done in
    let count = c.fill-count.result in
    let before : List ℕ = entry_lines t 1 (entries (take done history)) in
    let here : List ℕ = entry_lines t (done + 1) (entries (take count (drop done history))) in
    let filled : c.as_slice.result.now ≡ here = c.as_slice.ensures.value ∙ c.fill-count.ensures.text ∙ ap (λ (xs : List ℕ). xs ++ here) c.clear.ensures.items in
    record {
      within = c.fill-count.ensures.within;
      written = c.in_ok-write_text.ensures.written ∙ ap₂ with_end c.rooms.invariant.written filled ∙ with_end-two (g.K.Sink.written c.args.sink.now) before here
          ∙ ap (λ (text : List ℕ). with_end (g.K.Sink.written c.args.sink.now) text) (lines-upto t history done count c.rooms.invariant.within);
      same_count = c.in_ok-write_text.ensures.same_count ∙ c.rooms.invariant.same_count;
      room = omega (arith, c.rooms.invariant.room, c.clear.ensures.capacity, c.fill-count.ensures.capacity);
    }
