use Rattle.std.proofs.Common.{◌≡◌, ◌+◌, ◌≤◌, length, ap, sym, ◌∙◌, arith}
use Rattle.target_rows.specs.ChunkRows.{lane_at}
use Rattle.target_rows.proofs.ReadLemmas.{run-fits, run-lane}
use Rattle.target_rows.proofs.SplitLemmas.{sides-lane-low, sides-long}
use Rattle.target_rows.proofs.split_codes.SplitCodes.run_from.Goals as goal

pub returns-then-len-eq0-clause-inside : goal.returns-then-len-eq0-clause-inside
returns-then-len-eq0-clause-inside c =
    let s = c.self.inside in
    let long : length c.args.self.now ≡ length c.self.inside.low = sym (ap length c.self.view_is) ∙ sides-long s.low s.high in
    omega (arith, long, run-fits s.low c.run_from.result.now c.args.place (omega (arith, long, c.requires.place)) c.run_from.ensures.run)

pub returns-then-len-eq0-clause-codes : goal.returns-then-len-eq0-clause-codes
returns-then-len-eq0-clause-codes c = λ k lane l m.
    let s = c.self.inside in
    let long : length c.args.self.now ≡ length c.self.inside.low = sym (ap length c.self.view_is) ∙ sides-long s.low s.high in
    let fits : c.args.place + length c.run_from.result.now ≤ length c.self.inside.low = run-fits s.low c.run_from.result.now c.args.place (omega (arith, long, c.requires.place)) c.run_from.ensures.run in
    run-lane s.low c.run_from.result.now c.args.place k lane l c.run_from.ensures.run
    ∙ sym (sides-lane-low s.low s.high (c.args.place + k) lane (omega arith) m (omega arith))
    ∙ ap (λ cs. lane_at cs (c.args.place + k) lane) c.self.view_is
