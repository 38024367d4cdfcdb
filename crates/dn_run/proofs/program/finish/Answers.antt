use Rattle.std.proofs.Common.{take, drop, sym}
use Rattle.std.proofs.lemmas.List.{take-append-drop}
use Rattle.dn_run.proofs.program.finish.Goals as goal

pub returns-in-Err-clause-done : goal.returns-in-Err-clause-done
returns-in-Err-clause-done g c =
    let front = c.in-Err.ensures.front in
    (take front.0 c.args.ruling.text, drop front.0 c.args.ruling.text, sym (take-append-drop front.0 c.args.ruling.text), front.2)
