use Rattle.std.proofs.Common.{◌≤◌, arith, rules}
use Rattle.std.proofs.lemmas.Bool.Decides.{nat_tests}
use Rattle.query_lang.proofs.ScriptLines.{numbered-added}
use Rattle.query_lang.proofs.script_text.read_numbered.Goals as goal

pub returns-in-Ok-clause-ok : goal.returns-in-Ok-clause-ok
returns-in-Ok-clause-ok c =
    let over = c.if-line-gt-LINES.false in
    let low : c.args.line ≤ 65536 = first_of (search rules, grind (arith, nat_tests, over)) in
    numbered-added c.args.lines.now c.read_line.new.lines c.args.line _ low c.in-Ok.ensures.ok
