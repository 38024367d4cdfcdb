use Rattle.std.proofs.Common.{ap, arith, sym, ◌∙◌}
use Rattle.dn_formats.specs.ScriptText.{line_meaning, lines_meaning}
use Rattle.query_lang.proofs.ScriptLines.{after_lines, line-added}
use Rattle.query_lang.proofs.script_text.read_lines.Goals as goal

pub loop-rest-preserved : goal.loop-rest-preserved
loop-rest-preserved c =
    let meaning = line_meaning c.args.feeds.now.topology.now.routers c.args.feeds.now.fed.now c.args.feeds.now.taken.now in (
      omega (arith, c.in_ok-read_numbered.ensures.within),
      sym (line-added c.loop-rest.lines c.read_numbered.new.lines _ _ c.in_ok-read_numbered.ensures.ok)
          ∙ ap (λ ls. after_lines c.loop-rest.lines (lines_meaning meaning c.loop-rest.number ls)) (sym c.first_line.ensures.lines)
          ∙ c.loop-rest.invariant.1,
    )
