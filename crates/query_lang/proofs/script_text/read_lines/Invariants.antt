use Rattle.std.proofs.Common.{◌≡◌, ◌≤◌, length}
use Rattle.dn_formats.specs.ScriptText.{lines_meaning, line_meaning, lines_of}
use Rattle.query_lang.proofs.ScriptLines.{after_lines}
use Rattle.query_lang.proofs.script_text.read_lines.Given as goal

-- the lines so far and what the rest means make what the whole means
abbrev pub invariant-loop-rest : goal.invariant-loop-rest
invariant-loop-rest l =
    (l.number ≤ 65537)
    × (after_lines l.lines (lines_meaning (line_meaning l.feeds.topology.now.routers l.feeds.fed.now l.feeds.taken.now) l.number (lines_of l.rest))
    ≡ lines_meaning (line_meaning l.feeds.topology.now.routers l.feeds.fed.now l.feeds.taken.now) 1 (lines_of l.text))

abbrev pub decreases-loop-rest : goal.decreases-loop-rest
decreases-loop-rest l = length l.rest
