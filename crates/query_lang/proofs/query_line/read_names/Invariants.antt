use Rattle.std.proofs.Common.{◌≡◌, ◌≤◌, ◌+◌, length}
use Rattle.dn_formats.specs.QueryWords.{names_in}
use Rattle.query_lang.proofs.Questions.{after_names}
use Rattle.query_lang.proofs.query_line.read_names.Given as goal

-- the names so far before those of the rest are those of the word
abbrev pub invariant-loop-first : goal.invariant-loop-first
invariant-loop-first l = (after_names l.names (names_in l.rest) ≡ names_in l.word) × (length l.names + length l.rest ≤ length l.word)

abbrev pub decreases-loop-first : goal.decreases-loop-first
decreases-loop-first l = length l.rest
