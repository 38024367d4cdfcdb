use Rattle.target_rows.specs.Codes.{code_in}
use Rattle.target_rows.proofs.code_book.note.Goals as goal

pub returns-clause-ok : goal.returns-clause-ok
unfolding code_in
returns-clause-ok c = c.in_ok-_before.ensures.updates.0
