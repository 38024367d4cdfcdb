use Rattle.target_rows.specs.Codes.{code_in}
use Rattle.target_rows.proofs.code_book.forget.Goals as goal

pub returns : goal.returns
unfolding code_in
returns c = c.remove-code.ensures.updates.0
