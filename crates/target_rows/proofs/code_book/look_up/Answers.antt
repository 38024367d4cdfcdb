use Rattle.std.proofs.Common.{◌∙◌}
use Rattle.target_rows.specs.Codes.{code_in}
use Rattle.target_rows.proofs.code_book.look_up.Goals as goal

pub returns : goal.returns
unfolding code_in
returns c = c.copied.ensures ∙ c.get.ensures.value
