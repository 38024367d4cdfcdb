use Rattle.query_lang.proofs.Cuts.{lines_of-first}
use Rattle.query_lang.proofs.text_cut.first_line.Goals as goal

pub returns-clause-lines : goal.returns-clause-lines
returns-clause-lines c =
    rw (c.cut_at.ensures.front, c.cut_at.ensures.back, c.line_end-end.ensures.place) (lines_of-first c.args.text.now c.requires)
