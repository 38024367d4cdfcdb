use Rattle.std.proofs.Common.{arith, ◌∙◌, sym, ◌≡◌, false, get_or, ◌<◌, length}
use Rattle.dn_formats.specs.ScriptText.{is_gap}
use Rattle.query_lang.proofs.Cuts.{words_of-first}
use Rattle.query_lang.proofs.text_cut.next_word.Goals as goal

pub returns-clause-words : goal.returns-clause-words
returns-clause-words c =
    let some : 0 < length c.skip_gaps-rest.result.now = grind (arith) in
    let start : is_gap (get_or c.skip_gaps-rest.result.now 0 0) ≡ false = c.skip_gaps-rest.ensures.start some in
    sym c.skip_gaps-rest.ensures.words
    ∙ rw (c.cut_at.ensures.front, c.cut_at.ensures.back, c.word_end-end.ensures.place) (words_of-first c.skip_gaps-rest.result.now some start)
