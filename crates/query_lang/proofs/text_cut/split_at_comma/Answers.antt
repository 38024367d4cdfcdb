use Rattle.std.proofs.Common.{arith}
use Rattle.dn_formats.specs.QueryWords.{is_comma}
use Rattle.query_lang.proofs.Cuts.{slice_split_whole, slice_split_more}
use Rattle.query_lang.proofs.text_cut.split_at_comma.Goals as goal

pub returns-then-place-text-clause-parts : goal.returns-then-place-text-clause-parts
returns-then-place-text-clause-parts c = slice_split_whole is_comma c.args.text.now (omega arith)

pub returns-clause-parts : goal.returns-clause-parts
returns-clause-parts c =
    rw (c.cut_at.ensures.front, c.cut_at.ensures.back, c.comma_place-place.ensures.place) (slice_split_more is_comma c.args.text.now (omega arith))
