use Rattle.std.proofs.Common.{arith}
use Rattle.dn_formats.specs.Decimal.{is_dot}
use Rattle.query_lang.proofs.Cuts.{slice_split_whole, slice_split_more}
use Rattle.query_lang.proofs.text_cut.split_at_dot.Goals as goal

pub returns-then-place-text : goal.returns-then-place-text
returns-then-place-text c = slice_split_whole is_dot c.args.text.now (omega arith)

pub returns : goal.returns
returns c =
    rw (c.cut_at.ensures.front, c.cut_at.ensures.back, c.dot_place-place.ensures.place) (slice_split_more is_dot c.args.text.now (omega arith))
