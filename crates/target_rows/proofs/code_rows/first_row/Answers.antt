use Rattle.target_rows.proofs.TargetLemmas.{first-more, first-none}
use Rattle.target_rows.proofs.code_rows.first_row.Goals as goal

pub loop-r-init : goal.loop-r-init
loop-r-init c = first-none _ _ c.new-codes.ensures c.in_ok-book.ensures

pub loop-r-preserved : goal.loop-r-preserved
loop-r-preserved c = first-more c.loop-r.r c.in_ok-code.code c.loop-r.codes c.push.new.self c.loop-r.book c.code_of.new.self c.loop-r.invariant c.in_ok-code.ensures.ok c.in_ok-push.ensures
