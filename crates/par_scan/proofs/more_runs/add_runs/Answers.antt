use Rattle.loop_check.proofs.Joining.{add-more, add-none}
use Rattle.par_scan.proofs.more_runs.add_runs.Goals as goal

pub returns-in_default : goal.returns-in_default
returns-in_default c = add-none c.args.runs.now.items c.args.more.now c.in_default.len_below

pub returns : goal.returns
returns c = add-more c.args.runs.now.items c.add_run.new.runs.items c.extend_from_slice.new.self.items c.args.more.now _ c.in-len1-up.len_at_least c.in_ok-add_run.ensures c.in_ok-extend_from_slice.ensures.items
