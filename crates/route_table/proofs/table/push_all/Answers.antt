use Rattle.std.proofs.Common.{length, sym}
use Rattle.route_table.specs.Rows.{slots_in}
use Rattle.route_table.proofs.Listed.{run-inside, run-more}
use Rattle.route_table.proofs.SideBySide.{long, page-of}
use Rattle.route_table.proofs.table.push_all.Goals as goal

pub rows-preserved : goal.rows-preserved
rows-preserved c = record {
  inside = run-inside c.args.rows.now c.run_from-run.result.now c.rows.place c.run_from-run.ensures.run c.rows.invariant.inside;
  routes = run-more (slots_in 0 c.args.rows.now) (slots_in 0 c.run_from-run.result.now) (length c.run_from-run.result.now) c.rows.place c.args.routes.now.items c.rows.routes.items c.push_run.new.routes.items (sym (long 0 c.run_from-run.result.now)) (page-of 0 c.args.rows.now c.run_from-run.result.now c.rows.place c.run_from-run.ensures.run) c.rows.invariant.routes c.in_ok-push_run.ensures;
}
