use Rattle.route_table.proofs.Listed.{run-inside, ways-more}
use Rattle.route_table.proofs.metrics.push_routes.Goals as goal

pub pages-preserved : goal.pages-preserved
pages-preserved c = record {
  inside = run-inside c.args.ways.now c.run_from-page.result.now c.pages.place c.run_from-page.ensures.run c.pages.invariant.inside;
  routes = ways-more c.args.prefix c.args.ways.now c.run_from-page.result.now c.pages.place c.args.routes.now.items c.pages.routes.items c.push_page.new.routes.items c.run_from-page.ensures.run c.pages.invariant.routes c.in_ok-push_page.ensures;
}
