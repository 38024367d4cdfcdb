use Rattle.std.proofs.Common.{sym}
use Rattle.route_feed.proofs.HintLemmas.{at_edge}
use Rattle.route_feed.proofs.port_hints.port_at_edge.Goals as goal

pub returns-then-is_same_end : goal.returns-then-is_same_end
returns-then-is_same_end c =
    at_edge c.args.topology.now c.args.at c.as_slice-edges.result.now c.args.place _ c.as_slice-edges.ensures.value c.if-place-edges.true (sym c.if-is_same_end.ensures)
