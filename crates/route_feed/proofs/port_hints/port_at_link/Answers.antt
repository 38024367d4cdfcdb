use Rattle.std.proofs.Common.{sym, arith}
use Rattle.route_feed.proofs.HintLemmas.{at_first, at_second}
use Rattle.route_feed.proofs.port_hints.port_at_link.Goals as goal

pub returns-then-is_same_end : goal.returns-then-is_same_end
returns-then-is_same_end c =
    at_first c.args.topology.now c.args.at c.as_slice-links.result.now c.args.place _ c.index-links-place.result c.port_over.result
    c.as_slice-links.ensures.value (omega (arith, c.if-place-links.false)) c.index-links-place.is (sym c.if-is_same_end.ensures) c.port_over.ensures

pub returns-then-is_same_end-2 : goal.returns-then-is_same_end-2
returns-then-is_same_end-2 c =
    at_second c.args.topology.now c.args.at c.as_slice-links.result.now c.args.place _ c.index-links-place.result c.port_over-then-is_same_end-2.result
    c.as_slice-links.ensures.value (omega (arith, c.if-place-links.false)) c.index-links-place.is (sym c.if-is_same_end.ensures) (sym c.if-is_same_end-2.ensures)
    c.port_over-then-is_same_end-2.ensures
