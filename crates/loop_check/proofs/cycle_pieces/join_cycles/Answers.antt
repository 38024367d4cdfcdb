use Rattle.std.proofs.Common.{◌≡◌, ◌∙◌, List, length, subst, sym, arith}
use Rattle.base.specs.Cycles.{AreCycles}
use Rattle.base.specs.declared.cycle.Cycle.{Cycle}
use Rattle.loop_check.proofs.ShareParts.{shares-all, shares-next, shares-none, sorted-cycles}
use Rattle.loop_check.proofs.cycle_pieces.join_cycles.Goals as goal

pub loop-k-init : goal.loop-k-init
loop-k-init c = λ does h. shares-none does (h.at 0) c.new-known.result.entries h.bounds.first c.new-known.ensures.empty

pub loop-k-preserved : goal.loop-k-preserved
loop-k-preserved c = λ does h.
    shares-next does c.args.pieces.now c.loop-k.k c.as_slice.result.now c.index-pieces-k.result c.loop-k.known.entries c.add_piece.new.known.entries h c.loop-k-test.true (c.as_slice.ensures.value ∙ c.index-pieces-k.is) c.in_ok-add_piece.ensures (c.loop-k.invariant does h)

pub returns : goal.returns
returns c = λ does h.
    let end : c.loop-k.k ≡ length c.args.pieces.now = omega arith in
    let all = c.in_ok-cycles.ensures does (shares-all does c.args.pieces.now c.loop-k.k c.loop-k.known.entries h end (c.loop-k.invariant does h)) in
    let P : List Cycle → Type 0 = λ cs. AreCycles does cs in
    subst P (sym c.from_vec.ensures) (sorted-cycles does c.in_ok-cycles.cycles.items c.sort_cycles.new.cycles.items all c.sort_cycles.ensures.same (c.sort_cycles.ensures.order does all.form))
