use Rattle.loop_check.proofs.ShareParts.{to-end, to-next, to-start}
use Rattle.loop_check.proofs.cycle_pieces.add_piece.Goals as goal

pub loop-i-init : goal.loop-i-init
loop-i-init c = λ does low past l within h. to-start low past does c.args.piece.now c.args.known.now.entries l within h

pub loop-i-preserved : goal.loop-i-preserved
loop-i-preserved c = λ does low past l within h.
    to-next low past does c.args.piece.now c.loop-i.i c.index-piece-i.result c.loop-i.known.entries c.add_share.new.known.entries l within c.loop-i-test.true c.index-piece-i.is (c.loop-i.invariant does low past l within h) c.in_ok-add_share.ensures

pub returns : goal.returns
returns c = λ does low past l within h. to-end low past does c.args.piece.now c.loop-i.i c.loop-i.known.entries c.loop-i-test.false within (c.loop-i.invariant does low past l within h)
