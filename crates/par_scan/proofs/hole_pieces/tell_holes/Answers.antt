use Rattle.std.proofs.Common.{refl, subst, sym}
use Rattle.std.specs.List.{Contains}
use Rattle.std.proofs.lemmas.List.Elements.{Contains-get_or}
use Rattle.base.specs.declared.hole.Hole.{Hole}
use Rattle.par_scan.proofs.HoleParts.{told-next, told-none, told-piece}
use Rattle.par_scan.proofs.hole_pieces.tell_holes.Goals as goal

pub loop-i-init : goal.loop-i-init
loop-i-init c = λ n does first low past pieces within some. told-none n does first c.args.piece.now c.args.holes.now.items some

pub loop-i-preserved : goal.loop-i-preserved
loop-i-preserved c = λ n does first low past pieces within some.
    let so_far = c.loop-i.invariant n does first low past pieces within some in
    let C : Hole → Type 0 = λ x. Contains c.args.piece.now x in
    told-next n does first c.args.piece.now c.loop-i.i c.index-piece-i.result c.args.holes.now.items c.loop-i.holes.items c.tell_hole.new.holes.items c.loop-i-test.true c.index-piece-i.is so_far
    (c.in_ok-tell_hole.ensures n does first low past c.index-piece-i.result pieces (within.each c.index-piece-i.result (subst C (sym c.index-piece-i.is) (Contains-get_or c.args.piece.now c.loop-i.i c.index-piece-i.result c.loop-i-test.true))) refl refl so_far.form)

pub returns : goal.returns
returns c = λ n does first low past pieces within some. told-piece n does first c.args.piece.now c.loop-i.i c.args.holes.now.items c.loop-i.holes.items c.loop-i-test.false (c.loop-i.invariant n does first low past pieces within some)
