use Rattle.std.proofs.Common.{◌∙◌, ◌+◌, List, sym, subst}
use Rattle.base.specs.Holes.{AreHoles}
use Rattle.base.specs.declared.hole.Hole.{Hole}
use Rattle.par_scan.specs.HolesByRange.{AreHolesWithin}
use Rattle.par_scan.proofs.HoleParts.{all-holes, all-next, none-told}
use Rattle.par_scan.proofs.hole_pieces.join_holes.Goals as goal

pub loop-k-init : goal.loop-k-init
loop-k-init c = λ n does first h. none-told n does first c.args.pieces.now c.new-holes.result.items c.new-holes.ensures.items

pub loop-k-preserved : goal.loop-k-preserved
loop-k-preserved c = λ n does first h.
    let is = c.as_slice.ensures.value ∙ c.index-pieces-k.is in
    let R : List Hole → Type 0 = λ hs. AreHolesWithin (h.at c.loop-k.k) (h.at (c.loop-k.k + 1)) n does first hs in
    let so_far = c.loop-k.invariant n does first h in
    all-next n does first c.args.pieces.now c.loop-k.k c.as_slice.result.now c.index-pieces-k.result c.loop-k.holes.items c.tell_holes.new.holes.items c.loop-k-test.true is so_far
    (c.in_ok-tell_holes.ensures n does first (h.at c.loop-k.k) (h.at (c.loop-k.k + 1)) h (subst R (sym is) (h.holes.each c.loop-k.k c.index-pieces-k.result c.loop-k-test.true)) so_far.form)

pub returns : goal.returns
returns c = λ n does first h.
    let P : List Hole → Type 0 = λ hs. AreHoles n does first hs in
    subst P (sym c.from_vec.ensures) (all-holes n does first c.args.pieces.now c.loop-k.k c.loop-k.holes.items c.loop-k-test.false h (c.loop-k.invariant n does first h))
