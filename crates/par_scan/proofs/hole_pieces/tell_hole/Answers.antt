use Rattle.std.proofs.Common.{ℕ, ◌≡◌, ◌∙◌, false, List, ap, sym}
use Rattle.std.specs.List.{list_any}
use Rattle.std.proofs.lemmas.Result.{on_ok_weaker}
use Rattle.base.specs.Holes.{AreInOrder}
use Rattle.base.specs.HolesFrom.{AreSomeHoles, IsPutAmong, is_hole_of}
use Rattle.base.specs.declared.hole.Hole.{Hole}
use Rattle.base.specs.declared.ids.RouterId.{RouterId}
use Rattle.base.specs.declared.target.Target.{Target}
use Rattle.par_scan.specs.HolesByRange.{AreHolePieces, IsHoleWithin, TellsHoleAt}
use Rattle.par_scan.proofs.HoleParts.{told-already, told-new, whole-hole}
use Rattle.par_scan.proofs.hole_pieces.tell_hole.Goals as goal

pub returns-then-has_hole : goal.returns-then-has_hole
returns-then-has_hole c = λ n does first low past h pieces is e f some.
    told-already n does first c.args.last c.args.cause c.args.holes.now.items some
    (ap (λ (hs : List Hole). list_any (is_hole_of c.args.last c.args.cause) hs) (sym c.as_slice.ensures.value) ∙ sym c.has_hole.ensures ∙ c.if-has_hole.true)

pub returns : goal.returns
returns c =
    let x : Hole = record { router = c.args.last; cause = c.args.cause; runs = c.in_ok-runs.runs } in
    let none : list_any (is_hole_of c.args.last c.args.cause) c.args.holes.now.items ≡ false = ap (λ (hs : List Hole). list_any (is_hole_of c.args.last c.args.cause) hs) (sym c.as_slice.ensures.value) ∙ sym c.has_hole.ensures ∙ c.if-has_hole.false in
    let Put : Type 0 = AreInOrder c.args.holes.now.items → list_any (is_hole_of c.args.last c.args.cause) c.args.holes.now.items ≡ false → IsPutAmong x c.args.holes.now.items c.put_hole.new.holes.items in
    let Tell : Type 0 = (n : ℕ) (does : RouterId → ℕ → Target) (first : RouterId) (low past : ℕ) (h : Hole) → AreHolePieces n does first c.args.pieces.now → IsHoleWithin low past n does first h → h.router ≡ c.args.last → h.cause ≡ c.args.cause → AreSomeHoles n does first c.args.holes.now.items → TellsHoleAt n does first c.args.last c.args.cause c.args.holes.now.items c.put_hole.new.holes.items in
    let tell : Put → Tell = λ put n does first low past h pieces is e f some.
    told-new n does first x c.args.holes.now.items c.put_hole.new.holes.items some (whole-hole low past n does first h x is e f (c.in_ok-runs.ensures n does first pieces)) (put some.order none) in
    on_ok_weaker c.put_hole.result tell c.put_hole.ensures
