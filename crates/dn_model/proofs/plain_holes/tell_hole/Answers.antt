use Rattle.std.proofs.Common.{◌∙◌, ◌<◌, ◌^◌, List, ap, sym, arith}
use Rattle.std.specs.List.{list_any}
use Rattle.base.specs.HolesFrom.{is_hole_of}
use Rattle.base.specs.declared.hole.Hole.{Hole}
use Rattle.base.proofs.HolesFrom.{tell-old, tell-new}
use Rattle.dn_model.proofs.plain_holes.tell_hole.Goals as goal

pub returns-then-has_hole : goal.returns-then-has_hole
returns-then-has_hole c = tell-old _ _ c.args.first c.args.a c.args.holes.now.items (c.in-Some.last, c.in-Some.cause) c.requires.form (sym c.in_ok-last.ensures ∙ c.in-Some.is)
    (ap (λ (hs : List Hole). list_any (is_hole_of c.in-Some.last c.in-Some.cause) hs) (sym c.as_slice.ensures.value) ∙ sym c.has_hole.ensures ∙ c.if-has_hole.true)

pub returns : goal.returns
returns c = tell-new _ _ c.args.first c.args.a c.args.holes.now.items c.put_hole.new.holes.items (record { router = c.in-Some.last; cause = c.in-Some.cause; runs = c.in_ok-runs.runs })
    (let l : c.args.a < 2 ^ 32 = omega arith in l) c.requires.form (sym c.in_ok-last.ensures ∙ c.in-Some.is) c.in_ok-runs.ensures c.in_ok-put_hole.ensures
