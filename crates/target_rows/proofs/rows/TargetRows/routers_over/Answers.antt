use Rattle.std.proofs.Common.{◌≡◌, ℕ, ◌<◌, true, false, List, length, get_or, subst}
use Rattle.base.specs.Reach.{is_over}
use Rattle.target_rows.specs.Codes.{edge_at}
use Rattle.target_rows.specs.declared.codes.Edge.{Edge}
use Rattle.target_rows.proofs.Overs.{marks-over}
use Rattle.target_rows.proofs.rows.TargetRows.routers_over.Goals as goal

pub returns : goal.returns
returns c =
    let s = c.self.inside in
    let P : List Edge → Type 0 = λ es. (k : ℕ) → k < length es → is_over c.args.link (edge_at es k).target ≡ true → get_or c.in_ok-marks.marks.items (edge_at es k).router false ≡ true in
    marks-over s.routers s.atoms s.chunks s.book c.args.self.now c.args.link c.in_ok-marks.marks.items c.self.view_is c.self.invariant c.in_ok-marks.ensures.room (subst P c.edges.ensures c.in_ok-marks.ensures.marked)
