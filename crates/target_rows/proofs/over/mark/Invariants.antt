use Rattle.std.proofs.Common.{◌≡◌, ℕ, ◌<◌, true, false, length, get_or}
use Rattle.base.specs.Reach.{is_over}
use Rattle.target_rows.specs.Codes.{edge_at}
use Rattle.target_rows.proofs.over.mark.Given as goal

-- each code so far that goes on over the link has its router marked
abbrev pub invariant-loop-edge : goal.invariant-loop-edge
invariant-loop-edge l = record {
  room : length l.marks ≡ length l.initial.marks;
  marked : (c : ℕ) → c < l.edge-index → is_over l.link (edge_at l.edges c).target ≡ true → get_or l.marks (edge_at l.edges c).router false ≡ true;
}
