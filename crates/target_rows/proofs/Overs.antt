-- Where a router goes on over a link its code says so.
use Rattle.std.proofs.Common.{◌≡◌, ◌∙◌, ℕ, ◌<◌, Bool, true, false, List, length, get_or, ap, subst, arith}
use Rattle.base.specs.Reach.{is_over}
use Rattle.base.specs.declared.ids.LinkId.{LinkId}
use Rattle.target_rows.specs.ChunkRows.{AreChunkRows, codes_in, labels_in}
use Rattle.target_rows.specs.Codes.{edge_at}
use Rattle.target_rows.specs.Labels.{Labels, target_at}
use Rattle.target_rows.specs.Over.{MarksOver}
use Rattle.target_rows.specs.Rows.{IsCodeOf, code_at}
use Rattle.target_rows.specs.declared.code_chunk.CodeChunk.{CodeChunk}
use Rattle.target_rows.specs.declared.codes.Edge.{Edge}
use Rattle.target_rows.proofs.ChunkLemmas.{atoms-in, routers-in}
use Rattle.target_rows.proofs.TargetLemmas.{target-now}

pub marks-over : (n atoms : ℕ) (chunks : List CodeChunk) (edges : List Edge) (g : Labels) (l : LinkId) (marks : List Bool) → labels_in n atoms chunks edges ≡ g → AreChunkRows n atoms chunks edges → length marks ≡ n → ((c : ℕ) → c < length edges → is_over l (edge_at edges c).target ≡ true → get_or marks (edge_at edges c).router false ≡ true) → MarksOver g l marks
marks-over n atoms chunks edges g l marks is kept room each = record {
  room = room ∙ routers-in n atoms chunks edges g is;
  marked = λ r place lr la over.
      let mine : r < n = omega (arith, routers-in n atoms chunks edges g is) in
      let there : place < atoms = omega (arith, atoms-in n atoms chunks edges g is) in
      let code : ℕ = code_at n (codes_in n atoms chunks) place r in
      let own : IsCodeOf edges r code = kept.rows.own place r there mine in
      let does : (edge_at edges code).target ≡ target_at g r place = target-now n atoms r place (codes_in n atoms chunks) edges g is kept.rows.long mine there in
      subst (λ q. get_or marks q false ≡ true) own.router (each code own.there (ap (is_over l) does ∙ over));
}
