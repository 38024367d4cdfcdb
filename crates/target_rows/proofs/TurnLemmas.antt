-- A router's code at atoms that stand side by side, where one code is read and another is written.
use Rattle.std.proofs.Common.{IfOk, ◌≡◌, ◌≢◌, ℕ, ◌+◌, ◌-◌, ◌*◌, ◌/◌, ◌%◌, ◌<◌, ◌≤◌, cond, eqb, Bool, true, false, List, length, take, drop, refl, ap, sym, subst, ⊎_elim, ◌∙◌, arith}
use Rattle.std.specs.declared.result.Result.{Result}
use Rattle.std.specs.declared.result.Result.TheVariants.{Ok, Err}
use Rattle.std.specs.Fn.{FnOnceReturnsAtMut}
use Rattle.std.proofs.lemmas.Bool.{cases_eq, ne_eqb}
use Rattle.version_pages.specs.Changes.{ChangesRun}
use Rattle.base.specs.declared.target.Target.{Target}
use Rattle.target_rows.specs.declared.code_chunk.CodeChunk.{CodeChunk}
use Rattle.target_rows.specs.declared.codes.Edge.{Edge}
use Rattle.target_rows.specs.ChunkRows.{AreChunkRows, AreWritten, code_in, IsColumnWritten, labels_in, stride_of, turned_count}
use Rattle.target_rows.specs.Codes.{edge_at, IsCoded}
use Rattle.target_rows.specs.Labels.{Labels, moved_run, target_at}
use Rattle.target_rows.proofs.ChunkLemmas.{atoms-in, code-seen, routers-in}
use Rattle.target_rows.proofs.MovedRun.{moved_run-same}
use Rattle.target_rows.proofs.RunLemmas.{column-more, part-written, run-chunks, run-chunks-seen}
use denote.Param.Members.{Once}
use denote.Ref.{MutBor}

-- ---- how many codes are written

pub turned-all : (before code count : ℕ) → (before ≡ code → ⊥) → turned_count before code count ≡ count
turned-all before code count ne = ap (λ t. cond t 0 count) (ne_eqb before code ne)

pub turned-few : (before code count : ℕ) → turned_count before code count ≤ count
turned-few before code count = from (eqb before code)
  where
    from : (t : Bool) → cond t 0 count ≤ count
    from true = omega arith
    from false = omega arith

-- ---- chunks

pub changed-run-turned : {F R E : Type 0} (g : Once F (MutBor (List CodeChunk) × Unit {0}) (R × (MutBor (List CodeChunk) × Unit {0}))) (h : F) (old new : List CodeChunk) (i stride lane code : ℕ) (count : R → ℕ) (res : Result R E) → IfOk res (ChangesRun g h old new i) → ((x y : List CodeChunk) (r : R) → FnOnceReturnsAtMut g h x r y → AreWritten x y 0 stride lane (count r) code) → IfOk res (λ r. AreWritten old new i stride lane (count r) code)
changed-run-turned g h old new i stride lane code count (Ok r) made says = part-written old made.run new i made.count stride lane (count r) code made.inside made.long made.list (says (take made.count (drop i old)) made.run r made.called)
changed-run-turned g h old new i stride lane code count (Err e) made says = tt

-- the first page of a column, and then the rest
pub turned-column : (n r first count done before code place stride lane : ℕ) (old now new : List CodeChunk) → r < n → stride ≡ stride_of n → place ≡ first * stride_of n + r / 8 → lane ≡ r % 8 → (before ≡ code → ⊥) → done ≤ turned_count before code count → AreWritten old now place stride lane done code → IsColumnWritten n r (first + done) now new (count - done) code → IsColumnWritten n r first old new (turned_count before code count) code
turned-column n r first count done before code place stride lane old now new lr wide at at-lane ne few so on =
    let whole : done + (count - done) ≡ turned_count before code count = omega (arith, turned-all before code count ne, few) in
    subst (λ (x : ℕ). IsColumnWritten n r first old new x code) whole
    (column-more n r first done (count - done) code ((first + done) * stride_of n + r / 8) (stride_of n) (r % 8) old now new lr refl refl refl
    (subst (λ (x : ℕ). AreWritten old now x (stride_of n) (r % 8) done code) at
    (subst (λ (x : ℕ). AreWritten old now place x (r % 8) done code) wide
    (subst (λ (x : ℕ). AreWritten old now place stride x done code) at-lane so)))
    on)

-- ---- what the router does

-- where it does what it did, nothing changes
turned-run : (g : Labels) (r first past before code : ℕ) (t : Target) → first < past → past ≤ length g.rows → ((i : ℕ) → first ≤ i → i < past → target_at g r i ≡ target_at g r first) → (before ≡ code → target_at g r first ≡ t) → moved_run g r first (first + turned_count before code (past - first)) t ≡ moved_run g r first past t
turned-run g r first past before code t order inside same is = ⊎_elim
    (λ (e : before ≡ code).
    let few : turned_count before code (past - first) ≤ past - first = turned-few before code (past - first) in
    ap make
    (moved_run-same g r first (first + turned_count before code (past - first)) t (omega arith) (omega (arith, few)) (λ k low high. same k low (omega (arith, few)) ∙ is e)
    ∙ sym (moved_run-same g r first past t (omega arith) inside (λ k low high. same k low high ∙ is e))))
    (λ (ne : before ≢ code).
    let all : first + turned_count before code (past - first) ≡ past = omega (arith, turned-all before code (past - first) ne) in
    ap (λ x. moved_run g r first x t) all)
    (cases_eq before code)
  where
    make : List (List Target) → Labels
    make rows = record { routers = g.routers; rows = rows }

module _ (n atoms r first past before code : ℕ) (old : List CodeChunk) (edges new : List Edge) (t : Target) (g : Labels) (seen : labels_in n atoms old edges ≡ g) (kept : AreChunkRows n atoms old edges) (coded : IsCoded edges new (record { router = r; target = t }) code) (lr : r < n) (order : first < past) (inside : past ≤ atoms) (read : before ≡ code_in n old first r) where
  known : (before < length edges) × ((edge_at edges before).target ≡ target_at g r first)
  known = code-seen n atoms r first (first * stride_of n + r / 8) (r % 8) before old edges g seen kept (omega (arith, routers-in n atoms old edges g seen)) (omega (arith, atoms-in n atoms old edges g seen)) refl refl read

  pub turned-there : before < length new
  turned-there = omega (arith, known.0, coded.many)

  pub turned-before : (e : Edge) → e ≡ edge_at new before → e.target ≡ target_at g r first
  turned-before e is = ap (λ x. x.target) (is ∙ coded.same before known.0) ∙ known.1

  as-before : before ≡ code → target_at g r first ≡ t
  as-before e = sym (turned-before (edge_at new before) refl) ∙ ap (λ x. (edge_at new x).target) e ∙ ap (λ x. x.target) coded.is

  few : first + turned_count before code (past - first) ≤ atoms
  few = omega (arith, turned-few before code (past - first))

  pub turned-chunks : (now : List CodeChunk) → IsColumnWritten n r first old now (turned_count before code (past - first)) code → AreChunkRows n atoms now new
  turned-chunks now is = run-chunks n atoms r first (turned_count before code (past - first)) code old now edges new t kept coded is lr few

  pub turned-labels : (now : List CodeChunk) → ((i : ℕ) → first ≤ i → i < past → target_at g r i ≡ target_at g r first) → IsColumnWritten n r first old now (turned_count before code (past - first)) code → labels_in n atoms now new ≡ moved_run g r first past t
  turned-labels now same is =
      run-chunks-seen n atoms r first (first + turned_count before code (past - first)) (turned_count before code (past - first)) code old now edges new t g seen kept coded is lr few refl
      ∙ turned-run g r first past before code t order (omega (arith, atoms-in n atoms old edges g seen)) same as-before
