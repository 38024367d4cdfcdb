use Rattle.std.proofs.Common.{◌≡◌, ◌+◌, ◌/◌, ◌%◌, ◌<◌, ◌≤◌, ◌^◌, length, ap, subst, sym, ◌∙◌, arith}
use Rattle.target_rows.specs.ChunkRows.{lane_at, meant_at, stride_of}
use Rattle.target_rows.proofs.RowLemmas.{row-fits}
use Rattle.target_rows.proofs.ChunkLemmas.{atoms-in, routers-in}
use Rattle.target_rows.proofs.ReadLemmas.{row-means}
use Rattle.target_rows.proofs.rows.TargetRows.row.Goals as goal

pub start_of-first-requires : goal.start_of-first-requires
start_of-first-requires c =
    let s = c.self.inside in
    let few : c.self.inside.atoms ≤ 2 ^ 32 = c.self.invariant.rows.few in
    omega (arith, atoms-in s.routers s.atoms s.chunks s.book c.args.self.now c.self.view_is)

pub read_row-requires-clause-few : goal.read_row-requires-clause-few
read_row-requires-clause-few c = omega (arith, c.requires.wide, routers-in c.self.inside.routers c.self.inside.atoms c.self.inside.chunks c.self.inside.book c.args.self.now c.self.view_is)

pub read_row-requires-clause-inside : goal.read_row-requires-clause-inside
read_row-requires-clause-inside c =
    let s = c.self.inside in
    let la : c.args.place < c.self.inside.atoms = omega (arith, atoms-in s.routers s.atoms s.chunks s.book c.args.self.now c.self.view_is) in
    let wide : length c.args.out.now ≡ c.self.inside.routers = c.requires.wide ∙ sym (routers-in s.routers s.atoms s.chunks s.book c.args.self.now c.self.view_is) in
    omega (arith, ap stride_of wide, row-fits c.args.place s.atoms (stride_of s.routers) la, c.self.invariant.long, c.start_of-first.ensures.at)

pub read_row-requires-clause-fits : goal.read_row-requires-clause-fits
read_row-requires-clause-fits c =
    let s = c.self.inside in
    let wide : length c.args.out.now ≡ c.self.inside.routers = c.requires.wide ∙ sym (routers-in s.routers s.atoms s.chunks s.book c.args.self.now c.self.view_is) in
    omega (arith, ap stride_of wide, c.start_of-first.ensures.fits)

pub read_row-requires-clause-known : goal.read_row-requires-clause-known
read_row-requires-clause-known c = λ r l.
    let s = c.self.inside in
    let la : c.args.place < c.self.inside.atoms = omega (arith, atoms-in s.routers s.atoms s.chunks s.book c.args.self.now c.self.view_is) in
    let lr : r < c.self.inside.routers = omega (arith, c.requires.wide, routers-in s.routers s.atoms s.chunks s.book c.args.self.now c.self.view_is) in
    subst (λ es. lane_at s.chunks (c.start_of-first.result + r / 8) (r % 8) < length es) (sym c.edges.ensures)
    (row-means s.routers s.atoms s.chunks s.book c.args.self.now c.self.view_is c.self.invariant c.args.place r c.start_of-first.result la c.start_of-first.ensures.at lr).0

pub returns-clause-targets : goal.returns-clause-targets
returns-clause-targets c = λ k e l.
    let s = c.self.inside in
    let la : c.args.place < c.self.inside.atoms = omega (arith, atoms-in s.routers s.atoms s.chunks s.book c.args.self.now c.self.view_is) in
    let lr : k < c.self.inside.routers = omega (arith, routers-in s.routers s.atoms s.chunks s.book c.args.self.now c.self.view_is) in
    c.read_row.ensures.targets k e (omega (arith, c.requires.wide))
    ∙ ap (λ es. meant_at es s.chunks (c.start_of-first.result + k / 8) (k % 8)) c.edges.ensures
    ∙ (row-means s.routers s.atoms s.chunks s.book c.args.self.now c.self.view_is c.self.invariant c.args.place k c.start_of-first.result la c.start_of-first.ensures.at lr).1
