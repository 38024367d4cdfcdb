use Rattle.std.proofs.Common.{◌+◌, ◌-◌, ◌*◌, ◌<◌, ◌≤◌, ◌^◌, length, ap, subst, sym, ◌∙◌, arith}
use Rattle.target_rows.specs.ChunkRows.{lane_at, meant_at}
use Rattle.target_rows.proofs.ChunkLemmas.{atoms-in, place-inside, routers-in}
use Rattle.target_rows.proofs.ReadLemmas.{column-atom, column-means}
use Rattle.target_rows.proofs.rows.TargetRows.column.Goals as goal

pub place_in-at-requires-clause-router : goal.place_in-at-requires-clause-router
place_in-at-requires-clause-router c = omega (arith, routers-in c.self.inside.routers c.self.inside.atoms c.self.inside.chunks c.self.inside.book c.args.self.now c.self.view_is)

pub place_in-at-requires-clause-atom : goal.place_in-at-requires-clause-atom
place_in-at-requires-clause-atom c =
    let s = c.self.inside in
    let few : c.self.inside.atoms ≤ 2 ^ 32 = c.self.invariant.rows.few in
    omega (arith, atoms-in s.routers s.atoms s.chunks s.book c.args.self.now c.self.view_is)

pub read_column-requires-clause-chunk : goal.read_column-requires-clause-chunk
read_column-requires-clause-chunk c =
    let s = c.self.inside in
    let la : c.args.place < c.self.inside.atoms = omega (arith, atoms-in s.routers s.atoms s.chunks s.book c.args.self.now c.self.view_is) in
    let lr : c.args.r.0 < c.self.inside.routers = omega (arith, routers-in s.routers s.atoms s.chunks s.book c.args.self.now c.self.view_is) in
    omega (arith, place-inside c.args.place s.atoms c.args.r.0 s.routers la lr, c.self.invariant.long, c.place_in-at.ensures.chunk)

pub read_column-requires-clause-apart : goal.read_column-requires-clause-apart
read_column-requires-clause-apart c =
    let lr : c.args.r.0 < c.self.inside.routers = omega (arith, routers-in c.self.inside.routers c.self.inside.atoms c.self.inside.chunks c.self.inside.book c.args.self.now c.self.view_is) in
    omega (arith, c.stride.ensures)

pub read_column-requires-clause-known : goal.read_column-requires-clause-known
read_column-requires-clause-known c = λ k l.
    let s = c.self.inside in
    let at = c.place_in-at.result in
    let lr : c.args.r.0 < c.self.inside.routers = omega (arith, routers-in s.routers s.atoms s.chunks s.book c.args.self.now c.self.view_is) in
    subst (λ es. lane_at s.chunks (at.chunk + k * c.stride.result) at.lane < length es) (sym c.edges.ensures)
    (column-means s.routers s.atoms s.chunks s.book c.args.self.now c.self.view_is c.self.invariant c.args.r.0 c.args.place k at.chunk at.lane c.stride.result lr c.place_in-at.ensures.chunk c.place_in-at.ensures.lane c.stride.ensures l).0

pub returns-clause-inside : goal.returns-clause-inside
returns-clause-inside c =
    let s = c.self.inside in
    let last : c.args.place + (c.read_column.result - 1) < c.self.inside.atoms =
    column-atom s.routers s.atoms s.chunks s.book c.args.self.now c.self.view_is c.self.invariant c.args.r.0 c.args.place (c.read_column.result - 1) c.place_in-at.result.chunk c.stride.result c.place_in-at.ensures.chunk c.stride.ensures (c.read_column.ensures.inside (c.read_column.result - 1) (omega (arith, c.read_column.ensures.some))) in
    omega (arith, c.read_column.ensures.some, atoms-in s.routers s.atoms s.chunks s.book c.args.self.now c.self.view_is)

pub returns-clause-targets : goal.returns-clause-targets
returns-clause-targets c = λ k e l.
    let s = c.self.inside in
    let at = c.place_in-at.result in
    let lr : c.args.r.0 < c.self.inside.routers = omega (arith, routers-in s.routers s.atoms s.chunks s.book c.args.self.now c.self.view_is) in
    c.read_column.ensures.targets k e l
    ∙ ap (λ es. meant_at es s.chunks (at.chunk + k * c.stride.result) at.lane) c.edges.ensures
    ∙ (column-means s.routers s.atoms s.chunks s.book c.args.self.now c.self.view_is c.self.invariant c.args.r.0 c.args.place k at.chunk at.lane c.stride.result lr c.place_in-at.ensures.chunk c.place_in-at.ensures.lane c.stride.ensures (c.read_column.ensures.inside k l)).1
