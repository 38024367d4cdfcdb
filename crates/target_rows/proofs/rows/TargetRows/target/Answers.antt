use Rattle.std.proofs.Common.{◌<◌, ◌≤◌, ◌^◌, ap, ◌∙◌, arith}
use Rattle.target_rows.proofs.ChunkLemmas.{atoms-in, code-seen, place-inside, routers-in}
use Rattle.target_rows.proofs.rows.TargetRows.target.Goals as goal

pub place_in-requires-clause-router : goal.place_in-requires-clause-router
place_in-requires-clause-router c = omega (arith, routers-in c.self.inside.routers c.self.inside.atoms c.self.inside.chunks c.self.inside.book c.args.self.now c.self.view_is)

pub place_in-requires-clause-atom : goal.place_in-requires-clause-atom
place_in-requires-clause-atom c =
    let s = c.self.inside in
    let few : c.self.inside.atoms ≤ 2 ^ 32 = c.self.invariant.rows.few in
    omega (arith, atoms-in s.routers s.atoms s.chunks s.book c.args.self.now c.self.view_is)

pub code_at-code-requires-clause-chunk : goal.code_at-code-requires-clause-chunk
code_at-code-requires-clause-chunk c =
    let s = c.self.inside in
    let la : c.args.place < c.self.inside.atoms = omega (arith, atoms-in s.routers s.atoms s.chunks s.book c.args.self.now c.self.view_is) in
    let lr : c.args.r.0 < c.self.inside.routers = omega (arith, routers-in s.routers s.atoms s.chunks s.book c.args.self.now c.self.view_is) in
    omega (arith, place-inside c.args.place s.atoms c.args.r.0 s.routers la lr, c.self.invariant.long, c.place_in.ensures.chunk)

pub edge-requires : goal.edge-requires
edge-requires c =
    let s = c.self.inside in
    (code-seen s.routers s.atoms c.args.r.0 c.args.place c.place_in.result.chunk c.place_in.result.lane c.code_at-code.result s.chunks s.book c.args.self.now c.self.view_is c.self.invariant c.requires.router c.requires.place c.place_in.ensures.chunk c.place_in.ensures.lane c.code_at-code.ensures).0

pub returns : goal.returns
returns c =
    let s = c.self.inside in
    let seen = code-seen s.routers s.atoms c.args.r.0 c.args.place c.place_in.result.chunk c.place_in.result.lane c.code_at-code.result s.chunks s.book c.args.self.now c.self.view_is c.self.invariant c.requires.router c.requires.place c.place_in.ensures.chunk c.place_in.ensures.lane c.code_at-code.ensures in
    ap (λ e. e.target) c.edge.ensures ∙ seen.1
