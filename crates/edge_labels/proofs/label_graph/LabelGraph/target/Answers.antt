use Rattle.std.proofs.Common.{◌<◌, ap, ◌∙◌, arith}
use Rattle.target_rows.proofs.RowLemmas.{row-fits}
use Rattle.target_rows.proofs.TargetLemmas.{atoms-of, code-known, routers-of}
use Rattle.edge_labels.proofs.label_graph.LabelGraph.target.Goals as goal

pub place_of-requires : goal.place_of-requires
place_of-requires c = omega (arith, routers-of c.self.inside.routers c.self.inside.atoms c.self.inside.codes c.self.inside.book c.args.self.now c.self.view_is)

pub read-code-requires : goal.read-code-requires
read-code-requires c =
    let la : c.args.atom.0 < c.self.inside.atoms = omega (arith, atoms-of c.self.inside.routers c.self.inside.atoms c.self.inside.codes c.self.inside.book c.args.self.now c.self.view_is) in
    let lr : c.args.r.0 < c.self.inside.routers = omega (arith, routers-of c.self.inside.routers c.self.inside.atoms c.self.inside.codes c.self.inside.book c.args.self.now c.self.view_is) in
    omega (arith, row-fits c.args.atom.0 c.self.inside.atoms c.self.inside.routers la, c.self.invariant.rows.long, c.place_of.ensures)

pub edge-requires : goal.edge-requires
edge-requires c = (code-known c.self.inside.routers c.self.inside.atoms c.args.r.0 c.args.atom.0 c.place_of.result c.read-code.result c.self.inside.codes c.self.inside.book c.args.self.now c.self.view_is c.self.invariant.rows c.requires.router c.requires.atom c.place_of.ensures (c.read-code.ensures 0)).0

pub returns : goal.returns
returns c =
    let known = code-known c.self.inside.routers c.self.inside.atoms c.args.r.0 c.args.atom.0 c.place_of.result c.read-code.result c.self.inside.codes c.self.inside.book c.args.self.now c.self.view_is c.self.invariant.rows c.requires.router c.requires.atom c.place_of.ensures (c.read-code.ensures 0) in
    ap (λ e. e.target) c.edge.ensures ∙ known.1
