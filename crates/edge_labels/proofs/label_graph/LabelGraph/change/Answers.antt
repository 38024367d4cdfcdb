use Rattle.std.proofs.Common.{◌<◌, set, subst, ap, ◌∙◌, arith}
use Rattle.edge_labels.specs.Rows.{AreReached}
use Rattle.target_rows.proofs.RowLemmas.{row-fits}
use Rattle.edge_labels.proofs.GraphLemmas.{moved-kept}
use Rattle.edge_labels.proofs.MovedLemmas.{moved-labels}
use Rattle.target_rows.proofs.TargetLemmas.{atoms-of, code-known, routers-of}
use Rattle.edge_labels.proofs.label_graph.LabelGraph.change.Goals as goal

pub place_of-place-requires : goal.place_of-place-requires
place_of-place-requires c = omega (arith, routers-of c.self.inside.routers c.self.inside.atoms c.self.inside.codes c.self.inside.book c.args.self c.self.view_is)

pub swap-requires : goal.swap-requires
swap-requires c =
    let s = c.self.inside in
    let la : c.args.atom.0 < c.self.inside.atoms = omega (arith, atoms-of s.routers s.atoms s.codes s.book c.args.self c.self.view_is) in
    let lr : c.args.r.0 < c.self.inside.routers = omega (arith, routers-of s.routers s.atoms s.codes s.book c.args.self c.self.view_is) in
    omega (arith, row-fits c.args.atom.0 s.atoms s.routers la, c.self.invariant.rows.long, c.place_of-place.ensures)

pub leave-requires : goal.leave-requires
leave-requires c =
    let s = c.self.inside in
    let known = code-known s.routers s.atoms c.args.r.0 c.args.atom.0 c.place_of-place.result c.in_ok-old.old s.codes s.book c.args.self c.self.view_is c.self.invariant.rows c.requires.router c.requires.atom c.place_of-place.ensures (c.in_ok-old.ensures.old 0) in
    omega (arith, known.0, c.in_ok-reach.ensures.long, c.len.ensures, c.in_ok-new.ensures.ok.many)

pub invariant_of-result : goal.invariant_of-result
invariant_of-result c =
    let s = c.self.inside in
    let la : c.args.atom.0 < c.self.inside.atoms = omega (arith, atoms-of s.routers s.atoms s.codes s.book c.args.self c.self.view_is) in
    let lr : c.args.r.0 < c.self.inside.routers = omega (arith, routers-of s.routers s.atoms s.codes s.book c.args.self c.self.view_is) in
    let known = code-known s.routers s.atoms c.args.r.0 c.args.atom.0 c.place_of-place.result c.in_ok-old.old s.codes s.book c.args.self c.self.view_is c.self.invariant.rows c.requires.router c.requires.atom c.place_of-place.ensures (c.in_ok-old.ensures.old 0) in
    moved-kept s.routers s.atoms c.args.r.0 c.args.atom.0 c.in_ok-old.old c.in_ok-new.new s.codes c.swap.new.codes s.book c.code_of.new.self s.sets c.reach.new.sets c.leave.new.sets c.join.new.sets s.none c.args.after
    c.self.invariant c.in_ok-new.ensures.ok (subst (AreReached s.sets c.reach.new.sets) c.len.ensures c.in_ok-reach.ensures) known.2 c.in_ok-leave.ensures c.in_ok-join.ensures (c.in_ok-old.ensures.new ∙ ap (λ i. set s.codes i c.in_ok-new.new) c.place_of-place.ensures) lr la

pub returns : goal.returns
returns c =
    let s = c.self.inside in
    let la : c.args.atom.0 < c.self.inside.atoms = omega (arith, atoms-of s.routers s.atoms s.codes s.book c.args.self c.self.view_is) in
    let lr : c.args.r.0 < c.self.inside.routers = omega (arith, routers-of s.routers s.atoms s.codes s.book c.args.self c.self.view_is) in
    moved-labels s.routers s.atoms c.args.r.0 c.args.atom.0 c.in_ok-new.new s.codes c.swap.new.codes s.book c.code_of.new.self c.args.after c.args.self c.self.view_is
    c.self.invariant.rows c.in_ok-new.ensures.ok (c.in_ok-old.ensures.new ∙ ap (λ i. set s.codes i c.in_ok-new.new) c.place_of-place.ensures) lr la
