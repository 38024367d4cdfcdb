use Rattle.std.proofs.Common.{◌<◌, [], ◌∙◌, subst, sym, arith}
use Rattle.std.specs.List.Sorted.{IsStrictlyIncreasing}
use Rattle.edge_labels.proofs.GraphLemmas.{label-found, label-none}
use Rattle.target_rows.proofs.TargetLemmas.{routers-of}
use Rattle.edge_labels.proofs.label_graph.LabelGraph.label.Goals as goal

pub returns-in-None : goal.returns-in-None
returns-in-None c =
    let s = c.self.inside in
    let lr : c.args.r.0 < c.self.inside.routers = omega (arith, routers-of s.routers s.atoms s.codes s.book c.args.self.now c.self.view_is) in
    label-none s.routers s.atoms c.args.r.0 s.codes s.book s.sets s.none c.ordered.result.now c.args.target c.args.self.now c.self.view_is c.self.invariant (c.find.ensures.absent c.in-None.is) lr c.ordered.ensures.value (subst IsStrictlyIncreasing (sym c.ordered.ensures.value) c.ordered.ensures.ascending)

pub returns-in-Some : goal.returns-in-Some
returns-in-Some c =
    let s = c.self.inside in
    let lr : c.args.r.0 < c.self.inside.routers = omega (arith, routers-of s.routers s.atoms s.codes s.book c.args.self.now c.self.view_is) in
    label-found s.routers s.atoms c.args.r.0 c.in-Some.code s.codes s.book s.sets s.none c.ordered-in-Some.result.now c.args.target c.args.self.now c.self.view_is c.self.invariant c.find.ensures.once lr c.in-Some.ensures.found.0 c.in-Some.ensures.found.1 (c.ordered-in-Some.ensures.value ∙ c.set_of.ensures []) (subst IsStrictlyIncreasing (sym c.ordered-in-Some.ensures.value) c.ordered-in-Some.ensures.ascending)
