use Rattle.std.proofs.Common.{◌≡◌, ◌<◌, ◌++◌, length, take, drop, subst, ap, sym, ◌∙◌, arith}
use Rattle.std.specs.List.{All}
use Rattle.std.proofs.lemmas.List.Elements.{All-drop, All-take}
use Rattle.edge_labels.specs.Rows.{AreRowJoined}
use Rattle.target_rows.specs.Rows.{codes_of}
use Rattle.target_rows.proofs.RowLemmas.{row-fits}
use Rattle.edge_labels.proofs.GraphLemmas.{codes-known, inherited-kept}
use Rattle.edge_labels.proofs.MovedLemmas.{inherited-labels}
use Rattle.target_rows.proofs.TargetLemmas.{atoms-of}
use Rattle.edge_labels.proofs.label_graph.LabelGraph.inherit.Goals as goal

pub codes_from-requires-clause-inside : goal.codes_from-requires-clause-inside
codes_from-requires-clause-inside c =
    let s = c.self.inside in
    let la : c.args.old_atom.0 < c.self.inside.atoms = omega (arith, atoms-of s.routers s.atoms s.codes s.book c.args.self c.self.view_is) in
    omega (arith, row-fits c.args.old_atom.0 s.atoms s.routers la, c.self.invariant.rows.long, c.row_of-from.ensures.at)

pub join_row-requires : goal.join_row-requires
join_row-requires c =
    let s = c.self.inside in
    let known : All (λ code. code < length s.sets) s.codes = codes-known s.routers s.atoms s.codes s.book s.sets s.none c.self.invariant in
    subst (λ xs. All (λ code. code < length s.sets) xs) (sym (c.deref.ensures.value ∙ c.in_ok-row.ensures))
    (All-take (λ code. code < length s.sets) s.routers (drop c.row_of-from.result s.codes) (All-drop (λ code. code < length s.sets) c.row_of-from.result s.codes known))

pub invariant_of-result : goal.invariant_of-result
invariant_of-result c =
    let s = c.self.inside in
    let count : length c.args.self.rows ≡ c.self.inside.atoms = atoms-of s.routers s.atoms s.codes s.book c.args.self c.self.view_is in
    let la : c.args.old_atom.0 < c.self.inside.atoms = omega arith in
    let next : c.args.new_atom.0 ≡ c.self.inside.atoms = c.requires.next ∙ count in
    let row : c.in_ok-row.row.items ≡ codes_of s.routers s.codes c.args.old_atom.0 = c.in_ok-row.ensures ∙ ap (λ from. take s.routers (drop from s.codes)) c.row_of-from.ensures.at in
    inherited-kept s.routers s.atoms c.args.old_atom.0 s.codes c.push_row.new.codes s.book s.sets c.join_row.new.sets s.none c.self.invariant la (omega arith)
    (c.in_ok-push_row.ensures ∙ ap (λ xs. s.codes ++ xs) (c.deref-2.ensures.value ∙ row))
    (subst (AreRowJoined s.sets c.join_row.new.sets (codes_of s.routers s.codes c.args.old_atom.0)) next
    (subst (λ xs. AreRowJoined s.sets c.join_row.new.sets xs c.args.new_atom.0) (c.deref.ensures.value ∙ row) c.in_ok-join_row.ensures))

pub returns : goal.returns
returns c =
    let s = c.self.inside in
    let la : c.args.old_atom.0 < c.self.inside.atoms = omega (arith, atoms-of s.routers s.atoms s.codes s.book c.args.self c.self.view_is) in
    let row : c.in_ok-row.row.items ≡ codes_of s.routers s.codes c.args.old_atom.0 = c.in_ok-row.ensures ∙ ap (λ from. take s.routers (drop from s.codes)) c.row_of-from.ensures.at in
    inherited-labels s.routers s.atoms c.args.old_atom.0 s.codes c.push_row.new.codes s.book c.args.self c.self.view_is c.self.invariant.rows.long la
    (c.in_ok-push_row.ensures ∙ ap (λ xs. s.codes ++ xs) (c.deref-2.ensures.value ∙ row))
