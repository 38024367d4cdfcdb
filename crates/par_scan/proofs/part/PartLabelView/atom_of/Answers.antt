use Rattle.std.proofs.Common.{◌≡◌, ◌<◌, ◌≤◌, ◌+◌, ◌^◌, ℕ, length, cond, ltb, refl, subst, sym, arith}
use Rattle.base.specs.declared.forwarding_row.ForwardingRow.{ForwardingRow}
use Rattle.par_scan.specs.Parts.{part_of}
use Rattle.par_scan.proofs.PartRows.{part-length, place-from, place-row, place-to}
use Rattle.par_scan.proofs.part.PartLabelView.atom_of.Goals as goal

pub overflow_sub-result : goal.overflow_sub-result
overflow_sub-result g c = place-from (g.V.LabelView.width c.args.self.now.view.now) (g.V.LabelView.rows c.args.self.now.view.now) c.args.self.now.from c.atom_of.result c.args.a c.args.self.now.low c.atoms-form.ensures.form c.args.self.now.begins (omega (arith, c.if-address-self.false, c.from-address.ensures)) c.atom_of.ensures.inside c.atom_of.ensures.from c.atom_of.ensures.to

pub returns-then-address-self-2-clause-inside : goal.returns-then-address-self-2-clause-inside
returns-then-address-self-2-clause-inside g c =
    let n = g.V.LabelView.width c.args.self.now.view.now in
    let rows = g.V.LabelView.rows c.args.self.now.view.now in
    let after : ℕ = cond (ltb c.args.self.now.past (2 ^ 32)) 1 0 in
    let f : c.args.self.now.from ≤ c.atom_of.result = place-from n rows c.args.self.now.from c.atom_of.result c.args.a c.args.self.now.low c.atoms-form.ensures.form c.args.self.now.begins (omega (arith, c.if-address-self.false, c.from-address.ensures)) c.atom_of.ensures.inside c.atom_of.ensures.from c.atom_of.ensures.to in
    let t : c.atom_of.result < c.args.self.now.from + c.args.self.now.count = place-to n rows (c.args.self.now.from + c.args.self.now.count) c.atom_of.result c.args.a c.args.self.now.past c.atoms-form.ensures.form c.args.self.now.ends (omega (arith, c.if-address-self-2.true, c.from-address.ensures)) c.atom_of.ensures.inside c.atom_of.ensures.from c.atom_of.ensures.to in
    let e : length (part_of n rows c.args.self.now.from c.args.self.now.count) ≡ c.before-then-address-self-2.result + c.args.self.now.count + after = part-length n rows c.args.self.now.from c.args.self.now.count c.args.self.now.low c.args.self.now.past c.before-then-address-self-2.result after c.args.self.now.inside c.args.self.now.begins c.args.self.now.ends c.before-then-address-self-2.ensures.value refl in
    omega arith

pub returns-then-address-self-2-clause-from : goal.returns-then-address-self-2-clause-from
returns-then-address-self-2-clause-from g c = λ d.
    let n = g.V.LabelView.width c.args.self.now.view.now in
    let rows = g.V.LabelView.rows c.args.self.now.view.now in
    let f : c.args.self.now.from ≤ c.atom_of.result = place-from n rows c.args.self.now.from c.atom_of.result c.args.a c.args.self.now.low c.atoms-form.ensures.form c.args.self.now.begins (omega (arith, c.if-address-self.false, c.from-address.ensures)) c.atom_of.ensures.inside c.atom_of.ensures.from c.atom_of.ensures.to in
    let t : c.atom_of.result < c.args.self.now.from + c.args.self.now.count = place-to n rows (c.args.self.now.from + c.args.self.now.count) c.atom_of.result c.args.a c.args.self.now.past c.atoms-form.ensures.form c.args.self.now.ends (omega (arith, c.if-address-self-2.true, c.from-address.ensures)) c.atom_of.ensures.inside c.atom_of.ensures.from c.atom_of.ensures.to in
    let P : ForwardingRow → Type 0 = λ row. row.low ≤ c.args.a in
    subst P (sym (place-row n rows c.args.self.now.from c.args.self.now.count c.args.self.now.low c.before-then-address-self-2.result c.atom_of.result d c.args.self.now.inside c.args.self.now.begins c.before-then-address-self-2.ensures.value f t)) (c.atom_of.ensures.from d)

pub returns-then-address-self-2-clause-to : goal.returns-then-address-self-2-clause-to
returns-then-address-self-2-clause-to g c = λ d.
    let n = g.V.LabelView.width c.args.self.now.view.now in
    let rows = g.V.LabelView.rows c.args.self.now.view.now in
    let f : c.args.self.now.from ≤ c.atom_of.result = place-from n rows c.args.self.now.from c.atom_of.result c.args.a c.args.self.now.low c.atoms-form.ensures.form c.args.self.now.begins (omega (arith, c.if-address-self.false, c.from-address.ensures)) c.atom_of.ensures.inside c.atom_of.ensures.from c.atom_of.ensures.to in
    let t : c.atom_of.result < c.args.self.now.from + c.args.self.now.count = place-to n rows (c.args.self.now.from + c.args.self.now.count) c.atom_of.result c.args.a c.args.self.now.past c.atoms-form.ensures.form c.args.self.now.ends (omega (arith, c.if-address-self-2.true, c.from-address.ensures)) c.atom_of.ensures.inside c.atom_of.ensures.from c.atom_of.ensures.to in
    let P : ForwardingRow → Type 0 = λ row. c.args.a < row.past in
    subst P (sym (place-row n rows c.args.self.now.from c.args.self.now.count c.args.self.now.low c.before-then-address-self-2.result c.atom_of.result d c.args.self.now.inside c.args.self.now.begins c.before-then-address-self-2.ensures.value f t)) (c.atom_of.ensures.to d)
