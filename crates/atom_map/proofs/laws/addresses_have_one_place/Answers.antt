use Rattle.std.proofs.Common.{◌<◌, ◌≤◌, ◌∙◌, Some, ap, sym, subst}
use Rattle.base.proofs.Covers.{holder-at}
use Rattle.atom_map.specs.Atoms.{atom_low, atom_past}
use Rattle.atom_map.specs.declared.atom_row.AtomRow.{AtomRow}
use Rattle.atom_map.proofs.laws.addresses_have_one_place.Goals as goal

pub returns : goal.returns
returns c = λ rows place a row h l e from to.
    let P : AtomRow → Type 0 = λ r. r.low ≤ a in
    let Q : AtomRow → Type 0 = λ r. a < r.past in
    holder-at atom_low atom_past 0 rows place row a h.cover l (subst P (sym e) from) (subst Q (sym e) to) ∙ ap (λ (x : AtomRow). Some x) e
