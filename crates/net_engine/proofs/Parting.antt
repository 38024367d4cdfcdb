-- Atoms that are cut at both ends of a prefix.
use Rattle.std.proofs.Common.{◌≡◌, ◌+◌, ◌<◌, ◌^◌, ◌∙◌, ◌||◌, Bool, true, false, List, length, refl, ap, sym, arith, eqb, inl, inr}
use Rattle.std.proofs.lemmas.Bool.{eq-eqb, ne_eqb, or_left, or_right}
use Rattle.base.specs.Cidr.{Cidr, IsCidr, size}
use Rattle.dn_model.specs.Entry.{is_bound_of}
use Rattle.base.specs.Rows.{CoverFrom}
use Rattle.net_engine.specs.Version.{Atom, begins_at, first_of, past_of, rules_at, target_at}
use Rattle.net_engine.specs.Looks.{atoms_met, more_at}
use Rattle.net_engine.specs.Net.{cut_atoms}
use Rattle.net_engine.specs.Walked.{BeginsAtEnds, IsParted}
use Rattle.net_engine.proofs.Atoms.{cut-begins, cut-rules, cut-target, eqb-turned}
use Rattle.net_engine.proofs.Looking.{cut-meets, cut-more, ends-apart, more-after, more-past}

or-one : (p q r : Bool) → r ≡ false → (p || q) ≡ (p || (q || r))
or-one true q r e = refl
or-one false true r e = refl
or-one false false r e = sym e

or-two : (p q r : Bool) → ((p || q) || r) ≡ (p || (q || r))
or-two true q r = refl
or-two false q r = refl

-- a prefix that ends with the last address is cut once
pub parted-once : (old new : List Atom) (p : Cidr) → CoverFrom first_of past_of 0 old → IsCidr p → p.base + size p ≡ 2 ^ 32 → new ≡ cut_atoms old p.base → IsParted old new p
parted-once old new p cover cidr last is = record {
  begins = λ a l.
      let past : eqb (p.base + size p) a ≡ false = ne_eqb (p.base + size p) a (λ e. omega arith) in
      ap (λ xs. begins_at xs a) is
      ∙ cut-begins 0 old p.base a cover (omega arith) cidr.base
      ∙ ap (λ b. begins_at old a || b) (eqb-turned a p.base)
      ∙ or-one (begins_at old a) (eqb p.base a) (eqb (p.base + size p) a) past;
  rules = λ r a l. ap (λ xs. rules_at xs r a) is ∙ cut-rules old p.base r a;
  targets = λ r a l. ap (λ xs. target_at xs r a) is ∙ cut-target old p.base r a;
  more =
      let one : length (cut_atoms old p.base) ≡ length old + more_at old p.base = cut-more 0 old p.base cover (omega arith) cidr.base in
      let none : more_at old (p.base + size p) ≡ 0 = more-past old (p.base + size p) (omega arith) in
      ap (λ xs. length xs) is ∙ (omega arith);
  met = ap (λ xs. atoms_met xs p) is ∙ cut-meets old p.base p.base (p.base + size p) (ends-apart p) (inl refl);
}

-- each other one twice
pub parted-twice : (old mid new : List Atom) (p : Cidr) → CoverFrom first_of past_of 0 old → CoverFrom first_of past_of 0 mid → IsCidr p → p.base + size p < 2 ^ 32 → mid ≡ cut_atoms old p.base → new ≡ cut_atoms mid (p.base + size p) → IsParted old new p
parted-twice old mid new p cover again cidr below first second = record {
  begins = λ a l.
      ap (λ xs. begins_at xs a) second
      ∙ cut-begins 0 mid (p.base + size p) a again (omega arith) below
      ∙ ap (λ b. begins_at mid a || b) (eqb-turned a (p.base + size p))
      ∙ ap (λ xs. begins_at xs a || eqb (p.base + size p) a) first
      ∙ ap (λ b. b || eqb (p.base + size p) a) (cut-begins 0 old p.base a cover (omega arith) cidr.base)
      ∙ ap (λ b. (begins_at old a || b) || eqb (p.base + size p) a) (eqb-turned a p.base)
      ∙ or-two (begins_at old a) (eqb p.base a) (eqb (p.base + size p) a);
  rules = λ r a l. ap (λ xs. rules_at xs r a) second ∙ cut-rules mid (p.base + size p) r a ∙ ap (λ xs. rules_at xs r a) first ∙ cut-rules old p.base r a;
  targets = λ r a l. ap (λ xs. target_at xs r a) second ∙ cut-target mid (p.base + size p) r a ∙ ap (λ xs. target_at xs r a) first ∙ cut-target old p.base r a;
  more =
      let one : length (cut_atoms old p.base) ≡ length old + more_at old p.base = cut-more 0 old p.base cover (omega arith) cidr.base in
      let two : length (cut_atoms mid (p.base + size p)) ≡ length mid + more_at mid (p.base + size p) = cut-more 0 mid (p.base + size p) again (omega arith) below in
      let same : more_at mid (p.base + size p) ≡ more_at old (p.base + size p) =
      ap (λ xs. more_at xs (p.base + size p)) first ∙ more-after old p.base (p.base + size p) cover cidr.base (ends-apart p) in
      let long : length mid ≡ length (cut_atoms old p.base) = ap (λ xs. length xs) first in
      ap (λ xs. length xs) second ∙ (omega arith);
  met =
      ap (λ xs. atoms_met xs p) second
      ∙ cut-meets mid (p.base + size p) p.base (p.base + size p) (ends-apart p) (inr refl)
      ∙ ap (λ xs. atoms_met xs p) first
      ∙ cut-meets old p.base p.base (p.base + size p) (ends-apart p) (inl refl);
}

-- then atoms begin at both ends
pub parted-ends : (old new : List Atom) (p : Cidr) → IsCidr p → IsParted old new p → BeginsAtEnds new p
parted-ends old new p cidr h = record {
  first = h.begins p.base cidr.base ∙ or_right (begins_at old p.base) (is_bound_of p p.base) (or_left (eqb p.base p.base) (eqb (p.base + size p) p.base) (eq-eqb p.base p.base refl));
  past = λ l. h.begins (p.base + size p) l ∙ or_right (begins_at old (p.base + size p)) (is_bound_of p (p.base + size p)) (or_right (eqb p.base (p.base + size p)) (eqb (p.base + size p) (p.base + size p)) (eq-eqb (p.base + size p) (p.base + size p) refl));
}
