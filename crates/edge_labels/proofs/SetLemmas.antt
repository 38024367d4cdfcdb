-- Sets of atoms as the numbers of bits.
use Rattle.std.proofs.Common.{◌≡◌, ℕ, ◌+◌, ◌<◌, ◌≤◌, ◌∙◌, ◌||◌, eqb, Bool, true, false, List, [], ◌∷◌, drop, get_or, length, Result, Ok, Err, OnErr, refl, ap, sym, subst, arith}
use Rattle.std.specs.List.Sorted.{IsStrictlyIncreasing}
use Rattle.std.proofs.lemmas.Bool.Decides.{nat_tests}
use Rattle.std.proofs.lemmas.List.{drop_all, drop_more}
use Rattle.base.specs.declared.ids.AtomId.{AtomId}
use Rattle.edge_labels.specs.declared.chunk.Chunk.{Chunk}
use Rattle.edge_labels.specs.Atoms.{numbers, has_atom, AreAtoms}
use Rattle.edge_labels.specs.Bits.{has_bit, members}
use Rattle.edge_labels.proofs.MemberLemmas.{has-member, members-ascend, members-same}

-- the numbers of no chunk
pub no-members : (chunks : List Chunk) → chunks ≡ [] → members chunks ≡ []
unfolding members
no-members chunks none = ap members none

pub set-same : (old new : List Chunk) (now : List ℕ) → members old ≡ now → ((a : ℕ) → has_bit new a ≡ has_bit old a) → members new ≡ now
set-same old new now is same = members-same old new same ∙ is

-- whatever a call answers
pub on-err : {T E : Type 0} {P : Type 0} (r : Result T E) → P → OnErr r P
on-err (Ok x) p = tt
on-err (Err e) p = p

bit-now : (chunks : List Chunk) (now : List ℕ) → members chunks ≡ now → (a : ℕ) → has_bit chunks a ≡ has_atom now a
bit-now chunks now is a = sym (has-member chunks a) ∙ ap (λ xs. has_atom xs a) is

pub set-changed : (old new : List Chunk) (now : List ℕ) (f : ℕ → Bool → Bool) → members old ≡ now → ((a : ℕ) → has_bit new a ≡ f a (has_bit old a)) → AreAtoms (members new) (λ a. f a (has_atom now a))
set-changed old new now f is made = record {
  ascending = members-ascend new;
  exact = λ a. has-member new a ∙ made a ∙ ap (f a) (bit-now old now is a);
}

pub sets-combined : (first second made : List Chunk) (x y : List ℕ) (f : Bool → Bool → Bool) → members first ≡ x → members second ≡ y → ((a : ℕ) → has_bit made a ≡ f (has_bit first a) (has_bit second a)) → AreAtoms (members made) (λ a. f (has_atom x a) (has_atom y a))
sets-combined first second made x y f is there each = record {
  ascending = members-ascend made;
  exact = λ a. has-member made a ∙ each a ∙ ap (λ b. f b (has_bit second a)) (bit-now first x is a) ∙ ap (λ b. f (has_atom x a) b) (bit-now second y there a);
}

pub ascending-now : (chunks : List Chunk) (now : List ℕ) → members chunks ≡ now → IsStrictlyIncreasing now
ascending-now chunks now is = subst IsStrictlyIncreasing is (members-ascend chunks)

-- ---- a set that is made of one atom after another

-- what is there and what is left pass the test
pub record Adds (set left : List ℕ) (test : ℕ → Bool) : Type 0 where
  pub ascending : IsStrictlyIncreasing set
  pub exact : (a : ℕ) → (has_atom set a || has_atom left a) ≡ test a

eqb-flip : (a b : ℕ) → eqb a b ≡ eqb b a
eqb-flip a b = grind (arith, nat_tests)

or-false : (b : Bool) → (b || false) ≡ b
or-false true = refl
or-false false = refl

or-turned : (e s r : Bool) → ((e || s) || r) ≡ (s || (e || r))
or-turned true true r = refl
or-turned true false r = refl
or-turned false s r = refl

none-ascending : IsStrictlyIncreasing []
none-ascending k h = absurd (let no : ⊥ = omega arith in no)

pub adds-first : (set left ks : List ℕ) (test : ℕ → Bool) → set ≡ [] → left ≡ ks → ((a : ℕ) → has_atom ks a ≡ test a) → Adds set left test
adds-first set left ks test none all is = record {
  ascending = subst IsStrictlyIncreasing (sym none) none-ascending;
  exact = λ a. ap (λ xs. has_atom xs a || has_atom left a) none ∙ ap (λ xs. has_atom xs a) all ∙ is a;
}

pub adds-more : (set new left rest : List ℕ) (x : ℕ) (test : ℕ → Bool) → left ≡ x ∷ rest → AreAtoms new (λ a. eqb a x || has_atom set a) → Adds set left test → Adds new rest test
adds-more set new left rest x test front grown part = record {
  ascending = grown.ascending;
  exact = λ a.
      ap (λ b. b || has_atom rest a) (grown.exact a)
      ∙ ap (λ b. (b || has_atom set a) || has_atom rest a) (eqb-flip a x)
      ∙ or-turned (eqb x a) (has_atom set a) (has_atom rest a)
      ∙ ap (λ xs. has_atom set a || has_atom xs a) (sym front)
      ∙ part.exact a;
}

pub adds-last : (set left : List ℕ) (test : ℕ → Bool) → left ≡ [] → Adds set left test → AreAtoms set test
adds-last set left test none part = record {
  ascending = part.ascending;
  exact = λ a. sym (or-false (has_atom set a)) ∙ ap (λ xs. has_atom set a || has_atom xs a) (sym none) ∙ part.exact a;
}

pub adds-at : (atoms : List AtomId) (i : ℕ) (d : AtomId) (set new : List ℕ) (test : ℕ → Bool) → i < length atoms → AreAtoms new (λ a. eqb a (get_or atoms i d).0 || has_atom set a) → Adds set (numbers (drop i atoms)) test → Adds new (numbers (drop (i + 1) atoms)) test
adds-at atoms i d set new test lt grown part =
    adds-more set new (numbers (drop i atoms)) (numbers (drop (i + 1) atoms)) (get_or atoms i d).0 test
    (ap numbers (drop_more atoms i d lt)) grown part

pub adds-end : (atoms : List AtomId) (i : ℕ) (set : List ℕ) (test : ℕ → Bool) → length atoms ≤ i → Adds set (numbers (drop i atoms)) test → AreAtoms set test
adds-end atoms i set test past part = adds-last set (numbers (drop i atoms)) test (ap numbers (drop_all i atoms past)) part
