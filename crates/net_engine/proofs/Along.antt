-- A prefix at whose ends atoms begin covers all addresses of an atom, or none.
use Rattle.std.proofs.Common.{◌≡◌, ℕ, ◌+◌, ◌<◌, ◌≤◌, ◌^◌, ◌∙◌, ◌&&◌, ⊎_elim, true, false, Some, List, [], ◌∷◌, refl, ap, sym, arith, eqb, leb, ltb}
use Rattle.std.specs.List.{Contains}
use Rattle.std.proofs.lemmas.Bool.{both_ways, cases_Bool, cases_lt, le-leb, le-ltb, lt-leb, lt-ltb, ne_eqb, or_from}
use Rattle.base.specs.Cidr.{covers, size}
use Rattle.base.specs.Rows.{is_within, CoverFrom}
use Rattle.net_engine.specs.Version.{Atom, atom_at, begins_at, first_of, past_of}
use Rattle.dn_model.specs.declared.entry.Route.{Route}
use Rattle.base.proofs.Covers.{holder-first, holder-rest}
use Rattle.net_engine.specs.Whole.{HasEnds}
use Rattle.net_engine.proofs.Held.{Held, Holds, held, holds}
use Rattle.net_engine.proofs.Owned.{Alike}

-- no atom begins before all of them
pub none-begins_before : (start : ℕ) (xs : List Atom) (b : ℕ) → CoverFrom first_of past_of start xs → b < start → begins_at xs b ≡ false
none-begins_before start [] b h l = refl
none-begins_before start (x ∷ xs) b h l =
    let first : x.row.low ≡ start = h.0 in
    let order : x.row.low < x.row.past = h.1 in
    let apart : x.row.low ≡ b → ⊥ = λ e. omega arith in
    or_from (eqb x.row.low b) (begins_at xs b) (ne_eqb x.row.low b apart) (none-begins_before x.row.past xs b h.2 (omega arith))

-- nor inside one
pub none-begins_inside : (start : ℕ) (xs : List Atom) (a b : ℕ) (y : Atom) → CoverFrom first_of past_of start xs → atom_at xs a ≡ Some y → first_of y < b → b < past_of y → begins_at xs b ≡ false
none-begins_inside start [] a b y h e l m = refl
none-begins_inside start (x ∷ xs) a b y h e l m =
    let first : x.row.low ≡ start = h.0 in
    let order : x.row.low < x.row.past = h.1 in
    ⊎_elim
    (λ (t : is_within x.row.low x.row.past a ≡ true).
    let same : Some x ≡ Some y = sym (holder-first first_of past_of x xs a t) ∙ e in
    let one : x ≡ y = cc in
    let from : x.row.low ≡ y.row.low = ap (λ (z : Atom). z.row.low) one in
    let to : x.row.past ≡ y.row.past = ap (λ (z : Atom). z.row.past) one in
    let apart : x.row.low ≡ b → ⊥ = λ f. omega arith in
    or_from (eqb x.row.low b) (begins_at xs b) (ne_eqb x.row.low b apart) (none-begins_before x.row.past xs b h.2 (omega arith)))
    (λ (f : is_within x.row.low x.row.past a ≡ false).
    let there : atom_at xs a ≡ Some y = sym (holder-rest first_of past_of x xs a f) ∙ e in
    let after : x.row.past ≤ y.row.low = (held first_of past_of x.row.past xs a y h.2 there).start in
    let apart : x.row.low ≡ b → ⊥ = λ g. omega arith in
    or_from (eqb x.row.low b) (begins_at xs b) (ne_eqb x.row.low b apart) (none-begins_inside x.row.past xs a b y h.2 there l m))
    (cases_Bool (is_within x.row.low x.row.past a))

-- two addresses on one side of a bound
leb-along : (f p l a b : ℕ) → f ≤ a → a < p → f ≤ b → b < p → (f < l → l < p → ⊥) → leb l a ≡ leb l b
leb-along f p l a b fa ap_ fb bp free = ⊎_elim
    (λ (u : a < l). ⊎_elim
    (λ (v : b < l). lt-leb l a u ∙ sym (lt-leb l b v))
    (λ (v : l ≤ b). absurd (free (omega arith) (omega arith)))
    (cases_lt b l))
    (λ (u : l ≤ a). ⊎_elim
    (λ (v : b < l). absurd (free (omega arith) (omega arith)))
    (λ (v : l ≤ b). le-leb l a u ∙ sym (le-leb l b v))
    (cases_lt b l))
    (cases_lt a l)

ltb-along : (f p l a b : ℕ) → f ≤ a → a < p → f ≤ b → b < p → (f < l → l < p → ⊥) → ltb a l ≡ ltb b l
ltb-along f p l a b fa ap_ fb bp free = ⊎_elim
    (λ (u : a < l). ⊎_elim
    (λ (v : b < l). lt-ltb a l u ∙ sym (lt-ltb b l v))
    (λ (v : l ≤ b). absurd (free (omega arith) (omega arith)))
    (cases_lt b l))
    (λ (u : l ≤ a). ⊎_elim
    (λ (v : b < l). absurd (free (omega arith) (omega arith)))
    (λ (v : l ≤ b). le-ltb a l u ∙ sym (le-ltb b l v))
    (cases_lt b l))
    (cases_lt a l)

module _ (atoms : List Atom) (x : Route) (cover : CoverFrom first_of past_of 0 atoms) (ends : HasEnds atoms x) where
  -- within one atom
  pub covers-within : (a b : ℕ) (y : Atom) → atom_at atoms a ≡ Some y → first_of y ≤ b → b < past_of y → covers x.prefix a ≡ covers x.prefix b
  covers-within a b y e l m =
      let h : Held first_of past_of 0 a y = held first_of past_of 0 atoms a y cover e in
      let from : y.row.low ≤ a = h.from in
      let to : a < y.row.past = h.to in
      let last : y.row.past ≤ 2 ^ 32 = h.ends in
      let first : ℕ = x.prefix.base in
      let past : ℕ = x.prefix.base + size x.prefix in
      let none_first : y.row.low < first → first < y.row.past → ⊥ = λ u v. both_ways (begins_at atoms first) (none-begins_inside 0 atoms a first y cover e u v) ends.first in
      let none_past : y.row.low < past → past < y.row.past → ⊥ = λ u v. both_ways (begins_at atoms past) (none-begins_inside 0 atoms a past y cover e u v) (ends.past (omega arith)) in
      ap (λ c. c && ltb a past) (leb-along y.row.low y.row.past first a b from to l m none_first)
      ∙ ap (λ c. leb first b && c) (ltb-along y.row.low y.row.past past a b from to l m none_past)

  -- two addresses that have the same atom
  pub covers-along : (a b : ℕ) → a < 2 ^ 32 → atom_at atoms a ≡ atom_at atoms b → covers x.prefix a ≡ covers x.prefix b
  covers-along a b below same =
      let w : Holds first_of past_of atoms a = holds first_of past_of 0 atoms a cover (omega arith) below in
      let h : Held first_of past_of 0 b w.row = held first_of past_of 0 atoms b w.row cover (sym same ∙ w.is) in
      covers-within a b w.row w.is h.from h.to

-- so two addresses of an atom are alike to routes at the ends of whose prefixes atoms begin
pub alike-within : (atoms : List Atom) (routes : List Route) (a b : ℕ) (y : Atom) → CoverFrom first_of past_of 0 atoms → ((x : Route) → Contains routes x → HasEnds atoms x) → atom_at atoms a ≡ Some y → first_of y ≤ b → b < past_of y → Alike routes a b
alike-within atoms routes a b y cover ends e l m = λ x h. covers-within atoms x cover (ends x h) a b y e l m
