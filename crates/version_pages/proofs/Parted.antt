-- A child parted in two.
use Rattle.std.proofs.Common.{◌≡◌, ℕ, zero, suc, ◌+◌, ◌-◌, ◌<◌, ◌≤◌, List, [], ◌∷◌, ◌++◌, length, get_or, set, take, drop, refl, ap, sym, subst, ◌∙◌, arith, append_assoc, length-append, length-drop, add-one}
use Rattle.std.specs.List.{All, insert}
use Rattle.std.proofs.lemmas.List.{append-nil, get_or_at, get_or_default, take_at, length-take-le}
use Rattle.std.proofs.lemmas.List.Elements.{All-append, All-cons, All-drop, All-get_or, All-take}
use Rattle.std.proofs.lemmas.List.Concat.{flat_map-append}
use Rattle.version_pages.specs.Shape.{Shape, items_of, joined, AreHalves, IsAt, IsParted, IsPartedAt, IsUnder}
use Rattle.version_pages.proofs.Joined.{joined-at}

-- two elements in the place of one
parted-list : {X : Type 0} (xs : List X) (k n : ℕ) (l u : X) → n ≡ suc k → k < length xs → set (insert xs n u) k l ≡ take k xs ++ (l ∷ (u ∷ drop n xs))
parted-list [] k n l u e lt = absurd (omega arith)
parted-list (x ∷ xs) zero n l u e lt = rw e refl
parted-list (x ∷ xs) (suc k) n l u e lt = rw e (ap (λ t. x ∷ t) (parted-list xs k (suc k) l u refl (omega arith)))

module _ {T : Type 0} (kids new : List (Shape T)) (k : ℕ) (lower upper : Shape T) (l : k < length kids) (h : (d : Shape T) → AreHalves lower upper (get_or kids k d)) (e : new ≡ take k kids ++ (lower ∷ (upper ∷ drop (k + 1) kids))) where
  then-is : (take k kids ++ lower ∷ []) ++ (upper ∷ drop (k + 1) kids) ≡ new
  then-is = append_assoc (take k kids) (lower ∷ []) (upper ∷ drop (k + 1) kids) ∙ sym e

  front-long : length (take k kids) ≡ k
  front-long = length-take-le k kids (omega arith)

  then-long : length (take k kids ++ lower ∷ []) ≡ k + 1
  then-long = length-append (take k kids) (lower ∷ []) ∙ ap (λ n. n + 1) front-long

  parts-same : joined new ≡ joined kids
  parts-same =
      ap joined e
      ∙ flat_map-append items_of (take k kids) (lower ∷ (upper ∷ drop (k + 1) kids))
      ∙ ap (λ t. joined (take k kids) ++ t) (sym (append_assoc (items_of lower) (items_of upper) (joined (drop (k + 1) kids))) ∙ ap (λ t. t ++ joined (drop (k + 1) kids)) (h lower).items)
      ∙ sym (joined-at kids k lower l)

  parts-under : (n : ℕ) → All (IsUnder n) kids → All (IsUnder n) new
  parts-under n all =
      let old : IsUnder n (get_or kids k lower) = All-get_or (IsUnder n) kids k lower l all in
      let halves : AreHalves lower upper (get_or kids k lower) = h lower in
      let first : IsUnder n lower = record { level = ap (λ m. m + 1) halves.lower_level ∙ old.level; deep = halves.lower_deep } in
      let second : IsUnder n upper = record { level = ap (λ m. m + 1) halves.upper_level ∙ old.level; deep = halves.upper_deep } in
      let rest : All (IsUnder n) (upper ∷ drop (k + 1) kids) = All-cons (IsUnder n) upper (drop (k + 1) kids) second (All-drop (IsUnder n) (k + 1) kids all) in
      subst (All (IsUnder n)) (sym e) (All-append (IsUnder n) (take k kids) (lower ∷ (upper ∷ drop (k + 1) kids)) (All-take (IsUnder n) k kids all) (All-cons (IsUnder n) lower (upper ∷ drop (k + 1) kids) first rest))

  pub parts-are : IsParted kids new k lower upper
  parts-are = record {
    count = omega (arith, ap length e, length-append (take k kids) (lower ∷ (upper ∷ drop (k + 1) kids)), front-long, length-drop (k + 1) kids);
    same = parts-same;
    before = ap (take k) e ∙ take_at (take k kids) (lower ∷ (upper ∷ drop (k + 1) kids)) k front-long;
    then = ap (take (k + 1)) (sym then-is) ∙ take_at (take k kids ++ lower ∷ []) (upper ∷ drop (k + 1) kids) (k + 1) then-long;
    first = λ d. ap (λ t. get_or t k d) e ∙ get_or_at (take k kids) lower (upper ∷ drop (k + 1) kids) d k front-long;
    second = λ d. ap (λ t. get_or t (k + 1) d) (sym then-is) ∙ get_or_at (take k kids ++ lower ∷ []) upper (drop (k + 1) kids) d (k + 1) then-long;
    under = parts-under;
  }

pub parted : {T : Type 0} (kids : List (Shape T)) (k : ℕ) (lower upper : Shape T) → k < length kids → ((d : Shape T) → AreHalves lower upper (get_or kids k d)) → IsParted kids (set (insert kids (k + 1) upper) k lower) k lower upper
parted kids k lower upper l h = parts-are kids (set (insert kids (k + 1) upper) k lower) k lower upper l h (parted-list kids k (k + 1) lower upper (add-one k) l)

-- the first part in its place, and then the second one behind it
pub set-insert : {X : Type 0} (xs : List X) (k n : ℕ) (l u : X) → n ≡ suc k → k < length xs → insert (set xs k l) n u ≡ set (insert xs n u) k l
set-insert [] k n l u e lt = absurd (omega arith)
set-insert (x ∷ xs) zero n l u e lt = rw e refl
set-insert (x ∷ xs) (suc k) n l u e lt = rw e (ap (λ t. x ∷ t) (set-insert xs k (suc k) l u refl (omega arith)))

pub halves-at : {T : Type 0} (kids : List (Shape T)) (k : ℕ) (kid lower upper : Shape T) → k < length kids → kid ≡ get_or kids k kid → AreHalves lower upper kid → (d : Shape T) → AreHalves lower upper (get_or kids k d)
halves-at kids k kid lower upper l is halves d = subst (AreHalves lower upper) (is ∙ get_or_default kids k kid d l) halves

pub parted-at : {T : Type 0} (kids new : List (Shape T)) (k len : ℕ) (kid lower upper : Shape T) → k < length kids → kid ≡ get_or kids k kid → AreHalves lower upper kid → new ≡ insert (set kids k lower) (k + 1) upper → len ≡ length (items_of lower) → IsPartedAt kids new k len
parted-at kids new k len kid lower upper l is halves made long = record {
  lower = lower;
  upper = upper;
  long = long;
  halves = halves-at kids k kid lower upper l is halves;
  parted = subst (λ t. IsParted kids t k lower upper) (sym (made ∙ set-insert kids k (k + 1) lower upper (add-one k) l)) (parted kids k lower upper l (halves-at kids k kid lower upper l is halves));
}

-- a place is in the first part
pub at-first : {T : Type 0} (kids new : List (Shape T)) (i k j : ℕ) (lower upper : Shape T) → IsAt kids i k j → IsParted kids new k lower upper → j < length (items_of lower) → IsAt new i k j
at-first kids new i k j lower upper at p l = record {
  child = omega (arith, p.count, at.child);
  place = rw p.before at.place;
  inside = λ d _. rw (p.first d) l;
  within = λ d _. rw (p.first d) (omega arith);
}

-- or in the second one
pub at-second : {T : Type 0} (kids new : List (Shape T)) (i k j : ℕ) (lower upper : Shape T) → IsAt kids i k j → IsParted kids new k lower upper → ((d : Shape T) → AreHalves lower upper (get_or kids k d)) → length (items_of lower) ≤ j → IsAt new i (k + 1) (j - length (items_of lower))
at-second kids new i k j lower upper at p h l =
    let halves : AreHalves lower upper (get_or kids k lower) = h lower in
    let both : length (items_of (get_or kids k lower)) ≡ length (items_of lower) + length (items_of upper) = ap length (sym halves.items) ∙ length-append (items_of lower) (items_of upper) in
    let long : length (joined (take (k + 1) new)) ≡ length (joined (take k kids)) + length (items_of lower) =
    ap (λ t. length (joined t)) p.then
    ∙ ap length (flat_map-append items_of (take k kids) (lower ∷ []))
    ∙ length-append (joined (take k kids)) (items_of lower ++ [])
    ∙ ap (λ t. length (joined (take k kids)) + length t) (append-nil (items_of lower)) in
    let all : length (joined new) ≡ length (joined kids) = ap length p.same in
    record {
      child = omega (arith, p.count, at.child);
      place = omega (arith, at.place, long);
      inside = λ d in'. rw (p.second d) (omega (arith, at.inside lower (omega (arith, all, in')), both));
      within = λ d in'. rw (p.second d) (omega (arith, at.within lower (omega (arith, all, in')), both));
    }
