-- Where a search ends in a fork, from where it ends in a child.
use Rattle.std.proofs.Common.{◌≡◌, ℕ, zero, suc, ◌+◌, ◌-◌, ◌<◌, ◌≤◌, ⊎_elim, List, [], ◌∷◌, ◌++◌, length, get_or, take, drop, refl, ap, sym, subst, ◌∙◌, arith, length-append}
use Rattle.std.proofs.lemmas.Bool.{cases_lt}
use Rattle.std.proofs.lemmas.List.{append-nil, get_or_default, take-append-drop, take_more}
use Rattle.std.proofs.lemmas.List.Elements.{All-get_or}
use Rattle.std.proofs.lemmas.List.Concat.{flat_map-append}
use Rattle.std.proofs.lemmas.Nat.{pow_pos}
use Rattle.version_pages.specs.Shape.{Shape, items_of, joined, AreKids, IsAt, IsUnder}
use Rattle.version_pages.specs.Search.{EndsBelow, EndsIn}
use Rattle.version_pages.proofs.FirstKeys.{first-at}
use Rattle.version_pages.proofs.Joined.{get-in, joined-at}

-- a child of a fork has elements
pub kid-some : {T : Type 0} (h k : ℕ) (kids : List (Shape T)) (e : Shape T) → AreKids h kids → k < length kids → 0 < length (items_of (get_or kids k e))
kid-some h k kids e kept l =
    let u : IsUnder h (get_or kids k e) = All-get_or (IsUnder h) kids k e l kept.under in
    omega (arith, u.deep.many, pow_pos (get_or kids k e).height)

-- the elements of the first children and one more
pub joined-more : {T : Type 0} (kids : List (Shape T)) (k : ℕ) (e : Shape T) → k < length kids → length (joined (take (k + 1) kids)) ≡ length (joined (take k kids)) + length (items_of (get_or kids k e))
joined-more kids k e l =
    ap (λ t. length (joined t)) (take_more kids k e l)
    ∙ ap length (flat_map-append items_of (take k kids) (get_or kids k e ∷ []))
    ∙ length-append (joined (take k kids)) (items_of (get_or kids k e) ++ [])
    ∙ ap (λ t. length (joined (take k kids)) + length t) (append-nil (items_of (get_or kids k e)))

-- no child follows the last
pub joined-last : {T : Type 0} (kids : List (Shape T)) (k : ℕ) (e : Shape T) → k < length kids → length (joined kids) ≡ length (joined (take k kids)) + (length (items_of (get_or kids k e)) + length (joined (drop (k + 1) kids)))
joined-last kids k e l =
    ap length (joined-at kids k e l)
    ∙ length-append (joined (take k kids)) (items_of (get_or kids k e) ++ joined (drop (k + 1) kids))
    ∙ ap (λ n. length (joined (take k kids)) + n) (length-append (items_of (get_or kids k e)) (joined (drop (k + 1) kids)))

pub none-left : {T : Type 0} (kids : List (Shape T)) (n : ℕ) → length kids ≤ n → length (joined (drop n kids)) ≡ 0
none-left [] zero l = refl
none-left [] (suc n) l = refl
none-left (k ∷ ks) zero l = absurd (omega arith)
none-left (k ∷ ks) (suc n) l = none-left ks n (omega arith)

module _ {T : Type 0} (f : T → ℕ) (key h : ℕ) (kids : List (Shape T)) (k r i : ℕ) (e : Shape T) (kept : AreKids h kids) (at : EndsIn f kids key k) (ends : EndsBelow f (items_of (get_or kids k e)) key r) (place : i ≡ length (joined (take k kids)) + r) where
  long : length (joined kids) ≡ length (joined (take k kids)) + (length (items_of (get_or kids k e)) + length (joined (drop (k + 1) kids)))
  long = joined-last kids k e at.inside

  here-some : 0 < length (items_of (get_or kids k e))
  here-some = kid-some h k kids e kept at.inside

  no-first : (d : T) → 0 < k → r ≤ 0 → f (get_or (items_of (get_or kids k e)) 0 d) < f (get_or (items_of (get_or kids k e)) 0 d)
  no-first d l z =
      let none : r ≡ 0 = omega arith in
      let above : key ≤ f (get_or (items_of (get_or kids k e)) 0 d) = subst (λ n. key ≤ f (get_or (items_of (get_or kids k e)) n d)) none (ends.after d (omega (arith, here-some))) in
      omega (arith, above, at.here e l, first-at f (items_of (get_or kids k e)) d here-some)

  first-kid : (n : ℕ) → n ≤ 0 → length (joined (take n kids)) ≡ 0
  first-kid zero l = refl
  first-kid (suc n) l = absurd (omega arith)

  positive : (d : T) → 0 < i → 0 < r
  positive d l = ⊎_elim
      (λ (y : 0 < r). y)
      (λ (y : r ≤ 0). ⊎_elim
      (λ (z : 0 < k). absurd (omega (arith, no-first d z y)))
      (λ (z : k ≤ 0). absurd (omega (arith, first-kid k z)))
      (cases_lt 0 k))
      (cases_lt 0 r)

  before-in : (d : T) → 0 < i → f (get_or (joined kids) (i - 1) d) < key
  before-in d l =
      let p : 0 < r = positive d l in
      subst (λ x. f x < key) (sym (get-in kids k (i - 1) (r - 1) e d at.inside (omega arith) (omega (arith, ends.inside)))) (ends.before d p)

  next-some : i < length (joined kids) → length (items_of (get_or kids k e)) ≤ r → k + 1 < length kids
  next-some l full = ⊎_elim
      (λ (y : k + 1 < length kids). y)
      (λ (y : length kids ≤ k + 1). absurd (omega (arith, long, none-left kids (k + 1) y)))
      (cases_lt (k + 1) (length kids))

  after-in : (d : T) → i < length (joined kids) → key ≤ f (get_or (joined kids) i d)
  after-in d l = ⊎_elim
      (λ (y : r < length (items_of (get_or kids k e))).
      subst (λ x. key ≤ f x) (sym (get-in kids k i r e d at.inside place y)) (ends.after d y))
      (λ (y : length (items_of (get_or kids k e)) ≤ r).
      let n : k + 1 < length kids = next-some l y in
      let first : 0 < length (items_of (get_or kids (k + 1) e)) = kid-some h (k + 1) kids e kept n in
      let above : key ≤ f (get_or (items_of (get_or kids (k + 1) e)) 0 d) = omega (arith, at.next e n, first-at f (items_of (get_or kids (k + 1) e)) d first) in
      subst (λ x. key ≤ f x) (sym (get-in kids (k + 1) i 0 e d n (omega (arith, joined-more kids k e at.inside, ends.inside)) first)) above)
      (cases_lt r (length (items_of (get_or kids k e))))

  pub ends-in : EndsBelow f (joined kids) key i
  ends-in = record {
    inside = omega (arith, long, ends.inside);
    before = before-in;
    after = after-in;
  }

-- the elements of a fork's first children are no more than those of all
pub place-few : {T : Type 0} (kids : List (Shape T)) (k : ℕ) (kid : Shape T) → k < length kids → kid ≡ get_or kids k kid → length (joined (take k kids)) + length (items_of kid) ≤ length (joined kids)
place-few kids k kid l is = omega (arith, joined-last kids k kid l, ap (λ (s : Shape _). length (items_of s)) is)

-- those before a child are no more than all
pub front-few : {T : Type 0} (kids : List (Shape T)) (k : ℕ) → length (joined (take k kids)) ≤ length (joined kids)
front-few kids k = omega (arith, ap (λ t. length (joined t)) (sym (take-append-drop k kids)), ap length (flat_map-append items_of (take k kids) (drop k kids)), length-append (joined (take k kids)) (joined (drop k kids)))

-- the end of the last child is the end of the fork
pub at-end : {T : Type 0} (kids : List (Shape T)) (all : List T) (k : ℕ) (kid : Shape T) → joined kids ≡ all → k + 1 ≡ length kids → kid ≡ get_or kids k kid → IsAt kids (length all) k (length (items_of kid))
at-end kids all k kid e last is =
    let l : k < length kids = omega arith in
    let long : length all ≡ length (joined kids) = ap length (sym e) in
    let own : length (items_of kid) ≡ length (items_of (get_or kids k kid)) = ap (λ (s : Shape _). length (items_of s)) is in
    record {
      child = l;
      place = omega (arith, long, own, joined-last kids k kid l, none-left kids (k + 1) (omega arith));
      inside = λ d m. absurd (omega (arith, long, m));
      within = λ d m. let same : length (items_of kid) ≡ length (items_of (get_or kids k d)) = ap (λ (s : Shape _). length (items_of s)) (is ∙ get_or_default kids k kid d l) in omega (arith, same);
    }
