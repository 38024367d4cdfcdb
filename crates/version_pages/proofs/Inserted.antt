-- Elements at a place of a list: more of them, or others in the place of some.
use Rattle.std.proofs.Common.{◌≡◌, ℕ, zero, suc, ◌+◌, ◌-◌, ◌<◌, ◌≤◌, List, [], ◌∷◌, ◌++◌, length, get_or, set, take, drop, ap, sym, ◌∙◌, arith, append_assoc, length-append, length-drop, take-add}
use Rattle.std.proofs.Math.Seq.{take-append-add, drop-append-add}
use Rattle.std.proofs.lemmas.List.{length-take-le, take-append-le, drop-append-le, drop_at, take_at, take_rest}
use Rattle.version_pages.specs.Keys.{first_key}
use Rattle.version_pages.specs.Shape.{Shape, items_of, joined, IsAt}
use Rattle.version_pages.proofs.Joined.{joined-at, joined-set}

-- what stands in the place of some elements of the middle one of three lists
pub middle-put : {X : Type 0} (a b c v : List X) (i j m n : ℕ) → i ≡ length a + m → j ≡ length a + n → m ≤ length b → n ≤ length b → take i (a ++ (b ++ c)) ++ v ++ drop j (a ++ (b ++ c)) ≡ a ++ ((take m b ++ v ++ drop n b) ++ c)
middle-put a b c v i j m n e f l o =
    let first : take i (a ++ (b ++ c)) ≡ a ++ take m b = ap (λ p. take p (a ++ (b ++ c))) e ∙ take-append-add a (b ++ c) m ∙ ap (λ t. a ++ t) (take-append-le m b c l) in
    let last : drop j (a ++ (b ++ c)) ≡ drop n b ++ c = ap (λ p. drop p (a ++ (b ++ c))) f ∙ drop-append-add a (b ++ c) n ∙ drop-append-le n b c o in
    ap (λ t. t ++ v ++ drop j (a ++ (b ++ c))) first ∙ ap (λ t. (a ++ take m b) ++ v ++ t) last ∙ simp append_assoc

-- what is left of them from a place on
middle-run : {X : Type 0} (a b c : List X) (i m n : ℕ) → i ≡ length a + m → m + n ≤ length b → take n (drop i (a ++ (b ++ c))) ≡ take n (drop m b)
middle-run a b c i m n e l =
    ap (λ p. take n (drop p (a ++ (b ++ c)))) e
    ∙ ap (take n) (drop-append-add a (b ++ c) m ∙ drop-append-le m b c (omega arith))
    ∙ take-append-le n (drop m b) c (omega (arith, length-drop m b))

module _ {T : Type 0} (kids : List (Shape T)) (all : List T) (i k j : ℕ) (kid : Shape T) (e : joined kids ≡ all) (child : k < length kids) (is : kid ≡ get_or kids k kid) (place : i ≡ length (joined (take k kids)) + j) where
  whole : all ≡ joined (take k kids) ++ (items_of kid ++ joined (drop (k + 1) kids))
  whole = sym e ∙ joined-at kids k kid child ∙ ap (λ s. joined (take k kids) ++ (items_of s ++ joined (drop (k + 1) kids))) (sym is)

  -- what stands in the place of some elements of a child stands in that of those of the fork
  pub put-in : (v : List T) (m n : ℕ) (x : Shape T) → m ≡ length (joined (take k kids)) + n → j ≤ length (items_of kid) → n ≤ length (items_of kid) → items_of x ≡ take j (items_of kid) ++ v ++ drop n (items_of kid) → joined (set kids k x) ≡ take i all ++ v ++ drop m all
  put-in v m n x past l o made =
      joined-set kids k x child
      ∙ ap (λ t. joined (take k kids) ++ (t ++ joined (drop (k + 1) kids))) made
      ∙ sym (middle-put (joined (take k kids)) (items_of kid) (joined (drop (k + 1) kids)) v i m j n place past l o)
      ∙ ap (λ t. take i t ++ v ++ drop m t) (sym whole)

  -- and these are the same
  pub run-in : (n : ℕ) → j + n ≤ length (items_of kid) → take n (drop j (items_of kid)) ≡ take n (drop i all)
  run-in n l = sym (middle-run (joined (take k kids)) (items_of kid) (joined (drop (k + 1) kids)) i j n place l) ∙ ap (λ t. take n (drop i t)) (sym whole)

-- the place is one of the child's, or its end
pub place-in : {T : Type 0} (kids : List (Shape T)) (all : List T) (i k j : ℕ) (kid : Shape T) → joined kids ≡ all → IsAt kids i k j → kid ≡ get_or kids k kid → i ≤ length all → j ≤ length (items_of kid)
place-in kids all i k j kid e at is l = rw is (at.within kid (rw e l))

-- so many elements are there then
pub length-put : {X : Type 0} (old items new : List X) (i n : ℕ) → i ≤ length old → n ≤ length items → new ≡ take i old ++ take n items ++ drop i old → length new ≡ length old + n
length-put old items new i n l m made =
    omega (arith, ap length made, length-append (take i old ++ take n items) (drop i old), length-append (take i old) (take n items), length-take-le i old l, length-take-le n items m, length-drop i old)

-- what was noted of the first element holds on where all that changed stands behind it
pub put-key : {T : Type 0} (f : T → ℕ) (old new v w : List T) (i key : ℕ) → key ≡ first_key f old → i ≤ length old → new ≡ take i old ++ v ++ w → 0 < i → key ≡ first_key f new
put-key f old new v w zero key noted l made p = absurd (omega arith)
put-key f [] new v w (suc i) key noted l made p = absurd (omega arith)
put-key f (x ∷ xs) new v w (suc i) key noted l made p = noted ∙ sym (ap (first_key f) made)

-- what goes in in two goes in at once
pub put-more : {X : Type 0} (old now new items : List X) (i at n place : ℕ) → i ≤ length old → at ≤ length items → now ≡ take i old ++ take at items ++ drop i old → place ≡ i + at → new ≡ take place now ++ take n (take (length items - at) (drop at items)) ++ drop place now → new ≡ take i old ++ take (at + n) items ++ drop i old
put-more old now new items i at n place l m so is made =
    let long : length (take i old ++ take at items) ≡ place = omega (arith, length-append (take i old) (take at items), length-take-le i old l, length-take-le at items m, is) in
    let before : take place now ≡ take i old ++ take at items = ap (take place) so ∙ take_at (take i old ++ take at items) (drop i old) place long in
    let after : drop place now ≡ drop i old = ap (drop place) so ∙ drop_at (take i old ++ take at items) (drop i old) place long in
    made
    ∙ ap (λ t. take place now ++ take n t ++ drop place now) (take_rest items at)
    ∙ ap (λ t. t ++ take n (drop at items) ++ drop place now) before
    ∙ ap (λ t. (take i old ++ take at items) ++ take n (drop at items) ++ t) after
    ∙ ap (λ t. t ++ drop i old) (append_assoc (take i old) (take at items) (take n (drop at items)) ∙ ap (λ t. take i old ++ t) (sym (take-add at n items)))
