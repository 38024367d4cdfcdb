-- A tree in parts, and trees one behind another.
use Rattle.std.proofs.Common.{◌≡◌, IfOk, ℕ, ◌+◌, ◌<◌, ◌≤◌, List, [], ◌∷◌, ◌++◌, length, get_or, take, drop, ap, sym, ◌∙◌, arith, append_assoc, length-append}
use Rattle.std.proofs.Math.Seq.{take-append-add, drop-append-add}
use Rattle.std.proofs.lemmas.List.{append-nil, drop-append-le, drop_at, nil_from_length, take-append-drop, take-append-le, take_at}
use Rattle.std.proofs.lemmas.List.Concat.{flat_map-append}
use Rattle.std.specs.declared.result.Result.{Result}
use Rattle.std.specs.declared.result.Result.TheVariants.{Ok, Err}
use Rattle.version_pages.specs.Shape.{Shape, items_of, joined}
use Rattle.version_pages.proofs.Ending.{none-left}
use Rattle.version_pages.proofs.Joined.{joined-at}

-- the elements of one tree, of two, and of three rows
pub joined-one : {T : Type 0} (x : Shape T) → joined (x ∷ []) ≡ items_of x
joined-one x = append-nil (items_of x)

pub joined-two : {T : Type 0} (x y : Shape T) → joined (x ∷ (y ∷ [])) ≡ items_of x ++ items_of y
joined-two x y = ap (λ t. items_of x ++ t) (append-nil (items_of y))

pub joined-three : {T : Type 0} (a b c : List (Shape T)) → joined (a ++ b ++ c) ≡ joined a ++ joined b ++ joined c
joined-three a b c = flat_map-append items_of (a ++ b) c ∙ ap (λ t. t ++ joined c) (flat_map-append items_of a b)

pub joined-single : {T : Type 0} (row : List (Shape T)) (x : Shape T) → length row ≡ 1 → x ≡ get_or row 0 x → items_of x ≡ joined row
joined-single [] x l is = absurd (omega arith)
joined-single (y ∷ []) x l is = ap items_of is ∙ sym (joined-one y)
joined-single (y ∷ (z ∷ zs)) x l is = absurd (omega arith)

-- the first trees of a row, and the others
pub joined-parts : {T : Type 0} (row : List (Shape T)) (n : ℕ) → joined (take n row) ++ joined (drop n row) ≡ joined row
joined-parts row n = sym (flat_map-append items_of (take n row) (drop n row)) ∙ ap joined (take-append-drop n row)

pub rest-few : {T : Type 0} (row : List (Shape T)) (n : ℕ) → length (joined (drop n row)) ≤ length (joined row)
rest-few row n = omega (arith, ap length (joined-parts row n), length-append (joined (take n row)) (joined (drop n row)))

-- the last tree of a row behind the others
pub joined-end : {T : Type 0} (kids : List (Shape T)) (k : ℕ) (kid : Shape T) → k + 1 ≡ length kids → kid ≡ get_or kids k kid → joined kids ≡ joined (take k kids) ++ items_of kid
joined-end kids k kid last is =
    let none : joined (drop (k + 1) kids) ≡ [] = nil_from_length (joined (drop (k + 1) kids)) (none-left kids (k + 1) (omega arith)) in
    joined-at kids k kid (omega arith)
    ∙ ap (λ t. joined (take k kids) ++ (items_of (get_or kids k kid) ++ t)) none
    ∙ ap (λ t. joined (take k kids) ++ t) (append-nil (items_of (get_or kids k kid)) ∙ ap items_of (sym is))

-- the first tree of a row before the others
pub joined-first : {T : Type 0} (kids : List (Shape T)) (kid : Shape T) → 0 < length kids → kid ≡ get_or kids 0 kid → items_of kid ++ joined (drop 1 kids) ≡ joined kids
joined-first [] kid l is = absurd (omega arith)
joined-first (x ∷ xs) kid l is = ap (λ s. items_of s ++ joined xs) is

-- a row that ends in a seam is its tree with another behind it
pub appended-in : {T : Type 0} (kids seam rest row : List (Shape T)) (k : ℕ) (kid next : Shape T) (all more : List T) → joined kids ≡ all → k + 1 ≡ length kids → kid ≡ get_or kids k kid → joined seam ≡ items_of kid ++ items_of next → items_of next ++ joined rest ≡ more → joined row ≡ joined (take k kids) ++ joined seam ++ joined rest → joined row ≡ all ++ more
appended-in kids seam rest row k kid next all more e last is seam_is opened made =
    made
    ∙ ap (λ t. joined (take k kids) ++ t ++ joined rest) seam_is
    ∙ ap (λ t. t ++ joined rest) (sym (append_assoc (joined (take k kids)) (items_of kid) (items_of next)))
    ∙ append_assoc (joined (take k kids) ++ items_of kid) (items_of next) (joined rest)
    ∙ ap (λ t. (joined (take k kids) ++ items_of kid) ++ t) opened
    ∙ ap (λ t. t ++ more) (sym (joined-end kids k kid last is) ∙ e)

-- and a row that begins with one has another before it
pub prepended-in : {T : Type 0} (kids seam row : List (Shape T)) (kid : Shape T) (all before : List T) → joined kids ≡ all → 0 < length kids → kid ≡ get_or kids 0 kid → joined seam ≡ before ++ items_of kid → joined row ≡ [] ++ joined seam ++ joined (drop 1 kids) → joined row ≡ before ++ all
prepended-in kids seam row kid all before e some is seam_is made =
    made
    ∙ ap (λ t. t ++ joined (drop 1 kids)) seam_is
    ∙ append_assoc before (items_of kid) (joined (drop 1 kids))
    ∙ ap (λ t. before ++ t) (joined-first kids kid some is ∙ e)

module _ {T : Type 0} (kids : List (Shape T)) (all : List T) (i k : ℕ) (e : joined kids ≡ all) where
  -- what stands before a child, and what from it on
  pub front-at : i ≡ length (joined (take k kids)) + 0 → joined (take k kids) ≡ take i all
  front-at place = sym (ap (take i) (sym e ∙ sym (joined-parts kids k)) ∙ take_at (joined (take k kids)) (joined (drop k kids)) i (omega (arith, place)))

  pub back-at : i ≡ length (joined (take k kids)) + 0 → joined (drop k kids) ≡ drop i all
  back-at place = sym (ap (drop i) (sym e ∙ sym (joined-parts kids k)) ∙ drop_at (joined (take k kids)) (joined (drop k kids)) i (omega (arith, place)))

  module _ (j : ℕ) (kid : Shape T) (child : k < length kids) (is : kid ≡ get_or kids k kid) (place : i ≡ length (joined (take k kids)) + j) (l : j ≤ length (items_of kid)) where
    whole : all ≡ joined (take k kids) ++ (items_of kid ++ joined (drop (k + 1) kids))
    whole = sym e ∙ joined-at kids k kid child ∙ ap (λ s. joined (take k kids) ++ (items_of s ++ joined (drop (k + 1) kids))) (sym is)

    -- what stands before a place of a child, and what from it on
    pub front-in : joined (take k kids) ++ take j (items_of kid) ≡ take i all
    front-in = sym (ap (take i) whole ∙ ap (λ p. take p (joined (take k kids) ++ (items_of kid ++ joined (drop (k + 1) kids)))) place ∙ take-append-add (joined (take k kids)) (items_of kid ++ joined (drop (k + 1) kids)) j ∙ ap (λ t. joined (take k kids) ++ t) (take-append-le j (items_of kid) (joined (drop (k + 1) kids)) l))

    pub back-in : drop j (items_of kid) ++ joined (drop (k + 1) kids) ≡ drop i all
    back-in = sym (ap (drop i) whole ∙ ap (λ p. drop p (joined (take k kids) ++ (items_of kid ++ joined (drop (k + 1) kids)))) place ∙ drop-append-add (joined (take k kids)) (items_of kid ++ joined (drop (k + 1) kids)) j ∙ drop-append-le j (items_of kid) (joined (drop (k + 1) kids)) l)

    -- of the first child, and of the last
    pub front-first : k ≡ 0 → take j (items_of kid) ≡ take i all
    front-first z = ap (λ n. joined (take n kids) ++ take j (items_of kid)) (sym z) ∙ front-in

    pub back-last : k + 1 ≡ length kids → drop j (items_of kid) ≡ drop i all
    back-last last =
        let none : joined (drop (k + 1) kids) ≡ [] = nil_from_length (joined (drop (k + 1) kids)) (none-left kids (k + 1) (omega arith)) in
        sym (append-nil (drop j (items_of kid))) ∙ ap (λ t. drop j (items_of kid) ++ t) (sym none) ∙ back-in

-- what follows of the value of a call that succeeded
pub ok-map : {X E : Type 0} (res : Result X E) (P Q : X → Type 0) → IfOk res P → ((x : X) → P x → Q x) → IfOk res Q
ok-map (Ok x) P Q h f = f x h
ok-map (Err e) P Q h f = tt
