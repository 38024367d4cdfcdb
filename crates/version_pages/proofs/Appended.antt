-- More elements at the end of a list.
use Rattle.std.proofs.Common.{◌≡◌, ℕ, ◌+◌, ◌-◌, ◌≤◌, List, [], ◌++◌, length, get_or, take, drop, set, ap, sym, ◌∙◌, arith, append_assoc, length-drop, take-add}
use Rattle.std.proofs.lemmas.List.{append-nil, nil_from_length, take_rest}
use Rattle.version_pages.specs.Shape.{Shape, items_of, joined}
use Rattle.version_pages.proofs.Ending.{none-left}
use Rattle.version_pages.proofs.Joined.{joined-at, joined-set}

-- what is put at the end of the last child is put at the end of the fork
pub append-last : {T : Type 0} (kids : List (Shape T)) (all more : List T) (k : ℕ) (kid x : Shape T) → joined kids ≡ all → kid ≡ get_or kids k kid → k + 1 ≡ length kids → items_of x ≡ items_of kid ++ more → joined (set kids k x) ≡ all ++ more
append-last kids all more k kid x e is last made =
    let none : joined (drop (k + 1) kids) ≡ [] = nil_from_length (joined (drop (k + 1) kids)) (none-left kids (k + 1) (omega arith)) in
    let whole : joined kids ≡ joined (take k kids) ++ items_of kid =
    joined-at kids k kid (omega arith)
    ∙ ap (λ t. joined (take k kids) ++ (items_of (get_or kids k kid) ++ t)) none
    ∙ ap (λ t. joined (take k kids) ++ t) (append-nil (items_of (get_or kids k kid)) ∙ ap items_of (sym is)) in
    joined-set kids k x (omega arith)
    ∙ ap (λ t. joined (take k kids) ++ (items_of x ++ t)) none
    ∙ ap (λ t. joined (take k kids) ++ t) (append-nil (items_of x) ∙ made)
    ∙ sym (append_assoc (joined (take k kids)) (items_of kid) more)
    ∙ ap (λ t. t ++ more) (sym whole ∙ e)

-- what is put at the end of a list in two goes is put there at once
pub append-more : {T : Type 0} (old now new items : List T) (at n : ℕ) → now ≡ old ++ take at items → new ≡ now ++ take n (take (length items - at) (drop at items)) → new ≡ old ++ take (at + n) items
append-more old now new items at n so made =
    made
    ∙ ap (λ t. now ++ take n t) (take_rest items at)
    ∙ ap (λ t. t ++ take n (drop at items)) so
    ∙ append_assoc old (take at items) (take n (drop at items))
    ∙ ap (λ t. old ++ t) (sym (take-add at n items))

-- and there are so many
pub more-within : {T : Type 0} (items : List T) (at n : ℕ) → at ≤ length items → n ≤ length (take (length items - at) (drop at items)) → at + n ≤ length items
more-within items at n l m = omega (arith, ap length (take_rest items at), length-drop at items)
