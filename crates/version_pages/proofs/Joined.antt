-- Trees, one after another: one of them put first, edited, parted or left out.
use Rattle.std.proofs.Common.{◌≡◌, ℕ, suc, ◌+◌, ◌-◌, ◌<◌, ◌≤◌, List, ◌∷◌, ◌++◌, length, get_or, set, take, drop, refl, ap, sym, ◌∙◌, arith, add-one}
use Rattle.std.specs.List.{insert, remove}
use Rattle.std.proofs.lemmas.List.{set-append_left, set-append_right, set_split, get_or_append_left, get_or-append_right, take-append-drop, drop_more}
use Rattle.std.proofs.lemmas.List.Edits.{length-insert, insert-append_left, insert-append_right, remove-append_left, remove-append_right}
use Rattle.std.proofs.lemmas.List.Concat.{flat_map-append}
use Rattle.version_pages.specs.Shape.{Shape, items_of, joined}

-- what goes before a tree, the tree, and what follows it
pub joined-at : {T : Type 0} (kids : List (Shape T)) (k : ℕ) (d : Shape T) → k < length kids → joined kids ≡ joined (take k kids) ++ (items_of (get_or kids k d) ++ joined (drop (k + 1) kids))
joined-at kids k d l = ap joined (sym (take-append-drop k kids)) ∙ flat_map-append items_of (take k kids) (drop k kids) ∙ ap (λ t. joined (take k kids) ++ joined t) (drop_more kids k d l)

-- one tree put in the place of another
pub joined-set : {T : Type 0} (kids : List (Shape T)) (k : ℕ) (x : Shape T) → k < length kids → joined (set kids k x) ≡ joined (take k kids) ++ (items_of x ++ joined (drop (k + 1) kids))
joined-set kids k x l =
    ap joined (set_split kids k x l)
    ∙ flat_map-append items_of (take k kids) (x ∷ drop (suc k) kids)
    ∙ ap (λ n. joined (take k kids) ++ (items_of x ++ joined (drop n kids))) (sym (add-one k))

pub middle-set : {X : Type 0} (a b c : List X) (i j : ℕ) (v : X) → i ≡ length a + j → j < length b → set (a ++ (b ++ c)) i v ≡ a ++ (set b j v ++ c)
middle-set a b c i j v e l =
    let n : i - length a ≡ j = omega arith in
    set-append_right a (b ++ c) (length a) i v refl (omega arith) ∙ ap (λ n. a ++ set (b ++ c) n v) n ∙ ap (λ t. a ++ t) (set-append_left b c j v l)

pub middle-insert : {X : Type 0} (a b c : List X) (i j : ℕ) (v : X) → i ≡ length a + j → j ≤ length b → insert (a ++ (b ++ c)) i v ≡ a ++ (insert b j v ++ c)
middle-insert a b c i j v e l =
    let n : i - length a ≡ j = omega arith in
    insert-append_right a (b ++ c) (length a) i v refl (omega arith) ∙ ap (λ n. a ++ insert (b ++ c) n v) n ∙ ap (λ t. a ++ t) (insert-append_left b c j v l)

pub middle-remove : {X : Type 0} (a b c : List X) (i j : ℕ) → i ≡ length a + j → j < length b → remove (a ++ (b ++ c)) i ≡ a ++ (remove b j ++ c)
middle-remove a b c i j e l =
    let n : i - length a ≡ j = omega arith in
    remove-append_right a (b ++ c) (length a) i refl (omega arith) ∙ ap (λ n. a ++ remove (b ++ c) n) n ∙ ap (λ t. a ++ t) (remove-append_left b c j l)

pub middle-get : {X : Type 0} (a b c : List X) (i j : ℕ) (d : X) → i ≡ length a + j → j < length b → get_or (a ++ (b ++ c)) i d ≡ get_or b j d
middle-get a b c i j d e l =
    let n : i - length a ≡ j = omega arith in
    get_or-append_right a (b ++ c) (length a) i d refl (omega arith) ∙ ap (λ n. get_or (b ++ c) n d) n ∙ get_or_append_left b c d j l

-- one element of one tree
pub get-in : {T : Type 0} (kids : List (Shape T)) (k i j : ℕ) (e : Shape T) (d : T) → k < length kids → i ≡ length (joined (take k kids)) + j → j < length (items_of (get_or kids k e)) → get_or (joined kids) i d ≡ get_or (items_of (get_or kids k e)) j d
get-in kids k i j e d l is in' = ap (λ t. get_or t i d) (joined-at kids k e l) ∙ middle-get _ _ _ i j d is in'

pub set-in : {T : Type 0} (kids : List (Shape T)) (k i j : ℕ) (e x : Shape T) (v : T) → k < length kids → i ≡ length (joined (take k kids)) + j → j < length (items_of (get_or kids k e)) → items_of x ≡ set (items_of (get_or kids k e)) j v → joined (set kids k x) ≡ set (joined kids) i v
set-in kids k i j e x v l is in' made =
    joined-set kids k x l
    ∙ ap (λ t. joined (take k kids) ++ (t ++ joined (drop (k + 1) kids))) made
    ∙ sym (ap (λ t. set t i v) (joined-at kids k e l) ∙ middle-set _ _ _ i j v is in')

pub insert-in : {T : Type 0} (kids : List (Shape T)) (k i j : ℕ) (e x : Shape T) (v : T) → k < length kids → i ≡ length (joined (take k kids)) + j → j ≤ length (items_of (get_or kids k e)) → items_of x ≡ insert (items_of (get_or kids k e)) j v → joined (set kids k x) ≡ insert (joined kids) i v
insert-in kids k i j e x v l is in' made =
    joined-set kids k x l
    ∙ ap (λ t. joined (take k kids) ++ (t ++ joined (drop (k + 1) kids))) made
    ∙ sym (ap (λ t. insert t i v) (joined-at kids k e l) ∙ middle-insert _ _ _ i j v is in')

pub remove-in : {T : Type 0} (kids : List (Shape T)) (k i j : ℕ) (e x : Shape T) → k < length kids → i ≡ length (joined (take k kids)) + j → j < length (items_of (get_or kids k e)) → items_of x ≡ remove (items_of (get_or kids k e)) j → joined (set kids k x) ≡ remove (joined kids) i
remove-in kids k i j e x l is in' made =
    joined-set kids k x l
    ∙ ap (λ t. joined (take k kids) ++ (t ++ joined (drop (k + 1) kids))) made
    ∙ sym (ap (λ t. remove t i) (joined-at kids k e l) ∙ middle-remove _ _ _ i j is in')

pub same-in : {T : Type 0} (kids : List (Shape T)) (k : ℕ) (e x : Shape T) → k < length kids → items_of x ≡ items_of (get_or kids k e) → joined (set kids k x) ≡ joined kids
same-in kids k e x l made = joined-set kids k x l ∙ ap (λ t. joined (take k kids) ++ (t ++ joined (drop (k + 1) kids))) made ∙ sym (joined-at kids k e l)

pub middle-two : {X : Type 0} (a b c : List X) (i j : ℕ) (u v : X) → i ≡ length a + j → j < length b → set (insert (a ++ (b ++ c)) (i + 1) v) i u ≡ a ++ (set (insert b (j + 1) v) j u ++ c)
middle-two a b c i j u v e l =
    ap (λ t. set t i u) (middle-insert a b c (i + 1) (j + 1) v (omega arith) (omega arith))
    ∙ middle-set a (insert b (j + 1) v) c i j u e (omega (arith, length-insert b (j + 1) v (omega arith)))

pub two-in : {T : Type 0} (kids : List (Shape T)) (k i j : ℕ) (e x : Shape T) (u v : T) → k < length kids → i ≡ length (joined (take k kids)) + j → j < length (items_of (get_or kids k e)) → items_of x ≡ set (insert (items_of (get_or kids k e)) (j + 1) v) j u → joined (set kids k x) ≡ set (insert (joined kids) (i + 1) v) i u
two-in kids k i j e x u v l is in' made =
    joined-set kids k x l
    ∙ ap (λ t. joined (take k kids) ++ (t ++ joined (drop (k + 1) kids))) made
    ∙ sym (ap (λ t. set (insert t (i + 1) v) i u) (joined-at kids k e l) ∙ middle-two _ _ _ i j u v is in')
