-- Beginnings of one history, and the entries that bear a number.
use Rattle.std.proofs.Common.{◌≡◌, ℕ, ◌≤◌, Bool, true, false, List, [], ◌∷◌, ◌++◌, length, refl, ap, sym, ◌∙◌, arith, append_assoc}
use Rattle.std.specs.Prelude.{◌==◌, cond, nat_le}
use Rattle.std.proofs.lemmas.Bool.Decides.{nat_tests}
use Rattle.std.proofs.lemmas.List.Elements.{filter-append}
use mathlib.Core.List.{IsPrefix}
use Rattle.dn_model.specs.declared.entry.Posted.{Posted}
use Rattle.version_lock.specs.History.{posted_by}
use Rattle.version_lock.specs.Rule.{longer}

-- each list begins with itself
pub prefix_self : {A : Type 0} (xs : List A) → IsPrefix xs xs
prefix_self [] = ([], refl)
prefix_self (x ∷ xs) = (let r = prefix_self xs in r.0, ap (λ ys. x ∷ ys) (prefix_self xs).1)

pub prefix_trans : {A : Type 0} (xs ys zs : List A) → IsPrefix xs ys → IsPrefix ys zs → IsPrefix xs zs
prefix_trans xs ys zs p q = (p.0 ++ q.0, sym (append_assoc xs p.0 q.0) ∙ (ap (λ w. w ++ q.0) p.1 ∙ q.1))

-- of two beginnings of one list the shorter begins the longer
pub prefix_shorter : {A : Type 0} (xs ys zs : List A) → IsPrefix xs zs → IsPrefix ys zs → length xs ≤ length ys → IsPrefix xs ys
prefix_shorter [] ys zs p q le = (ys, refl)
prefix_shorter (x ∷ xs) [] zs p q le = absurd (omega arith)
prefix_shorter (x ∷ xs) (y ∷ ys) [] p q le = absurd (cc (p.1))
prefix_shorter (x ∷ xs) (y ∷ ys) (z ∷ zs) p q le =
    let heads : x ≡ y = cc (p.1, q.1) in
    let rest = prefix_shorter xs ys zs (p.0, cc (p.1)) (q.0, cc (q.1)) (omega arith) in
    (rest.0, cc (heads, rest.1))

-- a list begins what is made of it by more
pub prefix_more : {A : Type 0} (xs ys : List A) → IsPrefix xs (xs ++ ys)
prefix_more xs ys = (ys, refl)

-- a number bears no entry of a beginning where it bears none of the whole
pub none_before : (n : ℕ) (xs ys : List Posted) → IsPrefix xs ys → posted_by n ys ≡ [] → posted_by n xs ≡ []
none_before n xs ys p none = front_none (posted_by n xs) (posted_by n p.0)
    (sym (filter-append (λ (e : Posted). e.seat == n) xs p.0) ∙ (ap (posted_by n) p.1 ∙ none))
  where
    front_none : (a b : List Posted) → a ++ b ≡ [] → a ≡ []
    front_none [] b e = refl
    front_none (x ∷ a) b e = absurd (cc)

tail_none : {A : Type 0} (a b : List A) → a ++ b ≡ a → b ≡ []
tail_none [] b e = e
tail_none (x ∷ a) b e = tail_none a b (cc)

-- between a beginning and the whole, a number that bears as many entries in both bears as many
pub same_between : (n : ℕ) (xs ys zs : List Posted) → IsPrefix xs ys → IsPrefix ys zs → posted_by n xs ≡ posted_by n zs → posted_by n ys ≡ posted_by n xs
same_between n xs ys zs p q same =
    let mid : posted_by n ys ≡ posted_by n xs ++ posted_by n p.0 = ap (posted_by n) (sym p.1) ∙ filter-append (λ (e : Posted). e.seat == n) xs p.0 in
    let all : posted_by n zs ≡ posted_by n ys ++ posted_by n q.0 = ap (posted_by n) (sym q.1) ∙ filter-append (λ (e : Posted). e.seat == n) ys q.0 in
    let whole : (posted_by n xs ++ posted_by n p.0) ++ posted_by n q.0 ≡ posted_by n xs = cc in
    let nothing : posted_by n p.0 ++ posted_by n q.0 ≡ [] = tail_none (posted_by n xs) (posted_by n p.0 ++ posted_by n q.0) (sym (append_assoc (posted_by n xs) (posted_by n p.0) (posted_by n q.0)) ∙ whole) in
    let first : posted_by n p.0 ≡ [] = none_of (posted_by n p.0) (posted_by n q.0) nothing in
    mid ∙ (ap (λ (w : List Posted). posted_by n xs ++ w) first ∙ append_none (posted_by n xs))
  where
    none_of : (a b : List Posted) → a ++ b ≡ [] → a ≡ []
    none_of [] b e = refl
    none_of (x ∷ a) b e = absurd (cc)

    append_none : (a : List Posted) → a ++ [] ≡ a
    append_none [] = refl
    append_none (x ∷ a) = ap (λ w. x ∷ w) (append_none a)

by_length : (b : Bool) (P : List Posted → Type 0) (xs ys : List Posted) → (b ≡ true → P ys) → (b ≡ false → P xs) → P (cond b ys xs)
by_length true P xs ys fits over = fits refl
by_length false P xs ys fits over = over refl

-- the longer of two lists is one of them
pub longer_is : (P : List Posted → Type 0) (xs ys : List Posted) → P xs → P ys → P (longer xs ys)
longer_is P xs ys p q = by_length (nat_le (length xs) (length ys)) P xs ys (λ _. q) (λ _. p)

-- of two beginnings of one list each begins the longer
pub longer_begins_left : (xs ys zs : List Posted) → IsPrefix xs zs → IsPrefix ys zs → IsPrefix xs (longer xs ys)
longer_begins_left xs ys zs p q = by_length (nat_le (length xs) (length ys)) (λ l. IsPrefix xs l) xs ys
    (λ le. prefix_shorter xs ys zs p q (grind (arith, nat_tests))) (λ _. prefix_self xs)

pub longer_begins_right : (xs ys zs : List Posted) → IsPrefix xs zs → IsPrefix ys zs → IsPrefix ys (longer xs ys)
longer_begins_right xs ys zs p q = by_length (nat_le (length xs) (length ys)) (λ l. IsPrefix ys l) xs ys
    (λ _. prefix_self ys) (λ lt. prefix_shorter ys xs zs q p (grind (arith, nat_tests)))
