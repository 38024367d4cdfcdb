-- Elements that pass a test.
use Rattle.std.proofs.Common.{◌≡◌, Bool, true, false, List, [], ◌∷◌, subst, ⊎_elim}
use Rattle.std.specs.List.{Contains, list_any}
use Rattle.std.proofs.lemmas.Bool.{or_cases, or_parts, false≢true}
use Rattle.base.proofs.Elements.{contains-here, contains-there, contains-cases, contains-none}

-- an element that passes
pub any-some : {X : Type 0} (p : X → Bool) (xs : List X) → list_any p xs ≡ true → (x : X) × Contains xs x × (p x ≡ true)
any-some p [] h = absurd (false≢true h)
any-some p (x ∷ xs) h = ⊎_elim
    (λ (e : p x ≡ true). (x, contains-here x xs, e))
    (λ (r : list_any p xs ≡ true). let s = any-some p xs r in (s.0, contains-there x s.0 xs s.1, s.2))
    (or_cases (p x) (list_any p xs) h)

-- where none passes, no element does
pub any-none : {X : Type 0} (p : X → Bool) (x : X) (xs : List X) → list_any p xs ≡ false → Contains xs x → p x ≡ false
any-none p x [] h i = absurd (contains-none x i)
any-none {X} p x (y ∷ ys) h i =
    let parts : (p y ≡ false) × (list_any p ys ≡ false) = or_parts (p y) (list_any p ys) h in
    ⊎_elim
    (λ (e : y ≡ x). let P : X → Type 0 = λ v. p v ≡ false in subst P e parts.0)
    (λ (j : Contains ys x). any-none p x ys parts.1 j)
    (contains-cases y x ys i)
