-- The lengths of a table's prefixes stay known.
use Rattle.std.proofs.Common.{◌≡◌, ℕ, zero, suc, Bool, true, List, [], ◌∷◌, get_or, set, refl, subst, ⊎_elim}
use Rattle.std.specs.List.{Contains, insert}
use Rattle.std.proofs.lemmas.List.Sorted.{Contains-permutation, IsPermutation-insert, IsPermutation-sym}
use Rattle.base.proofs.Elements.{contains-cases, contains-here, contains-there}
use Rattle.route_table.specs.Above.{HasLength}
use Rattle.route_table.specs.Slots.{PrefixRoutes}

-- a length that is marked stays so where another one is
marked-more : (lengths : List Bool) (n len : ℕ) → get_or lengths len true ≡ true → get_or (set lengths n true) len true ≡ true
marked-more [] n len h = h
marked-more (b ∷ lengths) zero zero h = refl
marked-more (b ∷ lengths) zero (suc len) h = h
marked-more (b ∷ lengths) (suc n) zero h = h
marked-more (b ∷ lengths) (suc n) (suc len) h = marked-more lengths n len h

marked-there : (lengths : List Bool) (n : ℕ) → get_or (set lengths n true) n true ≡ true
marked-there [] n = refl
marked-there (b ∷ lengths) zero = refl
marked-there (b ∷ lengths) (suc n) = marked-there lengths n

-- a slot in the place of another
pub kept-set : (xs : List PrefixRoutes) (i : ℕ) (v : PrefixRoutes) (lengths : List Bool) → HasLength xs lengths → get_or lengths v.prefix.len true ≡ true → HasLength (set xs i v) lengths
kept-set [] i v lengths h e s c = h s c
kept-set (x ∷ xs) zero v lengths h e s c = ⊎_elim
    (λ (same : v ≡ s). subst (λ (y : PrefixRoutes). get_or lengths y.prefix.len true ≡ true) same e)
    (λ (more : Contains xs s). h s (contains-there x s xs more))
    (contains-cases v s xs c)
kept-set (x ∷ xs) (suc i) v lengths h e s c = ⊎_elim
    (λ (same : x ≡ s). subst (λ (y : PrefixRoutes). get_or lengths y.prefix.len true ≡ true) same (h x (contains-here x xs)))
    (λ (more : Contains (set xs i v) s). kept-set xs i v lengths (λ y k. h y (contains-there x y xs k)) e s more)
    (contains-cases x s (set xs i v) c)

-- one more slot, whose length is marked
pub kept-insert : (xs : List PrefixRoutes) (i : ℕ) (v : PrefixRoutes) (lengths : List Bool) → HasLength xs lengths → HasLength (insert xs i v) (set lengths v.prefix.len true)
kept-insert xs i v lengths h s c = ⊎_elim
    (λ (same : v ≡ s). subst (λ (y : PrefixRoutes). get_or (set lengths v.prefix.len true) y.prefix.len true ≡ true) same (marked-there lengths v.prefix.len))
    (λ (more : Contains xs s). marked-more lengths v.prefix.len s.prefix.len (h s more))
    (contains-cases v s xs (Contains-permutation (insert xs i v) (v ∷ xs) s (IsPermutation-sym (v ∷ xs) (insert xs i v) (IsPermutation-insert xs i v)) c))
