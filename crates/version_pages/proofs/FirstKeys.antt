-- The key of a list's first element, and what leaves it as it is.
use Rattle.std.proofs.Common.{◌≡◌, ℕ, zero, suc, ◌+◌, ◌<◌, List, [], ◌∷◌, ◌++◌, length, get_or, set, refl, ap, sym, ◌∙◌, arith}
use Rattle.std.specs.List.{insert}
use Rattle.version_pages.specs.declared.growth.Growth.{Growth}
use Rattle.version_pages.specs.declared.growth.Growth.TheVariants.{Before, Parts}
use Rattle.version_pages.specs.Growth.{grown, CanGrow}
use Rattle.version_pages.specs.Keys.{first_key}
use Rattle.version_pages.specs.Shape.{Shape, items_of, joined}

pub first-at : {T : Type 0} (f : T → ℕ) (xs : List T) (d : T) → 0 < length xs → first_key f xs ≡ f (get_or xs 0 d)
first-at f [] d l = absurd (omega arith)
first-at f (x ∷ xs) d l = refl

pub first-append : {T : Type 0} (f : T → ℕ) (xs ys : List T) → 0 < length xs → first_key f (xs ++ ys) ≡ first_key f xs
first-append f [] ys l = absurd (omega arith)
first-append f (x ∷ xs) ys l = refl

-- that of a fork is that of its first child
pub first-joined : {T : Type 0} (f : T → ℕ) (kids : List (Shape T)) (e : Shape T) → 0 < length kids → 0 < length (items_of (get_or kids 0 e)) → first_key f (joined kids) ≡ first_key f (items_of (get_or kids 0 e))
first-joined f [] e l m = absurd (omega arith)
first-joined f (k ∷ ks) e l m = first-append f (items_of k) (joined ks) m

-- growth at another place
first-two : {T : Type 0} (f : T → ℕ) (xs : List T) (n i : ℕ) (u v : T) → 0 < n → 0 < i → 0 < length xs → first_key f (set (insert xs n v) i u) ≡ first_key f xs
first-two f [] n i u v l m s = absurd (omega arith)
first-two f (x ∷ xs) zero i u v l m s = absurd (omega arith)
first-two f (x ∷ xs) (suc n) zero u v l m s = absurd (omega arith)
first-two f (x ∷ xs) (suc n) (suc i) u v l m s = refl

pub first-grown : {T : Type 0} (f : T → ℕ) (growth : Growth T) (xs : List T) (i : ℕ) → CanGrow growth xs i → 0 < i → first_key f (grown growth xs i) ≡ first_key f xs
first-grown f (Before v) [] i c l = absurd (omega arith)
first-grown f (Before v) (x ∷ xs) zero c l = absurd (omega arith)
first-grown f (Before v) (x ∷ xs) (suc i) c l = refl
first-grown f (Parts u v) xs i c l = first-two f xs (i + 1) i u v (omega arith) l (omega arith)

-- what was noted of the first element holds on after the list grew behind it
pub grown-key : {T : Type 0} (f : T → ℕ) (growth : Growth T) (old new : List T) (i key : ℕ) → key ≡ first_key f old → CanGrow growth old i → new ≡ grown growth old i → 0 < i → key ≡ first_key f new
grown-key f growth old new i key noted can made l = noted ∙ sym (first-grown f growth old i can l) ∙ ap (first_key f) (sym made)
