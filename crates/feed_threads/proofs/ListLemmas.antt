-- Lists of which one element is another, and lists that go along with each other.
use Rattle.std.proofs.Common.{◌≡◌, ℕ, ◌+◌, ◌<◌, ◌==◌, false, List, [], ◌∷◌, ◌++◌, ◌∙◌, get_or, length, map, take, All, refl, ap, arith}
use Rattle.std.proofs.lemmas.Bool.Decides.{nat_tests}
use Rattle.std.specs.List.{AllZip}
use Rattle.std.proofs.lemmas.List.{get_or_default, take_more}
use Rattle.std.proofs.lemmas.List.Elements.{All-append, All-nil, All-cons, All-head, All-tail}

pub record Parts {X : Type 0} (P : X → Type 0) (front : List X) (mid : X) (back : List X) : Type 0 where
  pub front_all : All P front
  pub mid_is : P mid
  pub back_all : All P back

pub all-parts : {X : Type 0} (P : X → Type 0) (front : List X) (mid : X) (back : List X) → All P (front ++ mid ∷ back) → Parts P front mid back
all-parts P [] mid back a = record { front_all = All-nil P; mid_is = All-head P mid back a; back_all = All-tail P mid back a }
all-parts P (x ∷ front) mid back a =
    let rest : Parts P front mid back = all-parts P front mid back (All-tail P x (front ++ mid ∷ back) a) in
    record { front_all = All-cons P x front (All-head P x (front ++ mid ∷ back) a) rest.front_all; mid_is = rest.mid_is; back_all = rest.back_all }

pub all-joined : {X : Type 0} (P : X → Type 0) (front : List X) (mid : X) (back : List X) → All P front → P mid → All P back → All P (front ++ mid ∷ back)
all-joined P front mid back a m b = All-append P front (mid ∷ back) a (All-cons P mid back m b)

-- what holds of what is made of each thing
pub All-unmap : {X Y : Type 0} (P : Y → Type 0) (f : X → Y) (xs : List X) → All P (map f xs) → All (λ x. P (f x)) xs
All-unmap P f [] a = All-nil (λ x. P (f x))
All-unmap P f (x ∷ xs) a = All-cons (λ x. P (f x)) x xs (All-head P (f x) (map f xs) a) (All-unmap P f xs (All-tail P (f x) (map f xs) a))

pub eqb-back : (m n : ℕ) → (m == n) ≡ false → (n == m) ≡ false
eqb-back m n e = grind (arith, nat_tests, e)

-- what holds of each of some things holds of what goes with them
pub all-through : {X Y : Type 0} (R : X → Y → Type 0) (P : X → Type 0) (Q : Y → Type 0) (xs : List X) (ys : List Y) →
    ((x : X) (y : Y) → R x y → P x → Q y) → AllZip R xs ys → All P xs → All Q ys
all-through R P Q [] [] step zip a = All-nil Q
all-through R P Q [] (y ∷ ys) step zip a = absurd zip
all-through R P Q (x ∷ xs) [] step zip a = absurd zip
all-through R P Q (x ∷ xs) (y ∷ ys) step zip a =
    All-cons Q y ys (step x y zip.0 (All-head P x xs a)) (all-through R P Q xs ys step zip.1 (All-tail P x xs a))

-- the parts that go with a front, an element and a back
pub record ZipParts {X Y : Type 0} (R : X → Y → Type 0) (front : List X) (mid : X) (back : List X) (ys : List Y) : Type 0 where
  pub front_ys : List Y
  pub y : Y
  pub back_ys : List Y
  pub whole : ys ≡ front_ys ++ y ∷ back_ys
  pub front_zip : AllZip R front front_ys
  pub mid_zip : R mid y
  pub back_zip : AllZip R back back_ys

pub zip-parts : {X Y : Type 0} (R : X → Y → Type 0) (front : List X) (mid : X) (back : List X) (ys : List Y) → AllZip R (front ++ mid ∷ back) ys → ZipParts R front mid back ys
zip-parts R [] mid back [] zip = absurd zip
zip-parts R [] mid back (y ∷ ys) zip = record { front_ys = []; y = y; back_ys = ys; whole = refl; front_zip = tt; mid_zip = zip.0; back_zip = zip.1 }
zip-parts R (x ∷ front) mid back [] zip = absurd zip
zip-parts R (x ∷ front) mid back (y ∷ ys) zip =
    let rest : ZipParts R front mid back ys = zip-parts R front mid back ys zip.1 in
    record {
      front_ys = y ∷ rest.front_ys;
      y = rest.y;
      back_ys = rest.back_ys;
      whole = ap (λ zs. y ∷ zs) rest.whole;
      front_zip = (zip.0, rest.front_zip);
      mid_zip = rest.mid_zip;
      back_zip = rest.back_zip;
    }

-- one more of a list of pairs, whose parts were looked up one by one
pub take-pair : {X Y : Type 0} (xs : List (X × Y)) (i : ℕ) (d e : X × Y) → i < length xs →
    take (i + 1) xs ≡ take i xs ++ ((get_or xs i d).0, (get_or xs i e).1) ∷ []
take-pair {X = X} {Y = Y} xs i d e less =
    take_more xs i d less ∙ ap (λ (u : X × Y). take i xs ++ ((get_or xs i d).0, u.1) ∷ []) (get_or_default xs i d e less)
