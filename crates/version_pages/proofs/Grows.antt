-- A fork that grows by what one of its children grows.
use Rattle.std.proofs.Common.{◌≡◌, ℕ, ◌+◌, ◌-◌, ◌<◌, ◌≤◌, List, ◌++◌, length, get_or, set, take, drop, length-append, ap, sym, subst, ◌∙◌, arith}
use Rattle.std.specs.List.{All, insert}
use Rattle.std.proofs.lemmas.List.{length-set}
use Rattle.std.proofs.lemmas.List.Edits.{length-insert}
use Rattle.std.proofs.lemmas.List.Elements.{All-set, All-get_or}
use Rattle.version_pages.specs.declared.growth.Growth.{Growth}
use Rattle.version_pages.specs.declared.growth.Growth.TheVariants.{Before, Parts}
use Rattle.version_pages.specs.declared.tree.TheConstants.{WIDE}
use Rattle.version_pages.specs.Growth.{grown, CanGrow}
use Rattle.version_pages.specs.Shape.{Shape, items_of, joined, AreKids, IsAt, IsDeep, IsUnder}
use Rattle.version_pages.proofs.Joined.{insert-in, joined-at, two-in}

pub can-at : {T : Type 0} (kids : List (Shape T)) (all : List T) (i k j : ℕ) (kid : Shape T) (growth : Growth T) → joined kids ≡ all → IsAt kids i k j → kid ≡ get_or kids k kid → CanGrow growth all i → CanGrow growth (items_of kid) j
can-at kids all i k j kid (Before v) e at is can = rw is (at.within kid (rw e can))
can-at kids all i k j kid (Parts u v) e at is can = rw is (at.inside kid (rw e can))

pub grown-in : {T : Type 0} (kids : List (Shape T)) (all : List T) (i k j : ℕ) (kid x : Shape T) (growth : Growth T) → joined kids ≡ all → IsAt kids i k j → kid ≡ get_or kids k kid → CanGrow growth (items_of kid) j → items_of x ≡ grown growth (items_of kid) j → joined (set kids k x) ≡ grown growth all i
grown-in kids all i k j kid x (Before v) e at is can made = rw (← e) (insert-in kids k i j kid x v at.child at.place (rw is at can) (rw is at made))
grown-in kids all i k j kid x (Parts u v) e at is can made = rw (← e) (two-in kids k i j kid x u v at.child at.place (rw is at can) (rw is at made))

-- there is one element more
pub length-grown : {T : Type 0} (growth : Growth T) (xs : List T) (i : ℕ) → CanGrow growth xs i → length (grown growth xs i) ≡ length xs + 1
length-grown (Before v) xs i can = length-insert xs i v can
length-grown (Parts u v) xs i can = length-set (insert xs (i + 1) v) i u ∙ length-insert xs (i + 1) v (omega (arith, can))

-- one child in the place of one of the same height
pub kids-set : {T : Type 0} (h k : ℕ) (kids : List (Shape T)) (kid x : Shape T) → AreKids h kids → k < length kids → kid ≡ get_or kids k kid → x.height ≡ kid.height → (IsDeep kid → IsDeep x) → AreKids h (set kids k x)
kids-set h k kids kid x kept l is level deep =
    let old : IsUnder h kid = subst (IsUnder h) (sym is) (All-get_or (IsUnder h) kids k kid l kept.under) in
    let new : IsUnder h x = record { level = ap (λ n. n + 1) level ∙ old.level; deep = deep old.deep } in
    let n : length (set kids k x) ≡ length kids = length-set kids k x in
    record {
      two = omega (arith, n, kept.two);
      most = omega (arith, n, kept.most);
      under = All-set (IsUnder h) kids k x new kept.under;
    }

-- the number of the elements alone tells how deep pages of one height may stand
pub deep-long : {T : Type 0} (s t : Shape T) → length t.items ≡ length s.items → t.height ≡ s.height → IsDeep s → IsDeep t
deep-long s t e h d = record { many = rw h (rw e d.many); few = rw h (rw e d.few) }

-- a fork with at most one child more
pub kids-ready : {T : Type 0} (h : ℕ) (old new : List (Shape T)) → AreKids h old → 0 < WIDE - length old → length old ≤ length new → length new ≤ length old + 1 → ((n : ℕ) → All (IsUnder n) old → All (IsUnder n) new) → AreKids h new
kids-ready h old new kept room least most under = record {
  two = omega (arith, kept.two);
  most = omega arith;
  under = under h kept.under;
}

-- a child has no more elements than its fork
pub kid-few : {T : Type 0} (kids : List (Shape T)) (k : ℕ) (kid : Shape T) → k < length kids → kid ≡ get_or kids k kid → length (items_of kid) ≤ length (joined kids)
kid-few kids k kid l is = omega (arith, ap length (joined-at kids k kid l), ap (λ s. length (items_of s)) is, length-append (joined (take k kids)) (items_of (get_or kids k kid) ++ joined (drop (k + 1) kids)), length-append (items_of (get_or kids k kid)) (joined (drop (k + 1) kids)))

-- it stands one level lower
pub kid-level : {T : Type 0} (h k : ℕ) (kids : List (Shape T)) (kid : Shape T) → AreKids h kids → k < length kids → kid ≡ get_or kids k kid → kid.height + 1 ≡ h
kid-level h k kids kid kept l is = let u : IsUnder h kid = subst (IsUnder h) (sym is) (All-get_or (IsUnder h) kids k kid l kept.under) in u.level
