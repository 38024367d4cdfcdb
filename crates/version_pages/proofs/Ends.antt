-- Where the children of a fork end.
use Rattle.std.proofs.Common.{◌≡◌, ℕ, zero, suc, ◌+◌, ◌-◌, ◌<◌, ◌≤◌, ⊎_elim, List, [], ◌∷◌, ◌++◌, length, get_or, set, take, refl, ap, sym, subst, ◌∙◌, arith, length-append, add-one}
use Rattle.std.specs.List.{insert}
use Rattle.std.proofs.lemmas.Bool.{cases_lt}
use Rattle.std.proofs.lemmas.List.{length-set, get_or-set_same, get_or-set_other, get_or_push, get_or_append_left, get_or_default}
use Rattle.std.proofs.lemmas.List.Edits.{length-insert, get_or-insert_below, get_or-insert_at, get_or-insert_above}
use Rattle.version_pages.specs.Shape.{Shape, items_of, joined, end_before, AreEnds, AreEndsTo, AreHalves, AreLonger, IsAt}
use Rattle.version_pages.proofs.Ending.{joined-last, joined-more, none-left, front-few}
use Rattle.version_pages.proofs.Parted.{halves-at, set-insert}

-- another child leaves the lengths of those before it
front-set : {T : Type 0} (kids : List (Shape T)) (k m : ℕ) (x : Shape T) → m ≤ k → length (joined (take m (set kids k x))) ≡ length (joined (take m kids))
front-set [] k m x l = refl
front-set (s ∷ ks) k zero x l = refl
front-set (s ∷ ks) zero (suc m) x l = absurd (omega arith)
front-set (s ∷ ks) (suc k) (suc m) x l = omega (arith, length-append (items_of s) (joined (take m (set ks k x))), length-append (items_of s) (joined (take m ks)), front-set ks k m x (omega arith))

-- and adds to those with it what it has more
back-set : {T : Type 0} (kids : List (Shape T)) (k m n : ℕ) (kid x : Shape T) → k < length kids → k < m → kid ≡ get_or kids k kid → length (items_of x) ≡ length (items_of kid) + n → length (joined (take m (set kids k x))) ≡ length (joined (take m kids)) + n
back-set [] k m n kid x l b is long = absurd (omega arith)
back-set (s ∷ ks) k zero n kid x l b is long = absurd (omega arith)
back-set (s ∷ ks) zero (suc m) n kid x l b is long = omega (arith, length-append (items_of x) (joined (take m ks)), length-append (items_of s) (joined (take m ks)), ap (λ (t : Shape _). length (items_of t)) is, long)
back-set (s ∷ ks) (suc k) (suc m) n kid x l b is long = omega (arith, length-append (items_of s) (joined (take m (set ks k x))), length-append (items_of s) (joined (take m ks)), back-set ks k m n kid x (omega arith) (omega arith) is long)

-- where a child starts
pub starts : {T : Type 0} (ends : List ℕ) (kids : List (Shape T)) (k : ℕ) → AreEnds ends kids → k ≤ length kids → end_before ends k ≡ length (joined (take k kids))
starts ends kids zero at l = refl
starts ends kids (suc k) at l = at.each k 0 (omega arith) ∙ ap (λ n. length (joined (take n kids))) (add-one k)

-- a child that starts no later than at a place, and ends behind it if it isn't the last, has the place
module _ {T : Type 0} (ends : List ℕ) (kids : List (Shape T)) (i k : ℕ) (at : AreEnds ends kids) (l : k < length kids) (low : end_before ends k ≤ i) (high : (d : ℕ) → k + 1 < length kids → i < get_or ends k d) where
  start : end_before ends k ≡ length (joined (take k kids))
  start = starts ends kids k at (omega arith)

  inside-at : (d : Shape T) → i < length (joined kids) → i - end_before ends k < length (items_of (get_or kids k d))
  inside-at d m = ⊎_elim
      (λ (y : k + 1 < length kids). omega (arith, start, high 0 y, at.each k 0 l, joined-more kids k d l))
      (λ (y : length kids ≤ k + 1). omega (arith, start, joined-last kids k d l, none-left kids (k + 1) y))
      (cases_lt (k + 1) (length kids))

  within-at : (d : Shape T) → i ≤ length (joined kids) → i - end_before ends k ≤ length (items_of (get_or kids k d))
  within-at d m = ⊎_elim
      (λ (y : k + 1 < length kids). omega (arith, start, high 0 y, at.each k 0 l, joined-more kids k d l))
      (λ (y : length kids ≤ k + 1). omega (arith, start, joined-last kids k d l, none-left kids (k + 1) y))
      (cases_lt (k + 1) (length kids))

  pub at-ends : IsAt kids i k (i - end_before ends k)
  at-ends = record {
    child = l;
    place = omega (arith, start);
    inside = inside-at;
    within = within-at;
  }

-- one more child ends behind those before it
pub ends-more : {T : Type 0} (ends : List ℕ) (kids : List (Shape T)) (n e : ℕ) (kid : Shape T) → AreEndsTo ends kids n → n < length kids → kid ≡ get_or kids n kid → e ≡ length (joined (take n kids)) + length (items_of kid) → AreEndsTo (ends ++ e ∷ []) kids (n + 1)
ends-more ends kids n e kid to l is sum = record {
  count = omega (arith, to.count, length-append ends (e ∷ []));
  each = λ m d b. ⊎_elim
      (λ (y : m < n). get_or_append_left ends (e ∷ []) d m (omega (arith, to.count)) ∙ to.each m d y)
      (λ (y : n ≤ m). let q : m ≡ n = omega arith in
      get_or_push ends e d m (omega (arith, to.count)) ∙ omega (arith, sum, joined-more kids n kid l, ap (λ (t : Shape _). length (items_of t)) is, ap (λ k. length (joined (take (k + 1) kids))) q))
      (cases_lt m n);
}

-- a child of as many elements in the place of one leaves the ends
pub ends-same : {T : Type 0} (ends : List ℕ) (kids : List (Shape T)) (k : ℕ) (kid x : Shape T) → AreEnds ends kids → k < length kids → kid ≡ get_or kids k kid → length (items_of x) ≡ length (items_of kid) → AreEnds ends (set kids k x)
ends-same ends kids k kid x at l is long = record {
  count = omega (arith, at.count, length-set kids k x);
  each = λ m d b. ⊎_elim
      (λ (y : k < m + 1). omega (arith, at.each m d (omega (arith, length-set kids k x)), back-set kids k (m + 1) 0 kid x l y is (omega (arith, long))))
      (λ (y : m + 1 ≤ k). omega (arith, at.each m d (omega (arith, length-set kids k x)), front-set kids k (m + 1) x y))
      (cases_lt k (m + 1));
}

-- more elements in a child make all ends from it on so much more
pub ends-grown : {T : Type 0} (ends new : List ℕ) (kids : List (Shape T)) (k n : ℕ) (kid x : Shape T) → AreEnds ends kids → AreLonger ends new k (length ends) n → k < length kids → kid ≡ get_or kids k kid → length (items_of x) ≡ length (items_of kid) + n → AreEnds new (set kids k x)
ends-grown ends new kids k n kid x at more l is long = record {
  count = omega (arith, at.count, more.count, length-set kids k x);
  each = λ m d b. ⊎_elim
      (λ (y : k < m + 1). omega (arith, more.within m d (omega arith) (omega (arith, at.count, length-set kids k x)), at.each m d (omega (arith, length-set kids k x)), back-set kids k (m + 1) n kid x l y is long))
      (λ (y : m + 1 ≤ k). omega (arith, more.before m d (omega arith), at.each m d (omega (arith, length-set kids k x)), front-set kids k (m + 1) x y))
      (cases_lt k (m + 1));
}

-- more elements in the last child make the last end more
pub ends-last : {T : Type 0} (ends : List ℕ) (kids : List (Shape T)) (k n v : ℕ) (kid x : Shape T) → AreEnds ends kids → k + 1 ≡ length kids → kid ≡ get_or kids k kid → length (items_of x) ≡ length (items_of kid) + n → v ≡ get_or ends k 0 + n → AreEnds (set ends k v) (set kids k x)
ends-last ends kids k n v kid x at last is long sum = record {
  count = omega (arith, at.count, length-set kids k x, length-set ends k v);
  each = λ m d b. ⊎_elim
      (λ (y : k < m + 1). let e : m ≡ k = omega (arith, length-set kids k x) in
      ap (λ j. get_or (set ends k v) j d) e ∙ get_or-set_same ends k v d (omega (arith, at.count)) ∙ omega (arith, sum, at.each k 0 (omega arith), back-set kids k (m + 1) n kid x (omega arith) y is long, ap (λ j. length (joined (take (j + 1) kids))) e))
      (λ (y : m + 1 ≤ k). get_or-set_other ends k m v d (λ q. omega (arith, q)) ∙ omega (arith, at.each m d (omega arith), front-set kids k (m + 1) x y))
      (cases_lt k (m + 1));
}

-- one number more from a place to the next
pub longer-step : (old new : List ℕ) (from to more v : ℕ) → AreLonger old new from to more → from ≤ to → to < length new → v ≡ get_or new to 0 + more → AreLonger old (set new to v) from (to + 1) more
longer-step old new from to more v h l m sum = record {
  count = length-set new to v ∙ h.count;
  before = λ n d b. get_or-set_other new to n v d (λ q. omega (arith, q)) ∙ h.before n d b;
  within = λ n d a b. ⊎_elim
      (λ (y : n < to). get_or-set_other new to n v d (λ q. omega (arith, q)) ∙ h.within n d a y)
      (λ (y : to ≤ n). let e : n ≡ to = omega arith in
      ap (λ j. get_or (set new to v) j d) e ∙ get_or-set_same new to v d m ∙ sum ∙ ap (λ j. j + more) (get_or_default new to 0 d m ∙ h.after to d (omega arith) ∙ ap (λ j. get_or old j d) (sym e)))
      (cases_lt n to);
  after = λ n d a. get_or-set_other new to n v d (λ q. omega (arith, q)) ∙ h.after n d (omega arith);
}

-- two children of the elements of one end where it ends
back-parted : {T : Type 0} (kids : List (Shape T)) (k p : ℕ) (lower upper : Shape T) → k < length kids → k ≤ p → length (items_of lower) + length (items_of upper) ≡ length (items_of (get_or kids k lower)) → length (joined (take (suc (suc p)) (set (insert kids (suc k) upper) k lower))) ≡ length (joined (take (suc p) kids))
back-parted [] k p lower upper l b long = absurd (omega arith)
back-parted (s ∷ ks) zero p lower upper l b long = omega (arith, length-append (items_of lower) (items_of upper ++ joined (take p ks)), length-append (items_of upper) (joined (take p ks)), length-append (items_of s) (joined (take p ks)), long)
back-parted (s ∷ ks) (suc k) zero lower upper l b long = absurd (omega arith)
back-parted (s ∷ ks) (suc k) (suc p) lower upper l b long = omega (arith, length-append (items_of s) (joined (take (suc (suc p)) (set (insert ks (suc k) upper) k lower))), length-append (items_of s) (joined (take (suc p) ks)), back-parted ks k p lower upper (omega arith) (omega arith) long)

-- the first of them ends as far behind the start as it is long
here-parted : {T : Type 0} (kids : List (Shape T)) (k : ℕ) (lower upper : Shape T) → k < length kids → length (joined (take (suc k) (set (insert kids (suc k) upper) k lower))) ≡ length (joined (take k kids)) + length (items_of lower)
here-parted [] k lower upper l = absurd (omega arith)
here-parted (s ∷ ks) zero lower upper l = omega (arith, length-append (items_of lower) [])
here-parted (s ∷ ks) (suc k) lower upper l = omega (arith, length-append (items_of s) (joined (take (suc k) (set (insert ks (suc k) upper) k lower))), length-append (items_of s) (joined (take k ks)), here-parted ks k lower upper (omega arith))

front-parted : {T : Type 0} (kids : List (Shape T)) (k m : ℕ) (lower upper : Shape T) → k < length kids → m ≤ k → length (joined (take m (set (insert kids (suc k) upper) k lower))) ≡ length (joined (take m kids))
front-parted [] k m lower upper l b = absurd (omega arith)
front-parted (s ∷ ks) k zero lower upper l b = refl
front-parted (s ∷ ks) zero (suc m) lower upper l b = absurd (omega arith)
front-parted (s ∷ ks) (suc k) (suc m) lower upper l b = omega (arith, length-append (items_of s) (joined (take m (set (insert ks (suc k) upper) k lower))), length-append (items_of s) (joined (take m ks)), front-parted ks k m lower upper (omega arith) (omega arith))

module _ {T : Type 0} (ends : List ℕ) (kids : List (Shape T)) (k end : ℕ) (lower upper : Shape T) (at : AreEnds ends kids) (l : k < length kids) (h : (d : Shape T) → AreHalves lower upper (get_or kids k d)) (e : end ≡ length (joined (take k kids)) + length (items_of lower)) where
  both : length (items_of lower) + length (items_of upper) ≡ length (items_of (get_or kids k lower))
  both = let halves : AreHalves lower upper (get_or kids k lower) = h lower in sym (length-append (items_of lower) (items_of upper)) ∙ ap length halves.items

  above : (m d : ℕ) → k < m → m < length kids + 1 → get_or (insert ends k end) m d ≡ length (joined (take (m + 1) (set (insert kids (suc k) upper) k lower)))
  above zero d a b = absurd (omega arith)
  above (suc p) d a b =
      ap (λ n. get_or (insert ends k end) n d) (sym (add-one p))
      ∙ get_or-insert_above ends k end d p (omega arith) (omega (arith, at.count))
      ∙ at.each p d (omega arith)
      ∙ ap (λ n. length (joined (take n kids))) (add-one p)
      ∙ sym (back-parted kids k p lower upper l (omega arith) both)
      ∙ ap (λ n. length (joined (take n (set (insert kids (suc k) upper) k lower)))) (sym (add-one (suc p)))

  here : (m d : ℕ) → m ≡ k → get_or (insert ends k end) m d ≡ length (joined (take (m + 1) (set (insert kids (suc k) upper) k lower)))
  here m d is =
      ap (λ n. get_or (insert ends k end) n d) is
      ∙ get_or-insert_at ends k end d (omega (arith, at.count))
      ∙ e
      ∙ sym (here-parted kids k lower upper l)
      ∙ ap (λ n. length (joined (take n (set (insert kids (suc k) upper) k lower)))) (sym (add-one k) ∙ ap (λ n. n + 1) (sym is))

  below : (m d : ℕ) → m < k → get_or (insert ends k end) m d ≡ length (joined (take (m + 1) (set (insert kids (suc k) upper) k lower)))
  below m d b = get_or-insert_below ends k end d m b (omega (arith, at.count)) ∙ at.each m d (omega arith) ∙ sym (front-parted kids k (m + 1) lower upper l (omega arith))

  parted-count : length (set (insert kids (suc k) upper) k lower) ≡ length kids + 1
  parted-count = length-set (insert kids (suc k) upper) k lower ∙ length-insert kids (suc k) upper (omega arith)

  ends-new : AreEnds (insert ends k end) (set (insert kids (suc k) upper) k lower)
  ends-new = record {
    count = omega (arith, at.count, length-insert ends k end (omega (arith, at.count)), parted-count);
    each = λ m d b. ⊎_elim
        (λ (y : k < m). above m d y (omega (arith, parted-count)))
        (λ (y : m ≤ k). ⊎_elim
        (λ (z : m < k). below m d z)
        (λ (z : k ≤ m). here m d (omega arith))
        (cases_lt m k))
        (cases_lt k m);
  }

  pub ends-parted : AreEnds (insert ends k end) (set (insert kids (k + 1) upper) k lower)
  ends-parted = subst (λ n. AreEnds (insert ends k end) (set (insert kids n upper) k lower)) (sym (add-one k)) ends-new

-- each end is one of few
pub ends-few : {T : Type 0} (ends : List ℕ) (kids : List (Shape T)) (n d : ℕ) → AreEnds ends kids → n < length ends → get_or ends n d ≤ length (joined kids)
ends-few ends kids n d at l = omega (arith, at.each n d (omega (arith, at.count)), front-few kids (n + 1))

-- the first part of a child in its place and then the second one behind it
pub ends-at : {T : Type 0} (ends new : List ℕ) (kids more : List (Shape T)) (k end : ℕ) (kid lower upper : Shape T) → AreEnds ends kids → k < length kids → kid ≡ get_or kids k kid → AreHalves lower upper kid → more ≡ insert (set kids k lower) (k + 1) upper → new ≡ insert ends k end → end ≡ length (joined (take k kids)) + length (items_of lower) → AreEnds new more
ends-at ends new kids more k end kid lower upper at l is halves made noted sum =
    subst (λ t. AreEnds t more) (sym noted)
    (subst (AreEnds (insert ends k end)) (sym (made ∙ set-insert kids k (k + 1) lower upper (add-one k) l))
    (ends-parted ends kids k end lower upper at l (halves-at kids k kid lower upper l is halves) sum))

-- one more of the first ends noted
pub noted-step : {T : Type 0} (ends : List ℕ) (kids : List (Shape T)) (n e : ℕ) (kid : Shape T) → length ends ≡ length kids → n < length kids → kid ≡ get_or kids n kid → e ≡ length (joined (take n kids)) + length (items_of kid) → ((k d : ℕ) → k < n → get_or ends k d ≡ length (joined (take (k + 1) kids))) → (k d : ℕ) → k < n + 1 → get_or (set ends n e) k d ≡ length (joined (take (k + 1) kids))
noted-step ends kids n e kid long l is sum noted k d b = ⊎_elim
    (λ (y : k < n). get_or-set_other ends n k e d (λ q. omega (arith, q)) ∙ noted k d y)
    (λ (y : n ≤ k). let q : k ≡ n = omega arith in
    ap (λ j. get_or (set ends n e) j d) q ∙ get_or-set_same ends n e d (omega (arith, long)) ∙ omega (arith, sum, joined-more kids n kid l, ap (λ (t : Shape _). length (items_of t)) is, ap (λ j. length (joined (take (j + 1) kids))) q))
    (cases_lt k n)
