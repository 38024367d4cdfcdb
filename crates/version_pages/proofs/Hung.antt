-- A page hung in before a child.
use Rattle.std.proofs.Common.{◌≡◌, ℕ, zero, suc, ◌+◌, ◌<◌, ◌≤◌, ⊎_elim, List, [], ◌∷◌, ◌++◌, length, get_or, take, drop, refl, ap, sym, ◌∙◌, arith, append_assoc, length-append, add-one}
use Rattle.std.specs.List.{insert}
use Rattle.std.proofs.lemmas.Bool.{cases_lt}
use Rattle.std.proofs.lemmas.List.{drop_at, take_at, take-append-drop}
use Rattle.std.proofs.lemmas.List.Edits.{length-insert, get_or-insert_below, get_or-insert_at, get_or-insert_above}
use Rattle.std.proofs.lemmas.List.Elements.{All-append, All-cons, All-drop, All-take}
use Rattle.std.proofs.lemmas.List.Concat.{flat_map-append}
use Rattle.version_pages.specs.declared.tree.TheConstants.{WIDE}
use Rattle.version_pages.specs.Shape.{Shape, items_of, joined, AreEnds, AreKids, AreLonger, IsAt, IsUnder}
use Rattle.version_pages.proofs.Ends.{ends-few}

-- its elements stand where the child began
pub joined-hung : {T : Type 0} (kids : List (Shape T)) (i k : ℕ) (x : Shape T) → IsAt kids i k 0 → joined (insert kids k x) ≡ take i (joined kids) ++ items_of x ++ drop i (joined kids)
joined-hung kids i k x at =
    let whole : joined kids ≡ joined (take k kids) ++ joined (drop k kids) = ap joined (sym (take-append-drop k kids)) ∙ flat_map-append items_of (take k kids) (drop k kids) in
    let long : length (joined (take k kids)) ≡ i = omega (arith, at.place) in
    let before : take i (joined kids) ≡ joined (take k kids) = ap (take i) whole ∙ take_at (joined (take k kids)) (joined (drop k kids)) i long in
    let after : drop i (joined kids) ≡ joined (drop k kids) = ap (drop i) whole ∙ drop_at (joined (take k kids)) (joined (drop k kids)) i long in
    flat_map-append items_of (take k kids) (x ∷ drop k kids)
    ∙ sym (append_assoc (joined (take k kids)) (items_of x) (joined (drop k kids)))
    ∙ ap (λ t. t ++ items_of x ++ joined (drop k kids)) (sym before)
    ∙ ap (λ t. take i (joined kids) ++ items_of x ++ t) (sym after)

-- it is one child more
pub kids-hung : {T : Type 0} (h k : ℕ) (kids : List (Shape T)) (x : Shape T) → AreKids h kids → length kids < WIDE → k ≤ length kids → IsUnder h x → AreKids h (insert kids k x)
kids-hung h k kids x kept room l under =
    let n : length (insert kids k x) ≡ length kids + 1 = length-insert kids k x l in
    record {
      two = omega (arith, n, kept.two);
      most = omega (arith, n, room);
      under = All-append (IsUnder h) (take k kids) (x ∷ drop k kids) (All-take (IsUnder h) k kids kept.under) (All-cons (IsUnder h) x (drop k kids) under (All-drop (IsUnder h) k kids kept.under));
    }

-- the children before it end as before
front-hung : {T : Type 0} (kids : List (Shape T)) (k m : ℕ) (x : Shape T) → m ≤ k → k ≤ length kids → length (joined (take m (insert kids k x))) ≡ length (joined (take m kids))
front-hung kids k zero x l b = refl
front-hung [] k (suc m) x l b = absurd (omega (arith, l, b))
front-hung (s ∷ ks) zero (suc m) x l b = absurd (omega arith)
front-hung (s ∷ ks) (suc k) (suc m) x l b = omega (arith, length-append (items_of s) (joined (take m (insert ks k x))), length-append (items_of s) (joined (take m ks)), front-hung ks k m x (omega arith) (omega arith))

-- and it and those behind it as far behind as it is long
back-hung : {T : Type 0} (kids : List (Shape T)) (k m : ℕ) (x : Shape T) → k ≤ m → k ≤ length kids → length (joined (take (suc m) (insert kids k x))) ≡ length (joined (take m kids)) + length (items_of x)
back-hung kids zero m x l b = omega (arith, length-append (items_of x) (joined (take m kids)))
back-hung kids (suc k) zero x l b = absurd (omega arith)
back-hung [] (suc k) (suc m) x l b = absurd (omega (arith, b))
back-hung (s ∷ ks) (suc k) (suc m) x l b = omega (arith, length-append (items_of s) (joined (take (suc m) (insert ks k x))), length-append (items_of s) (joined (take m ks)), back-hung ks k m x (omega arith) (omega arith))

module _ {T : Type 0} (ends new : List ℕ) (kids : List (Shape T)) (k end n : ℕ) (x : Shape T) (at : AreEnds ends kids) (l : k ≤ length kids) (more : AreLonger (insert ends k end) new (k + 1) (length (insert ends k end)) n) (e : end ≡ length (joined (take k kids)) + n) (long : length (items_of x) ≡ n) where
  count : length (insert ends k end) ≡ length kids + 1
  count = omega (arith, at.count, length-insert ends k end (omega (arith, at.count, l)))

  below : (m d : ℕ) → m < k → get_or new m d ≡ length (joined (take (m + 1) (insert kids k x)))
  below m d b =
      more.before m d (omega arith)
      ∙ get_or-insert_below ends k end d m b (omega (arith, at.count, l))
      ∙ at.each m d (omega arith)
      ∙ sym (front-hung kids k (m + 1) x (omega arith) l)

  here : (m d : ℕ) → m ≡ k → get_or new m d ≡ length (joined (take (m + 1) (insert kids k x)))
  here m d is =
      more.before m d (omega (arith, is))
      ∙ ap (λ p. get_or (insert ends k end) p d) is
      ∙ get_or-insert_at ends k end d (omega (arith, at.count, l))
      ∙ omega (arith, e, long, back-hung kids k k x (omega arith) l)
      ∙ ap (λ p. length (joined (take p (insert kids k x)))) (sym (add-one k) ∙ ap (λ p. p + 1) (sym is))

  above : (m d : ℕ) → k < m → m < length kids + 1 → get_or new m d ≡ length (joined (take (m + 1) (insert kids k x)))
  above zero d a b = absurd (omega arith)
  above (suc p) d a b =
      more.within (suc p) d (omega arith) (omega (arith, count))
      ∙ ap (λ q. get_or (insert ends k end) q d + n) (sym (add-one p))
      ∙ ap (λ q. q + n) (get_or-insert_above ends k end d p (omega arith) (omega (arith, at.count, l)) ∙ at.each p d (omega arith) ∙ ap (λ q. length (joined (take q kids))) (add-one p))
      ∙ omega (arith, long, back-hung kids k (suc p) x (omega arith) l)
      ∙ ap (λ q. length (joined (take q (insert kids k x)))) (sym (add-one (suc p)))

  pub ends-hung : AreEnds new (insert kids k x)
  ends-hung = record {
    count = omega (arith, more.count, count, length-insert kids k x l);
    each = λ m d b. ⊎_elim
        (λ (y : k < m). above m d y (omega (arith, length-insert kids k x l)))
        (λ (y : m ≤ k). ⊎_elim
        (λ (z : m < k). below m d z)
        (λ (z : k ≤ m). here m d (omega arith))
        (cases_lt m k))
        (cases_lt k m);
  }

-- each end is one of few, with one noted among them
noted-above : (ends : List ℕ) (k end most n d : ℕ) → k ≤ length ends → ((m : ℕ) → m < length ends → get_or ends m d ≤ most) → k < n → n < length ends + 1 → get_or (insert ends k end) n d ≤ most
noted-above ends k end most zero d l few a b = absurd (omega arith)
noted-above ends k end most (suc p) d l few a b = omega (arith, ap (λ q. get_or (insert ends k end) q d) (sym (add-one p)), get_or-insert_above ends k end d p (omega arith) l, few p (omega arith))

pub noted-few : {T : Type 0} (ends : List ℕ) (kids : List (Shape T)) (k end most n d : ℕ) → AreEnds ends kids → k ≤ length kids → end ≤ most → length (joined kids) ≤ most → n < length (insert ends k end) → get_or (insert ends k end) n d ≤ most
noted-few ends kids k end most n d at l e m b =
    let long : k ≤ length ends = omega (arith, at.count, l) in
    let all : (p : ℕ) → p < length ends → get_or ends p d ≤ most = λ p q. omega (arith, ends-few ends kids p d at q, m) in
    ⊎_elim
    (λ (y : k < n). noted-above ends k end most n d long all y (omega (arith, b, length-insert ends k end long)))
    (λ (y : n ≤ k). ⊎_elim
    (λ (z : n < k). omega (arith, get_or-insert_below ends k end d n z long, all n (omega (arith, long))))
    (λ (z : k ≤ n). let is : n ≡ k = omega arith in omega (arith, ap (λ p. get_or (insert ends k end) p d) is, get_or-insert_at ends k end d long, e))
    (cases_lt n k))
    (cases_lt k n)
