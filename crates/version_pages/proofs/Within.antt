-- A part of a list.
use Rattle.std.proofs.Common.{◌≡◌, ℕ, ◌+◌, ◌-◌, ◌<◌, ◌≤◌, List, [], ◌++◌, length, get_or, take, drop, ap, sym, subst, ◌∙◌, arith, append_assoc, length-append, length-take}
use Rattle.std.proofs.lemmas.List.{append-nil, take-append-drop, take_rest}
use Rattle.version_pages.specs.Shape.{Shape, items_of, joined, IsWithin}
use Rattle.version_pages.proofs.Joined.{joined-at, middle-get}

pub within-kid : {T : Type 0} (kids : List (Shape T)) (k i j : ℕ) (kid : Shape T) → k < length kids → kid ≡ get_or kids k kid → i ≡ length (joined (take k kids)) + j → IsWithin (joined kids) kid.items i j
within-kid kids k i j kid l is place = record {
  before = joined (take k kids);
  after = joined (drop (k + 1) kids);
  whole = joined-at kids k kid l ∙ ap (λ s. joined (take k kids) ++ (items_of s ++ joined (drop (k + 1) kids))) (sym is);
  place = place;
}

pub within-get : {T : Type 0} (all part : List T) (i j : ℕ) (d : T) → IsWithin all part i j → j < length part → get_or all i d ≡ get_or part j d
within-get all part i j d w l = ap (λ t. get_or t i d) w.whole ∙ middle-get w.before part w.after i j d w.place l

-- a part of a part
pub within-part : {T : Type 0} (all part inner : List T) (i j k : ℕ) → IsWithin all part i j → IsWithin part inner j k → IsWithin all inner i k
within-part all part inner i j k w v = record {
  before = w.before ++ v.before;
  after = v.after ++ w.after;
  whole = w.whole ∙ ap (λ t. w.before ++ (t ++ w.after)) v.whole ∙ simp append_assoc;
  place = omega (arith, w.place, v.place, length-append w.before v.before);
}

-- what is left from a place on
pub within-rest : {T : Type 0} (xs : List T) (i : ℕ) → i ≤ length xs → IsWithin xs (drop i xs) i 0
within-rest xs i l = record {
  before = take i xs;
  after = [];
  whole = sym (take-append-drop i xs) ∙ ap (λ t. take i xs ++ t) (sym (append-nil (drop i xs)));
  place = omega (arith, length-take i xs);
}

pub within-page : {T : Type 0} (all xs : List T) (i : ℕ) → xs ≡ all → i < length all → IsWithin all (take (length xs - i) (drop i xs)) i 0
within-page all xs i e l = subst (λ t. IsWithin t (take (length xs - i) (drop i xs)) i 0) e (rw (take_rest xs i) (within-rest xs i (omega (arith, ap length e))))

pub within-fork : {T : Type 0} (all kids part inner : List T) (i j k : ℕ) → kids ≡ all → IsWithin kids part i j → IsWithin part inner j k → IsWithin all inner i k
within-fork all kids part inner i j k e w v = subst (λ t. IsWithin t inner i k) e (within-part kids part inner i j k w v)

-- a page that is the whole list
pub within-itself : {T : Type 0} (all xs : List T) (i : ℕ) → xs ≡ all → IsWithin all xs i i
within-itself all xs i e = record {
  before = [];
  after = [];
  whole = sym e ∙ sym (append-nil xs);
  place = omega arith;
}
