-- The search for the longest prefix with routes that holds another.
use Rattle.std.proofs.Common.{◌≡◌, ◌≢◌, ℕ, ◌+◌, ◌-◌, ◌*◌, ◌/◌, ◌%◌, ◌<◌, ◌≤◌, ◌∙◌, zero, suc, Bool, true, false, Option, None, Some, List, [], ◌∷◌, length, get_or, take, ap, sym, subst, ⊎_elim, min, arith}
use Rattle.std.specs.Prelude.{slice_index_or}
use Rattle.std.specs.List.{Contains}
use Rattle.std.specs.Option.{is_some}
use Rattle.std.proofs.lemmas.Bool.{both_ways, cases_lt, eq-eqb}
use Rattle.std.proofs.lemmas.List.{get_or-take, length-take}
use Rattle.std.proofs.lemmas.List.Elements.{Contains-get_or}
use Rattle.std.proofs.lemmas.Nat.{div-mul-add}
use Rattle.base.specs.Cidr.{Cidr, IsCidr, covers, size}
use Rattle.dn_model.specs.declared.way.Way.{Way}
use Rattle.base.proofs.Elements.{contains-cases, contains-here, contains-none, contains-there}
use Rattle.dn_model.proofs.Keys.{base-once}
use Rattle.route_table.specs.Above.{HasLength, IsAbove, IsFirstAbove, shares}
use Rattle.route_table.specs.Ascending.{AscendsFrom, IsFound, IsGap, IsPlace}
use Rattle.route_table.specs.Searches.{IsBaseBefore}
use Rattle.route_table.specs.Slots.{AreSlots, IsSlot, PrefixRoutes, key_of, slot_key}
use Rattle.route_table.specs.Targets.{IsFirst}
use Rattle.route_table.specs.declared.metric_way.MetricWay.{MetricWay}
use Rattle.route_table.proofs.Blocks.{covers-from, covers-in, covers-to, size-some}
use Rattle.route_table.proofs.OwnRuns.{each-of, longer-later}
use Rattle.route_table.proofs.Places.{all-from, found-inside, found-key, keys-from}
use Rattle.route_table.proofs.Prefixes.{key-exact}

-- ---- slots below a place

pub found-place : {T : Type 0} (key : T → ℕ) (xs : List T) (k i : ℕ) → IsFound key xs k i → IsPlace key xs k i
found-place key [] k i h = absurd h
found-place key (x ∷ xs) k zero h = omega arith
found-place key (x ∷ xs) k (suc i) h = (h.0, found-place key xs k i h.1)

place-below : (start : ℕ) (slots : List PrefixRoutes) (k i : ℕ) (x : PrefixRoutes) → AscendsFrom slot_key start slots → IsPlace slot_key slots k i → Contains slots x → slot_key x < k → Contains (take i slots) x
place-below start [] k i x h p c l = absurd (contains-none x c)
place-below start (s ∷ slots) k zero x h p c l = ⊎_elim
    (λ (e : s ≡ x). let n : slot_key s ≡ slot_key x = ap slot_key e in absurd (omega arith))
    (λ (j : Contains slots x). let n : slot_key s + 1 ≤ slot_key x = all-from slot_key (slot_key s + 1) slots x h.1 j in absurd (omega arith))
    (contains-cases s x slots c)
place-below start (s ∷ slots) k (suc i) x h p c l = ⊎_elim
    (λ (e : s ≡ x). subst (λ y. Contains (s ∷ take i slots) y) e (contains-here s (take i slots)))
    (λ (j : Contains slots x). contains-there s x (take i slots) (place-below (slot_key s + 1) slots k i x h.1 p.1 j l))
    (contains-cases s x slots c)

below-key : (slots : List PrefixRoutes) (k i : ℕ) (x : PrefixRoutes) → IsPlace slot_key slots k i → Contains (take i slots) x → slot_key x < k
below-key [] k zero x p c = absurd (contains-none x c)
below-key [] k (suc i) x p c = absurd (contains-none x c)
below-key (s ∷ slots) k zero x p c = absurd (contains-none x c)
below-key (s ∷ slots) k (suc i) x p c = ⊎_elim
    (λ (e : s ≡ x). subst (λ (y : PrefixRoutes). slot_key y < k) e p.0)
    (λ (j : Contains (take i slots) x). below-key slots k i x p.1 j)
    (contains-cases s x (take i slots) c)

keys-rise : (start : ℕ) (slots : List PrefixRoutes) (j m : ℕ) (d : PrefixRoutes) → AscendsFrom slot_key start slots → j ≤ m → m < length slots → slot_key (get_or slots j d) ≤ slot_key (get_or slots m d)
keys-rise start [] j m d h o l = absurd (omega arith)
keys-rise start (s ∷ slots) zero zero d h o l = omega arith
keys-rise start (s ∷ slots) zero (suc m) d h o l = let f : slot_key s + 1 ≤ slot_key (get_or slots m d) = keys-from slot_key (slot_key s + 1) slots m d h.1 (omega arith) in omega arith
keys-rise start (s ∷ slots) (suc j) zero d h o l = absurd (omega arith)
keys-rise start (s ∷ slots) (suc j) (suc m) d h o l = keys-rise (slot_key s + 1) slots j m d h.1 (omega arith) (omega arith)

last-key : (slots : List PrefixRoutes) (i : ℕ) (x : PrefixRoutes) → AscendsFrom slot_key 0 slots → i ≤ length slots → Contains (take i slots) x → slot_key x ≤ slot_key (get_or slots (i - 1) x)
last-key slots i x h l c =
    let n : length (take i slots) ≡ min i (length slots) = length-take i slots in
    let j : c.0 < length (take i slots) = c.1 in
    let is : get_or slots c.0 x ≡ x = sym (get_or-take i slots c.0 x (omega arith)) ∙ c.2 in
    subst (λ (y : PrefixRoutes). slot_key y ≤ slot_key (get_or slots (i - 1) x)) is (keys-rise 0 slots c.0 (i - 1) x h (omega arith) (omega arith))

last-in : (slots : List PrefixRoutes) (i : ℕ) (d : PrefixRoutes) → 0 < i → i ≤ length slots → Contains (take i slots) (get_or slots (i - 1) d)
last-in slots i d some l =
    let n : length (take i slots) ≡ min i (length slots) = length-take i slots in
    subst (λ y. Contains (take i slots) y) (get_or-take i slots (i - 1) d (omega arith)) (Contains-get_or (take i slots) (i - 1) d (omega arith))

-- the slot of a key is the one that is found
same-slot : (start : ℕ) (slots : List PrefixRoutes) (k i : ℕ) (x : PrefixRoutes) → AscendsFrom slot_key start slots → IsFound slot_key slots k i → Contains slots x → slot_key x ≡ k → x ≡ get_or slots i x
same-slot start [] k i x h f c e = absurd (contains-none x c)
same-slot start (s ∷ slots) k zero x h f c e = ⊎_elim
    (λ (here : s ≡ x). sym here)
    (λ (j : Contains slots x). let n : slot_key s + 1 ≤ slot_key x = all-from slot_key (slot_key s + 1) slots x h.1 j in absurd (omega arith))
    (contains-cases s x slots c)
same-slot start (s ∷ slots) k (suc i) x h f c e = ⊎_elim
    (λ (here : s ≡ x). let n : slot_key s ≡ slot_key x = ap slot_key here in let l : slot_key s < k = f.0 in absurd (omega arith))
    (λ (j : Contains slots x). same-slot (slot_key s + 1) slots k i x h.1 f.1 j e)
    (contains-cases s x slots c)

gap-other : (start : ℕ) (slots : List PrefixRoutes) (k i : ℕ) (x : PrefixRoutes) → AscendsFrom slot_key start slots → IsGap slot_key slots k i → Contains slots x → slot_key x ≡ k → ⊥
gap-other start [] k i x h g c e = contains-none x c
gap-other start (s ∷ slots) k zero x h g c e = ⊎_elim
    (λ (here : s ≡ x). let n : slot_key s ≡ slot_key x = ap slot_key here in omega arith)
    (λ (j : Contains slots x). let n : slot_key s + 1 ≤ slot_key x = all-from slot_key (slot_key s + 1) slots x h.1 j in omega arith)
    (contains-cases s x slots c)
gap-other start (s ∷ slots) k (suc i) x h g c e = ⊎_elim
    (λ (here : s ≡ x). let n : slot_key s ≡ slot_key x = ap slot_key here in let l : slot_key s < k = g.0 in omega arith)
    (λ (j : Contains slots x). gap-other (slot_key s + 1) slots k i x h.1 g.1 j e)
    (contains-cases s x slots c)

-- ---- addresses of one block

block-part : (w b a : ℕ) → 0 < w → b % w ≡ 0 → b ≤ a → a < b + w → a / w ≡ b / w
block-part w b a pos aligned from to =
    let whole : b / w * w ≡ b = omega arith in
    let is : b / w * w + (a - b) ≡ a = omega arith in
    sym (ap (λ n. n / w) is) ∙ div-mul-add (b / w) w (a - b) (omega arith)

shares-in : (x : Cidr) (a b : ℕ) → IsCidr x → covers x a ≡ true → covers x b ≡ true → shares a b x.len ≡ true
shares-in x a b sound in_a in_b =
    eq-eqb (a / size x) (b / size x)
    (block-part (size x) x.base a (size-some x) sound.aligned (covers-from x a in_a) (covers-to x a in_a)
    ∙ sym (block-part (size x) x.base b (size-some x) sound.aligned (covers-from x b in_b) (covers-to x b in_b)))

base-order : (p q : Cidr) → q.len ≤ 32 → key_of p ≤ key_of q → p.base ≤ q.base
base-order p q l h = omega arith

-- ---- what is left to look at

-- those that hold the prefix stand below the place, and are shorter; and those there don't begin behind the prefix
pub record IsLeft (slots : List PrefixRoutes) (p : Cidr) (place len : ℕ) : Type 0 where
  pub above : (x : PrefixRoutes) → Contains slots x → IsAbove p x → Contains (take place slots) x × (x.prefix.len < len)
  pub base : (x : PrefixRoutes) → Contains (take place slots) x → x.prefix.base ≤ p.base

above-base : (p : Cidr) → IsCidr p → covers p p.base ≡ true
above-base p sp = covers-in p p.base (omega arith) (let s : 0 < size p = size-some p in omega arith)

pub left-first : (slots : List PrefixRoutes) (p : Cidr) (place : ℕ) → AreSlots slots → IsCidr p → IsPlace slot_key slots (key_of p) place → IsLeft slots p place p.len
left-first slots p place h sp at = record {
  above = λ x i a.
      let sx : IsCidr x.prefix = (each-of slots x h.each i).sound in
      let l : slot_key x < key_of p = longer-later x.prefix p p.base sx sp a.shorter a.holds (above-base p sp) in
      (place-below 0 slots (key_of p) place x h.keys at i l, a.shorter);
  base = λ x i.
      let l : slot_key x < key_of p = below-key slots (key_of p) place x at i in
      base-order x.prefix p sp.len (omega arith);
}

module _ (slots : List PrefixRoutes) (lengths : List Bool) (p : Cidr) (place len base : ℕ) (h : AreSlots slots) (has : HasLength slots lengths) (sp : IsCidr p) (inside : place ≤ length slots) (left : IsLeft slots p place len) (is : IsBaseBefore slots place base) where
  -- the slot before the place begins in each that holds the prefix
  begins-in : (x : PrefixRoutes) → Contains slots x → IsAbove p x → covers x.prefix base ≡ true
  begins-in x i a =
      let some : 0 < place = is.some in
      let q : PrefixRoutes = get_or slots (place - 1) x in
      let sq : IsSlot q = each-of slots q h.each (Contains-get_or slots (place - 1) x (omega arith)) in
      let here : q.prefix.base ≡ base = is.base_is x in
      let later : slot_key x ≤ slot_key q = last-key slots place x h.keys inside (left.above x i a).0 in
      let from : x.prefix.base ≤ q.prefix.base = base-order x.prefix q.prefix sq.sound.len later in
      let to : q.prefix.base ≤ p.base = left.base q (last-in slots place x some inside) in
      let end : p.base < x.prefix.base + size x.prefix = covers-to x.prefix p.base a.holds in
      covers-in x.prefix base (omega arith) (omega arith)

  above-shares : (x : PrefixRoutes) → Contains slots x → IsAbove p x → shares p.base base x.prefix.len ≡ true
  above-shares x i a = shares-in x.prefix p.base base (each-of slots x h.each i).sound a.holds (begins-in x i a)

  pub above-none : ((k : ℕ) → k < len → slice_index_or lengths k true ≡ true → shares p.base base k ≡ false) → IsFirstAbove slots p None
  above-none none = λ x i a. both_ways (shares p.base base x.prefix.len) (none x.prefix.len (left.above x i a).1 (has x i)) (above-shares x i a)

  above-most : (l : ℕ) → ((k : ℕ) → l < k → k < len → slice_index_or lengths k true ≡ true → shares p.base base k ≡ false) → (x : PrefixRoutes) → Contains slots x → IsAbove p x → x.prefix.len ≤ l
  above-most l greatest x i a = ⊎_elim
      (λ (longer : l < x.prefix.len). absurd (both_ways (shares p.base base x.prefix.len) (greatest x.prefix.len longer (left.above x i a).1 (has x i)) (above-shares x i a)))
      (λ (short : x.prefix.len ≤ l). short)
      (cases_lt l x.prefix.len)

  -- the prefix of the greatest length that is left, around the prefix
  module _ (l : ℕ) (q : Cidr) (next : ℕ) (less : l < p.len) (greatest : (k : ℕ) → l < k → k < len → slice_index_or lengths k true ≡ true → shares p.base base k ≡ false) (sq : IsCidr q) (q_len : q.len ≡ l) (holds : covers q p.base ≡ true) where
    found-some : (s : PrefixRoutes) (o : Option Way) → IsFound slot_key slots (key_of q) next → ((d : PrefixRoutes) → s ≡ get_or slots next d) → IsFirst s.targets o → is_some o ≡ true → IsFirstAbove slots p o
    found-some s None f at first some = absurd (let e : false ≡ true = some in cc)
    found-some s (Some t) f at first some =
        let n : next < length slots = found-inside slot_key slots (key_of q) next f in
        let there : Contains slots s = subst (λ y. Contains slots y) (sym (at s)) (Contains-get_or slots next s n) in
        let key : slot_key s ≡ key_of q = ap slot_key (at s) ∙ found-key slot_key slots (key_of q) next s f in
        let same : s.prefix ≡ q = key-exact s.prefix q (each-of slots s h.each there).sound sq key in
        let s_len : s.prefix.len ≡ l = ap (λ (c : Cidr). c.len) same ∙ q_len in
        let above : IsAbove p s = record {
          some = λ e. contains-none first.0 (subst (λ xs. Contains xs first.0) e first.1.0);
          shorter = omega arith;
          holds = subst (λ (c : Cidr). covers c p.base ≡ true) (sym same) holds;
        } in
        (s, there, above, first, λ x i a. let m : x.prefix.len ≤ l = above-most l greatest x i a in omega arith)

    pub above-found : (s : PrefixRoutes) (o : Option Way) → IsFound slot_key slots (key_of q) next → ((d : PrefixRoutes) → s ≡ get_or slots next d) → IsFirst s.targets o → is_some o ≡ true → IsFirstAbove slots p o
    above-found s o f at first some = found-some s o f at first some

    -- where that has no routes, those that hold the prefix are shorter still
    pub left-next : IsPlace slot_key slots (key_of q) next → ((x : PrefixRoutes) → Contains slots x → x.targets ≢ [] → slot_key x ≡ key_of q → ⊥) → IsLeft slots p next l
    left-next at none = record {
      above = λ x i a.
          let sx : IsCidr x.prefix = (each-of slots x h.each i).sound in
          let m : x.prefix.len ≤ l = above-most l greatest x i a in
          let shorter : x.prefix.len < l = ⊎_elim
          (λ (s : x.prefix.len < l). s)
          (λ (s : l ≤ x.prefix.len).
          let e : x.prefix.len ≡ q.len = omega arith in
          let b : x.prefix.base ≡ q.base = base-once x.prefix q p.base sx sq e a.holds holds in
          absurd (none x i a.some (ap (λ n. n * 64 + x.prefix.len) b ∙ ap (λ n. q.base * 64 + n) e)))
          (cases_lt x.prefix.len l) in
          let k : slot_key x < key_of q = longer-later x.prefix q p.base sx sq (omega arith) a.holds holds in
          (place-below 0 slots (key_of q) next x h.keys at i k, shorter);
      base = λ x i.
          let k : slot_key x < key_of q = below-key slots (key_of q) next x at i in
          let b : x.prefix.base ≤ q.base = base-order x.prefix q sq.len (omega arith) in
          let c : q.base ≤ p.base = covers-from q p.base holds in
          omega arith;
    }

-- the two ways in which it has none
pub none-gap : (slots : List PrefixRoutes) (k next : ℕ) → AreSlots slots → IsGap slot_key slots k next → (x : PrefixRoutes) → Contains slots x → x.targets ≢ [] → slot_key x ≡ k → ⊥
none-gap slots k next h g x i some e = gap-other 0 slots k next x h.keys g i e

no-first : (xs : List MetricWay) (o : Option Way) → IsFirst xs o → is_some o ≡ false → xs ≡ []
no-first xs None first none = first
no-first xs (Some t) first none = absurd (let e : true ≡ false = none in cc)

pub none-first : (slots : List PrefixRoutes) (k next : ℕ) (s : PrefixRoutes) (o : Option Way) → AreSlots slots → IsFound slot_key slots k next → ((d : PrefixRoutes) → s ≡ get_or slots next d) → IsFirst s.targets o → is_some o ≡ false → (x : PrefixRoutes) → Contains slots x → x.targets ≢ [] → slot_key x ≡ k → ⊥
none-first slots k next s o h f at first none x i some e =
    let same : x ≡ s = same-slot 0 slots k next x h.keys f i e ∙ sym (at x) in
    some (ap (λ (y : PrefixRoutes). y.targets) same ∙ no-first s.targets o first none)
