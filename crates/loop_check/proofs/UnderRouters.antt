-- What stands under the routers of cycles: a look-up after a change.
use Rattle.std.proofs.Common.{◌≡◌, ◌⊎◌, ◌∙◌, cond, Bool, true, false, Option, None, Some, MutBor, List, [], ◌∷◌, refl, ap, sym, subst, inl, inr, ⊎_elim}
use Rattle.std.specs.BTreeMap.{insert_entry}
use Rattle.std.specs.Cmp.{IsTotalOrder}
use Rattle.std.specs.Cmp.Lexicographic.{lists_total, slice_cmp}
use Rattle.std.specs.Global.{Vec}
use Rattle.std.specs.List.{AllByRecursion, Contains, IsDistinct}
use Rattle.std.specs.List.Sorted.{IsStrictlySortedBy}
use Rattle.std.specs.Map.{keys_of, lookup, set_value}
use Rattle.std.specs.Option.{option_copied_mut, unwrap_or}
use Rattle.std.specs.Ordering.{eq_by_cmp, is_eq, match_ordering, ordering_then}
use Rattle.std.specs.declared.cmp.Ordering.{Ordering}
use Rattle.std.specs.declared.cmp.Ordering.TheVariants.{Less, Equal, Greater}
use Rattle.std.proofs.lemmas.Bool.{both_ways, cases_Bool, false_from_ne_true, false≢true}
use Rattle.std.proofs.lemmas.Cmp.{tied_itself}
use Rattle.std.proofs.lemmas.Map.Keys.{IsDistinct-from_sorted, IsDistinct-head, IsDistinct-tail}
use Rattle.std.proofs.lemmas.Map.Lookups.{exact_unsigned}
use Rattle.base.specs.contracts.ids.RouterIdOrd.TheImpl.{cmp-value}
use Rattle.base.specs.contracts.ids.RouterIdOrd.TheImpl.Laws as laws
use Rattle.base.specs.declared.ids.RouterId.{RouterId}
use Rattle.base.proofs.DeltaParts.{same-router}
use Rattle.base.proofs.Elements.{contains-cases, contains-here, contains-none, contains-there}
use Rattle.loop_check.specs.CycleRuns.{value_under}

-- ---- the order of routers tells cycles apart

order-total : IsTotalOrder cmp-value.it
order-total = laws.total-law

router-exact : (x y : RouterId) → cmp-value.it x y ≡ Equal → x ≡ y
router-exact x y h = same-router x y (exact_unsigned x.0 y.0 h)

less-equal : Less ≡ Equal → ⊥
less-equal h = cc

greater-equal : Greater ≡ Equal → ⊥
greater-equal h = cc

then-equal : (o p : Ordering) → ordering_then o p ≡ Equal → (o ≡ Equal) × (p ≡ Equal)
then-equal Less p h = absurd (less-equal h)
then-equal Equal p h = (refl, h)
then-equal Greater p h = absurd (greater-equal h)

is-equal : (o : Ordering) → is_eq o ≡ true → o ≡ Equal
is-equal Less h = absurd (false≢true h)
is-equal Equal h = refl
is-equal Greater h = absurd (false≢true h)

same-routers : (xs ys : List RouterId) → slice_cmp cmp-value.it xs ys ≡ Equal → xs ≡ ys
same-routers [] [] h = refl
same-routers [] (y ∷ ys) h = absurd (less-equal h)
same-routers (x ∷ xs) [] h = absurd (greater-equal h)
same-routers (x ∷ xs) (y ∷ ys) h =
    let p : (cmp-value.it x y ≡ Equal) × (slice_cmp cmp-value.it xs ys ≡ Equal) = then-equal (cmp-value.it x y) (slice_cmp cmp-value.it xs ys) h in
    ap (λ (v : RouterId). v ∷ xs) (router-exact x y p.0) ∙ ap (λ (vs : List RouterId). y ∷ vs) (same-routers xs ys p.1)

-- whether a key is of these routers
abbrev pub at : List RouterId → Vec RouterId → Bool
at rs k = is_eq (slice_cmp cmp-value.it rs k.items)

abbrev pub order_keys : Vec RouterId → Vec RouterId → Ordering
order_keys x y = slice_cmp cmp-value.it x.items y.items

at-yes : (rs : List RouterId) (k : Vec RouterId) → at rs k ≡ true → rs ≡ k.items
at-yes rs k h = same-routers rs k.items (is-equal (slice_cmp cmp-value.it rs k.items) h)

at-same : (rs : List RouterId) (k : Vec RouterId) → rs ≡ k.items → at rs k ≡ true
at-same rs k e = ap (λ (o : Ordering). is_eq o) (ap (λ (vs : List RouterId). slice_cmp cmp-value.it rs vs) (sym e) ∙ tied_itself (lists_total order-total) rs)

at-other : (rs : List RouterId) (k : Vec RouterId) → (rs ≡ k.items → ⊥) → at rs k ≡ false
at-other rs k n = false_from_ne_true (at rs k) (λ t. n (at-yes rs k t))

pub cases-routers : (xs ys : List RouterId) → (xs ≡ ys) ⊎ (xs ≡ ys → ⊥)
cases-routers xs ys = ⊎_elim
    (λ (t : is_eq (slice_cmp cmp-value.it xs ys) ≡ true). inl (same-routers xs ys (is-equal (slice_cmp cmp-value.it xs ys) t)))
    (λ (f : is_eq (slice_cmp cmp-value.it xs ys) ≡ false). inr (λ e. both_ways (is_eq (slice_cmp cmp-value.it xs ys)) f (ap (λ (o : Ordering). is_eq o) (ap (λ (vs : List RouterId). slice_cmp cmp-value.it xs vs) (sym e) ∙ tied_itself (lists_total order-total) xs))))
    (cases_Bool (is_eq (slice_cmp cmp-value.it xs ys)))

-- ---- look-ups

some-value : {X : Type 0} (x y : X) → Some x ≡ Some y → x ≡ y
some-value x y e = ap (λ o. unwrap_or o x) e

none-some : {X : Type 0} (x : X) → None ≡ Some x → ⊥
none-some x h = cc

module _ {K X : Type 0} where
  set-here : (test : K → Bool) (es : List (K × X)) (v w : X) → lookup test es ≡ Some v → lookup test (set_value test es w) ≡ Some w
  set-here test [] v w h = absurd (none-some v h)
  set-here test (e ∷ es) v w h = ⊎_elim
      (λ (t : test e.0 ≡ true).
      ap (λ (b : Bool). lookup test (cond b ((e.0, w) ∷ es) (e ∷ set_value test es w))) t
      ∙ ap (λ (b : Bool). cond b (Some w) (lookup test es)) t)
      (λ (f : test e.0 ≡ false).
      ap (λ (b : Bool). lookup test (cond b ((e.0, w) ∷ es) (e ∷ set_value test es w))) f
      ∙ ap (λ (b : Bool). cond b (Some e.1) (lookup test (set_value test es w))) f
      ∙ set-here test es v w (sym (ap (λ (b : Bool). cond b (Some e.1) (lookup test es)) f) ∙ h))
      (cases_Bool (test e.0))

  set-other : (test other : K → Bool) (es : List (K × X)) (w : X) → ((k : K) → test k ≡ true → other k ≡ false) → lookup other (set_value test es w) ≡ lookup other es
  set-other test other [] w h = refl
  set-other test other (e ∷ es) w h = ⊎_elim
      (λ (t : test e.0 ≡ true).
      ap (λ (b : Bool). lookup other (cond b ((e.0, w) ∷ es) (e ∷ set_value test es w))) t
      ∙ ap (λ (b : Bool). cond b (Some w) (lookup other es)) (h e.0 t)
      ∙ sym (ap (λ (b : Bool). cond b (Some e.1) (lookup other es)) (h e.0 t)))
      (λ (f : test e.0 ≡ false).
      ap (λ (b : Bool). lookup other (cond b ((e.0, w) ∷ es) (e ∷ set_value test es w))) f
      ∙ ap (λ (o : Option X). cond (other e.0) (Some e.1) o) (set-other test other es w h))
      (cases_Bool (test e.0))

  insert-here : (cmp : K → K → Ordering) (test : K → Bool) (es : List (K × X)) (key : K) (v : X) → test key ≡ true → ((k : K) → cmp key k ≡ Equal → test k ≡ true) → lookup test es ≡ None → lookup test (insert_entry cmp es key v) ≡ Some v
  insert-here cmp test [] key v t same h = ap (λ (b : Bool). cond b (Some v) None) t
  insert-here cmp test (e ∷ es) key v t same h = ⊎_elim
      (λ (y : test e.0 ≡ true). absurd (none-some e.1 (sym h ∙ ap (λ (b : Bool). cond b (Some e.1) (lookup test es)) y)))
      (λ (f : test e.0 ≡ false). put (insert-here cmp test es key v t same (sym (ap (λ (b : Bool). cond b (Some e.1) (lookup test es)) f) ∙ h)) f (cmp key e.0) refl)
      (cases_Bool (test e.0))
    where
      put : lookup test (insert_entry cmp es key v) ≡ Some v → test e.0 ≡ false → (o : Ordering) → cmp key e.0 ≡ o → lookup test (insert_entry cmp (e ∷ es) key v) ≡ Some v
      put rest f Less is =
          ap (λ (o : Ordering). lookup test (match_ordering o ((key, v) ∷ e ∷ es) ((e.0, v) ∷ es) (e ∷ insert_entry cmp es key v))) is
          ∙ ap (λ (b : Bool). cond b (Some v) (lookup test (e ∷ es))) t
      put rest f Equal is = absurd (both_ways (test e.0) f (same e.0 is))
      put rest f Greater is =
          ap (λ (o : Ordering). lookup test (match_ordering o ((key, v) ∷ e ∷ es) ((e.0, v) ∷ es) (e ∷ insert_entry cmp es key v))) is
          ∙ ap (λ (b : Bool). cond b (Some e.1) (lookup test (insert_entry cmp es key v))) f
          ∙ rest

  insert-other : (cmp : K → K → Ordering) (other : K → Bool) (es : List (K × X)) (key : K) (v : X) → other key ≡ false → ((k : K) → cmp key k ≡ Equal → other k ≡ false) → lookup other (insert_entry cmp es key v) ≡ lookup other es
  insert-other cmp other [] key v f same = ap (λ (b : Bool). cond b (Some v) None) f
  insert-other cmp other (e ∷ es) key v f same = put (insert-other cmp other es key v f same) (cmp key e.0) refl
    where
      put : lookup other (insert_entry cmp es key v) ≡ lookup other es → (o : Ordering) → cmp key e.0 ≡ o → lookup other (insert_entry cmp (e ∷ es) key v) ≡ lookup other (e ∷ es)
      put rest Less is =
          ap (λ (o : Ordering). lookup other (match_ordering o ((key, v) ∷ e ∷ es) ((e.0, v) ∷ es) (e ∷ insert_entry cmp es key v))) is
          ∙ ap (λ (b : Bool). cond b (Some v) (lookup other (e ∷ es))) f
      put rest Equal is =
          ap (λ (o : Ordering). lookup other (match_ordering o ((key, v) ∷ e ∷ es) ((e.0, v) ∷ es) (e ∷ insert_entry cmp es key v))) is
          ∙ ap (λ (b : Bool). cond b (Some v) (lookup other es)) (same e.0 is)
          ∙ sym (ap (λ (b : Bool). cond b (Some e.1) (lookup other es)) (same e.0 is))
      put rest Greater is =
          ap (λ (o : Ordering). lookup other (match_ordering o ((key, v) ∷ e ∷ es) ((e.0, v) ∷ es) (e ∷ insert_entry cmp es key v))) is
          ∙ ap (λ (o : Option X). cond (other e.0) (Some e.1) o) rest

-- ---- what is under routers

apart-at : (rs others : List RouterId) → (rs ≡ others → ⊥) → (k : Vec RouterId) → at rs k ≡ true → at others k ≡ false
apart-at rs others n k t = at-other others k (λ e. n (at-yes rs k t ∙ sym e))

pub under-none : {X : Type 0} (rs : List RouterId) (runs : X) → value_under [] rs ≡ Some runs → ⊥
unfolding value_under
under-none {X} rs runs h = none-some runs h

-- what a look-up by routers gave
pub found-under : {X : Type 0} (known : List (Vec RouterId × X)) (rs seen : List RouterId) (r : Option (MutBor X)) (runs : MutBor X) → seen ≡ rs → r ≡ Some runs → option_copied_mut r ≡ lookup (at seen) known → value_under known rs ≡ Some runs.now
unfolding value_under
found-under {X} known rs seen r runs e is value =
    sym (ap (λ (v : List RouterId). lookup (at v) known) e) ∙ sym value ∙ ap (λ (o : Option (MutBor X)). option_copied_mut o) is

pub missed-under : {X : Type 0} (known : List (Vec RouterId × X)) (rs seen : List RouterId) (r : Option (MutBor X)) → seen ≡ rs → r ≡ None → option_copied_mut r ≡ lookup (at seen) known → value_under known rs ≡ None
unfolding value_under
missed-under {X} known rs seen r e is value =
    sym (ap (λ (v : List RouterId). lookup (at v) known) e) ∙ sym value ∙ ap (λ (o : Option (MutBor X)). option_copied_mut o) is

pub set-under : {X : Type 0} (known new : List (Vec RouterId × X)) (rs : List RouterId) (was now : X) → value_under known rs ≡ Some was → new ≡ set_value (at rs) known now → value_under new rs ≡ Some now
unfolding value_under
set-under {X} known new rs was now h e = ap (λ (es : List (Vec RouterId × X)). lookup (at rs) es) e ∙ set-here (at rs) known was now h

pub set-under_other : {X : Type 0} (known new : List (Vec RouterId × X)) (rs others : List RouterId) (now : X) → new ≡ set_value (at rs) known now → (rs ≡ others → ⊥) → value_under new others ≡ value_under known others
unfolding value_under
set-under_other {X} known new rs others now e n = ap (λ (es : List (Vec RouterId × X)). lookup (at others) es) e ∙ set-other (at rs) (at others) known now (apart-at rs others n)

pub insert-under : {X : Type 0} (known new : List (Vec RouterId × X)) (rs : List RouterId) (key : Vec RouterId) (now : X) → value_under known rs ≡ None → key.items ≡ rs → new ≡ insert_entry order_keys known key now → value_under new rs ≡ Some now
unfolding value_under
insert-under {X} known new rs key now h is e =
    ap (λ (es : List (Vec RouterId × X)). lookup (at rs) es) e
    ∙ insert-here order_keys (at rs) known key now (at-same rs key (sym is)) (λ k q. at-same rs k (sym is ∙ same-routers key.items k.items q)) h

pub insert-under_other : {X : Type 0} (known new : List (Vec RouterId × X)) (rs others : List RouterId) (key : Vec RouterId) (now : X) → key.items ≡ rs → new ≡ insert_entry order_keys known key now → (rs ≡ others → ⊥) → value_under new others ≡ value_under known others
unfolding value_under
insert-under_other {X} known new rs others key now is e n =
    ap (λ (es : List (Vec RouterId × X)). lookup (at others) es) e
    ∙ insert-other order_keys (at others) known key now (at-other others key (λ q. n (sym is ∙ sym q))) (λ k q. at-other others k (λ f. n (sym is ∙ same-routers key.items k.items q ∙ sym f)))

-- ---- entries

-- an entry of these routers
pub record HasEntry {X : Type 0} (known : List (Vec RouterId × X)) (routers : List RouterId) : Type 0 where
  pub one : Vec RouterId × X
  pub among : Contains known one
  pub is : one.0.items ≡ routers

pub entry-of : {X : Type 0} (known : List (Vec RouterId × X)) (rs : List RouterId) (runs : X) → value_under known rs ≡ Some runs → HasEntry known rs
unfolding value_under
entry-of {X} [] rs runs h = absurd (none-some runs h)
entry-of {X} (e ∷ es) rs runs h = ⊎_elim
    (λ (t : at rs e.0 ≡ true). record { one = e; among = contains-here e es; is = sym (at-yes rs e.0 t) })
    (λ (f : at rs e.0 ≡ false).
    let k : HasEntry es rs = entry-of es rs runs (sym (ap (λ (b : Bool). cond b (Some e.1) (lookup (at rs) es)) f) ∙ h) in
    record { one = k.one; among = contains-there e k.one es k.among; is = k.is })
    (cases_Bool (at rs e.0))

-- no two entries are of the same routers
abbrev pub AreOnce : {X : Type 0} → List (Vec RouterId × X) → Type 0
AreOnce known = IsDistinct (eq_by_cmp order_keys) (keys_of known)

pub once-from_sorted : {X : Type 0} (known : List (Vec RouterId × X)) → IsStrictlySortedBy order_keys (keys_of known) → AreOnce known
once-from_sorted {X} known h = IsDistinct-from_sorted order_keys (keys_of known) h

all-keys : {X : Type 0} (P : Vec RouterId → Type 0) (es : List (Vec RouterId × X)) (e : Vec RouterId × X) → AllByRecursion P (keys_of es) → Contains es e → P e.0
all-keys {X} P [] e h i = absurd (contains-none e i)
all-keys {X} P (x ∷ es) e h i = ⊎_elim
    (λ (same : x ≡ e). let Q : Vec RouterId × X → Type 0 = λ v. P v.0 in subst Q same h.0)
    (λ (j : Contains es e). all-keys P es e h.1 j)
    (contains-cases x e es i)

-- the first entry is of other routers than those after it
pub once-first : {X : Type 0} (x e : Vec RouterId × X) (es : List (Vec RouterId × X)) → AreOnce (x ∷ es) → Contains es e → x.0.items ≡ e.0.items → ⊥
once-first {X} x e es h i same =
    let Other : Vec RouterId → Type 0 = λ k. at x.0.items k ≡ false in
    both_ways (at x.0.items e.0) (all-keys Other es e (IsDistinct-head (eq_by_cmp order_keys) x.0 (keys_of es) h) i) (at-same x.0.items e.0 same)

pub once-rest : {X : Type 0} (x : Vec RouterId × X) (es : List (Vec RouterId × X)) → AreOnce (x ∷ es) → AreOnce es
once-rest {X} x es h = IsDistinct-tail (eq_by_cmp order_keys) x.0 (keys_of es) h

pub under-entry : {X : Type 0} (known : List (Vec RouterId × X)) (e : Vec RouterId × X) → AreOnce known → Contains known e → value_under known e.0.items ≡ Some e.1
unfolding value_under
under-entry {X} [] e h i = absurd (contains-none e i)
under-entry {X} (x ∷ es) e h i = ⊎_elim
    (λ (same : x ≡ e).
    ap (λ (b : Bool). cond b (Some x.1) (lookup (at e.0.items) es)) (at-same e.0.items x.0 (ap (λ (v : Vec RouterId × X). v.0.items) (sym same)))
    ∙ ap (λ (v : Vec RouterId × X). Some v.1) same)
    (λ (j : Contains es e).
    ap (λ (b : Bool). cond b (Some x.1) (lookup (at e.0.items) es)) (at-other e.0.items x.0 (λ same. once-first x e es h j (sym same)))
    ∙ under-entry es e (once-rest x es h) j)
    (contains-cases x e es i)
