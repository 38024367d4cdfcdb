-- Segments cut at addresses, and changed between them.
use Rattle.std.proofs.Common.{◌≡◌, ℕ, zero, suc, ◌+◌, ◌-◌, ◌<◌, ◌≤◌, ◌^◌, ◌⊎◌, ◌∙◌, Bool, true, false, cond, List, [], ◌∷◌, ◌++◌, length, get_or, set, refl, ap, sym, subst, inl, inr, ⊎_elim, arith}
use Rattle.std.specs.List.{Contains, list_any}
use Rattle.std.proofs.lemmas.Bool.{both_ways, cases_Bool, cases_eq, cases_lt, cases_order}
use Rattle.std.proofs.lemmas.List.{get_or-set_other, get_or-set_same, get_or_default, length-set}
use Rattle.std.proofs.lemmas.List.Edits.{get_or-insert_above, get_or-insert_at, get_or-insert_below, length-insert}
use Rattle.std.proofs.lemmas.List.Folds.{list_any_at}
use Rattle.std.proofs.lemmas.List.Elements.{Contains-append_left, Contains-push, Contains-push_cases}
use Rattle.base.specs.declared.ids.RouterId.{RouterId}
use Rattle.base.proofs.Elements.{contains-cases, contains-here, contains-none, contains-there}
use Rattle.loop_check.specs.Following.{is_among}
use Rattle.loop_keeper.specs.Edits.{AreChangedTo, AreChangedWithin, Begins, Brings, IsChangedBy, IsCut, IsInserted, Keeps, cycles_without}
use Rattle.loop_keeper.specs.Kept.{AreSegments, HasKept, IsAt, IsOnce, Kept}
use Rattle.loop_keeper.specs.declared.segment.Edit.{Edit}
use Rattle.loop_keeper.specs.declared.segment.Edit.TheVariants.{Without, With}
use Rattle.version_pages.specs.Search.{EndsBelow}

abbrev pub low_of : Kept → ℕ
low_of k = k.low

abbrev pub some_kept : Kept
some_kept = record { low = 0; cycles = [] }

-- ---- the cycles of one segment

once-push : (xs : List (List RouterId)) (c : List RouterId) → IsOnce xs → (Contains xs c → ⊥) → IsOnce (xs ++ c ∷ [])
once-push [] c h n = ((λ m. absurd (contains-none c m)), tt)
once-push (x ∷ xs) c h n = (
  (λ m. ⊎_elim
      (λ (k : Contains xs x). h.0 k)
      (λ (e : c ≡ x). let P : List RouterId → Type 0 = λ v. Contains (x ∷ xs) v in n (subst P (sym e) (contains-here x xs)))
      (Contains-push_cases xs c x m)),
  once-push xs c h.1 (λ m. n (contains-there x c xs m)),
)

pub with-there : (one : List RouterId) (old new : List (List RouterId)) → Contains old one → new ≡ old → IsChangedBy (With one) old new
with-there one old new m e =
    let P : List (List RouterId) → Type 0 = λ v. IsChangedBy (With one) old v in
    let Q : List RouterId → Type 0 = λ v. Contains old v in
    subst P (sym e) (record { once = λ h. h; only = λ rs i. inl (i, tt); kept = λ rs i k. i; here = λ rs b. subst Q b m })

pub with-new : (one : List RouterId) (old new : List (List RouterId)) → (Contains old one → ⊥) → new ≡ old ++ one ∷ [] → IsChangedBy (With one) old new
with-new one old new n e =
    let P : List (List RouterId) → Type 0 = λ v. IsChangedBy (With one) old v in
    let Q : List RouterId → Type 0 = λ v. Contains (old ++ one ∷ []) v in
    subst P (sym e) (record {
      once = λ h. once-push old one h n;
      only = λ rs i. ⊎_elim (λ (o : Contains old rs). inl (o, tt)) (λ (s : one ≡ rs). inr s) (Contains-push_cases old one rs i);
      kept = λ rs i k. Contains-append_left old (one ∷ []) rs i;
      here = λ rs b. subst Q b (Contains-push old one);
    })

without-only : (r : RouterId) (old : List (List RouterId)) (rs : List RouterId) → Contains (cycles_without r old) rs → Contains old rs × (is_among rs r ≡ false)
without-only r [] rs m = absurd (contains-none rs m)
without-only r (x ∷ xs) rs m = ⊎_elim
    (λ (t : is_among x r ≡ true).
    let P : List (List RouterId) → Type 0 = λ v. Contains v rs in
    let k = without-only r xs rs (subst P (ap (λ (b : Bool). cond b [] (x ∷ []) ++ cycles_without r xs) t) m) in
    (contains-there x rs xs k.0, k.1))
    (λ (f : is_among x r ≡ false).
    let P : List (List RouterId) → Type 0 = λ v. Contains v rs in
    let Q : List RouterId → Type 0 = λ v. Contains (x ∷ xs) v × (is_among v r ≡ false) in
    ⊎_elim
    (λ (e : x ≡ rs). subst Q e (contains-here x xs, f))
    (λ (n : Contains (cycles_without r xs) rs). let k = without-only r xs rs n in (contains-there x rs xs k.0, k.1))
    (contains-cases x rs (cycles_without r xs) (subst P (ap (λ (b : Bool). cond b [] (x ∷ []) ++ cycles_without r xs) f) m)))
    (cases_Bool (is_among x r))

without-kept : (r : RouterId) (old : List (List RouterId)) (rs : List RouterId) → Contains old rs → is_among rs r ≡ false → Contains (cycles_without r old) rs
without-kept r [] rs m k = absurd (contains-none rs m)
without-kept r (x ∷ xs) rs m k = ⊎_elim
    (λ (e : x ≡ rs).
    let P : List (List RouterId) → Type 0 = λ v. Contains v rs in
    let Q : List RouterId → Type 0 = λ v. Contains (x ∷ cycles_without r xs) v in
    let A : List RouterId → Type 0 = λ v. is_among v r ≡ false in
    subst P (sym (ap (λ (b : Bool). cond b [] (x ∷ []) ++ cycles_without r xs) (subst A (sym e) k))) (subst Q e (contains-here x (cycles_without r xs))))
    (λ (n : Contains xs rs). there (without-kept r xs rs n k))
    (contains-cases x rs xs m)
  where
    there : Contains (cycles_without r xs) rs → Contains (cycles_without r (x ∷ xs)) rs
    there n = (
        let P : List (List RouterId) → Type 0 = λ v. Contains v rs in
        ⊎_elim
        (λ (t : is_among x r ≡ true). subst P (sym (ap (λ (b : Bool). cond b [] (x ∷ []) ++ cycles_without r xs) t)) n)
        (λ (f : is_among x r ≡ false). subst P (sym (ap (λ (b : Bool). cond b [] (x ∷ []) ++ cycles_without r xs) f)) (contains-there x rs (cycles_without r xs) n))
        (cases_Bool (is_among x r)))

without-once : (r : RouterId) (old : List (List RouterId)) → IsOnce old → IsOnce (cycles_without r old)
without-once r [] h = tt
without-once r (x ∷ xs) h =
    let P : List (List RouterId) → Type 0 = λ v. IsOnce v in
    ⊎_elim
    (λ (t : is_among x r ≡ true). subst P (sym (ap (λ (b : Bool). cond b [] (x ∷ []) ++ cycles_without r xs) t)) (without-once r xs h.1))
    (λ (f : is_among x r ≡ false). subst P (sym (ap (λ (b : Bool). cond b [] (x ∷ []) ++ cycles_without r xs) f)) ((λ m. h.0 (without-only r xs x m).0), without-once r xs h.1))
    (cases_Bool (is_among x r))

pub without-changed : (r : RouterId) (old new : List (List RouterId)) → new ≡ cycles_without r old → IsChangedBy (Without r) old new
without-changed r old new e =
    let P : List (List RouterId) → Type 0 = λ v. IsChangedBy (Without r) old v in
    subst P (sym e) (record {
      once = without-once r old;
      only = λ rs m. inl (without-only r old rs m);
      kept = without-kept r old;
      here = λ rs b. absurd b;
    })

-- none of the cycles passes a test that none of them all passes
pub any-none : {X : Type 0} (p : X → Bool) (xs : List X) (x : X) → list_any p xs ≡ false → Contains xs x → p x ≡ false
any-none p xs x h i = ⊎_elim
    (λ (t : p x ≡ true).
    let at : p (get_or xs i.0 x) ≡ true = ap p i.2 ∙ t in
    absurd (both_ways (list_any p xs) h (list_any_at p xs i.0 x i.1 at)))
    (λ (t : p x ≡ false). t)
    (cases_Bool (p x))

-- ---- the segment of an address

pub rise-le : (kept : List Kept) (i j : ℕ) (d : Kept) → AreSegments kept → i ≤ j → j < length kept → (get_or kept i d).low ≤ (get_or kept j d).low
rise-le kept i j d form l b = ⊎_elim
    (λ (m : i < j). let r : (get_or kept i d).low < (get_or kept j d).low = form.rise i j d m b in omega arith)
    (λ (m : j ≤ i).
    let same : i ≡ j = omega arith in
    let e : (get_or kept i d).low ≡ (get_or kept j d).low = ap (λ (n : ℕ). (get_or kept n d).low) same in
    omega arith)
    (cases_lt i j)

apart : (kept : List Kept) (i j a : ℕ) → AreSegments kept → IsAt kept i a → IsAt kept j a → i < j → ⊥
apart kept i j a form x y l =
    let inside : j < length kept = y.inside in
    let to : a < (get_or kept (i + 1) some_kept).low = x.to some_kept (omega arith) in
    let rise : (get_or kept (i + 1) some_kept).low ≤ (get_or kept j some_kept).low = rise-le kept (i + 1) j some_kept form (omega arith) inside in
    let from : (get_or kept j some_kept).low ≤ a = y.from some_kept in
    let z : ⊥ = omega arith in
    z

pub one-place : (kept : List Kept) (i j a : ℕ) → AreSegments kept → IsAt kept i a → IsAt kept j a → i ≡ j
one-place kept i j a form x y = ⊎_elim
    (λ (e : i ≡ j). e)
    (λ (o : (i < j) ⊎ (j < i)). ⊎_elim (λ (l : i < j). absurd (apart kept i j a form x y l)) (λ (l : j < i). absurd (apart kept j i a form y x l)) o)
    (cases_order i j)

pub record HasPlace (kept : List Kept) (a : ℕ) : Type 0 where
  pub place : ℕ
  pub at : IsAt kept place a

place-from : (n : ℕ) (kept : List Kept) (q a : ℕ) → q < length kept → length kept ≤ q + n → (get_or kept q some_kept).low ≤ a → HasPlace kept a
place-from zero kept q a l m from = absurd (omega arith)
place-from (suc n) kept q a l m from =
    let low : (d : Kept) → (get_or kept q d).low ≤ a = λ d.
    let e : (get_or kept q d).low ≡ (get_or kept q some_kept).low = ap (λ (v : Kept). v.low) (get_or_default kept q d some_kept l) in
    omega arith in
    ⊎_elim
    (λ (x : q + 1 < length kept). ⊎_elim
    (λ (t : a < (get_or kept (q + 1) some_kept).low). record {
      place = q;
      at = record {
        inside = l;
        from = low;
        to = λ d k.
            let e : (get_or kept (q + 1) d).low ≡ (get_or kept (q + 1) some_kept).low = ap (λ (v : Kept). v.low) (get_or_default kept (q + 1) d some_kept x) in
            omega arith;
      };
    })
    (λ (t : (get_or kept (q + 1) some_kept).low ≤ a). place-from n kept (q + 1) a x (omega arith) t)
    (cases_lt a (get_or kept (q + 1) some_kept).low))
    (λ (x : length kept ≤ q + 1). record { place = q; at = record { inside = l; from = low; to = λ d k. absurd (omega arith) } })
    (cases_lt (q + 1) (length kept))

pub place-of : (kept : List Kept) (low a : ℕ) → Begins kept low → low ≤ a → HasPlace kept a
place-of kept low a b l =
    let e : (get_or kept b.place some_kept).low ≡ low = b.is some_kept in
    place-from (length kept) kept b.place a b.inside (omega arith) (omega arith)

at-same : (old new : List Kept) (p a : ℕ) → length new ≡ length old → ((k : ℕ) (d : Kept) → (get_or new k d).low ≡ (get_or old k d).low) → IsAt old p a → IsAt new p a
at-same old new p a long low at = record {
  inside = (let i : p < length old = at.inside in let j : p < length new = omega arith in j);
  from = λ d. (let f : (get_or old p d).low ≤ a = at.from d in let e : (get_or new p d).low ≡ (get_or old p d).low = low p d in omega arith);
  to = λ d l. (let f : a < (get_or old (p + 1) d).low = at.to d (omega arith) in let e : (get_or new (p + 1) d).low ≡ (get_or old (p + 1) d).low = low (p + 1) d in omega arith);
}

-- ---- changed between two addresses

pub changed-none : (edit : Edit) (first : ℕ) (old : List Kept) → AreChangedTo edit first first old old
changed-none edit first old = record { long = refl; low = λ k d. refl; before = λ k d l. refl; after = λ k d l. refl; here = λ k d f p l. absurd (omega arith) }

pub changed-beyond : (edit : Edit) (place : ℕ) (old : List Kept) → length old ≤ place → AreChangedTo edit place (place + 1) old old
changed-beyond edit place old b = record { long = refl; low = λ k d. refl; before = λ k d l. refl; after = λ k d l. refl; here = λ k d f p l. absurd (omega arith) }

pub changed-one : (edit : Edit) (place : ℕ) (one : Kept) (old new : List Kept) → place < length old → ((d : Kept) → one.low ≡ (get_or old place d).low) → ((d : Kept) → IsChangedBy edit (get_or old place d).cycles one.cycles) → new ≡ set old place one → AreChangedTo edit place (place + 1) old new
changed-one edit place one old new l low by e =
    let P : List Kept → Type 0 = λ v. AreChangedTo edit place (place + 1) old v in
    let here : (d : Kept) → get_or (set old place one) place d ≡ one = λ d. get_or-set_same old place one d l in
    let there : (i : ℕ) (d : Kept) → (i ≡ place → ⊥) → get_or (set old place one) i d ≡ get_or old i d = λ i d o. get_or-set_other old place i one d o in
    subst P (sym e) (record {
      long = length-set old place one;
      low = λ k d. ⊎_elim
          (λ (s : k ≡ place). ap (λ (n : ℕ). (get_or (set old place one) n d).low) s ∙ ap (λ (v : Kept). v.low) (here d) ∙ low d ∙ sym (ap (λ (n : ℕ). (get_or old n d).low) s))
          (λ (o : k ≡ place → ⊥). ap (λ (v : Kept). v.low) (there k d o))
          (cases_eq k place);
      before = λ k d b. there k d (λ s. let z : ⊥ = omega arith in z);
      after = λ k d b. there k d (λ s. let z : ⊥ = omega arith in z);
      here = λ k d f b i.
          let s : place ≡ k = omega arith in
          let Q : List (List RouterId) → Type 0 = λ v. IsChangedBy edit (get_or old place d).cycles v in
          let R : ℕ → Type 0 = λ n. IsChangedBy edit (get_or old n d).cycles (get_or (set old place one) n d).cycles in
          subst R s (subst Q (sym (ap (λ (v : Kept). v.cycles) (here d))) (by d));
    })

pub changed-next : (edit : Edit) (first k : ℕ) (old now new : List Kept) → first ≤ k → AreChangedTo edit first k old now → AreChangedTo edit k (k + 1) now new → AreChangedTo edit first (k + 1) old new
changed-next edit first k old now new l x y = record {
  long = y.long ∙ x.long;
  low = λ j d. y.low j d ∙ x.low j d;
  before = λ j d b. y.before j d (omega arith) ∙ x.before j d b;
  after = λ j d b. y.after j d b ∙ x.after j d (omega arith);
  here = λ j d f b i. ⊎_elim
      (λ (m : j < k).
      let P : List (List RouterId) → Type 0 = λ v. IsChangedBy edit (get_or old j d).cycles v in
      subst P (sym (ap (λ (v : Kept). v.cycles) (y.before j d m))) (x.here j d f m i))
      (λ (m : k ≤ j).
      let P : List (List RouterId) → Type 0 = λ v. IsChangedBy edit v (get_or new j d).cycles in
      let long : length now ≡ length old = x.long in
      subst P (ap (λ (v : Kept). v.cycles) (x.after j d m)) (y.here j d m b (omega arith)))
      (cases_lt j k);
}

-- changed up to where the places end
pub changed-end : (edit : Edit) (first place end : ℕ) (old new : List Kept) → end ≤ place → (first ≤ end → place ≤ end) → (end ≤ first → place ≤ first) → AreChangedTo edit first place old new → AreChangedTo edit first end old new
changed-end edit first place end old new l to still h = record {
  long = h.long;
  low = h.low;
  before = h.before;
  after = λ k d b. ⊎_elim
      (λ (m : k < first). h.before k d m)
      (λ (m : first ≤ k). ⊎_elim
      (λ (n : first < end). let p : place ≤ end = to (omega arith) in h.after k d (omega arith))
      (λ (n : end ≤ first). let p : place ≤ first = still n in h.after k d (omega arith))
      (cases_lt first end))
      (cases_lt k first);
  here = λ k d f b i. h.here k d f (omega arith) i;
}

side-below : (kept : List Kept) (at n p a : ℕ) → AreSegments kept → EndsBelow low_of kept at n → (at < 2 ^ 32 → Begins kept at) → a < 2 ^ 32 → p < n → IsAt kept p a → a < at
side-below kept at n p a form ends begins b l is = ⊎_elim
    (λ (small : at < 2 ^ 32).
    let begin : Begins kept at = begins small in
    let q : ℕ = begin.place in
    let bound : n ≤ length kept = ends.inside in
    let inside : begin.place < length kept = begin.inside in
    let low : (get_or kept begin.place some_kept).low ≡ at = begin.is some_kept in
    let last : (get_or kept (n - 1) some_kept).low < at = ends.before some_kept (omega arith) in
    let mine : (get_or kept p some_kept).low ≤ (get_or kept (n - 1) some_kept).low = rise-le kept p (n - 1) some_kept form (omega arith) (omega arith) in
    ⊎_elim
    (λ (m : p < begin.place).
    let next : (get_or kept (p + 1) some_kept).low ≤ (get_or kept begin.place some_kept).low = rise-le kept (p + 1) begin.place some_kept form (omega arith) inside in
    let to : a < (get_or kept (p + 1) some_kept).low = is.to some_kept (omega arith) in
    omega arith)
    (λ (m : begin.place ≤ p).
    let before : (get_or kept begin.place some_kept).low ≤ (get_or kept p some_kept).low = rise-le kept begin.place p some_kept form m is.inside in
    absurd (omega arith))
    (cases_lt p begin.place))
    (λ (large : 2 ^ 32 ≤ at). omega arith)
    (cases_lt at (2 ^ 32))

pub side-from : (kept : List Kept) (at n p a : ℕ) → AreSegments kept → EndsBelow low_of kept at n → n ≤ p → IsAt kept p a → at ≤ a
side-from kept at n p a form ends l is =
    let inside : p < length kept = is.inside in
    let first : at ≤ (get_or kept n some_kept).low = ends.after some_kept (omega arith) in
    let rise : (get_or kept n some_kept).low ≤ (get_or kept p some_kept).low = rise-le kept n p some_kept form l inside in
    let from : (get_or kept p some_kept).low ≤ a = is.from some_kept in
    omega arith

changed-form : (edit : Edit) (first end : ℕ) (old new : List Kept) → AreSegments old → AreChangedTo edit first end old new → AreSegments new
changed-form edit first end old new form h =
    let long : length new ≡ length old = h.long in
    record {
      rise = λ i j d l b.
          let r : (get_or old i d).low < (get_or old j d).low = form.rise i j d l (omega arith) in
          let x : (get_or new i d).low ≡ (get_or old i d).low = h.low i d in
          let y : (get_or new j d).low ≡ (get_or old j d).low = h.low j d in
          omega arith;
      below = λ i d b.
          let r : (get_or old i d).low < 2 ^ 32 = form.below i d (omega arith) in
          let x : (get_or new i d).low ≡ (get_or old i d).low = h.low i d in
          omega arith;
      once = λ i d b.
          let was : IsOnce (get_or old i d).cycles = form.once i d (omega arith) in
          let P : Kept → Type 0 = λ v. IsOnce v.cycles in
          ⊎_elim
          (λ (m : i < first). subst P (sym (h.before i d m)) was)
          (λ (m : first ≤ i). ⊎_elim
          (λ (n : i < end). (h.here i d m n (omega arith)).once was)
          (λ (n : end ≤ i). subst P (sym (h.after i d n)) was)
          (cases_lt i end))
          (cases_lt i first);
    }

pub changed-within : (edit : Edit) (low past first end : ℕ) (old new : List Kept) → AreSegments old → EndsBelow low_of old low first → EndsBelow low_of old past end → (low < 2 ^ 32 → Begins old low) → (past < 2 ^ 32 → Begins old past) → AreChangedTo edit first end old new → AreChangedWithin edit low past old new
changed-within edit low past first end old new form from to begins ends h =
    let back : (p a : ℕ) → IsAt new p a → IsAt old p a = λ p a is. at-same new old p a (sym h.long) (λ k d. sym (h.low k d)) is in
    let on : (p a : ℕ) → IsAt old p a → IsAt new p a = λ p a is. at-same old new p a h.long h.low is in
    record {
      form = changed-form edit first end old new form h;
      only = λ rs a b has.
          let is : IsAt old has.place a = back has.place a has.at in
          let P : List RouterId → Kept → Type 0 = λ v k. Contains k.cycles v in
          ⊎_elim
          (λ (m : has.place < first). inl (
            record { place = has.place; at = is; among = λ d. subst (P rs) (h.before has.place d m) (has.among d) },
            (λ f t.
                let l : a < low = side-below old low first has.place a form from begins b m is in
                absurd (omega arith)),
          ))
          (λ (m : first ≤ has.place). ⊎_elim
          (λ (n : has.place < end).
          let by : IsChangedBy edit (get_or old has.place some_kept).cycles (get_or new has.place some_kept).cycles = h.here has.place some_kept m n is.inside in
          let l : low ≤ a = side-from old low first has.place a form from m is in
          let r : a < past = side-below old past end has.place a form to ends b n is in
          ⊎_elim
          (λ (o : Contains (get_or old has.place some_kept).cycles rs × Keeps edit rs). inl (
            record { place = has.place; at = is; among = λ d. subst (P rs) (get_or_default old has.place some_kept d is.inside) o.0 },
            (λ f t. o.1),
          ))
          (λ (o : Brings edit rs). inr (o, l, r))
          (by.only rs (has.among some_kept)))
          (λ (n : end ≤ has.place). inl (
            record { place = has.place; at = is; among = λ d. subst (P rs) (h.after has.place d n) (has.among d) },
            (λ f t.
                let l : past ≤ a = side-from old past end has.place a form to n is in
                absurd (omega arith)),
          ))
          (cases_lt has.place end))
          (cases_lt has.place first);
      kept = λ rs a b has keeps.
          let is : IsAt old has.place a = has.at in
          let there : IsAt new has.place a = on has.place a is in
          let P : List RouterId → Kept → Type 0 = λ v k. Contains k.cycles v in
          ⊎_elim
          (λ (m : has.place < first). record { place = has.place; at = there; among = λ d. subst (P rs) (sym (h.before has.place d m)) (has.among d) })
          (λ (m : first ≤ has.place). ⊎_elim
          (λ (n : has.place < end).
          let l : low ≤ a = side-from old low first has.place a form from m is in
          let r : a < past = side-below old past end has.place a form to ends b n is in
          record { place = has.place; at = there; among = λ d. (h.here has.place d m n is.inside).kept rs (has.among d) (keeps l r) })
          (λ (n : end ≤ has.place). record { place = has.place; at = there; among = λ d. subst (P rs) (sym (h.after has.place d n)) (has.among d) })
          (cases_lt has.place end))
          (cases_lt has.place first);
      here = λ rs a b brings l r.
          let p : HasPlace old a = place-of old low a (begins (omega arith)) l in
          let m : first ≤ p.place = ⊎_elim
          (λ (x : p.place < first). let y : a < low = side-below old low first p.place a form from begins b x p.at in absurd (omega arith))
          (λ (x : first ≤ p.place). x)
          (cases_lt p.place first) in
          let n : p.place < end = ⊎_elim
          (λ (x : p.place < end). x)
          (λ (x : end ≤ p.place). let y : past ≤ a = side-from old past end p.place a form to x p.at in absurd (omega arith))
          (cases_lt p.place end) in
          record { place = p.place; at = on p.place a p.at; among = λ d. (h.here p.place d m n p.at.inside).here rs brings };
    }

-- ---- a cut

pub cut-none : (at : ℕ) (old : List Kept) → AreSegments old → (at < 2 ^ 32 → Begins old at) → IsCut at old old
cut-none at old form begins = record { form = form; begins = begins; still = λ b h. h; only = λ rs a h. h; kept = λ rs a h. h }

pub cut-there : (at place : ℕ) (old : List Kept) → AreSegments old → place < length old → ((d : Kept) → (get_or old place d).low ≡ at) → IsCut at old old
cut-there at place old form l is = cut-none at old form (λ b. record { place = place; inside = l; is = is })

module _ (at n : ℕ) (old new : List Kept) (form : AreSegments old) (ends : EndsBelow low_of old at n) (other : (d : Kept) → n < length old → (get_or old n d).low ≡ at → ⊥) (small : at < 2 ^ 32) (h : IsInserted n at old new) where
  bound : n ≤ length old
  bound = ends.inside

  long : length new ≡ length old + 1
  long = ap (λ (v : List Kept). length v) h.is ∙ length-insert old n h.one bound

  low-part : (k : ℕ) (d : Kept) → k < n → get_or new k d ≡ get_or old k d
  low-part k d l = ap (λ (v : List Kept). get_or v k d) h.is ∙ get_or-insert_below old n h.one d k l bound

  middle : (d : Kept) → get_or new n d ≡ h.one
  middle d = ap (λ (v : List Kept). get_or v n d) h.is ∙ get_or-insert_at old n h.one d bound

  middle-low : (d : Kept) → (get_or new n d).low ≡ at
  middle-low d = ap (λ (v : Kept). v.low) (middle d) ∙ h.low

  high-part : (k : ℕ) (d : Kept) → n ≤ k → get_or new (k + 1) d ≡ get_or old k d
  high-part k d l = ap (λ (v : List Kept). get_or v (k + 1) d) h.is ∙ get_or-insert_above old n h.one d k l bound

  above : (k : ℕ) (d : Kept) → n ≤ k → k < length old → at < (get_or old k d).low
  above k d l b =
      let first : at ≤ (get_or old n d).low = ends.after d (omega arith) in
      let rise : (get_or old n d).low ≤ (get_or old k d).low = rise-le old n k d form l b in
      ⊎_elim
      (λ (e : (get_or old n d).low ≡ at). absurd (other d (omega arith) e))
      (λ (e : (get_or old n d).low ≡ at → ⊥). omega arith)
      (cases_eq (get_or old n d).low at)

  below-at : (k : ℕ) (d : Kept) → k < n → (get_or old k d).low < at
  below-at k d l =
      let last : (get_or old (n - 1) d).low < at = ends.before d (omega arith) in
      let b : n ≤ length old = bound in
      let rise : (get_or old k d).low ≤ (get_or old (n - 1) d).low = rise-le old k (n - 1) d form (omega arith) (omega arith) in
      omega arith

  higher : (j : ℕ) (d : Kept) → n < j → get_or new j d ≡ get_or old (j - 1) d
  higher j d l =
      let e : j ≡ (j - 1) + 1 = omega arith in
      ap (λ (k : ℕ). get_or new k d) e ∙ high-part (j - 1) d (omega arith)

  cut-rise : (i j : ℕ) (d : Kept) → i < j → j < length new → (get_or new i d).low < (get_or new j d).low
  cut-rise i j d l b =
      let size : length new ≡ length old + 1 = long in
      ⊎_elim
      (λ (x : i < n).
      let ei : (get_or new i d).low ≡ (get_or old i d).low = ap (λ (v : Kept). v.low) (low-part i d x) in
      let bi : (get_or old i d).low < at = below-at i d x in
      ⊎_elim
      (λ (y : j ≡ n). let ej : (get_or new j d).low ≡ at = ap (λ (k : ℕ). (get_or new k d).low) y ∙ middle-low d in omega arith)
      (λ (o : (j < n) ⊎ (n < j)). ⊎_elim
      (λ (y : j < n).
      let ej : (get_or new j d).low ≡ (get_or old j d).low = ap (λ (v : Kept). v.low) (low-part j d y) in
      let c : n ≤ length old = bound in
      let r : (get_or old i d).low < (get_or old j d).low = form.rise i j d l (omega arith) in
      omega arith)
      (λ (y : n < j).
      let ej : (get_or new j d).low ≡ (get_or old (j - 1) d).low = ap (λ (v : Kept). v.low) (higher j d y) in
      let r : at < (get_or old (j - 1) d).low = above (j - 1) d (omega arith) (omega arith) in
      omega arith)
      o)
      (cases_order j n))
      (λ (x : n ≤ i).
      let y : n < j = omega arith in
      let ej : (get_or new j d).low ≡ (get_or old (j - 1) d).low = ap (λ (v : Kept). v.low) (higher j d y) in
      ⊎_elim
      (λ (z : i ≡ n).
      let ei : (get_or new i d).low ≡ at = ap (λ (k : ℕ). (get_or new k d).low) z ∙ middle-low d in
      let r : at < (get_or old (j - 1) d).low = above (j - 1) d (omega arith) (omega arith) in
      omega arith)
      (λ (z : i ≡ n → ⊥).
      let m : n < i = omega arith in
      let ei : (get_or new i d).low ≡ (get_or old (i - 1) d).low = ap (λ (v : Kept). v.low) (higher i d m) in
      let r : (get_or old (i - 1) d).low < (get_or old (j - 1) d).low = form.rise (i - 1) (j - 1) d (omega arith) (omega arith) in
      omega arith)
      (cases_eq i n))
      (cases_lt i n)

  cut-below : (i : ℕ) (d : Kept) → i < length new → (get_or new i d).low < 2 ^ 32
  cut-below i d b =
      let size : length new ≡ length old + 1 = long in
      let c : n ≤ length old = bound in
      ⊎_elim
      (λ (x : i ≡ n). let e : (get_or new i d).low ≡ at = ap (λ (k : ℕ). (get_or new k d).low) x ∙ middle-low d in omega arith)
      (λ (o : (i < n) ⊎ (n < i)). ⊎_elim
      (λ (x : i < n).
      let e : (get_or new i d).low ≡ (get_or old i d).low = ap (λ (v : Kept). v.low) (low-part i d x) in
      let r : (get_or old i d).low < 2 ^ 32 = form.below i d (omega arith) in
      omega arith)
      (λ (x : n < i).
      let e : (get_or new i d).low ≡ (get_or old (i - 1) d).low = ap (λ (v : Kept). v.low) (higher i d x) in
      let r : (get_or old (i - 1) d).low < 2 ^ 32 = form.below (i - 1) d (omega arith) in
      omega arith)
      o)
      (cases_order i n)

  one-once : IsOnce h.one.cycles
  one-once =
      let P : List (List RouterId) → Type 0 = λ v. IsOnce v in
      let c : n ≤ length old = bound in
      ⊎_elim
      (λ (x : n ≡ 0). subst P (sym (h.first x)) tt)
      (λ (x : n ≡ 0 → ⊥). subst P (sym (h.same some_kept (omega arith))) (form.once (n - 1) some_kept (omega arith)))
      (cases_eq n 0)

  cut-once : (i : ℕ) (d : Kept) → i < length new → IsOnce (get_or new i d).cycles
  cut-once i d b =
      let size : length new ≡ length old + 1 = long in
      let c : n ≤ length old = bound in
      let P : Kept → Type 0 = λ v. IsOnce v.cycles in
      ⊎_elim
      (λ (x : i ≡ n). subst P (sym (ap (λ (k : ℕ). get_or new k d) x ∙ middle d)) one-once)
      (λ (o : (i < n) ⊎ (n < i)). ⊎_elim
      (λ (x : i < n). subst P (sym (low-part i d x)) (form.once i d (omega arith)))
      (λ (x : n < i). subst P (sym (higher i d x)) (form.once (i - 1) d (omega arith)))
      o)
      (cases_order i n)

  cut-still : (b : ℕ) → Begins old b → Begins new b
  cut-still b begin =
      let size : length new ≡ length old + 1 = long in
      let q : begin.place < length old = begin.inside in
      ⊎_elim
      (λ (x : begin.place < n). record { place = begin.place; inside = (let i : begin.place < length new = omega arith in i); is = λ d. ap (λ (v : Kept). v.low) (low-part begin.place d x) ∙ begin.is d })
      (λ (x : n ≤ begin.place). record { place = begin.place + 1; inside = (let i : begin.place + 1 < length new = omega arith in i); is = λ d. ap (λ (v : Kept). v.low) (high-part begin.place d x) ∙ begin.is d })
      (cases_lt begin.place n)

  cut-only : (rs : List RouterId) (a : ℕ) → HasKept new rs a → HasKept old rs a
  cut-only rs a has =
      let size : length new ≡ length old + 1 = long in
      let c : n ≤ length old = bound in
      let p : ℕ = has.place in
      let inside : has.place < length new = has.at.inside in
      let C : Kept → Type 0 = λ v. Contains v.cycles rs in
      ⊎_elim
      (λ (x : has.place ≡ n).
      let from : (get_or new n some_kept).low ≤ a = (let P : ℕ → Type 0 = λ k. (get_or new k some_kept).low ≤ a in subst P x (has.at.from some_kept)) in
      let low : (get_or new n some_kept).low ≡ at = middle-low some_kept in
      let N : ℕ → Type 0 = λ k. Contains (get_or new k some_kept).cycles rs in
      let among : Contains h.one.cycles rs = subst C (middle some_kept) (subst N x (has.among some_kept)) in
      let L : List (List RouterId) → Type 0 = λ v. Contains v rs in
      ⊎_elim
      (λ (z : n ≡ 0). absurd (contains-none rs (subst L (h.first z) among)))
      (λ (z : n ≡ 0 → ⊥).
      let back : n - 1 + 1 ≡ n = omega arith in
      record {
        place = n - 1;
        at = record {
          inside = (let i : n - 1 < length old = omega arith in i);
          from = λ d. (let l : (get_or old (n - 1) d).low < at = below-at (n - 1) d (omega arith) in omega arith);
          to = λ d l.
              let l' : n < length old = omega arith in
              let t : a < (get_or new (has.place + 1) d).low = has.at.to d (omega arith) in
              let e : (get_or new (has.place + 1) d).low ≡ (get_or old n d).low = ap (λ (k : ℕ). (get_or new (k + 1) d).low) x ∙ ap (λ (v : Kept). v.low) (high-part n d (omega arith)) in
              let f : (get_or old (n - 1 + 1) d).low ≡ (get_or old n d).low = ap (λ (k : ℕ). (get_or old k d).low) back in
              omega arith;
        };
        among = λ d. subst L (h.same d (omega arith)) among;
      })
      (cases_eq n 0))
      (λ (o : (has.place < n) ⊎ (n < has.place)). ⊎_elim
      (λ (x : has.place < n). record {
        place = has.place;
        at = record {
          inside = (let i : has.place < length old = omega arith in i);
          from = λ d. (let f : (get_or new has.place d).low ≤ a = has.at.from d in let e : (get_or new has.place d).low ≡ (get_or old has.place d).low = ap (λ (v : Kept). v.low) (low-part has.place d x) in omega arith);
          to = λ d l.
              let t : a < (get_or new (has.place + 1) d).low = has.at.to d (omega arith) in
              ⊎_elim
              (λ (y : has.place + 1 < n). let e : (get_or new (has.place + 1) d).low ≡ (get_or old (has.place + 1) d).low = ap (λ (v : Kept). v.low) (low-part (has.place + 1) d y) in omega arith)
              (λ (y : n ≤ has.place + 1).
              let s : has.place + 1 ≡ n = omega arith in
              let e : (get_or new (has.place + 1) d).low ≡ at = ap (λ (k : ℕ). (get_or new k d).low) s ∙ middle-low d in
              let f : at < (get_or old (has.place + 1) d).low = above (has.place + 1) d y l in
              omega arith)
              (cases_lt (has.place + 1) n);
        };
        among = λ d. subst C (low-part has.place d x) (has.among d);
      })
      (λ (x : n < has.place).
      let back : has.place - 1 + 1 ≡ has.place = omega arith in
      record {
        place = has.place - 1;
        at = record {
          inside = (let i : has.place - 1 < length old = omega arith in i);
          from = λ d. (let f : (get_or new has.place d).low ≤ a = has.at.from d in let e : (get_or new has.place d).low ≡ (get_or old (has.place - 1) d).low = ap (λ (v : Kept). v.low) (higher has.place d x) in omega arith);
          to = λ d l.
              let t : a < (get_or new (has.place + 1) d).low = has.at.to d (omega arith) in
              let e : (get_or new (has.place + 1) d).low ≡ (get_or old has.place d).low = ap (λ (v : Kept). v.low) (high-part has.place d (omega arith)) in
              let f : (get_or old (has.place - 1 + 1) d).low ≡ (get_or old has.place d).low = ap (λ (k : ℕ). (get_or old k d).low) back in
              omega arith;
        };
        among = λ d. subst C (higher has.place d x) (has.among d);
      })
      o)
      (cases_order has.place n)

  cut-kept : (rs : List RouterId) (a : ℕ) → HasKept old rs a → HasKept new rs a
  cut-kept rs a has =
      let size : length new ≡ length old + 1 = long in
      let c : n ≤ length old = bound in
      let inside : has.place < length old = has.at.inside in
      let C : Kept → Type 0 = λ v. Contains v.cycles rs in
      ⊎_elim
      (λ (x : n ≤ has.place). record {
        place = has.place + 1;
        at = record {
          inside = (let i : has.place + 1 < length new = omega arith in i);
          from = λ d. (let f : (get_or old has.place d).low ≤ a = has.at.from d in let e : (get_or new (has.place + 1) d).low ≡ (get_or old has.place d).low = ap (λ (v : Kept). v.low) (high-part has.place d x) in omega arith);
          to = λ d l. (let f : a < (get_or old (has.place + 1) d).low = has.at.to d (omega arith) in let e : (get_or new (has.place + 1 + 1) d).low ≡ (get_or old (has.place + 1) d).low = ap (λ (v : Kept). v.low) (high-part (has.place + 1) d (omega arith)) in omega arith);
        };
        among = λ d. subst C (sym (high-part has.place d x)) (has.among d);
      })
      (λ (x : has.place < n).
      let i' : has.place < length new = omega arith in
      let from' : (d : Kept) → (get_or new has.place d).low ≤ a = λ d. (let f : (get_or old has.place d).low ≤ a = has.at.from d in let e : (get_or new has.place d).low ≡ (get_or old has.place d).low = ap (λ (v : Kept). v.low) (low-part has.place d x) in omega arith) in
      let among' : (d : Kept) → Contains (get_or new has.place d).cycles rs = λ d. subst C (sym (low-part has.place d x)) (has.among d) in
      ⊎_elim
      (λ (y : has.place + 1 < n). record {
        place = has.place;
        at = record {
          inside = i';
          from = from';
          to = λ d l. (let f : a < (get_or old (has.place + 1) d).low = has.at.to d (omega arith) in let e : (get_or new (has.place + 1) d).low ≡ (get_or old (has.place + 1) d).low = ap (λ (v : Kept). v.low) (low-part (has.place + 1) d y) in omega arith);
        };
        among = among';
      })
      (λ (y : n ≤ has.place + 1).
      let s : has.place + 1 ≡ n = omega arith in
      ⊎_elim
      (λ (z : a < at). record {
        place = has.place;
        at = record {
          inside = i';
          from = from';
          to = λ d l. (let e : (get_or new (has.place + 1) d).low ≡ at = ap (λ (k : ℕ). (get_or new k d).low) s ∙ middle-low d in omega arith);
        };
        among = among';
      })
      (λ (z : at ≤ a).
      let b : has.place ≡ n - 1 = omega arith in
      let L : List (List RouterId) → Type 0 = λ v. Contains v rs in
      record {
        place = n;
        at = record {
          inside = (let i : n < length new = omega arith in i);
          from = λ d. (let e : (get_or new n d).low ≡ at = middle-low d in omega arith);
          to = λ d l.
              let f : a < (get_or old (has.place + 1) d).low = has.at.to d (omega arith) in
              let g : (get_or old (has.place + 1) d).low ≡ (get_or old n d).low = ap (λ (k : ℕ). (get_or old k d).low) s in
              let e : (get_or new (n + 1) d).low ≡ (get_or old n d).low = ap (λ (v : Kept). v.low) (high-part n d (omega arith)) in
              omega arith;
        };
        among = λ d.
            let D : ℕ → Type 0 = λ k. Contains (get_or old k d).cycles rs in
            subst C (sym (middle d)) (subst L (sym (h.same d (omega arith))) (subst D b (has.among d)));
      })
      (cases_lt a at))
      (cases_lt (has.place + 1) n))
      (cases_le n has.place)
    where
      cases_le : (x y : ℕ) → (x ≤ y) ⊎ (y < x)
      cases_le x y = ⊎_elim (λ (l : y < x). inr l) (λ (l : x ≤ y). inl l) (cases_lt y x)

  pub cut-new : IsCut at old new
  cut-new = record {
    form = record { rise = cut-rise; below = cut-below; once = cut-once };
    begins = λ b. record { place = n; inside = (let size : length new ≡ length old + 1 = long in let c : n ≤ length old = bound in let i : n < length new = omega arith in i); is = middle-low };
    still = cut-still;
    only = cut-only;
    kept = cut-kept;
  }

-- ---- a change between two cuts

pub within-cuts : (edit : Edit) (low past : ℕ) (old x y new : List Kept) → IsCut low old x → IsCut past x y → AreChangedWithin edit low past y new → AreChangedWithin edit low past old new
within-cuts edit low past old x y new c e h = record {
  form = h.form;
  only = λ rs a b has. ⊎_elim
      (λ (o : HasKept y rs a × (low ≤ a → a < past → Keeps edit rs)). inl (c.only rs a (e.only rs a o.0), o.1))
      (λ (o : Brings edit rs × (low ≤ a) × (a < past)). inr o)
      (h.only rs a b has);
  kept = λ rs a b has keeps. h.kept rs a b (e.kept rs a (c.kept rs a has)) keeps;
  here = h.here;
}
