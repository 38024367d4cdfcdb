-- What a look at one page finds among all rows.
use Rattle.std.proofs.Common.{◌≡◌, ◌≢◌, ℕ, ◌+◌, ◌-◌, ◌<◌, ◌≤◌, ◌^◌, ◌∙◌, Option, Some, None, List, [], ◌∷◌, length, get_or, take, drop, min, ap, sym, subst, ⊎_elim, arith}
use Rattle.std.specs.List.{AllByRecursion}
use Rattle.std.specs.Option.{IfNone, IfSome}
use Rattle.std.proofs.lemmas.Bool.{cases_lt}
use Rattle.std.proofs.lemmas.List.{get_or-drop, get_or-take, get_or_default, length-drop, length-take}
use Rattle.version_pages.specs.Search.{EndsBelow}
use Rattle.route_table.specs.Ascending.{AscendsFrom, IsFound, IsGap, IsPlace}
use Rattle.route_table.specs.Searches.{IsBaseBefore}
use Rattle.route_table.specs.Slots.{AreSlots, IsSlot, PrefixRoutes, slot_key}
use Rattle.route_table.proofs.Places.{found-at, gap-at, place-of}

-- what stands in a page stands among all
page-read : {T : Type 0} (rows page : List T) (first k : ℕ) (d : T) → take (length page) (drop first rows) ≡ page → k < length page → get_or page k d ≡ get_or rows (first + k) d
page-read {T} rows page first k d is l =
    ap (λ (xs : List T). get_or xs k d) (sym is)
    ∙ get_or-take (length page) (drop first rows) k d l
    ∙ get_or-drop first rows k d

page-inside : {T : Type 0} (rows page : List T) (first : ℕ) → take (length page) (drop first rows) ≡ page → 0 < length page → first + length page ≤ length rows
page-inside {T} rows page first is l =
    let e : length (take (length page) (drop first rows)) ≡ length page = ap (λ (xs : List T). length xs) is in
    let m : length (take (length page) (drop first rows)) ≡ min (length page) (length (drop first rows)) = length-take (length page) (drop first rows) in
    let n : length (drop first rows) ≡ length rows - first = length-drop first rows in
    omega arith

-- there are fewer slots than keys
pub few-slots : (start : ℕ) (slots : List PrefixRoutes) → AscendsFrom slot_key start slots → AllByRecursion IsSlot slots → start ≤ 2 ^ 38 → start + length slots ≤ 2 ^ 38
few-slots start [] h each l = omega arith
few-slots start (s ∷ slots) h each l =
    let base : s.prefix.base < 2 ^ 32 = each.0.sound.base in
    let len : s.prefix.len ≤ 32 = each.0.sound.len in
    let from : start ≤ slot_key s = h.0 in
    let k : (slot_key s + 1) + length slots ≤ 2 ^ 38 = few-slots (slot_key s + 1) slots h.1 each.1 (omega arith) in
    omega arith

pub near-fits : (slots page : List PrefixRoutes) (first below : ℕ) → AreSlots slots → take (length page) (drop first slots) ≡ page → below < length page → first + below < 2 ^ 38
near-fits slots page first below h is l =
    let inside : first + length page ≤ length slots = page-inside slots page first is (omega arith) in
    let few : 0 + length slots ≤ 2 ^ 38 = few-slots 0 slots h.keys h.each (omega arith) in
    omega arith

pub near-place : {T : Type 0} (key_of : T → ℕ) (rows page : List T) (first below key seen : ℕ) → AscendsFrom key_of 0 rows → take (length page) (drop first rows) ≡ page → seen ≡ key → EndsBelow key_of page seen below → below < length page → (below ≡ 0 → first ≡ 0) → IsPlace key_of rows key (first + below)
near-place key_of rows page first below key seen h is same ends l none =
    let inside : first + length page ≤ length rows = page-inside rows page first is (omega arith) in
    place-of key_of 0 rows key (first + below) h (omega arith)
    (λ d m.
    ⊎_elim
    (λ (n : 0 < below).
    let b : key_of (get_or page (below - 1) d) < seen = ends.before d n in
    let r : key_of (get_or page (below - 1) d) ≡ key_of (get_or rows (first + (below - 1)) d) = ap key_of (page-read rows page first (below - 1) d is (omega arith)) in
    let e : first + (below - 1) ≡ first + below - 1 = omega arith in
    subst (λ i. key_of (get_or rows i d) < key) e (omega arith))
    (λ (n : below ≤ 0).
    let z : first ≡ 0 = none (omega arith) in
    absurd (omega arith))
    (cases_lt 0 below))
    (λ d m.
    let a : seen ≤ key_of (get_or page below d) = ends.after d l in
    let r : key_of (get_or page below d) ≡ key_of (get_or rows (first + below) d) = ap key_of (page-read rows page first below d is l) in
    omega arith)

-- the row at the place, and whether it is that of the key
pub near-row : {T : Type 0} (rows page : List T) (first below : ℕ) (r d : T) → take (length page) (drop first rows) ≡ page → below < length page → r ≡ get_or page below r → r ≡ get_or rows (first + below) d
near-row rows page first below r d is l read = read ∙ get_or_default page below r d l ∙ page-read rows page first below d is l

pub near-found : {T : Type 0} (key_of : T → ℕ) (rows page : List T) (first below key : ℕ) (r : T) → take (length page) (drop first rows) ≡ page → below < length page → r ≡ get_or page below r → IsPlace key_of rows key (first + below) → key_of r ≡ key → IsFound key_of rows key (first + below)
near-found key_of rows page first below key r is l read place e =
    let inside : first + length page ≤ length rows = page-inside rows page first is (omega arith) in
    found-at key_of rows key (first + below) r place (omega arith) (ap key_of (sym (near-row rows page first below r r is l read)) ∙ e)

pub near-gap : {T : Type 0} (key_of : T → ℕ) (rows page : List T) (first below key : ℕ) (r : T) → take (length page) (drop first rows) ≡ page → below < length page → r ≡ get_or page below r → IsPlace key_of rows key (first + below) → key_of r ≢ key → IsGap key_of rows key (first + below)
near-gap key_of rows page first below key r is l read place n =
    gap-at key_of rows key (first + below) place (λ d m e. n (ap key_of (near-row rows page first below r d is l read) ∙ e))

near-base : (slots page : List PrefixRoutes) (first below base : ℕ) → take (length page) (drop first slots) ≡ page → below < length page → IsBaseBefore page below base → IsBaseBefore slots (first + below) base
near-base slots page first below base is l b =
    let some : 0 < below = b.some in
    record {
      some = omega arith;
      base_is = λ d.
          let e : first + (below - 1) ≡ first + below - 1 = omega arith in
          ap (λ (i : ℕ). (get_or slots i d).prefix.base) (sym e)
          ∙ ap (λ (x : PrefixRoutes). x.prefix.base) (sym (page-read slots page first (below - 1) d is (omega arith)))
          ∙ b.base_is d;
    }

pub near-before : (slots page : List PrefixRoutes) (first below : ℕ) (o : Option ℕ) → take (length page) (drop first slots) ≡ page → below < length page → IfSome o (IsBaseBefore page below) → IfSome o (IsBaseBefore slots (first + below))
near-before slots page first below None is l b = tt
near-before slots page first below (Some base) is l b = near-base slots page first below base is l b

-- ---- answers that may be none

pub some-then : {O : Type 0} (o : Option O) (R : O → Type 0) (Q : Type 0) → ((x : O) → R x → Q) → IfSome o R → IfSome o (λ x. Q)
some-then None R Q f h = tt
some-then (Some x) R Q f h = f x h

pub some-each : {O : Type 0} (o : Option O) (R S : O → Type 0) → ((x : O) → R x → S x) → IfSome o R → IfSome o S
some-each None R S f h = tt
some-each (Some x) R S f h = f x h

pub none-then : {O : Type 0} (o : Option O) (R Q : Type 0) → (R → Q) → IfNone o R → IfNone o Q
none-then None R Q f h = f h
none-then (Some x) R Q f h = tt

pub at-none : {O : Type 0} (o : Option O) (P : Type 0) → o ≡ None → IfNone o P → P
at-none {O} o P e h = subst (λ (p : Option O). IfNone p P) e h
