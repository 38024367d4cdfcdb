-- A walk over the slots behind that of a prefix, page by page.
use Rattle.std.proofs.Common.{◌≡◌, ℕ, ◌+◌, ◌-◌, ◌<◌, ◌≤◌, ◌^◌, ◌∙◌, zero, suc, true, false, List, [], ◌∷◌, ◌++◌, length, get_or, take, drop, min, Result, Ok, Err, OnOk, ap, sym, subst, take-add, arith, leb}
use Rattle.std.specs.List.{AllByRecursion}
use Rattle.std.proofs.lemmas.Bool.{or_right}
use Rattle.std.proofs.lemmas.List.{drop-drop, get_or-take, length-append, length-drop, length-take, take-take, take_all}
use Rattle.std.proofs.lemmas.List.Folds.{list_any-append}
use Rattle.base.specs.declared.run.Run.{Run}
use Rattle.route_table.specs.Along.{Along, along, begins_past, gap}
use Rattle.route_table.specs.Ascending.{AscendsFrom, IsFound}
use Rattle.route_table.specs.Slots.{AreSlots, IsSlot, PrefixRoutes, slot_key}
use Rattle.route_table.proofs.Along.{Ends, along-ended, along-page, anew, each-drop, ends, runs-are, runs_from, with_begun}
use Rattle.route_table.proofs.Places.{ascends-lower, found-inside}
use Rattle.route_table.proofs.Searching.{few-slots}
use Rattle.route_table.proofs.Walking.{few-more}

-- ---- some of the slots

pub place-fits : (slots : List PrefixRoutes) (k place : ℕ) → AreSlots slots → IsFound slot_key slots k place → place + 1 < 2 ^ 64
place-fits slots k place h f =
    let inside : place < length slots = found-inside slot_key slots k place f in
    let few : 0 + length slots ≤ 2 ^ 38 = few-slots 0 slots h.keys h.each (omega arith) in
    omega arith

ascends-take : (start : ℕ) (xs : List PrefixRoutes) (n : ℕ) → AscendsFrom slot_key start xs → AscendsFrom slot_key start (take n xs)
ascends-take start [] zero h = tt
ascends-take start [] (suc n) h = tt
ascends-take start (x ∷ xs) zero h = tt
ascends-take start (x ∷ xs) (suc n) h = (h.0, ascends-take (slot_key x + 1) xs n h.1)

each-take : (xs : List PrefixRoutes) (n : ℕ) → AllByRecursion IsSlot xs → AllByRecursion IsSlot (take n xs)
each-take [] zero h = tt
each-take [] (suc n) h = tt
each-take (x ∷ xs) zero h = tt
each-take (x ∷ xs) (suc n) h = (h.0, each-take xs n h.1)

ascends-rest : (start : ℕ) (xs : List PrefixRoutes) (i : ℕ) → AscendsFrom slot_key start xs → AscendsFrom slot_key start (drop i xs)
ascends-rest start [] zero h = tt
ascends-rest start [] (suc i) h = tt
ascends-rest start (x ∷ xs) zero h = h
ascends-rest start (x ∷ xs) (suc i) h =
    let l : start ≤ slot_key x = h.0 in
    ascends-rest start xs i (ascends-lower slot_key (slot_key x + 1) start xs (omega arith) h.1)

slots-take : (xs : List PrefixRoutes) (n : ℕ) → AreSlots xs → AreSlots (take n xs)
slots-take xs n h = record { keys = ascends-take 0 xs n h.keys; each = each-take xs n h.each }

slots-drop : (xs : List PrefixRoutes) (i : ℕ) → AreSlots xs → AreSlots (drop i xs)
slots-drop xs i h = record { keys = ascends-rest 0 xs i h.keys; each = each-drop xs i h.each }

pub slots-page : (slots page : List PrefixRoutes) (place : ℕ) → AreSlots slots → take (length page) (drop place slots) ≡ page → AreSlots page
slots-page slots page place h is = subst (λ xs. AreSlots xs) is (slots-take (drop place slots) (length page) (slots-drop slots place h))

-- ---- one page more

module _ (slots page : List PrefixRoutes) (first place past n : ℕ) (from : Along) (o : first ≤ place) (many : n ≡ length page) (is : take (length page) (drop place slots) ≡ page) where
  abbrev behind : List PrefixRoutes
  behind = drop first slots

  abbrev done : Along
  done = along past from (take (place - first) behind)

  abbrev after : Along
  after = along past from (take (place + n - first) behind)

  page-is : take (length page) (drop (place - first) behind) ≡ page
  page-is =
      let e : first + (place - first) ≡ place = omega arith in
      ap (λ xs. take (length page) xs) (drop-drop (place - first) first slots ∙ ap (λ n. drop n slots) e) ∙ is

  count : place + n - first ≡ (place - first) + length page
  count = omega arith

  -- so far at `at`, with these runs
  module _ (at : ℕ) (runs : List Run) (at_is : at ≡ done.at) (runs_are : runs ≡ done.runs) where
    abbrev here : Along
    here = record { at = at; runs = runs; begun = [] }

    here-is : here ≡ anew done
    here-is = ap (λ (n : ℕ). record { at = n; runs = runs; begun = [] }) at_is ∙ ap (λ (rs : List Run). record { at = done.at; runs = rs; begun = [] }) runs_are

    after-is : after ≡ with_begun done.begun (along past here page)
    after-is = ap (λ n. along past from (take n behind)) count ∙ along-page past from behind page (place - first) page-is ∙ ap (λ w. with_begun done.begun (along past w page)) (sym here-is)

    pub page-at : (next : ℕ) → next ≡ (along past here page).at → next ≡ after.at
    page-at next e = e ∙ sym (ap (λ (w : Along). w.at) after-is)

    pub page-runs : (next : List Run) → next ≡ (along past here page).runs → next ≡ after.runs
    page-runs next e = e ∙ sym (ap (λ (w : Along). w.runs) after-is)

    pub page-few : (was now then : ℕ) → now ≤ was + length done.begun → then ≤ now + length (along past here page).begun → then ≤ was + length after.begun
    page-few was now then a b =
        let e : length after.begun ≡ length done.begun + length (along past here page).begun = ap (λ (w : Along). length w.begun) after-is ∙ length-append done.begun (along past here page).begun in
        omega arith

  pub page-ended : begins_past past page ≡ true → begins_past past (take (place + n - first) behind) ≡ true
  page-ended e =
      let parts : take (place + n - first) behind ≡ take (place - first) behind ++ page = ap (λ n. take n behind) count ∙ take-add (place - first) (length page) behind ∙ ap (λ xs. take (place - first) behind ++ xs) page-is in
      ap (λ xs. begins_past past xs) parts
      ∙ list_any-append (λ s. leb past s.prefix.base) (take (place - first) behind) page
      ∙ or_right (begins_past past (take (place - first) behind)) (begins_past past page) e

-- ---- the whole walk

walked-ended : (behind : List PrefixRoutes) (k past : ℕ) (from : Along) → AreSlots behind → begins_past past (take k behind) ≡ true → along past from behind ≡ along past from (take k behind)
walked-ended behind k past from h e =
    let w : Ends past (take k behind) = ends past (take k behind) e in
    let inside : w.place < length (take k behind) = w.inside in
    let much : length (take k behind) ≡ min k (length behind) = length-take k behind in
    let at : get_or (take k behind) w.place w.slot ≡ get_or behind w.place w.slot = get_or-take k behind w.place w.slot (omega arith) in
    along-ended past from behind w.place w.slot h (omega arith) (subst (λ (s : PrefixRoutes). past ≤ s.prefix.base) at (w.behind w.slot))
    ∙ ap (λ xs. along past from xs) (sym (take-take w.place k behind (omega arith)))
    ∙ sym (along-ended past from (take k behind) w.place w.slot (slots-take behind k h) w.inside (w.behind w.slot))

pub walked-past : (slots : List PrefixRoutes) (first place past : ℕ) (from : Along) → AreSlots slots → begins_past past (take (place - first) (drop first slots)) ≡ true → along past from (drop first slots) ≡ along past from (take (place - first) (drop first slots))
walked-past slots first place past from h e = walked-ended (drop first slots) (place - first) past from (slots-drop slots first h) e

pub walked-all : (slots : List PrefixRoutes) (first place past : ℕ) (from : Along) → length slots ≤ place → along past from (drop first slots) ≡ along past from (take (place - first) (drop first slots))
walked-all slots first place past from l =
    let n : length (drop first slots) ≡ length slots - first = length-drop first slots in
    ap (λ xs. along past from xs) (sym (take_all (place - first) (drop first slots) (omega arith)))

pub none-ended : (past : ℕ) (slots : List PrefixRoutes) → false ≡ true → begins_past past slots ≡ true
none-ended past slots e = cc

pub ok-then : {E : Type 0} (r : Result (Unit {0}) E) (P Q : Type 0) → (P → Q) → OnOk r P → OnOk r Q
ok-then (Ok u) P Q f h = f h
ok-then (Err e) P Q f h = tt

-- what it leaves, with the last gap
pub left-last : (slots : List PrefixRoutes) (first place past base start at : ℕ) (none runs last : List Run) → along past (record { at = start; runs = none; begun = [] }) (drop first slots) ≡ along past (record { at = start; runs = none; begun = [] }) (take (place - first) (drop first slots)) → none ≡ [] → start ≡ base → at ≡ (along past (record { at = start; runs = none; begun = [] }) (take (place - first) (drop first slots))).at → runs ≡ (along past (record { at = start; runs = none; begun = [] }) (take (place - first) (drop first slots))).runs → last ≡ runs ++ gap at past → last ≡ runs_from past base (drop first slots)
left-last slots first place past base start at none runs last all empty e a r is =
    let from : Along = record { at = start; runs = none; begun = [] } in
    is
    ∙ ap (λ rs. rs ++ gap at past) r
    ∙ ap (λ n. (along past from (take (place - first) (drop first slots))).runs ++ gap n past) a
    ∙ ap (λ (w : Along). w.runs ++ gap w.at past) (sym all)
    ∙ runs-are past from (drop first slots)
    ∙ ap (λ rs. rs ++ runs_from past start (drop first slots)) empty
    ∙ ap (λ n. runs_from past n (drop first slots)) e

pub few-done : (slots : List PrefixRoutes) (first k past was now : ℕ) (from : Along) → now ≤ was + length (along past from (take k (drop first slots))).begun → now ≤ was + length (along past from (drop first slots)).begun
few-done slots first k past was now from few = let m = few-more past from (drop first slots) k in omega (arith, m)
