-- What a walk over slots leaves.
use Rattle.std.proofs.Common.{◌≡◌, ◌≢◌, ℕ, ◌+◌, ◌-◌, ◌*◌, ◌<◌, ◌≤◌, ◌^◌, ◌∙◌, ◌&&◌, ◌||◌, zero, suc, not, cond, Bool, true, false, List, [], ◌∷◌, ◌++◌, length, get_or, take, drop, refl, ap, sym, subst, append_assoc, take-add, ⊎_elim, arith, eqb, leb, ltb}
use Rattle.std.specs.List.{AllByRecursion, Contains, list_any}
use Rattle.std.proofs.lemmas.Bool.{and_from, and_left, and_right, cases_Bool, cases_lt, eq-eqb, le-leb, le-ltb, leb-false, leb-true, lt-leb, lt-ltb, ne_eqb, ltb-false, ltb-true, not_from_false, or_cases, or_from, or_left, or_parts, or_right, not_from_true}
use Rattle.std.proofs.lemmas.Bool.Decides.{nat_tests}
use Rattle.std.proofs.lemmas.List.{append-nil, take-append-drop}
use Rattle.std.proofs.lemmas.List.Sums.{fold-append}
use Rattle.base.proofs.Elements.{contains-here, contains-there}
use Rattle.base.proofs.RunsFrom.{put-none, put-passed}
use Rattle.base.specs.Cidr.{Cidr, IsCidr, covers, size}
use Rattle.base.specs.RunsFrom.{AreRunsFrom, StartFrom, with_run}
use Rattle.dn_model.specs.declared.entry.Route.{Route}
use Rattle.base.specs.declared.run.Run.{Run}
use Rattle.route_table.specs.Along.{Along, along, along_slot, begins_past, gap, is_passed_over, past_of}
use Rattle.route_table.specs.Ascending.{AscendsFrom}
use Rattle.route_table.specs.Own.{BeginWithin, EndAtEnds, is_end_in}
use Rattle.route_table.specs.Slots.{AreSlots, IsSlot, PrefixRoutes, key_of, slot_key}
use Rattle.route_table.proofs.Blocks.{covers-in, nested-from, nested-to, size-some}

-- ---- one slot

-- what is known of a slot that is gone past
record IsMet (past at : ℕ) (s : PrefixRoutes) : Type 0 where
  within : s.prefix.base < past
  from : at ≤ s.prefix.base
  some : eqb (length s.targets) 0 ≡ false

is-met : (past at : ℕ) (s : PrefixRoutes) → is_passed_over past at s ≡ false → IsMet past at s
is-met past at s h =
    let one : ((leb past s.prefix.base || ltb s.prefix.base at) ≡ false) × (eqb (length s.targets) 0 ≡ false) = or_parts (leb past s.prefix.base || ltb s.prefix.base at) (eqb (length s.targets) 0) h in
    let two : (leb past s.prefix.base ≡ false) × (ltb s.prefix.base at ≡ false) = or_parts (leb past s.prefix.base) (ltb s.prefix.base at) one.0 in
    record {
      within = leb-false past s.prefix.base two.0;
      from = ltb-false s.prefix.base at two.1;
      some = one.1;
    }

-- the walk behind such a slot
abbrev pub gone : Along → PrefixRoutes → Along
gone w s = record { at = past_of s; runs = w.runs ++ gap w.at s.prefix.base; begun = w.begun ++ s.prefix.base ∷ [] }

pub slot-passed : (past : ℕ) (w : Along) (s : PrefixRoutes) → is_passed_over past w.at s ≡ true → along_slot past w s ≡ w
slot-passed past w s h = ap (λ b. cond b w (gone w s)) h

pub slot-gone : (past : ℕ) (w : Along) (s : PrefixRoutes) → is_passed_over past w.at s ≡ false → along_slot past w s ≡ gone w s
slot-gone past w s h = ap (λ b. cond b w (gone w s)) h

pub past-passed : (past at : ℕ) (s : PrefixRoutes) → past ≤ s.prefix.base → is_passed_over past at s ≡ true
past-passed past at s l = or_left (leb past s.prefix.base || ltb s.prefix.base at) (eqb (length s.targets) 0) (or_left (leb past s.prefix.base) (ltb s.prefix.base at) (le-leb past s.prefix.base l))

pub below-passed : (past at : ℕ) (s : PrefixRoutes) → s.prefix.base < at → is_passed_over past at s ≡ true
below-passed past at s l = or_left (leb past s.prefix.base || ltb s.prefix.base at) (eqb (length s.targets) 0) (or_right (leb past s.prefix.base) (ltb s.prefix.base at) (lt-ltb s.prefix.base at l))

pub empty-passed : (past at : ℕ) (s : PrefixRoutes) → s.targets ≡ [] → is_passed_over past at s ≡ true
empty-passed past at s e = or_right (leb past s.prefix.base || ltb s.prefix.base at) (eqb (length s.targets) 0) (eq-eqb (length s.targets) 0 (ap length e))

pub gone-over : (past at : ℕ) (s : PrefixRoutes) → s.prefix.base < past → at ≤ s.prefix.base → s.targets ≢ [] → is_passed_over past at s ≡ false
gone-over past at s l m n = or_from (leb past s.prefix.base || ltb s.prefix.base at) (eqb (length s.targets) 0)
    (or_from (leb past s.prefix.base) (ltb s.prefix.base at) (lt-leb past s.prefix.base l) (le-ltb s.prefix.base at m))
    (no-length s.targets n)
  where
    no-length : {T : Type 0} (xs : List T) → xs ≢ [] → eqb (length xs) 0 ≡ false
    no-length [] n = absurd (n refl)
    no-length (x ∷ xs) n = ne_eqb (length (x ∷ xs)) 0 (λ e. absurd (omega arith))

-- ---- slots behind the end

pub ascends-drop : {T : Type 0} (key : T → ℕ) (start : ℕ) (xs : List T) (i : ℕ) (d : T) → AscendsFrom key start xs → i < length xs → AscendsFrom key (key (get_or xs i d)) (drop i xs)
ascends-drop key start [] i d h l = absurd (omega arith)
ascends-drop key start (x ∷ xs) zero d h l = (omega arith, h.1)
ascends-drop key start (x ∷ xs) (suc i) d h l = ascends-drop key (key x + 1) xs i d h.1 (omega arith)

pub each-drop : (xs : List PrefixRoutes) (i : ℕ) → AllByRecursion IsSlot xs → AllByRecursion IsSlot (drop i xs)
each-drop [] zero h = tt
each-drop [] (suc i) h = tt
each-drop (x ∷ xs) zero h = h
each-drop (x ∷ xs) (suc i) h = each-drop xs i h.1

along-past : (past start : ℕ) (w : Along) (slots : List PrefixRoutes) → AscendsFrom slot_key start slots → AllByRecursion IsSlot slots → past * 64 ≤ start → along past w slots ≡ w
along-past past start w [] h each l = refl
along-past past start w (s ∷ slots) h each l =
    let from : start ≤ slot_key s = h.0 in
    let len : s.prefix.len ≤ 32 = each.0.sound.len in
    let behind : past ≤ s.prefix.base = omega arith in
    ap (λ v. along past v slots) (slot-passed past w s (past-passed past w.at s behind))
    ∙ along-past past (slot_key s + 1) w slots h.1 each.1 (omega arith)

-- where one begins past all, so do those behind it
pub along-ended : (past : ℕ) (w : Along) (slots : List PrefixRoutes) (i : ℕ) (d : PrefixRoutes) → AreSlots slots → i < length slots → past ≤ (get_or slots i d).prefix.base → along past w slots ≡ along past w (take i slots)
along-ended past w slots i d h l behind =
    ap (λ xs. along past w xs) (sym (take-append-drop i slots))
    ∙ fold-append (along_slot past) w (take i slots) (drop i slots)
    ∙ along-past past (slot_key (get_or slots i d)) (along past w (take i slots)) (drop i slots) (ascends-drop slot_key 0 slots i d h.keys l) (each-drop slots i h.each) (omega arith)

pub ends-at : (past : ℕ) (slots : List PrefixRoutes) (i : ℕ) (d : PrefixRoutes) → i < length slots → past ≤ (get_or slots i d).prefix.base → begins_past past slots ≡ true
ends-at past [] i d l behind = absurd (omega arith)
ends-at past (s ∷ slots) zero d l behind = or_left (leb past s.prefix.base) (begins_past past slots) (le-leb past s.prefix.base behind)
ends-at past (s ∷ slots) (suc i) d l behind = or_right (leb past s.prefix.base) (begins_past past slots) (ends-at past slots i d (omega arith) behind)

pub record Ends (past : ℕ) (slots : List PrefixRoutes) : Type 0 where
  pub place : ℕ
  pub slot : PrefixRoutes
  pub inside : place < length slots
  pub behind : (d : PrefixRoutes) → past ≤ (get_or slots place d).prefix.base

pub ends : (past : ℕ) (slots : List PrefixRoutes) → begins_past past slots ≡ true → Ends past slots
ends past [] h = absurd (let f : false ≡ true = h in cc)
ends past (s ∷ slots) h = ⊎_elim
    (λ (e : leb past s.prefix.base ≡ true). record { place = 0; slot = s; inside = omega arith; behind = λ d. leb-true past s.prefix.base e })
    (λ (e : begins_past past slots ≡ true).
    let w : Ends past slots = ends past slots e in
    let l : w.place < length slots = w.inside in
    record { place = suc w.place; slot = w.slot; inside = omega arith; behind = w.behind })
    (or_cases (leb past s.prefix.base) (begins_past past slots) h)

-- ---- pages

abbrev pub with_begun : List ℕ → Along → Along
with_begun b w = record { at = w.at; runs = w.runs; begun = b ++ w.begun }

slot-begun : (past : ℕ) (b : List ℕ) (w : Along) (s : PrefixRoutes) → along_slot past (with_begun b w) s ≡ with_begun b (along_slot past w s)
slot-begun past b w s = ⊎_elim
    (λ (t : is_passed_over past w.at s ≡ true). slot-passed past (with_begun b w) s t ∙ sym (ap (λ v. with_begun b v) (slot-passed past w s t)))
    (λ (f : is_passed_over past w.at s ≡ false).
    slot-gone past (with_begun b w) s f
    ∙ ap (λ (c : List ℕ). record { at = past_of s; runs = w.runs ++ gap w.at s.prefix.base; begun = c }) (append_assoc b w.begun (s.prefix.base ∷ []))
    ∙ sym (ap (λ v. with_begun b v) (slot-gone past w s f)))
    (cases_Bool (is_passed_over past w.at s))

along-begun : (past : ℕ) (b : List ℕ) (w : Along) (slots : List PrefixRoutes) → along past (with_begun b w) slots ≡ with_begun b (along past w slots)
along-begun past b w [] = refl
along-begun past b w (s ∷ slots) = ap (λ v. along past v slots) (slot-begun past b w s) ∙ along-begun past b (along_slot past w s) slots

-- a walk from there, with no prefix gone past yet
abbrev pub anew : Along → Along
anew w = record { at = w.at; runs = w.runs; begun = [] }

pub along-page : (past : ℕ) (w : Along) (slots page : List PrefixRoutes) (k : ℕ) → take (length page) (drop k slots) ≡ page → along past w (take (k + length page) slots) ≡ with_begun (along past w (take k slots)).begun (along past (anew (along past w (take k slots))) page)
along-page past w slots page k is =
    let before : Along = along past w (take k slots) in
    let same : with_begun before.begun (anew before) ≡ before = ap (λ (b : List ℕ). record { at = before.at; runs = before.runs; begun = b }) (append-nil before.begun) in
    ap (λ xs. along past w xs) (take-add k (length page) slots ∙ ap (λ xs. take k slots ++ xs) is)
    ∙ fold-append (along_slot past) w (take k slots) page
    ∙ ap (λ v. along past v page) (sym same)
    ∙ along-begun past before.begun (anew before) page

-- ---- what it adds

abbrev pub runs_from : ℕ → ℕ → List PrefixRoutes → List Run
runs_from past at [] = gap at past
runs_from past at (s ∷ slots) = cond (is_passed_over past at s) (runs_from past at slots) (gap at s.prefix.base ++ runs_from past (past_of s) slots)

abbrev pub begun_from : ℕ → ℕ → List PrefixRoutes → List ℕ
begun_from past at [] = []
begun_from past at (s ∷ slots) = cond (is_passed_over past at s) (begun_from past at slots) (s.prefix.base ∷ begun_from past (past_of s) slots)

runs-passed : (past at : ℕ) (s : PrefixRoutes) (slots : List PrefixRoutes) → is_passed_over past at s ≡ true → runs_from past at (s ∷ slots) ≡ runs_from past at slots
runs-passed past at s slots h = ap (λ b. cond b (runs_from past at slots) (gap at s.prefix.base ++ runs_from past (past_of s) slots)) h

runs-gone : (past at : ℕ) (s : PrefixRoutes) (slots : List PrefixRoutes) → is_passed_over past at s ≡ false → runs_from past at (s ∷ slots) ≡ gap at s.prefix.base ++ runs_from past (past_of s) slots
runs-gone past at s slots h = ap (λ b. cond b (runs_from past at slots) (gap at s.prefix.base ++ runs_from past (past_of s) slots)) h

begun-passed : (past at : ℕ) (s : PrefixRoutes) (slots : List PrefixRoutes) → is_passed_over past at s ≡ true → begun_from past at (s ∷ slots) ≡ begun_from past at slots
begun-passed past at s slots h = ap (λ b. cond b (begun_from past at slots) (s.prefix.base ∷ begun_from past (past_of s) slots)) h

begun-gone : (past at : ℕ) (s : PrefixRoutes) (slots : List PrefixRoutes) → is_passed_over past at s ≡ false → begun_from past at (s ∷ slots) ≡ s.prefix.base ∷ begun_from past (past_of s) slots
begun-gone past at s slots h = ap (λ b. cond b (begun_from past at slots) (s.prefix.base ∷ begun_from past (past_of s) slots)) h

pub runs-are : (past : ℕ) (w : Along) (slots : List PrefixRoutes) → (along past w slots).runs ++ gap (along past w slots).at past ≡ w.runs ++ runs_from past w.at slots
runs-are past w [] = refl
runs-are past w (s ∷ slots) = ⊎_elim
    (λ (t : is_passed_over past w.at s ≡ true).
    ap (λ v. (along past v slots).runs ++ gap (along past v slots).at past) (slot-passed past w s t)
    ∙ runs-are past w slots
    ∙ sym (ap (λ rs. w.runs ++ rs) (runs-passed past w.at s slots t)))
    (λ (f : is_passed_over past w.at s ≡ false).
    ap (λ v. (along past v slots).runs ++ gap (along past v slots).at past) (slot-gone past w s f)
    ∙ runs-are past (gone w s) slots
    ∙ append_assoc w.runs (gap w.at s.prefix.base) (runs_from past (past_of s) slots)
    ∙ sym (ap (λ rs. w.runs ++ rs) (runs-gone past w.at s slots f)))
    (cases_Bool (is_passed_over past w.at s))

pub begun-are : (past : ℕ) (w : Along) (slots : List PrefixRoutes) → (along past w slots).begun ≡ w.begun ++ begun_from past w.at slots
begun-are past w [] = sym (append-nil w.begun)
begun-are past w (s ∷ slots) = ⊎_elim
    (λ (t : is_passed_over past w.at s ≡ true).
    ap (λ v. (along past v slots).begun) (slot-passed past w s t)
    ∙ begun-are past w slots
    ∙ sym (ap (λ rs. w.begun ++ rs) (begun-passed past w.at s slots t)))
    (λ (f : is_passed_over past w.at s ≡ false).
    ap (λ v. (along past v slots).begun) (slot-gone past w s f)
    ∙ begun-are past (gone w s) slots
    ∙ append_assoc w.begun (s.prefix.base ∷ []) (begun_from past (past_of s) slots)
    ∙ sym (ap (λ rs. w.begun ++ rs) (begun-gone past w.at s slots f)))
    (cases_Bool (is_passed_over past w.at s))

-- ---- at which addresses

-- whether a slot has routes, and its prefix an address
abbrev pub has_route_at : ℕ → PrefixRoutes → Bool
has_route_at a s = not (eqb (length s.targets) 0) && covers s.prefix a

-- the addresses before the end at which no slot has routes
abbrev pub is_left : ℕ → List PrefixRoutes → ℕ → Bool
is_left past slots a = ltb a past && not (list_any (has_route_at a) slots)

-- a prefix that goes not before `start` and begins before an address ends at it or before it
abbrev pub EndsBefore : ℕ → ℕ → Type 0
EndsBefore at start = (q : Cidr) → IsCidr q → start ≤ key_of q → q.base < at → q.base + size q ≤ at

with-apart : (run : Run) (past : ℕ) (runs : List Run) → StartFrom past runs → run.hi + 1 < past → with_run run runs ≡ run ∷ runs
with-apart run past [] s l = refl
with-apart run past (x ∷ xs) s l =
    let from : past ≤ x.lo = s in
    ap (λ b. cond b (record { lo = run.lo; hi = x.hi } ∷ xs) (run ∷ x ∷ xs)) (neq (run.hi + 1) x.lo (omega arith))
  where
    neq : (m n : ℕ) → m < n → eqb m n ≡ false
    neq m n l = grind (arith, nat_tests)

gap-some : (at past : ℕ) → at < past → gap at past ≡ record { lo = at; hi = past - 1 } ∷ []
gap-some at past l = ap (λ b. cond b (record { lo = at; hi = past - 1 } ∷ []) []) (lt-ltb at past l)

gap-none : (at past : ℕ) → past ≤ at → gap at past ≡ []
gap-none at past l = ap (λ b. cond b (record { lo = at; hi = past - 1 } ∷ []) []) (le-ltb at past l)

runs-alike : (at : ℕ) (test other : ℕ → Bool) (runs : List Run) → AreRunsFrom at test runs → ((a : ℕ) → at ≤ a → test a ≡ other a) → AreRunsFrom at other runs
runs-alike at test other runs h same = record {
  apart = h.apart;
  start = h.start;
  exact = λ a from below. h.exact a from below ∙ same a from;
}

-- the addresses up to a prefix pass, those that it has don't
gap-before : (at base next : ℕ) (test : ℕ → Bool) (runs : List Run) → at ≤ base → base < next → base ≤ 2 ^ 32 → AreRunsFrom next test runs → ((a : ℕ) → at ≤ a → a < base → test a ≡ true) → ((a : ℕ) → base ≤ a → a < next → test a ≡ false) → AreRunsFrom at test (gap at base ++ runs)
gap-before at base next test runs l m bound h left none =
    let later : AreRunsFrom base test runs = put-none test base next runs (omega arith) h none in
    ⊎_elim
    (λ (some : at < base).
    let run : Run = record { lo = at; hi = base - 1 } in
    let all : AreRunsFrom at test (with_run run runs) = put-passed test run base runs (omega arith) (omega arith) bound later left in
    subst (λ rs. AreRunsFrom at test (rs ++ runs)) (sym (gap-some at base some))
    (subst (λ rs. AreRunsFrom at test rs) (with-apart run next runs h.start (omega arith)) all))
    (λ (empty : base ≤ at).
    let e : base ≡ at = omega arith in
    subst (λ rs. AreRunsFrom at test (rs ++ runs)) (sym (gap-none at base empty))
    (subst (λ n. AreRunsFrom n test runs) e later))
    (cases_lt at base)

gap-last : (past at : ℕ) → past ≤ 2 ^ 32 → AreRunsFrom at (is_left past []) (gap at past)
gap-last past at bound =
    ⊎_elim
    (λ (some : at < past).
    let run : Run = record { lo = at; hi = past - 1 } in
    let none : AreRunsFrom past (is_left past []) [] = record { apart = tt; start = tt; exact = λ a from below. sym (and_left (ltb a past) true (le-ltb a past from)) } in
    subst (λ rs. AreRunsFrom at (is_left past []) rs) (sym (gap-some at past some))
    (put-passed (is_left past []) run past [] (omega arith) (omega arith) bound none (λ a from below. ap (λ b. b && true) (lt-ltb a past below))))
    (λ (empty : past ≤ at).
    subst (λ rs. AreRunsFrom at (is_left past []) rs) (sym (gap-none at past empty))
    (record { apart = tt; start = tt; exact = λ a from below. sym (and_left (ltb a past) true (le-ltb a past (omega arith))) }))
    (cases_lt at past)

-- behind a slot no prefix begins before it
none-before : (start a : ℕ) (slots : List PrefixRoutes) → AscendsFrom slot_key start slots → AllByRecursion IsSlot slots → a * 64 + 64 ≤ start → list_any (has_route_at a) slots ≡ false
none-before start a [] h each l = refl
none-before start a (s ∷ slots) h each l =
    let from : start ≤ slot_key s = h.0 in
    let len : s.prefix.len ≤ 32 = each.0.sound.len in
    or_from (has_route_at a s) (list_any (has_route_at a) slots)
    (and_right (not (eqb (length s.targets) 0)) (covers s.prefix a) (and_left (leb s.prefix.base a) (ltb a (s.prefix.base + size s.prefix)) (lt-leb s.prefix.base a (omega arith))))
    (none-before (slot_key s + 1) a slots h.1 each.1 (omega arith))

-- a slot that is passed over has no route at an address from there on
passed-none : (past at start a : ℕ) (s : PrefixRoutes) → EndsBefore at start → IsSlot s → start ≤ slot_key s → is_passed_over past at s ≡ true → at ≤ a → a < past → has_route_at a s ≡ false
passed-none past at start a s before slot from h la lp = ⊎_elim
    (λ (t : (leb past s.prefix.base || ltb s.prefix.base at) ≡ true). and_right (not (eqb (length s.targets) 0)) (covers s.prefix a) (⊎_elim
    (λ (e : leb past s.prefix.base ≡ true).
    let k : past ≤ s.prefix.base = leb-true past s.prefix.base e in
    and_left (leb s.prefix.base a) (ltb a (s.prefix.base + size s.prefix)) (lt-leb s.prefix.base a (omega arith)))
    (λ (e : ltb s.prefix.base at ≡ true).
    let k : s.prefix.base + size s.prefix ≤ at = before s.prefix slot.sound from (ltb-true s.prefix.base at e) in
    and_right (leb s.prefix.base a) (ltb a (s.prefix.base + size s.prefix)) (le-ltb a (s.prefix.base + size s.prefix) (omega arith)))
    (or_cases (leb past s.prefix.base) (ltb s.prefix.base at) t)))
    (λ (t : eqb (length s.targets) 0 ≡ true). and_left (not (eqb (length s.targets) 0)) (covers s.prefix a) (not_from_true (eqb (length s.targets) 0) t))
    (or_cases (leb past s.prefix.base || ltb s.prefix.base at) (eqb (length s.targets) 0) h)

left-same : (past a : ℕ) (s : PrefixRoutes) (slots : List PrefixRoutes) → (a < past → has_route_at a s ≡ false) → is_left past slots a ≡ is_left past (s ∷ slots) a
left-same past a s slots none = ⊎_elim
    (λ (l : a < past). sym (ap (λ b. ltb a past && not (b || list_any (has_route_at a) slots)) (none l)))
    (λ (l : past ≤ a).
    and_left (ltb a past) (not (list_any (has_route_at a) slots)) (le-ltb a past l)
    ∙ sym (and_left (ltb a past) (not (has_route_at a s || list_any (has_route_at a) slots)) (le-ltb a past l)))
    (cases_lt a past)

-- behind a prefix all that begin in it end in it
pub ends-behind : (q : Cidr) → IsCidr q → EndsBefore (q.base + size q) (key_of q + 1)
ends-behind q sound r sr from begins =
    let lq : q.len ≤ 32 = sound.len in
    let lr : r.len ≤ 32 = sr.len in
    let some : 0 < size r = size-some r in
    let base : q.base ≤ r.base = omega arith in
    ⊎_elim
    (λ (shorter : r.len < q.len).
    -- it would begin where this one does
    let there : covers q r.base ≡ true = covers-in q r.base base begins in
    let own : covers r r.base ≡ true = covers-in r r.base (omega arith) (omega arith) in
    let k : r.base ≤ q.base = nested-from r q r.base sr sound (omega arith) own there in
    absurd (omega arith))
    (λ (longer : q.len ≤ r.len). nested-to q r r.base sound sr longer (covers-in q r.base base begins) (covers-in r r.base (omega arith) (omega arith)))
    (cases_lt r.len q.len)

ends-later : (at start later : ℕ) → start ≤ later → EndsBefore at start → EndsBefore at later
ends-later at start later l h q sound from begins = h q sound (omega arith) begins

-- what the walk leaves are the runs of the addresses at which no slot has routes
pub runs-left : (past at start : ℕ) (slots : List PrefixRoutes) → past ≤ 2 ^ 32 → EndsBefore at start → AscendsFrom slot_key start slots → AllByRecursion IsSlot slots → AreRunsFrom at (is_left past slots) (runs_from past at slots)
runs-left past at start [] bound before h each = gap-last past at bound
runs-left past at start (s ∷ slots) bound before h each =
    let from : start ≤ slot_key s = h.0 in
    ⊎_elim
    (λ (t : is_passed_over past at s ≡ true).
    let rest : AreRunsFrom at (is_left past slots) (runs_from past at slots) = runs-left past at (slot_key s + 1) slots bound (ends-later at start (slot_key s + 1) (omega arith) before) h.1 each.1 in
    subst (λ rs. AreRunsFrom at (is_left past (s ∷ slots)) rs) (sym (runs-passed past at s slots t))
    (runs-alike at (is_left past slots) (is_left past (s ∷ slots)) (runs_from past at slots) rest
    (λ a l. left-same past a s slots (λ m. passed-none past at start a s before each.0 from t l m))))
    (λ (f : is_passed_over past at s ≡ false).
    let met : IsMet past at s = is-met past at s f in
    let w : s.prefix.base < past = met.within in
    let some : 0 < size s.prefix = size-some s.prefix in
    let rest : AreRunsFrom (past_of s) (is_left past slots) (runs_from past (past_of s) slots) = runs-left past (past_of s) (slot_key s + 1) slots bound (ends-behind s.prefix each.0.sound) h.1 each.1 in
    let after : AreRunsFrom (past_of s) (is_left past (s ∷ slots)) (runs_from past (past_of s) slots) =
    runs-alike (past_of s) (is_left past slots) (is_left past (s ∷ slots)) (runs_from past (past_of s) slots) rest
    (λ a l. left-same past a s slots (λ m. and_right (not (eqb (length s.targets) 0)) (covers s.prefix a) (and_right (leb s.prefix.base a) (ltb a (past_of s)) (le-ltb a (past_of s) l)))) in
    subst (λ rs. AreRunsFrom at (is_left past (s ∷ slots)) rs) (sym (runs-gone past at s slots f))
    (gap-before at s.prefix.base (past_of s) (is_left past (s ∷ slots)) (runs_from past (past_of s) slots) met.from (omega arith) (omega arith) after
    (λ a l m.
    let here : has_route_at a s ≡ false = and_right (not (eqb (length s.targets) 0)) (covers s.prefix a) (and_left (leb s.prefix.base a) (ltb a (past_of s)) (lt-leb s.prefix.base a m)) in
    let there : list_any (has_route_at a) slots ≡ false = none-before (slot_key s + 1) a slots h.1 each.1 (omega arith) in
    and_from (ltb a past) (not (list_any (has_route_at a) (s ∷ slots))) (lt-ltb a past (omega arith)) (not_from_false (list_any (has_route_at a) (s ∷ slots)) (or_from (has_route_at a s) (list_any (has_route_at a) slots) here there)))
    (λ a l m.
    let here : has_route_at a s ≡ true = and_from (not (eqb (length s.targets) 0)) (covers s.prefix a) (not_from_false (eqb (length s.targets) 0) met.some) (covers-in s.prefix a l m) in
    and_right (ltb a past) (not (list_any (has_route_at a) (s ∷ slots))) (not_from_true (list_any (has_route_at a) (s ∷ slots)) (or_left (has_route_at a s) (list_any (has_route_at a) slots) here)))))
    (cases_Bool (is_passed_over past at s))

-- ---- where the runs end, and where the prefixes begin

-- what is so of each slot with routes
abbrev pub OfEach : (PrefixRoutes → Type 0) → List PrefixRoutes → Type 0
OfEach P slots = (s : PrefixRoutes) → Contains slots s → eqb (length s.targets) 0 ≡ false → P s

gap-ends : (routes : List Route) (p : Cidr) (at base : ℕ) (runs : List Run) → is_end_in routes p at ≡ true → is_end_in routes p base ≡ true → EndAtEnds routes p runs → EndAtEnds routes p (gap at base ++ runs)
gap-ends routes p at base runs first last h = ⊎_elim
    (λ (some : at < base).
    let e : base - 1 + 1 ≡ base = omega arith in
    subst (λ rs. EndAtEnds routes p (rs ++ runs)) (sym (gap-some at base some)) (first, subst (λ n. is_end_in routes p n ≡ true) (sym e) last, h))
    (λ (empty : base ≤ at). subst (λ rs. EndAtEnds routes p (rs ++ runs)) (sym (gap-none at base empty)) h)
    (cases_lt at base)

pub runs-ends : (routes : List Route) (p : Cidr) (past at : ℕ) (slots : List PrefixRoutes) → is_end_in routes p at ≡ true → is_end_in routes p past ≡ true → OfEach (λ s. is_end_in routes p s.prefix.base ≡ true) slots → OfEach (λ s. is_end_in routes p (past_of s) ≡ true) slots → EndAtEnds routes p (runs_from past at slots)
runs-ends routes p past at [] first last lows pasts = subst (λ rs. EndAtEnds routes p rs) (append-nil (gap at past)) (gap-ends routes p at past [] first last tt)
runs-ends routes p past at (s ∷ slots) first last lows pasts = ⊎_elim
    (λ (t : is_passed_over past at s ≡ true).
    subst (λ rs. EndAtEnds routes p rs) (sym (runs-passed past at s slots t))
    (runs-ends routes p past at slots first last (λ x i n. lows x (contains-there s x slots i) n) (λ x i n. pasts x (contains-there s x slots i) n)))
    (λ (f : is_passed_over past at s ≡ false).
    let met : IsMet past at s = is-met past at s f in
    subst (λ rs. EndAtEnds routes p rs) (sym (runs-gone past at s slots f))
    (gap-ends routes p at s.prefix.base (runs_from past (past_of s) slots) first (lows s (contains-here s slots) met.some)
    (runs-ends routes p past (past_of s) slots (pasts s (contains-here s slots) met.some) last (λ x i n. lows x (contains-there s x slots i) n) (λ x i n. pasts x (contains-there s x slots i) n))))
    (cases_Bool (is_passed_over past at s))

pub begun-within : (routes : List Route) (past at low : ℕ) (slots : List PrefixRoutes) → low ≤ at → OfEach (λ s. s.prefix.base < past → list_any (λ r. eqb r.prefix.base s.prefix.base) routes ≡ true) slots → BeginWithin routes low past (begun_from past at slots)
begun-within routes past at low [] l known = tt
begun-within routes past at low (s ∷ slots) l known = ⊎_elim
    (λ (t : is_passed_over past at s ≡ true).
    subst (λ ns. BeginWithin routes low past ns) (sym (begun-passed past at s slots t))
    (begun-within routes past at low slots l (λ x i n. known x (contains-there s x slots i) n)))
    (λ (f : is_passed_over past at s ≡ false).
    let met : IsMet past at s = is-met past at s f in
    let from : at ≤ s.prefix.base = met.from in
    let some : 0 < size s.prefix = size-some s.prefix in
    subst (λ ns. BeginWithin routes low past ns) (sym (begun-gone past at s slots f)) (
      omega arith,
      met.within,
      known s (contains-here s slots) met.some met.within,
      begun-within routes past (past_of s) (s.prefix.base + 1) slots (omega arith) (λ x i n. known x (contains-there s x slots i) n),
    ))
    (cases_Bool (is_passed_over past at s))
