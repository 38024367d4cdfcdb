-- How many atoms a span meets, how many a cut adds, and how many begin within it.
use Rattle.std.proofs.Common.{◌≡◌, ℕ, ◌+◌, ◌-◌, ◌<◌, ◌≤◌, ◌^◌, ◌∙◌, ◌⊎◌, ◌||◌, ⊎_elim, Bool, true, false, cond, leb, ltb, eqb, List, [], ◌∷◌, length, get_or, drop, map, refl, ap, sym, arith}
use Rattle.std.specs.Prelude.{count_by}
use Rattle.std.specs.List.{list_any}
use Rattle.std.proofs.lemmas.Bool.{and_from, and_left, and_right, cases_Bool, cases_eq, cases_lt, eq-eqb, eqb-true, le-leb, le-ltb, lt-leb, lt-ltb, ne_eqb, or_cases, or_from, or_left, or_right}
use Rattle.std.proofs.lemmas.List.Sums.{sum_by-cons}
use Rattle.std.proofs.lemmas.Nat.{pow_pos}
use Rattle.atom_map.specs.Spans.{Span, is_boundary, span_low, span_past}
use Rattle.base.specs.Cidr.{Cidr, size}
use Rattle.base.specs.Rows.{is_within, CoverFrom}
use Rattle.net_engine.specs.Version.{Atom, begins_at, first_of, past_of}
use Rattle.dn_model.specs.declared.entry.Route.{Route}
use Rattle.base.specs.declared.target.Target.{Target}
use Rattle.base.proofs.Covers.{within-above, within-below, within-yes}
use Rattle.target_rows.specs.Labels.{Labels}
use Rattle.route_table.specs.Own.{BeginWithin}
use Rattle.net_engine.specs.Looks.{atoms_begun, atoms_between, has_some, more_at}
use Rattle.net_engine.specs.Net.{between, cut_atoms}
use Rattle.net_engine.specs.Paired.{atoms_with, owned, rows_with}
use Rattle.net_engine.proofs.Along.{none-begins_before}
use Rattle.net_engine.proofs.Atoms.{cut-begins, cut-inside, cut-on, cut-outside}
use Rattle.net_engine.proofs.Held.{within-high, within-low}
use Rattle.net_engine.proofs.Standing.{AllRoutes, row_with}

-- what one counts for
abbrev as_one : Bool → ℕ
as_one b = cond b 1 0

count-cons : {X : Type 0} (p : X → Bool) (x : X) (xs : List X) → count_by p (x ∷ xs) ≡ as_one (p x) + count_by p xs
count-cons p x xs = sum_by-cons (λ y. cond (p y) 1 0) x xs

-- a prefix has an address
pub ends-apart : (p : Cidr) → p.base < p.base + size p
ends-apart p = let some : 0 < 2 ^ (32 - p.len) = pow_pos (32 - p.len) in omega arith

-- ---- how many a cut adds

pub more-begun : (xs : List Atom) (at : ℕ) → begins_at xs at ≡ true → more_at xs at ≡ 0
more-begun xs at b = ap (λ c. cond (c || leb (2 ^ 32) at) 0 1) b

more-new : (xs : List Atom) (at : ℕ) → begins_at xs at ≡ false → at < 2 ^ 32 → more_at xs at ≡ 1
more-new xs at b l = ap (λ c. cond c 0 1) (or_from (begins_at xs at) (leb (2 ^ 32) at) b (lt-leb (2 ^ 32) at l))

-- none past all addresses
pub more-past : (xs : List Atom) (at : ℕ) → 2 ^ 32 ≤ at → more_at xs at ≡ 0
more-past xs at l = ap (λ c. cond c 0 1) (or_right (begins_at xs at) (leb (2 ^ 32) at) (le-leb (2 ^ 32) at l))

-- where the first doesn't begin the others say it
more-rest : (x : Atom) (xs : List Atom) (at : ℕ) → eqb x.row.low at ≡ false → more_at (x ∷ xs) at ≡ more_at xs at
more-rest x xs at n = ap (λ c. cond ((c || begins_at xs at) || leb (2 ^ 32) at) 0 1) n

uncut : (start : ℕ) (xs : List Atom) (at : ℕ) → CoverFrom first_of past_of start xs → at < start → length (cut_atoms xs at) ≡ length xs
uncut start [] at h l = refl
uncut start (x ∷ xs) at h l =
    let first : first_of x ≡ start = h.0 in
    let order : first_of x < past_of x = h.1 in
    let rest : length (cut_atoms xs at) ≡ length xs = uncut (past_of x) xs at h.2 (omega arith) in
    ap (λ ys. length ys) (cut-outside x xs at (within-below (first_of x) (past_of x) at (omega arith))) ∙ (omega arith)

pub cut-more : (start : ℕ) (xs : List Atom) (at : ℕ) → CoverFrom first_of past_of start xs → start ≤ at → at < 2 ^ 32 → length (cut_atoms xs at) ≡ length xs + more_at xs at
cut-more start [] at h l m = let e : start ≡ 2 ^ 32 = h in absurd (omega arith)
cut-more start (x ∷ xs) at h l m =
    let first : first_of x ≡ start = h.0 in
    let order : first_of x < past_of x = h.1 in
    ⊎_elim
    (λ (u : at < past_of x). ⊎_elim
    (λ (e : first_of x ≡ at).
    let none : more_at (x ∷ xs) at ≡ 0 = more-begun (x ∷ xs) at (or_left (eqb x.row.low at) (begins_at xs at) (eq-eqb x.row.low at e)) in
    let rest : length (cut_atoms xs at) ≡ length xs = uncut (past_of x) xs at h.2 u in
    ap (λ ys. length ys) (cut-on x xs at e) ∙ (omega arith))
    (λ (n : first_of x ≡ at → ⊥).
    let new : begins_at (x ∷ xs) at ≡ false = or_from (eqb x.row.low at) (begins_at xs at) (ne_eqb x.row.low at n) (none-begins_before (past_of x) xs at h.2 u) in
    let one : more_at (x ∷ xs) at ≡ 1 = more-new (x ∷ xs) at new m in
    ap (λ ys. length ys) (cut-inside x xs at (omega arith) u) ∙ (omega arith))
    (cases_eq (first_of x) at))
    (λ (u : past_of x ≤ at).
    let same : more_at (x ∷ xs) at ≡ more_at xs at = more-rest x xs at (ne_eqb x.row.low at (λ e. omega arith)) in
    let rest : length (cut_atoms xs at) ≡ length xs + more_at xs at = cut-more (past_of x) xs at h.2 u m in
    ap (λ ys. length ys) (cut-outside x xs at (within-above (first_of x) (past_of x) at u)) ∙ (omega arith))
    (cases_lt at (past_of x))

-- a cut at one end leaves what the other one adds
pub more-after : (xs : List Atom) (at past : ℕ) → CoverFrom first_of past_of 0 xs → at < 2 ^ 32 → at < past → more_at (cut_atoms xs at) past ≡ more_at xs past
more-after xs at past h m l =
    let apart : eqb past at ≡ false = ne_eqb past at (λ e. omega arith) in
    ap (λ c. cond (c || leb (2 ^ 32) past) 0 1)
    (cut-begins 0 xs at past h (omega arith) m ∙ ap (λ c. begins_at xs past || c) apart ∙ or-none (begins_at xs past))
  where
    or-none : (b : Bool) → (b || false) ≡ b
    or-none true = refl
    or-none false = refl

-- ---- how many a span meets

some-yes : (lo past : ℕ) (x : Atom) → lo < past_of x → first_of x < past → has_some lo past x ≡ true
some-yes lo past x l m = and_from (ltb lo (past_of x)) (ltb (first_of x) past) (lt-ltb lo (past_of x) l) (lt-ltb (first_of x) past m)

some-before : (lo past : ℕ) (x : Atom) → past_of x ≤ lo → has_some lo past x ≡ false
some-before lo past x l = and_left (ltb lo (past_of x)) (ltb (first_of x) past) (le-ltb lo (past_of x) l)

some-behind : (lo past : ℕ) (x : Atom) → past ≤ first_of x → has_some lo past x ≡ false
some-behind lo past x l = and_right (ltb lo (past_of x)) (ltb (first_of x) past) (le-ltb (first_of x) past l)

count-yes : (lo past : ℕ) (x : Atom) (xs : List Atom) → has_some lo past x ≡ true → atoms_between (x ∷ xs) lo past ≡ 1 + atoms_between xs lo past
count-yes lo past x xs e = count-cons (has_some lo past) x xs ∙ ap (λ (b : Bool). as_one b + atoms_between xs lo past) e

count-not : (lo past : ℕ) (x : Atom) (xs : List Atom) → has_some lo past x ≡ false → atoms_between (x ∷ xs) lo past ≡ atoms_between xs lo past
count-not lo past x xs e =
    let k : atoms_between (x ∷ xs) lo past ≡ 0 + atoms_between xs lo past = count-cons (has_some lo past) x xs ∙ ap (λ (b : Bool). as_one b + atoms_between xs lo past) e in
    omega arith

count-rest : (lo past : ℕ) (x : Atom) (xs ys : List Atom) → atoms_between ys lo past ≡ atoms_between xs lo past → atoms_between (x ∷ ys) lo past ≡ atoms_between (x ∷ xs) lo past
count-rest lo past x xs ys e = count-cons (has_some lo past) x ys ∙ ap (λ n. as_one (has_some lo past x) + n) e ∙ sym (count-cons (has_some lo past) x xs)

-- of an atom that is cut at an end of a span, one part is in it
parts-meet : (x : Atom) (xs : List Atom) (at lo past : ℕ) → lo < past → first_of x < at → at < past_of x → (at ≡ lo) ⊎ (at ≡ past) → atoms_between (between (first_of x) at x ∷ between at (past_of x) x ∷ xs) lo past ≡ atoms_between (x ∷ xs) lo past
parts-meet x xs at lo past o l m end =
    let lower : Atom = between (first_of x) at x in
    let upper : Atom = between at (past_of x) x in
    ⊎_elim
    (λ (e : at ≡ lo).
    count-not lo past lower (upper ∷ xs) (some-before lo past lower (omega arith))
    ∙ count-yes lo past upper xs (some-yes lo past upper (omega arith) (omega arith))
    ∙ sym (count-yes lo past x xs (some-yes lo past x (omega arith) (omega arith))))
    (λ (e : at ≡ past).
    count-yes lo past lower (upper ∷ xs) (some-yes lo past lower (omega arith) (omega arith))
    ∙ ap (λ n. 1 + n) (count-not lo past upper xs (some-behind lo past upper (omega arith)))
    ∙ sym (count-yes lo past x xs (some-yes lo past x (omega arith) (omega arith))))
    end

-- a cut at an end of a span leaves the number of atoms that have its addresses
pub cut-meets : (xs : List Atom) (at lo past : ℕ) → lo < past → (at ≡ lo) ⊎ (at ≡ past) → atoms_between (cut_atoms xs at) lo past ≡ atoms_between xs lo past
cut-meets [] at lo past o end = refl
cut-meets (x ∷ xs) at lo past o end =
    let rest : atoms_between (cut_atoms xs at) lo past ≡ atoms_between xs lo past = cut-meets xs at lo past o end in
    ⊎_elim
    (λ (t : is_within (first_of x) (past_of x) at ≡ true). ⊎_elim
    (λ (e : first_of x ≡ at). ap (λ ys. atoms_between ys lo past) (cut-on x xs at e) ∙ count-rest lo past x xs (cut_atoms xs at) rest)
    (λ (n : first_of x ≡ at → ⊥).
    let from : first_of x ≤ at = within-low (first_of x) (past_of x) at t in
    let to : at < past_of x = within-high (first_of x) (past_of x) at t in
    ap (λ ys. atoms_between ys lo past) (cut-inside x xs at (omega arith) to) ∙ parts-meet x xs at lo past o (omega arith) to end)
    (cases_eq (first_of x) at))
    (λ (f : is_within (first_of x) (past_of x) at ≡ false). ap (λ ys. atoms_between ys lo past) (cut-outside x xs at f) ∙ count-rest lo past x xs (cut_atoms xs at) rest)
    (cases_Bool (is_within (first_of x) (past_of x) at))

-- ---- by the rows of the atoms

-- whether the atom of a row has one of the addresses of a span
abbrev row_has_some : ℕ → ℕ → Span → Bool
row_has_some lo past r = has_some lo past (record { row = record { low = r.low; past = r.past; targets = [] }; owners = [] })

meets-owned : (owners : AllRoutes) (rows : List Span) (tss : List (List Target)) (lo past : ℕ) → atoms_between (map (owned owners) (rows_with rows tss)) lo past ≡ count_by (row_has_some lo past) rows
meets-owned owners [] tss lo past = refl
meets-owned owners (r ∷ rs) tss lo past =
    count-cons (has_some lo past) (owned owners (row_with r (get_or tss 0 []))) (map (owned owners) (rows_with rs (drop 1 tss)))
    ∙ ap (λ n. as_one (row_has_some lo past r) + n) (meets-owned owners rs (drop 1 tss) lo past)
    ∙ sym (count-cons (row_has_some lo past) r rs)

pub meets-paired : (labels : Labels) (owners : AllRoutes) (rows : List Span) (lo past : ℕ) → atoms_between (atoms_with rows labels owners) lo past ≡ count_by (row_has_some lo past) rows
meets-paired labels owners rows lo past = meets-owned owners rows labels.rows lo past

begun-cons : (r : Span) (rs : List Span) (lo past : ℕ) → atoms_begun (r ∷ rs) lo past ≡ as_one (is_within lo past r.low) + atoms_begun rs lo past
begun-cons r rs lo past = count-cons (λ (row : Span). is_within lo past row.low) r rs

begun-owned : (owners : AllRoutes) (start : ℕ) (rows : List Span) (tss : List (List Target)) (lo past : ℕ) → CoverFrom span_low span_past start rows → atoms_begun rows lo past ≤ atoms_between (map (owned owners) (rows_with rows tss)) lo past
begun-owned owners start [] tss lo past h = omega arith
begun-owned owners start (r ∷ rs) tss lo past h =
    let atom : Atom = owned owners (row_with r (get_or tss 0 [])) in
    let atoms : List Atom = map (owned owners) (rows_with rs (drop 1 tss)) in
    let order : r.low < r.past = h.1 in
    let rest : atoms_begun rs lo past ≤ atoms_between (map (owned owners) (rows_with rs (drop 1 tss))) lo past = begun-owned owners r.past rs (drop 1 tss) lo past h.2 in
    let one : atoms_begun (r ∷ rs) lo past ≡ as_one (is_within lo past r.low) + atoms_begun rs lo past = begun-cons r rs lo past in
    ⊎_elim
    (λ (t : is_within lo past r.low ≡ true).
    let from : lo ≤ r.low = within-low lo past r.low t in
    let to : r.low < past = within-high lo past r.low t in
    let here : as_one (is_within lo past r.low) ≡ 1 = ap as_one t in
    let both : atoms_between (map (owned owners) (rows_with (r ∷ rs) tss)) lo past ≡ 1 + atoms_between (map (owned owners) (rows_with rs (drop 1 tss))) lo past =
    count-yes lo past atom atoms (some-yes lo past atom (omega arith) to) in
    omega arith)
    (λ (f : is_within lo past r.low ≡ false).
    let here : as_one (is_within lo past r.low) ≡ 0 = ap as_one f in
    let both : atoms_between (map (owned owners) (rows_with (r ∷ rs) tss)) lo past ≡ as_one (has_some lo past (owned owners (row_with r (get_or tss 0 [])))) + atoms_between (map (owned owners) (rows_with rs (drop 1 tss))) lo past =
    count-cons (has_some lo past) atom atoms in
    omega arith)
    (cases_Bool (is_within lo past r.low))

-- those that begin in a span have addresses of it
pub begun-meet : (labels : Labels) (owners : AllRoutes) (start : ℕ) (rows : List Span) (lo past : ℕ) → CoverFrom span_low span_past start rows → atoms_begun rows lo past ≤ atoms_between (atoms_with rows labels owners) lo past
begun-meet labels owners start rows lo past h = begun-owned owners start rows labels.rows lo past h

-- ---- at some addresses of a span, in order

within-one : (lo past a : ℕ) → lo ≤ a → a < past → as_one (is_within lo past a) ≡ 1
within-one lo past a l m = ap as_one (within-yes lo past a l m)

-- one that begins in the rest of a span begins in the span
within-rest : (lo at past a : ℕ) → lo ≤ at → as_one (is_within at past a) ≤ as_one (is_within lo past a)
within-rest lo at past a o = ⊎_elim
    (λ (t : is_within at past a ≡ true).
    let from : at ≤ a = within-low at past a t in
    let here : as_one (is_within at past a) ≡ 1 = ap as_one t in
    let there : as_one (is_within lo past a) ≡ 1 = within-one lo past a (omega arith) (within-high at past a t) in
    omega arith)
    (λ (f : is_within at past a ≡ false).
    let here : as_one (is_within at past a) ≡ 0 = ap as_one f in
    omega arith)
    (cases_Bool (is_within at past a))

begun-rest : (rows : List Span) (lo at past : ℕ) → lo ≤ at → atoms_begun rows at past ≤ atoms_begun rows lo past
begun-rest [] lo at past o = omega arith
begun-rest (r ∷ rs) lo at past o =
    let rest : atoms_begun rs at past ≤ atoms_begun rs lo past = begun-rest rs lo at past o in
    let one : as_one (is_within at past r.low) ≤ as_one (is_within lo past r.low) = within-rest lo at past r.low o in
    let x : atoms_begun (r ∷ rs) at past ≡ as_one (is_within at past r.low) + atoms_begun rs at past = begun-cons r rs at past in
    let y : atoms_begun (r ∷ rs) lo past ≡ as_one (is_within lo past r.low) + atoms_begun rs lo past = begun-cons r rs lo past in
    omega arith

-- where an atom begins there is one more than behind it
begun-behind : (rows : List Span) (lo at past : ℕ) → lo ≤ at → at < past → is_boundary rows at ≡ true → atoms_begun rows (at + 1) past + 1 ≤ atoms_begun rows lo past
begun-behind [] lo at past l m b = absurd (none b)
  where
    none : false ≡ true → ⊥
    none e = cc
begun-behind (r ∷ rs) lo at past l m b =
    let x : atoms_begun (r ∷ rs) (at + 1) past ≡ as_one (is_within (at + 1) past r.low) + atoms_begun rs (at + 1) past = begun-cons r rs (at + 1) past in
    let y : atoms_begun (r ∷ rs) lo past ≡ as_one (is_within lo past r.low) + atoms_begun rs lo past = begun-cons r rs lo past in
    ⊎_elim
    (λ (e : eqb r.low at ≡ true).
    let same : r.low ≡ at = eqb-true r.low at e in
    let here : as_one (is_within (at + 1) past r.low) ≡ 0 = ap as_one (within-below (at + 1) past r.low (omega arith)) in
    let there : as_one (is_within lo past r.low) ≡ 1 = within-one lo past r.low (omega arith) (omega arith) in
    let rest : atoms_begun rs (at + 1) past ≤ atoms_begun rs lo past = begun-rest rs lo (at + 1) past (omega arith) in
    omega arith)
    (λ (e : is_boundary rs at ≡ true).
    let rest : atoms_begun rs (at + 1) past + 1 ≤ atoms_begun rs lo past = begun-behind rs lo at past l m e in
    let one : as_one (is_within (at + 1) past r.low) ≤ as_one (is_within lo past r.low) = within-rest lo (at + 1) past r.low (omega arith) in
    omega arith)
    (or_cases (eqb r.low at) (is_boundary rs at) b)

-- so many addresses of a span at which atoms begin are no more than these
pub begun-many : (rows : List Span) (routes : List Route) (lo past : ℕ) (begun : List ℕ) → BeginWithin routes lo past begun → ((c : ℕ) → c < past → list_any (λ (x : Route). eqb x.prefix.base c) routes ≡ true → is_boundary rows c ≡ true) → length begun ≤ atoms_begun rows lo past
begun-many rows routes lo past [] h bound = omega arith
begun-many rows routes lo past (a ∷ more) h bound =
    let rest : length more ≤ atoms_begun rows (a + 1) past = begun-many rows routes (a + 1) past more h.3 bound in
    let one : atoms_begun rows (a + 1) past + 1 ≤ atoms_begun rows lo past = begun-behind rows lo a past h.0 h.1 (bound a h.1 h.2) in
    omega arith
