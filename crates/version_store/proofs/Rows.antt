-- How many rows a version has: each begins at 0 or at an end of a prefix that was set, and no two begin alike.
use Rattle.std.proofs.Common.{◌≡◌, ℕ, ◌+◌, ◌*◌, ◌<◌, ◌≤◌, ◌^◌, ◌∙◌, ◌==◌, ◌||◌, ⊎_elim, Bool, true, false, cond, Option, None, Some, List, [], ◌∷◌, length, refl, ap, sym, subst, arith}
use Rattle.std.specs.List.{cons_option, filter_map, list_any}
use Rattle.std.proofs.lemmas.Bool.{and_parts, both_ways, cases_Bool, cond-false, cond-true, eq-eqb, eqb-true, or_left, or_right}
use Rattle.base.specs.Cidr.{Cidr, size}
use Rattle.dn_model.specs.Entry.{ends_of_set, is_bound_of, is_end_of_some, prefix_set}
use Rattle.base.specs.Forwarding.{row_low, row_past}
use Rattle.base.specs.Rows.{CoverFrom}
use Rattle.net_engine.specs.Version.{Atom, Kept, KeptStandsFor, begins_at, forwarding_of}
use Rattle.dn_model.specs.declared.entry.Entry.{Entry}
use Rattle.dn_model.specs.declared.entry.Entry.TheVariants.{Route, Link}
use Rattle.dn_model.specs.declared.query.Ask.{Ask}
use Rattle.dn_model.specs.declared.topology.Topology.{Topology}
use Rattle.base.specs.declared.forwarding_row.ForwardingRow.{ForwardingRow}
use Rattle.base.proofs.Covers.{starts-below}
use Rattle.row_answers.specs.Looks.{most_looks}
use Rattle.row_answers.proofs.Looking.{looks_all, looks_more}
use Rattle.version_store.specs.Kept.{IsPictureOf}
use Rattle.version_store.specs.declared.picture.Picture.{Picture}
use Rattle.version_store.specs.Prefixes.{each_once, most_rows, prefixes_set, same_prefix, set_prefix}

-- ---- counts of rows by where they begin

abbrev one : Bool → ℕ
one b = cond b 1 0

-- how many rows begin where a test passes
abbrev begin_where : (ℕ → Bool) → List ForwardingRow → ℕ
begin_where test [] = 0
begin_where test (row ∷ rows) = one (test row.low) + begin_where test rows

one-or : (x y : Bool) → one (x || y) ≤ one x + one y
one-or true y = omega arith
one-or false y = omega arith

one-less : (x y : Bool) → (x ≡ true → y ≡ true) → one x ≤ one y
one-less true true h = omega arith
one-less true false h = absurd (both_ways false refl (h refl))
one-less false y h = omega arith

one-most : (x : Bool) → one x ≤ 1
one-most true = omega arith
one-most false = omega arith

where-or : (f g : ℕ → Bool) (rows : List ForwardingRow) → begin_where (λ a. f a || g a) rows ≤ begin_where f rows + begin_where g rows
where-or f g [] = omega arith
where-or f g (row ∷ rows) =
    let this : one (f row.low || g row.low) ≤ one (f row.low) + one (g row.low) = one-or (f row.low) (g row.low) in
    let rest : begin_where (λ a. f a || g a) rows ≤ begin_where f rows + begin_where g rows = where-or f g rows in
    omega arith

where-less : (f g : ℕ → Bool) (rows : List ForwardingRow) → ((a : ℕ) → f a ≡ true → g a ≡ true) → begin_where f rows ≤ begin_where g rows
where-less f g [] h = omega arith
where-less f g (row ∷ rows) h =
    let this : one (f row.low) ≤ one (g row.low) = one-less (f row.low) (g row.low) (h row.low) in
    let rest : begin_where f rows ≤ begin_where g rows = where-less f g rows h in
    omega arith

where-never : (rows : List ForwardingRow) → begin_where (λ a. false) rows ≤ 0
where-never [] = omega arith
where-never (row ∷ rows) = let rest : begin_where (λ a. false) rows ≤ 0 = where-never rows in omega arith

-- ---- no two begin alike

abbrev IsOfOne : (ℕ → Bool) → Type 0
IsOfOne test = (a b : ℕ) → test a ≡ true → test b ≡ true → a ≡ b

none-after : (test : ℕ → Bool) (v start : ℕ) (rows : List ForwardingRow) → IsOfOne test → test v ≡ true → v < start → CoverFrom row_low row_past start rows → begin_where test rows ≤ 0
none-after test v start [] only is later cover = omega arith
none-after test v start (row ∷ rows) only is later cover =
    let low : row.low ≡ start = cover.0 in
    let past : row.low < row.past = cover.1 in
    let rest : begin_where test rows ≤ 0 = none-after test v row.past rows only is (omega arith) cover.2 in
    ⊎_elim
    (λ (t : test row.low ≡ true). let same : v ≡ row.low = only v row.low is t in absurd (omega arith))
    (λ (f : test row.low ≡ false). let no : one (test row.low) ≡ 0 = cond-false (test row.low) 1 0 f in omega arith)
    (cases_Bool (test row.low))

one-begins : (test : ℕ → Bool) (start : ℕ) (rows : List ForwardingRow) → IsOfOne test → CoverFrom row_low row_past start rows → begin_where test rows ≤ 1
one-begins test start [] only cover = omega arith
one-begins test start (row ∷ rows) only cover =
    let past : row.low < row.past = cover.1 in
    ⊎_elim
    (λ (t : test row.low ≡ true).
    let rest : begin_where test rows ≤ 0 = none-after test row.low row.past rows only t past cover.2 in
    let this : one (test row.low) ≤ 1 = one-most (test row.low) in
    omega arith)
    (λ (f : test row.low ≡ false).
    let rest : begin_where test rows ≤ 1 = one-begins test row.past rows only cover.2 in
    let no : one (test row.low) ≡ 0 = cond-false (test row.low) 1 0 f in
    omega arith)
    (cases_Bool (test row.low))

-- ---- ends of prefixes

first-only : (v : ℕ) → IsOfOne (λ a. v == a)
first-only v = λ a b x y. let e : v ≡ a = eqb-true v a x in let f : v ≡ b = eqb-true v b y in sym e ∙ f

zero-only : IsOfOne (λ a. a == 0)
zero-only = λ a b x y. let e : a ≡ 0 = eqb-true a 0 x in let f : b ≡ 0 = eqb-true b 0 y in e ∙ sym f

-- at the ends of one prefix at most two begin
ends-of-one : (p : Cidr) (rows : List ForwardingRow) → CoverFrom row_low row_past 0 rows → begin_where (is_bound_of p) rows ≤ 2
ends-of-one p rows cover =
    let both : begin_where (is_bound_of p) rows ≤ begin_where (λ a. p.base == a) rows + begin_where (λ a. (p.base + size p) == a) rows = where-or (λ a. p.base == a) (λ a. (p.base + size p) == a) rows in
    let low : begin_where (λ a. p.base == a) rows ≤ 1 = one-begins (λ a. p.base == a) 0 rows (first-only p.base) cover in
    let high : begin_where (λ a. (p.base + size p) == a) rows ≤ 1 = one-begins (λ a. (p.base + size p) == a) 0 rows (first-only (p.base + size p)) cover in
    omega arith

prefix-is : (p q : Cidr) → same_prefix p q ≡ true → p ≡ q
prefix-is p q same =
    let parts = and_parts (p.base == q.base) (p.len == q.len) same in
    let base : p.base ≡ q.base = eqb-true p.base q.base parts.0 in
    let len : p.len ≡ q.len = eqb-true p.len q.len parts.1 in
    let first : p ≡ record { base = q.base; len = p.len } = ap (λ (b : ℕ). (let c : Cidr = record { base = b; len = p.len } in c)) base in
    let second : (let c : Cidr = record { base = q.base; len = p.len } in c) ≡ q = ap (λ (n : ℕ). (let c : Cidr = record { base = q.base; len = n } in c)) len in
    first ∙ second

-- whether an address is an end of one of these prefixes
abbrev is_end : List Cidr → ℕ → Bool
is_end ps a = list_any (λ p. is_bound_of p a) ps

-- an end of a prefix is one of a list that has the prefix
end-again : (p : Cidr) (ps : List Cidr) (a : ℕ) → list_any (same_prefix p) ps ≡ true → is_bound_of p a ≡ true → is_end ps a ≡ true
end-again p [] a there is = absurd (both_ways false refl there)
end-again p (q ∷ qs) a there is = ⊎_elim
    (λ (same : same_prefix p q ≡ true). or_left (is_bound_of q a) (is_end qs a) (subst (λ (c : Cidr). is_bound_of c a ≡ true) (prefix-is p q same) is))
    (λ (other : same_prefix p q ≡ false). or_right (is_bound_of q a) (is_end qs a) (end-again p qs a (sym (ap (λ b. b || list_any (same_prefix p) qs) other) ∙ there) is))
    (cases_Bool (same_prefix p q))

end-either : (p : Cidr) (ps : List Cidr) (a : ℕ) → list_any (same_prefix p) ps ≡ true → is_end (p ∷ ps) a ≡ true → is_end ps a ≡ true
end-either p ps a there is = ⊎_elim
    (λ (t : is_bound_of p a ≡ true). end-again p ps a there t)
    (λ (f : is_bound_of p a ≡ false). sym (ap (λ b. b || is_end ps a) f) ∙ is)
    (cases_Bool (is_bound_of p a))

-- at the ends of prefixes begin at most two rows for each different one
ends-of-all : (ps : List Cidr) (rows : List ForwardingRow) → CoverFrom row_low row_past 0 rows → begin_where (is_end ps) rows ≤ 2 * length (each_once ps)
ends-of-all [] rows cover = let none : begin_where (λ a. false) rows ≤ 0 = where-never rows in omega arith
ends-of-all (p ∷ ps) rows cover =
    let rest : begin_where (is_end ps) rows ≤ 2 * length (each_once ps) = ends-of-all ps rows cover in
    ⊎_elim
    (λ (there : list_any (same_prefix p) ps ≡ true).
    let same : each_once (p ∷ ps) ≡ each_once ps = cond-true (list_any (same_prefix p) ps) (each_once ps) (p ∷ each_once ps) there in
    let long : length (each_once (p ∷ ps)) ≡ length (each_once ps) = ap (λ (qs : List Cidr). length qs) same in
    let less : begin_where (is_end (p ∷ ps)) rows ≤ begin_where (is_end ps) rows = where-less (is_end (p ∷ ps)) (is_end ps) rows (λ a is. end-either p ps a there is) in
    omega arith)
    (λ (none : list_any (same_prefix p) ps ≡ false).
    let more : each_once (p ∷ ps) ≡ p ∷ each_once ps = cond-false (list_any (same_prefix p) ps) (each_once ps) (p ∷ each_once ps) none in
    let long : length (each_once (p ∷ ps)) ≡ length (p ∷ each_once ps) = ap (λ (qs : List Cidr). length qs) more in
    let both : begin_where (is_end (p ∷ ps)) rows ≤ begin_where (is_bound_of p) rows + begin_where (is_end ps) rows = where-or (is_bound_of p) (is_end ps) rows in
    let two : begin_where (is_bound_of p) rows ≤ 2 = ends-of-one p rows cover in
    omega arith)
    (cases_Bool (list_any (same_prefix p) ps))

-- ---- what a history set

set-first : (o : Option Cidr) (ps : List Cidr) (rest : Bool) (a : ℕ) → rest ≡ is_end ps a → (is_end_of_some o a || rest) ≡ is_end (cons_option o ps) a
set-first None ps rest a e = e
set-first (Some p) ps rest a e = ap (λ b. is_bound_of p a || b) e

ends-set : (history : List Entry) (a : ℕ) → list_any (ends_of_set a) history ≡ is_end (filter_map set_prefix history) a
ends-set [] a = refl
ends-set (Route r n op ∷ history) a = set-first (prefix_set op) (filter_map set_prefix history) (list_any (ends_of_set a) history) a (ends-set history a)
ends-set (Link j l down ∷ history) a = ends-set history a

-- ---- each row begins at a boundary

all-pass : (test : ℕ → Bool) (start : ℕ) (rows : List ForwardingRow) → CoverFrom row_low row_past start rows →
    ((a : ℕ) → a < 2 ^ 32 → list_any (λ (row : ForwardingRow). row.low == a) rows ≡ true → test a ≡ true) → length rows ≤ begin_where test rows
all-pass test start [] cover h = omega arith
all-pass test start (row ∷ rows) cover h =
    let past : row.low < row.past = cover.1 in
    let inside : row.past ≤ 2 ^ 32 = starts-below row_low row_past row.past rows cover.2 in
    let pass : test row.low ≡ true = h row.low (omega arith) (or_left (row.low == row.low) _ (eq-eqb row.low row.low refl)) in
    let this : one (test row.low) ≡ 1 = cond-true (test row.low) 1 0 pass in
    let rest : length rows ≤ begin_where test rows = all-pass test row.past rows cover.2 (λ a b i. h a b (or_right (row.low == a) _ i)) in
    omega arith

begin-atoms : (kept : Kept) (a : ℕ) → list_any (λ (row : ForwardingRow). row.low == a) (forwarding_of kept) ≡ begins_at kept.atoms a
begin-atoms kept a = by kept.atoms
  where
    with_atoms : List Atom → Kept
    with_atoms atoms = record { topology = kept.topology; atoms = atoms; routes = kept.routes; objects = kept.objects; down = kept.down }

    by : (atoms : List Atom) → list_any (λ (row : ForwardingRow). row.low == a) (forwarding_of (with_atoms atoms)) ≡ begins_at atoms a
    by [] = refl
    by (x ∷ atoms) = ap (λ b. (x.row.low == a) || b) (by atoms)

-- a version that stands for a history has at most two rows for each prefix that was set, and one more
pub rows_few : (kept : Kept) (history : List Entry) → KeptStandsFor kept history → length (forwarding_of kept) ≤ most_rows history
rows_few kept history stands =
    let rows = forwarding_of kept in
    let cover : CoverFrom row_low row_past 0 rows = stands.rows.form.cover in
    let ps = filter_map set_prefix history in
    let pass : (a : ℕ) → a < 2 ^ 32 → list_any (λ (row : ForwardingRow). row.low == a) rows ≡ true → ((a == 0) || is_end ps a) ≡ true =
    λ a b i. sym (ap (λ t. (a == 0) || t) (ends-set history a)) ∙ sym (stands.boundaries a b) ∙ sym (begin-atoms kept a) ∙ i in
    let all : length rows ≤ begin_where (λ a. (a == 0) || is_end ps a) rows = all-pass (λ a. (a == 0) || is_end ps a) 0 rows cover pass in
    let both : begin_where (λ a. (a == 0) || is_end ps a) rows ≤ begin_where (λ a. a == 0) rows + begin_where (is_end ps) rows = where-or (λ a. a == 0) (is_end ps) rows in
    let first : begin_where (λ a. a == 0) rows ≤ 1 = one-begins (λ a. a == 0) 0 rows zero-only cover in
    let ends : begin_where (is_end ps) rows ≤ 2 * prefixes_set history = ends-of-all ps rows cover in
    omega arith

-- ---- as many rows as any other version

-- whether one of these rows begins at an address
abbrev begins : List ForwardingRow → ℕ → Bool
begins rows a = list_any (λ (row : ForwardingRow). row.low == a) rows

begins-first : (row : ForwardingRow) (rows : List ForwardingRow) → begins (row ∷ rows) row.low ≡ true
begins-first row rows = or_left (row.low == row.low) _ (eq-eqb row.low row.low refl)

begins-rest : (row : ForwardingRow) (rows : List ForwardingRow) (a : ℕ) → row.low < a → begins (row ∷ rows) a ≡ true → begins rows a ≡ true
begins-rest row rows a later is = ⊎_elim
    (λ (t : (row.low == a) ≡ true). let e : row.low ≡ a = eqb-true row.low a t in absurd (omega arith))
    (λ (f : (row.low == a) ≡ false). sym (ap (λ b. b || begins rows a) f) ∙ is)
    (cases_Bool (row.low == a))

begins-later : (start a : ℕ) (rows : List ForwardingRow) → CoverFrom row_low row_past start rows → begins rows a ≡ true → start ≤ a
begins-later start a [] cover is = absurd (both_ways false refl is)
begins-later start a (row ∷ rows) cover is =
    let low : row.low ≡ start = cover.0 in
    let past : row.low < row.past = cover.1 in
    ⊎_elim
    (λ (t : (row.low == a) ≡ true). let e : row.low ≡ a = eqb-true row.low a t in omega arith)
    (λ (f : (row.low == a) ≡ false). let l : row.past ≤ a = begins-later row.past a rows cover.2 (sym (ap (λ b. b || begins rows a) f) ∙ is) in omega arith)
    (cases_Bool (row.low == a))

begins-below : (start a : ℕ) (rows : List ForwardingRow) → CoverFrom row_low row_past start rows → begins rows a ≡ true → a < 2 ^ 32
begins-below start a [] cover is = absurd (both_ways false refl is)
begins-below start a (row ∷ rows) cover is =
    let past : row.low < row.past = cover.1 in
    let inside : row.past ≤ 2 ^ 32 = starts-below row_low row_past row.past rows cover.2 in
    ⊎_elim
    (λ (t : (row.low == a) ≡ true). let e : row.low ≡ a = eqb-true row.low a t in omega arith)
    (λ (f : (row.low == a) ≡ false). begins-below row.past a rows cover.2 (sym (ap (λ b. b || begins rows a) f) ∙ is))
    (cases_Bool (row.low == a))

-- rows that begin only where others do are no more than these
rows-less : (from to : ℕ) (xs ys : List ForwardingRow) → CoverFrom row_low row_past from xs → CoverFrom row_low row_past to ys →
    ((a : ℕ) → begins xs a ≡ true → begins ys a ≡ true) → length xs ≤ length ys
rows-less from to [] ys cover other h = omega arith
rows-less from to (x ∷ xs) [] cover other h = absurd (both_ways false refl (h x.low (begins-first x xs)))
rows-less from to (x ∷ xs) (y ∷ ys) cover other h =
    let low : x.low ≡ from = cover.0 in
    let past : x.low < x.past = cover.1 in
    let wide : y.low < y.past = other.1 in
    ⊎_elim
    (λ (same : (y.low == x.low) ≡ true).
    let e : y.low ≡ x.low = eqb-true y.low x.low same in
    let rest : length xs ≤ length ys = rows-less x.past y.past xs ys cover.2 other.2
    (λ a is. let later : x.past ≤ a = begins-later x.past a xs cover.2 is in begins-rest y ys a (omega arith) (h a (or_right (x.low == a) _ is))) in
    omega arith)
    (λ (differ : (y.low == x.low) ≡ false).
    let after : begins ys x.low ≡ true = sym (ap (λ b. b || begins ys x.low) differ) ∙ h x.low (begins-first x xs) in
    let beyond : y.past ≤ x.low = begins-later y.past x.low ys other.2 after in
    let rest : length (x ∷ xs) ≤ length ys = rows-less from y.past (x ∷ xs) ys cover other.2
    (λ a is. let later : from ≤ a = begins-later from a (x ∷ xs) cover is in begins-rest y ys a (omega arith) (h a is)) in
    omega arith)
    (cases_Bool (y.low == x.low))

rows-within : (kept other : Kept) (history : List Entry) → KeptStandsFor kept history → KeptStandsFor other history → length (forwarding_of kept) ≤ length (forwarding_of other)
rows-within kept other history stands also = rows-less 0 0 (forwarding_of kept) (forwarding_of other) stands.rows.form.cover also.rows.form.cover
    (λ a is. let b : a < 2 ^ 32 = begins-below 0 a (forwarding_of kept) stands.rows.form.cover is in
    begin-atoms other a ∙ also.boundaries a b ∙ sym (stands.boundaries a b) ∙ sym (begin-atoms kept a) ∙ is)

-- two versions that stand for a history have as many rows
pub rows_same : (kept other : Kept) (history : List Entry) → KeptStandsFor kept history → KeptStandsFor other history → length (forwarding_of kept) ≡ length (forwarding_of other)
rows_same kept other history stands also =
    let less : length (forwarding_of kept) ≤ length (forwarding_of other) = rows-within kept other history stands also in
    let more : length (forwarding_of other) ≤ length (forwarding_of kept) = rows-within other kept history also stands in
    omega arith

-- ---- looks at the picture of a history

pub looks_few : (t : Topology) (history : List Entry) (picture : Picture) (ask : Ask) (first now : ℕ) → IsPictureOf t history picture →
    now ≤ first + most_looks ask (length picture.rows.rows) picture.rows.routers → now ≤ first + most_looks ask (most_rows history) (length t.routers)
looks_few t history picture ask first now is looks =
    let few : most_looks ask (length picture.rows.rows) picture.rows.routers ≤ most_looks ask (most_rows history) picture.rows.routers =
    looks_more ask (length picture.rows.rows) (most_rows history) picture.rows.routers is.few in
    let P : ℕ → Type 0 = λ n. now ≤ first + most_looks ask (most_rows history) n in
    let here : now ≤ first + most_looks ask (most_rows history) picture.rows.routers = omega arith in
    subst P is.routers here

pub cost_few : (history : List Entry) (ask : Ask) (first now routers : ℕ) → now ≤ first + most_looks ask (most_rows history) routers → now ≤ first + (2 * prefixes_set history + 1) * routers
cost_few history ask first now routers looks =
    let all : most_looks ask (most_rows history) routers ≤ most_rows history * routers = looks_all ask (most_rows history) routers (omega arith) in
    omega arith
