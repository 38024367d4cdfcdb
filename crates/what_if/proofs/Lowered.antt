-- Rows with links down: their bounds are those of the rows, and what they show is that with the links down.
use Rattle.std.proofs.Common.{◌≡◌, ℕ, zero, suc, ◌+◌, ◌<◌, ◌≤◌, ◌∙◌, Bool, true, false, cond, Option, None, Some, List, [], ◌∷◌, ◌++◌, length, get_or, map, take, refl, ap, sym, subst, arith}
use Rattle.std.specs.Prelude.{option_map}
use Rattle.std.proofs.Math.ListN.{get_or-map}
use Rattle.std.proofs.lemmas.List.{get_or_append_left, get_or-map as get_or-map-any, get_or-take, length-map, length-take-le}
use Rattle.base.specs.Forwarding.{AreEachForwarding, AreForwarding, IsForwarding, row_low, row_past, forwarding_at, does, target_in_row, target_of}
use Rattle.base.specs.Rows.{CoverFrom, is_within}
use Rattle.base.specs.Links.{is_down, without}
use Rattle.base.specs.Walk.{with_down}
use Rattle.base.specs.declared.forwarding_row.ForwardingRow.{ForwardingRow}
use Rattle.base.specs.declared.ids.LinkId.{LinkId}
use Rattle.base.specs.declared.ids.RouterId.{RouterId}
use Rattle.base.specs.declared.run.Run.{Run}
use Rattle.base.specs.declared.target.Target.{Target}
use Rattle.base.specs.declared.target.Target.TheVariants.{NoRoute, Dropped, Local, Exit, OnLink, To, LinkDown}
use Rattle.label_view.specs.Places.{AreRunsFrom, begin_of}
use Rattle.what_if.specs.Restricted.{Restricted, row_without, rows_without}

-- ---- bounds

pub same-length : (links : List LinkId) (rows : List ForwardingRow) → length (rows_without links rows) ≡ length rows
same-length links [] = refl
same-length links (row ∷ rows) = ap suc (same-length links rows)

pub same-begin : (links : List LinkId) (rows : List ForwardingRow) (i : ℕ) → begin_of (rows_without links rows) i ≡ begin_of rows i
same-begin links [] i = refl
same-begin links (row ∷ rows) zero = refl
same-begin links (row ∷ rows) (suc i) = same-begin links rows i

-- so rows side by side have the same runs
pub runs-of : (links : List LinkId) (rows : List ForwardingRow) (i count : ℕ) (runs : List Run) → AreRunsFrom rows i count runs → AreRunsFrom (rows_without links rows) i count runs
runs-of links rows i count runs h k d l =
    let is = h k d l in
    (is.0 ∙ sym (same-begin links rows (i + k)), is.1 ∙ sym (same-begin links rows (i + k + 1)))

inside-of : (links : List LinkId) (rows : List ForwardingRow) (i : ℕ) → i < length (rows_without links rows) → i < length rows
inside-of links rows i l = (let P : ℕ → Type 0 = λ n. i < n in subst P (same-length links rows) l)

-- the row at a place
row-at : (links : List LinkId) (rows : List ForwardingRow) (i : ℕ) (d e : ForwardingRow) → i < length rows → get_or (rows_without links rows) i e ≡ row_without links (get_or rows i d)
row-at links [] i d e l = absurd (omega arith)
row-at links (row ∷ rows) zero d e l = refl
row-at links (row ∷ rows) (suc i) d e l = row-at links rows i d e (omega arith)

pub low-at : (links : List LinkId) (rows : List ForwardingRow) (i : ℕ) (d : ForwardingRow) → i < length rows → (get_or (rows_without links rows) i d).low ≡ (get_or rows i d).low
low-at links rows i d l = ap row_low (row-at links rows i d d l)

pub past-at : (links : List LinkId) (rows : List ForwardingRow) (i : ℕ) (d : ForwardingRow) → i < length rows → (get_or (rows_without links rows) i d).past ≡ (get_or rows i d).past
past-at links rows i d l = ap row_past (row-at links rows i d d l)

-- ---- targets

target-without : (links : List LinkId) (row : ForwardingRow) (r : RouterId) → target_of (row_without links row) r ≡ without links (target_of row r)
target-without links row r = get_or-map (without links) row.targets r.0 NoRoute

pub target-at : (links : List LinkId) (rows : List ForwardingRow) (i : ℕ) (d : ForwardingRow) (r : RouterId) (t lowered : Target) → i < length rows → t ≡ target_of (get_or rows i d) r → lowered ≡ without links t → lowered ≡ target_of (get_or (rows_without links rows) i d) r
target-at links rows i d r t lowered l is low =
    low ∙ ap (without links) is ∙ sym (target-without links (get_or rows i d) r) ∙ ap (λ (row : ForwardingRow). target_of row r) (sym (row-at links rows i d d l))

-- ---- what the rows show

cond-map : (f : ForwardingRow → ForwardingRow) (b : Bool) (x : ForwardingRow) (y z : Option ForwardingRow) → z ≡ option_map f y → cond b (Some (f x)) z ≡ option_map f (cond b (Some x) y)
cond-map f true x y z e = refl
cond-map f false x y z e = e

holder-without : (links : List LinkId) (rows : List ForwardingRow) (a : ℕ) → forwarding_at (rows_without links rows) a ≡ option_map (row_without links) (forwarding_at rows a)
holder-without links [] a = refl
holder-without links (row ∷ rows) a = cond-map (row_without links) (is_within row.low row.past a) row (forwarding_at rows a) (forwarding_at (rows_without links rows) a) (holder-without links rows a)

in-row : (links : List LinkId) (o : Option ForwardingRow) (r : RouterId) → target_in_row (option_map (row_without links) o) r ≡ without links (target_in_row o r)
in-row links None r = refl
in-row links (Some row) r = target-without links row r

pub does-without : (links : List LinkId) (rows : List ForwardingRow) (r : RouterId) (a : ℕ) → does (rows_without links rows) r a ≡ with_down links (does rows) r a
does-without links rows r a = ap (λ (o : Option ForwardingRow). target_in_row o r) (holder-without links rows a) ∙ in-row links (forwarding_at rows a) r

-- ---- the rows are of the same form

cover-without : (links : List LinkId) (start : ℕ) (rows : List ForwardingRow) → CoverFrom row_low row_past start rows → CoverFrom row_low row_past start (rows_without links rows)
cover-without links start [] h = h
cover-without links start (row ∷ rows) h = (h.0, h.1, cover-without links row.past rows h.2)

-- a target that goes on with the links down went on so before
to-cond : (b : Bool) (l k : LinkId) (r s : RouterId) → cond b (LinkDown l) (To r l) ≡ To s k → To r l ≡ To s k
to-cond true l k r s e = cc
to-cond false l k r s e = e

to-without : (links : List LinkId) (t : Target) (s : RouterId) (k : LinkId) → without links t ≡ To s k → t ≡ To s k
to-without links NoRoute s k e = e
to-without links (Dropped kind) s k e = e
to-without links Local s k e = e
to-without links (Exit i) s k e = e
to-without links (OnLink i) s k e = e
to-without links (To r l) s k e = to-cond (is_down links l) l k r s e
to-without links (LinkDown l) s k e = e

row-form : (links : List LinkId) (n : ℕ) (row : ForwardingRow) → IsForwarding n row → IsForwarding n (row_without links row)
row-form links n row h = record {
  all = length-map row.targets (without links) ∙ h.all;
  within = λ r s l e. h.within r s l (to-without links (target_of row r) s l (sym (target-without links row r) ∙ e));
}

each-form : (links : List LinkId) (n : ℕ) (rows : List ForwardingRow) → AreEachForwarding n rows → AreEachForwarding n (rows_without links rows)
each-form links n [] h = tt
each-form links n (row ∷ rows) h = (row-form links n row h.0, each-form links n rows h.1)

pub same-form : (links : List LinkId) (n : ℕ) (rows : List ForwardingRow) → AreForwarding n rows → AreForwarding n (rows_without links rows)
same-form links n rows h = record { few = h.few; cover = cover-without links 0 rows h.cover; each = each-form links n rows h.each }

-- ---- what a view with links down answers, by what the view does that it stands on

pub low-of : {X : Type 0} (rows : X → List ForwardingRow) (w : Restricted X) (view : X) (links : List LinkId) (i low : ℕ) → record { view = view; links = links } ≡ w → i < length (rows_without w.links (rows w.view)) → ((d : ForwardingRow) → low ≡ (get_or (rows view) i d).low) → (d : ForwardingRow) → low ≡ (get_or (rows_without w.links (rows w.view)) i d).low
low-of {X} rows w view links i low e l is =
    let P : Restricted X → Type 0 = λ v. i < length (rows_without v.links (rows v.view)) → (d : ForwardingRow) → low ≡ (get_or (rows_without v.links (rows v.view)) i d).low in
    let at : P (record { view = view; links = links }) = λ k d. is d ∙ sym (low-at links (rows view) i d (inside-of links (rows view) i k)) in
    subst P e at l

pub past-of : {X : Type 0} (rows : X → List ForwardingRow) (w : Restricted X) (view : X) (links : List LinkId) (i past : ℕ) → record { view = view; links = links } ≡ w → i < length (rows_without w.links (rows w.view)) → ((d : ForwardingRow) → past ≡ (get_or (rows view) i d).past) → (d : ForwardingRow) → past ≡ (get_or (rows_without w.links (rows w.view)) i d).past
past-of {X} rows w view links i past e l is =
    let P : Restricted X → Type 0 = λ v. i < length (rows_without v.links (rows v.view)) → (d : ForwardingRow) → past ≡ (get_or (rows_without v.links (rows v.view)) i d).past in
    let at : P (record { view = view; links = links }) = λ k d. is d ∙ sym (past-at links (rows view) i d (inside-of links (rows view) i k)) in
    subst P e at l

pub runs-seen : {X : Type 0} (rows : X → List ForwardingRow) (w : Restricted X) (view : X) (links : List LinkId) (i count : ℕ) (runs : List Run) → record { view = view; links = links } ≡ w → AreRunsFrom (rows view) i count runs → AreRunsFrom (rows_without w.links (rows w.view)) i count runs
runs-seen {X} rows w view links i count runs e h =
    subst (λ (v : Restricted X). AreRunsFrom (rows_without v.links (rows v.view)) i count runs) e (runs-of links (rows view) i count runs h)

pub from-of : {X : Type 0} (rows : X → List ForwardingRow) (w : Restricted X) (view : X) (links : List LinkId) (i a : ℕ) → record { view = view; links = links } ≡ w → i < length (rows view) → ((d : ForwardingRow) → (get_or (rows view) i d).low ≤ a) → (d : ForwardingRow) → (get_or (rows_without w.links (rows w.view)) i d).low ≤ a
from-of {X} rows w view links i a e l is =
    let P : Restricted X → Type 0 = λ v. (d : ForwardingRow) → (get_or (rows_without v.links (rows v.view)) i d).low ≤ a in
    let at : P (record { view = view; links = links }) = λ d. (let Q : ℕ → Type 0 = λ n. n ≤ a in subst Q (sym (low-at links (rows view) i d l)) (is d)) in
    subst P e at

pub to-of : {X : Type 0} (rows : X → List ForwardingRow) (w : Restricted X) (view : X) (links : List LinkId) (i a : ℕ) → record { view = view; links = links } ≡ w → i < length (rows view) → ((d : ForwardingRow) → a < (get_or (rows view) i d).past) → (d : ForwardingRow) → a < (get_or (rows_without w.links (rows w.view)) i d).past
to-of {X} rows w view links i a e l is =
    let P : Restricted X → Type 0 = λ v. (d : ForwardingRow) → a < (get_or (rows_without v.links (rows v.view)) i d).past in
    let at : P (record { view = view; links = links }) = λ d. (let Q : ℕ → Type 0 = λ n. a < n in subst Q (sym (past-at links (rows view) i d l)) (is d)) in
    subst P e at

pub target-of : {X : Type 0} (rows : X → List ForwardingRow) (w : Restricted X) (view : X) (links : List LinkId) (i : ℕ) (r : RouterId) (t lowered : Target) → record { view = view; links = links } ≡ w → i < length (rows_without w.links (rows w.view)) → ((d : ForwardingRow) → t ≡ target_of (get_or (rows view) i d) r) → lowered ≡ without links t → (d : ForwardingRow) → lowered ≡ target_of (get_or (rows_without w.links (rows w.view)) i d) r
target-of {X} rows w view links i r t lowered e l is low =
    let P : Restricted X → Type 0 = λ v. i < length (rows_without v.links (rows v.view)) → (d : ForwardingRow) → lowered ≡ target_of (get_or (rows_without v.links (rows v.view)) i d) r in
    let at : P (record { view = view; links = links }) = λ k d. target-at links (rows view) i d r t lowered (inside-of links (rows view) i k) (is d) low in
    subst P e at l

-- what was read of a column, with the links down, and what is left of the room for it
pub column-of : {X : Type 0} (rows : X → List ForwardingRow) (w : Restricted X) (view : X) (links : List LinkId) (i count : ℕ) (r : RouterId) (read lowered rest : List Target) → record { view = view; links = links } ≡ w → i + count ≤ length (rows view) → count ≤ length read → ((k : ℕ) (d : ForwardingRow) (e : Target) → k < count → get_or read k e ≡ target_of (get_or (rows view) (i + k) d) r) → lowered ≡ map (without links) (take count read) →
    (k : ℕ) (d : ForwardingRow) (e : Target) → k < count → get_or (lowered ++ rest) k e ≡ target_of (get_or (rows_without w.links (rows w.view)) (i + k) d) r
column-of {X} rows w view links i count r read lowered rest e l room is low = λ k d x b.
    let whole : length (take count read) ≡ count = length-take-le count read room in
    let same : length lowered ≡ count = ap length low ∙ length-map (take count read) (without links) ∙ whole in
    let here : get_or (lowered ++ rest) k x ≡ without links (get_or read k NoRoute) =
    get_or_append_left lowered rest x k (omega arith)
    ∙ ap (λ (ts : List Target). get_or ts k x) low
    ∙ get_or-map-any (without links) (take count read) k NoRoute x (omega arith)
    ∙ ap (without links) (get_or-take count read k NoRoute b) in
    let P : Restricted X → Type 0 = λ v. get_or (lowered ++ rest) k x ≡ target_of (get_or (rows_without v.links (rows v.view)) (i + k) d) r in
    subst P e (target-at links (rows view) (i + k) d r (get_or read k NoRoute) _ (omega arith) (is k d NoRoute b) here)

-- what was read of a row, with the links down
pub targets-of : {X : Type 0} (rows : X → List ForwardingRow) (w : Restricted X) (view : X) (links : List LinkId) (i : ℕ) (read lowered : List Target) → record { view = view; links = links } ≡ w → i < length (rows_without w.links (rows w.view)) → ((d : ForwardingRow) → read ≡ (get_or (rows view) i d).targets) → lowered ≡ map (without links) read →
    (d : ForwardingRow) → lowered ≡ (get_or (rows_without w.links (rows w.view)) i d).targets
targets-of {X} rows w view links i read lowered e l is low =
    let P : Restricted X → Type 0 = λ v. i < length (rows_without v.links (rows v.view)) → (d : ForwardingRow) → lowered ≡ (get_or (rows_without v.links (rows v.view)) i d).targets in
    let at : P (record { view = view; links = links }) = λ k d. low ∙ ap (map (without links)) (is d) ∙ ap (λ (row : ForwardingRow). row.targets) (sym (row-at links (rows view) i d d (inside-of links (rows view) i k))) in
    subst P e at l

pub form-of : {X : Type 0} (width : X → ℕ) (rows : X → List ForwardingRow) (w : Restricted X) (view : X) (links : List LinkId) → record { view = view; links = links } ≡ w → AreForwarding (width view) (rows view) → AreForwarding (width w.view) (rows_without w.links (rows w.view))
form-of {X} width rows w view links e form =
    let P : Restricted X → Type 0 = λ v. AreForwarding (width v.view) (rows_without v.links (rows v.view)) in
    let at : P (record { view = view; links = links }) = same-form links (width view) (rows view) form in
    subst P e at
