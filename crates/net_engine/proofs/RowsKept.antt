-- The rows that a version keeps, by place; that with the links that are down they are the version's; and which routers go on
-- over a link in them.
use Rattle.std.proofs.Common.{◌≡◌, ℕ, suc, ◌+◌, ◌<◌, ◌≤◌, ◌∙◌, ◌==◌, ⊎_elim, Bool, true, false, cond, Option, None, Some, List, [], ◌∷◌, length, get_or, drop, map, refl, ap, sym, subst, arith}
use Rattle.std.proofs.lemmas.Bool.{both_ways, cases_Bool, cases_lt, eq-eqb, ne_eqb}
use Rattle.std.proofs.lemmas.List.{get_or_past}
use Rattle.atom_map.specs.Spans.{Span, AreRunsOf}
use Rattle.base.specs.Delta.{TellsChange, change_at}
use Rattle.base.specs.Forwarding.{AreForwarding, does, forwarding_at, row_low, row_past, target_in_row}
use Rattle.base.specs.Links.{without}
use Rattle.base.specs.Reach.{is_over}
use Rattle.base.specs.Rows.{is_within}
use Rattle.base.specs.declared.change.Change.{Change}
use Rattle.base.specs.declared.forwarding_row.ForwardingRow.{ForwardingRow}
use Rattle.base.specs.declared.ids.LinkId.{LinkId}
use Rattle.base.specs.declared.ids.RouterId.{RouterId}
use Rattle.base.specs.declared.run.Run.{Run}
use Rattle.base.specs.declared.target.Target.{Target}
use Rattle.base.specs.declared.target.Target.TheVariants.{NoRoute, Dropped, Local, Exit, OnLink, To, LinkDown}
use Rattle.base.proofs.Covers.{holder-first, holder-rest}
use Rattle.label_view.specs.Places.{AreRunsFrom}
use Rattle.label_view.proofs.InRow.{runs-are}
use Rattle.target_rows.specs.Labels.{Labels, target_at as target_at_place, targets_of}
use Rattle.target_rows.specs.Over.{MarksOver}
use Rattle.what_if.specs.Restricted.{row_without, rows_without}
use Rattle.net_engine.specs.LinkSet.{AreAlikeBut}
use Rattle.net_engine.specs.LinkTurn.{AreMarked, IsTurnDelta}
use Rattle.net_engine.specs.Paired.{AreLabelled, atoms_with, does_in, owned, rows_with}
use Rattle.net_engine.specs.Seen.{IsSound, kept_in}
use Rattle.net_engine.specs.Shown.{View}
use Rattle.net_engine.specs.Version.{Atom, Kept, forwarding_of, target_at}
use Rattle.net_engine.specs.Walked.{AreTold, with_links}
use Rattle.net_engine.specs.declared.state.State.{State}
use Rattle.net_engine.proofs.Does.{target-paired}
use Rattle.net_engine.proofs.Flags.{targets-none}
use Rattle.net_engine.proofs.Linked.{whole-links}
use Rattle.net_engine.proofs.Standing.{AllRoutes, length-rows, row-at_place, row_with, some-row}
use Rattle.net_engine.proofs.StandingFor.{are-forwarding}
use Rattle.net_engine.proofs.Turning.{shown-alike}

-- ---- by place

abbrev pub view_of : ℕ → List Span → Labels → View
view_of routers atoms labels = record { routers = routers; rows = rows_with atoms labels.rows }

-- there are as many rows as atoms
pub count-kept : (routers : ℕ) (atoms : List Span) (labels : Labels) (now : View) → view_of routers atoms labels ≡ now → length atoms ≡ length now.rows
count-kept routers atoms labels now is = sym (length-rows atoms labels.rows) ∙ ap (λ (v : View). length v.rows) is

pub place-kept : (routers : ℕ) (atoms : List Span) (labels : Labels) (now : View) (i : ℕ) → view_of routers atoms labels ≡ now → i < length now.rows → i < length atoms
place-kept routers atoms labels now i is l = subst (λ n. i < n) (sym (count-kept routers atoms labels now is)) l

pub place-within : (routers : ℕ) (atoms : List Span) (labels : Labels) (now : View) (i : ℕ) → view_of routers atoms labels ≡ now → i < length atoms → i < length now.rows
place-within routers atoms labels now i is l = subst (λ n. i < n) (count-kept routers atoms labels now is) l

-- what is said of an atom's bounds and of what routers do there is said of its row
pub row-kept : (P : ForwardingRow → Type 0) (routers : ℕ) (atoms : List Span) (labels : Labels) (now : View) (i : ℕ) (d : ForwardingRow) → view_of routers atoms labels ≡ now → i < length atoms → P (row_with (get_or atoms i some-row) (targets_of labels i)) → P (get_or now.rows i d)
row-kept P routers atoms labels now i d is l h =
    subst P (sym (row-at_place atoms labels.rows i some-row d l) ∙ ap (λ (v : View). get_or v.rows i d) is) h

-- the runs of atoms side by side are those of rows
pub runs-kept : (routers : ℕ) (atoms : List Span) (labels : Labels) (now : View) (i count : ℕ) (runs : List Run) → view_of routers atoms labels ≡ now → AreForwarding now.routers now.rows → i + count ≤ length atoms → AreRunsOf atoms i count runs → AreRunsFrom now.rows i count runs
runs-kept routers atoms labels now i count runs is form inside h =
    runs-are now.routers now.rows i count runs form (subst (λ n. i + count ≤ n) (count-kept routers atoms labels now is) inside)
    (λ k d r l. row-kept (λ (row : ForwardingRow). ((get_or runs k d).lo ≡ row.low) × ((get_or runs k d).hi + 1 ≡ row.past)) routers atoms labels now (i + k) r is (omega arith) (h k d some-row l))

-- ---- a version's rows

-- those of its atoms while all links are up
row-up : (row : ForwardingRow) → row_without [] row ≡ row
row-up row = sym (ap (λ (ts : List Target). record { low = row.low; past = row.past; targets = ts }) (targets-none [] row.targets refl))

rows-up : (tables : AllRoutes) (rows : List ForwardingRow) → map (λ (x : Atom). row_without [] x.row) (map (owned tables) rows) ≡ rows
rows-up tables [] = refl
rows-up tables (r ∷ rs) =
    ap (λ (x : ForwardingRow). x ∷ map (λ (y : Atom). row_without [] y.row) (map (owned tables) rs)) (row-up r)
    ∙ ap (λ (xs : List ForwardingRow). r ∷ xs) (rows-up tables rs)

pub form-kept : (s : State) → IsSound s → AreForwarding s.net.routers (rows_with s.net.atoms s.net.labels.rows)
form-kept s h =
    let up : Kept = with_links (kept_in s) [] in
    subst (λ (n : ℕ). AreForwarding n (rows_with s.net.atoms s.net.labels.rows)) (sym h.routers)
    (subst (λ (rows : List ForwardingRow). AreForwarding (length up.topology.routers) rows) (rows-up s.net.tables (rows_with s.net.atoms s.net.labels.rows))
    (are-forwarding up (whole-links (kept_in s) [] h.whole)))

-- and with the links that are down
rows-owned : (tables : AllRoutes) (down : List LinkId) (rows : List ForwardingRow) → map (λ (x : Atom). row_without down x.row) (map (owned tables) rows) ≡ rows_without down rows
rows-owned tables down [] = refl
rows-owned tables down (r ∷ rs) = ap (λ (xs : List ForwardingRow). row_without down r ∷ xs) (rows-owned tables down rs)

pub rows-shown : (s : State) → rows_without s.down (rows_with s.net.atoms s.net.labels.rows) ≡ forwarding_of (kept_in s)
rows-shown s = sym (rows-owned s.net.tables s.down (rows_with s.net.atoms s.net.labels.rows))

-- ---- what the rows say

does-in : (q : RouterId) (o : Option ForwardingRow) → does_in q.0 o ≡ target_in_row o q
does-in q None = refl
does-in q (Some row) = refl

does-rows : (rows : List Span) (labels : Labels) (tables : AllRoutes) (q : RouterId) (a : ℕ) → does (rows_with rows labels.rows) q a ≡ target_at (atoms_with rows labels tables) q a
does-rows rows labels tables q a = sym (does-in q (forwarding_at (rows_with rows labels.rows) a)) ∙ sym (target-paired labels tables rows q a)

-- what is told of them where other links are down than before is told of what is kept
pub told-kept : (s : State) (after : List LinkId) (rows : List ForwardingRow) (changes : List Change) → rows ≡ rows_with s.net.atoms s.net.labels.rows → IsTurnDelta s.down after rows changes → AreTold (kept_in s) (with_links (kept_in s) after) changes
told-kept s after rows changes is h =
    let g : IsTurnDelta s.down after (rows_with s.net.atoms s.net.labels.rows) changes = subst (λ (rs : List ForwardingRow). IsTurnDelta s.down after rs changes) is h in
    record {
      form = g.form;
      tells = λ q a l.
          let same : does (rows_with s.net.atoms s.net.labels.rows) q a ≡ target_at (kept_in s).atoms q a = does-rows s.net.atoms s.net.labels s.net.tables q a in
          subst (λ t. TellsChange (without s.down t) (without after t) (change_at changes q a)) same (g.exact q a l);
    }

-- ---- routers that go on over a link

rest-at : (tss : List (List Target)) (k : ℕ) → get_or (drop 1 tss) k [] ≡ get_or tss (suc k) []
rest-at [] k = refl
rest-at (ts ∷ more) k = refl

-- what holds of each row's target holds of what is done
each-does : (P : Target → Type 0) (rows : List Span) (tss : List (List Target)) (q a : ℕ) → P NoRoute → ((k : ℕ) → k < length rows → P (get_or (get_or tss k []) q NoRoute)) → P (does_in q (forwarding_at (rows_with rows tss) a))
each-does P [] tss q a none each = none
each-does P (r ∷ rs) tss q a none each = ⊎_elim
    (λ (y : is_within r.low r.past a ≡ true).
    subst P (sym (ap (does_in q) (holder-first row_low row_past (row_with r (get_or tss 0 [])) (rows_with rs (drop 1 tss)) a y))) (each 0 (omega arith)))
    (λ (n : is_within r.low r.past a ≡ false).
    subst P (sym (ap (does_in q) (holder-rest row_low row_past (row_with r (get_or tss 0 [])) (rows_with rs (drop 1 tss)) a n)))
    (each-does P rs (drop 1 tss) q a none (λ k l. subst (λ (ts : List Target). P (get_or ts q NoRoute)) (sym (rest-at tss k)) (each (suc k) (omega arith)))))
    (cases_Bool (is_within r.low r.past a))

-- one that isn't marked goes on over it nowhere
never-over : (rows : List Span) (labels : Labels) (l : LinkId) (marks : List Bool) (r : RouterId) (a : ℕ) → AreLabelled rows labels → MarksOver labels l marks → get_or marks r.0 false ≡ false → is_over l (does (rows_with rows labels.rows) r a) ≡ false
never-over rows labels l marks r a h marked off =
    subst (λ t. is_over l t ≡ false) (does-in r (forwarding_at (rows_with rows labels.rows) a))
    (each-does (λ t. is_over l t ≡ false) rows labels.rows r.0 a refl
    (λ k inside. ⊎_elim
    (λ (own : r.0 < labels.routers). ⊎_elim
    (λ (t : is_over l (target_at_place labels r.0 k) ≡ true). absurd (both_ways (get_or marks r.0 false) off (marked.marked r.0 k own (subst (λ n. k < n) (sym h.there) inside) t)))
    (λ (f : is_over l (target_at_place labels r.0 k) ≡ false). f)
    (cases_Bool (is_over l (target_at_place labels r.0 k))))
    (λ (past : labels.routers ≤ r.0).
    ap (is_over l) (get_or_past (targets_of labels k) r.0 NoRoute (subst (λ n. n ≤ r.0) (sym (h.wide k inside)) past)))
    (cases_lt r.0 labels.routers)))

pub marked-alike : (s : State) (after : List LinkId) (l : LinkId) (rows : List ForwardingRow) (marks : List Bool) → IsSound s → rows ≡ rows_with s.net.atoms s.net.labels.rows → MarksOver s.net.labels l marks → AreAlikeBut s.down after l → AreMarked s.down after rows marks
marked-alike s after l rows marks h is marked alike r a off =
    shown-alike s.down after l (does rows r a) alike
    (subst (λ (rs : List ForwardingRow). is_over l (does rs r a) ≡ false) (sym is) (never-over s.net.atoms s.net.labels l marks r a h.paired.labelled marked off))
