-- The slots of one table among rows that four have together.
use Rattle.std.proofs.Common.{◌≡◌, ◌+◌, ◌<◌, ◌≤◌, ◌-◌, ◌∙◌, ℕ, zero, suc, Option, Bool, true, List, [], ◌∷◌, length, get_or, set, take, drop, refl, ap, sym, subst, ⊎_elim, arith}
use Rattle.std.specs.List.{insert}
use Rattle.std.proofs.lemmas.Bool.{cases_lt}
use Rattle.std.proofs.lemmas.List.{drop-map, get_or-map, length-map, map-set, take-map}
use Rattle.base.specs.Cidr.{Cidr, IsCidr}
use Rattle.dn_model.specs.Table.{prefix_of_op}
use Rattle.dn_model.specs.declared.table_op.TableOp.{TableOp}
use Rattle.dn_model.specs.declared.entry.Route.{Route}
use Rattle.dn_model.specs.declared.way.Way.{Way}
use Rattle.route_table.specs.Ascending.{AscendsFrom, IsFound, IsGap, IsPlace}
use Rattle.route_table.specs.Rows.{AddsSlots, AreWhole, KeepsRoutes, KeepsSlots, row_key, slot_in, slots_in, tables_in}
use Rattle.route_table.specs.Searches.{IsBaseBefore}
use Rattle.route_table.specs.Slots.{IsAddedAt, IsUpdatedAt, PrefixRoutes, key_of, routes_of, slot_key}
use Rattle.route_table.specs.Whole.{IsWhole}
use Rattle.route_table.specs.declared.rows.PrefixRow.{PrefixRow}
use Rattle.route_table.proofs.Made.{update-whole}
use Rattle.route_table.proofs.Places.{found-inside}
use Rattle.route_table.proofs.Whole.{add-whole, empty-adds, empty-whole}

-- ---- what stands at a place

pub long : (lane : ℕ) (rows : List PrefixRow) → length (slots_in lane rows) ≡ length rows
long lane rows = length-map rows (slot_in lane)

pub read : (lane : ℕ) (rows : List PrefixRow) (i : ℕ) (d : PrefixRoutes) (e : PrefixRow) → i < length rows → get_or (slots_in lane rows) i d ≡ slot_in lane (get_or rows i e)
read lane rows i d e l = get_or-map (slot_in lane) rows i e d l

-- what stands at a place of the rows
pub stands : (lane : ℕ) (rows : List PrefixRow) (i : ℕ) (r : PrefixRow) (d : PrefixRoutes) → i < length rows → r ≡ get_or rows i r → slot_in lane r ≡ get_or (slots_in lane rows) i d
stands lane rows i r d l is = ap (slot_in lane) is ∙ sym (read lane rows i d r l)

pub inside : (lane : ℕ) (rows : List PrefixRow) (i : ℕ) → i < length rows → i < length (slots_in lane rows)
inside lane rows i l = subst (λ n. i < n) (sym (long lane rows)) l

pub within : (lane : ℕ) (rows : List PrefixRow) (i : ℕ) → i < length (slots_in lane rows) → i < length rows
within lane rows i l = subst (λ n. i < n) (long lane rows) l

-- where the one before a place begins
pub base-at : (lane : ℕ) (rows : List PrefixRow) (i base : ℕ) (r : PrefixRow) → 0 < i → i ≤ length rows → r ≡ get_or rows (i - 1) r → base ≡ r.prefix.base → IsBaseBefore (slots_in lane rows) i base
base-at lane rows i base r some l is b = record { some = some; base_is = λ d. ap (λ (s : PrefixRoutes). s.prefix.base) (sym (stands lane rows (i - 1) r d (omega arith) is)) ∙ sym b }

-- ---- what a search among the rows finds, as each of the tables has it

pub keys-in : (lane start : ℕ) (rows : List PrefixRow) → AscendsFrom slot_key start (slots_in lane rows) → AscendsFrom row_key start rows
keys-in lane start [] h = tt
keys-in lane start (r ∷ rows) h = (h.0, keys-in lane (row_key r + 1) rows h.1)

pub place-in : (lane : ℕ) (rows : List PrefixRow) (k i : ℕ) → IsPlace row_key rows k i → IsPlace slot_key (slots_in lane rows) k i
place-in lane [] k i h = h
place-in lane (r ∷ rows) k zero h = h
place-in lane (r ∷ rows) k (suc i) h = (h.0, place-in lane rows k i h.1)

pub found-in : (lane : ℕ) (rows : List PrefixRow) (k i : ℕ) → IsFound row_key rows k i → IsFound slot_key (slots_in lane rows) k i
found-in lane [] k i h = h
found-in lane (r ∷ rows) k zero h = h
found-in lane (r ∷ rows) k (suc i) h = (h.0, found-in lane rows k i h.1)

pub gap-in : (lane : ℕ) (rows : List PrefixRow) (k i : ℕ) → IsGap row_key rows k i → IsGap slot_key (slots_in lane rows) k i
gap-in lane [] k i h = h
gap-in lane (r ∷ rows) k zero h = h
gap-in lane (r ∷ rows) k (suc i) h = (h.0, gap-in lane rows k i h.1)

pub slot-in : (lane : ℕ) (rows : List PrefixRow) (k i : ℕ) (r : PrefixRow) (d : PrefixRoutes) → IsFound row_key rows k i → r ≡ get_or rows i r → slot_in lane r ≡ get_or (slots_in lane rows) i d
slot-in lane rows k i r d h is = stands lane rows i r d (found-inside row_key rows k i h) is

-- a page of the rows has a page of the slots
pub page-of : (lane : ℕ) (rows page : List PrefixRow) (first : ℕ) → take (length page) (drop first rows) ≡ page → take (length (slots_in lane page)) (drop first (slots_in lane rows)) ≡ slots_in lane page
page-of lane rows page first is =
    ap (λ n. take n (drop first (slots_in lane rows))) (long lane page)
    ∙ ap (take (length page)) (drop-map (slot_in lane) first rows)
    ∙ take-map (slot_in lane) (length page) (drop first rows)
    ∙ ap (slots_in lane) is

-- ---- a row put in, or in the place of another

pub put-in : (lane : ℕ) (rows : List PrefixRow) (i : ℕ) (v : PrefixRow) → slots_in lane (insert rows i v) ≡ insert (slots_in lane rows) i (slot_in lane v)
put-in lane [] zero v = refl
put-in lane [] (suc i) v = refl
put-in lane (x ∷ rows) zero v = refl
put-in lane (x ∷ rows) (suc i) v = ap (λ xs. slot_in lane x ∷ xs) (put-in lane rows i v)

pub put-over : (lane : ℕ) (rows : List PrefixRow) (i : ℕ) (v : PrefixRow) → slots_in lane (set rows i v) ≡ set (slots_in lane rows) i (slot_in lane v)
put-over lane rows i v = map-set (slot_in lane) rows i v

-- ---- the other tables

pub keeps-routes : (lane : ℕ) (old new : List PrefixRow) → KeepsSlots lane old new → KeepsRoutes lane old new
keeps-routes lane old new h k n = ap routes_of (h k n)

pub adds-routes : (lane : ℕ) (old new : List PrefixRow) (i : ℕ) (p : Cidr) → AddsSlots lane old new i p → KeepsRoutes lane old new
adds-routes lane old new i p h k n = ap routes_of (h k n) ∙ empty-adds (slots_in k old) p i

-- a table is this one, or another
by-lane : (P : ℕ → Type 0) (k lane : ℕ) → P lane → ((k ≡ lane → ⊥) → P k) → P k
by-lane P k lane here other = ⊎_elim
    (λ (l : k < lane). other (λ e. absurd (omega arith)))
    (λ (l : lane ≤ k). ⊎_elim
    (λ (m : lane < k). other (λ e. absurd (omega arith)))
    (λ (m : k ≤ lane). let e : lane ≡ k = omega arith in subst P e here)
    (cases_lt lane k))
    (cases_lt k lane)

-- each table is whole again
pub added-whole : (lane : ℕ) (old new : List PrefixRow) (lengths marked : List Bool) (route : Route) (i : ℕ) → AreWhole old lengths → ((k : ℕ) → IsGap slot_key (slots_in k old) (key_of route.prefix) i) → IsCidr route.prefix → IsAddedAt (slots_in lane old) (slots_in lane new) i route → AddsSlots lane old new i route.prefix → marked ≡ set lengths route.prefix.len true → AreWhole new marked
added-whole lane old new lengths marked route i h g sound a others is k = by-lane (λ j. IsWhole (slots_in j new) marked) k lane
    (add-whole (slots_in lane old) (slots_in lane new) lengths marked route i (h lane) (g lane) a is)
    (λ n. subst (λ ls. IsWhole (slots_in k new) ls) (sym is) (subst (λ slots. IsWhole slots (set lengths route.prefix.len true)) (sym (others k n)) (empty-whole (slots_in k old) lengths route.prefix i (h k) sound (g k))))

pub updated-whole : (lane : ℕ) (old new : List PrefixRow) (lengths : List Bool) (alone : Bool) (op : TableOp) (i : ℕ) (first : Option Way) → AreWhole old lengths → IsCidr (prefix_of_op op) → IsFound slot_key (slots_in lane old) (key_of (prefix_of_op op)) i → IsUpdatedAt (slots_in lane old) (slots_in lane new) i alone op first → KeepsSlots lane old new → AreWhole new lengths
updated-whole lane old new lengths alone op i first h sound f u others k = by-lane (λ j. IsWhole (slots_in j new) lengths) k lane
    (update-whole (slots_in lane old) (slots_in lane new) lengths alone op i first (h lane) sound f u)
    (λ n. subst (λ slots. IsWhole slots lengths) (sym (others k n)) (h k))

-- ---- the tables as a list

pub table-is : (lane : ℕ) (rows : List PrefixRow) → lane < 4 → get_or (tables_in rows) lane [] ≡ routes_of (slots_in lane rows)
table-is zero rows l = refl
table-is (suc zero) rows l = refl
table-is (suc (suc zero)) rows l = refl
table-is (suc (suc (suc zero))) rows l = refl
table-is (suc (suc (suc (suc lane)))) rows l = absurd (omega arith)

four : (a b c d w x y z : List Route) → a ≡ w → b ≡ x → c ≡ y → d ≡ z → a ∷ b ∷ c ∷ d ∷ [] ≡ w ∷ x ∷ y ∷ z ∷ []
four a b c d w x y z p q r s = ap (λ n. n ∷ b ∷ c ∷ d ∷ []) p ∙ ap (λ n. w ∷ n ∷ c ∷ d ∷ []) q ∙ ap (λ n. w ∷ x ∷ n ∷ d ∷ []) r ∙ ap (λ n. w ∷ x ∷ y ∷ n ∷ []) s

pub tables-set : (lane : ℕ) (old new : List PrefixRow) → lane < 4 → KeepsRoutes lane old new → tables_in new ≡ set (tables_in old) lane (get_or (tables_in new) lane [])
tables-set zero old new l h = four _ _ _ _ _ _ _ _ refl (h 1 (λ e. absurd (omega arith))) (h 2 (λ e. absurd (omega arith))) (h 3 (λ e. absurd (omega arith)))
tables-set (suc zero) old new l h = four _ _ _ _ _ _ _ _ (h 0 (λ e. absurd (omega arith))) refl (h 2 (λ e. absurd (omega arith))) (h 3 (λ e. absurd (omega arith)))
tables-set (suc (suc zero)) old new l h = four _ _ _ _ _ _ _ _ (h 0 (λ e. absurd (omega arith))) (h 1 (λ e. absurd (omega arith))) refl (h 3 (λ e. absurd (omega arith)))
tables-set (suc (suc (suc zero))) old new l h = four _ _ _ _ _ _ _ _ (h 0 (λ e. absurd (omega arith))) (h 1 (λ e. absurd (omega arith))) (h 2 (λ e. absurd (omega arith))) refl
tables-set (suc (suc (suc (suc lane)))) old new l h = absurd (omega arith)
