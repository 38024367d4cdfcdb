-- Marks change how routers replace routes, and neither whose table each router is nor which interfaces are the same.
use Rattle.std.proofs.Common.{◌≡◌, ℕ, zero, suc, Bool, false, not, ◌&&◌, ◌||◌, ◌==◌, List, [], ◌∷◌, ◌++◌, length, map, set, fold, Option, Some, None, refl, sym, ap, ◌∙◌, slice_get}
use Rattle.std.proofs.lemmas.List.{map-append}
use Rattle.std.specs.List.{list_any, list_all}
use Rattle.std.specs.Option.{option_map_or}
use Rattle.base.specs.Lists.{all_differ}
use Rattle.base.specs.declared.ids.RouterId.{RouterId}
use Rattle.dn_model.specs.declared.topology.Replace.{Replace}
use Rattle.dn_model.specs.declared.topology.Replace.TheVariants.{Key}
use Rattle.dn_model.specs.declared.topology.RouterTable.{RouterTable}
use Rattle.dn_model.specs.declared.topology.TopoEnd.{TopoEnd}
use Rattle.dn_model.specs.Topology.{device_in, same_end, is_table_at, are_tables_from, are_tables, same_table}
use Rattle.dn_formats.specs.declared.mark.Mark.{Mark}
use Rattle.dn_formats.specs.TopologyText.{marked}

-- a table as if its router had no mark
abbrev unmark : RouterTable → RouterTable
unmark t = record { device = t.device; number = t.number; replace = Key }

-- ---- marks leave all else

put_below : (t : RouterTable) (ts : List RouterTable) (i : ℕ) (f : RouterTable → RouterTable) (o : Option RouterTable)
    → option_map_or (λ x. set (t ∷ ts) (suc i) (f x)) o (t ∷ ts) ≡ t ∷ option_map_or (λ x. set ts i (f x)) o ts
put_below t ts i f None = refl
put_below t ts i f (Some x) = refl

put_same : (ts : List RouterTable) (i : ℕ) (replace : Replace)
    → map unmark (option_map_or (λ x. set ts i (record { device = x.device; number = x.number; replace = replace })) (slice_get ts i) ts) ≡ map unmark ts
put_same [] i replace = refl
put_same (t ∷ ts) zero replace = refl
put_same (t ∷ ts) (suc i) replace =
    ap (map unmark) (put_below t ts i (λ x. record { device = x.device; number = x.number; replace = replace }) (slice_get ts i))
    ∙ ap (λ (us : List RouterTable). unmark t ∷ us) (put_same ts i replace)

marks_same : (ts : List RouterTable) (ms : List Mark) → map unmark (fold marked ts ms) ≡ map unmark ts
marks_same ts [] = refl
marks_same ts (m ∷ ms) = marks_same (marked ts m) ms ∙ put_same ts m.router.0 m.replace

-- ---- tables

long-unmark : (ts : List RouterTable) → length (map unmark ts) ≡ length ts
long-unmark [] = refl
long-unmark (t ∷ ts) = ap suc (long-unmark ts)

all_main-unmark : (ts : List RouterTable) → list_all (λ (o : RouterTable). o.number == 254) (map unmark ts) ≡ list_all (λ (o : RouterTable). o.number == 254) ts
all_main-unmark [] = refl
all_main-unmark (t ∷ ts) = ap (λ b. (t.number == 254) && b) (all_main-unmark ts)

of-unmark : (ts : List RouterTable) (i d : ℕ)
    → option_map_or (λ (of : RouterTable). of.device.0 == d) (slice_get (map unmark ts) i) false ≡ option_map_or (λ (of : RouterTable). of.device.0 == d) (slice_get ts i) false
of-unmark [] i d = refl
of-unmark (t ∷ ts) zero d = refl
of-unmark (t ∷ ts) (suc i) d = of-unmark ts i d

table_at-unmark : (earlier : List RouterTable) (i : ℕ) (t : RouterTable) → is_table_at (map unmark earlier) i (unmark t) ≡ is_table_at earlier i t
table_at-unmark earlier i t = rw (all_main-unmark earlier, of-unmark earlier t.device.0 t.device.0)

both : (a b c d : Bool) → a ≡ b → c ≡ d → (a && c) ≡ (b && d)
both a b c d e f = rw (e, f)

tables_from-unmark : (earlier ts : List RouterTable) → are_tables_from (map unmark earlier) (map unmark ts) ≡ are_tables_from earlier ts
tables_from-unmark earlier [] = refl
tables_from-unmark earlier (t ∷ ts) =
    both _ _ _ _
    (ap (λ n. is_table_at (map unmark earlier) n (unmark t)) (long-unmark earlier) ∙ table_at-unmark earlier (length earlier) t)
    (ap (λ es. are_tables_from es (map unmark ts)) (sym (map-append unmark earlier (t ∷ []))) ∙ tables_from-unmark (earlier ++ t ∷ []) ts)

any_table-unmark : (t : RouterTable) (ts : List RouterTable) → list_any (same_table (unmark t)) (map unmark ts) ≡ list_any (same_table t) ts
any_table-unmark t [] = refl
any_table-unmark t (x ∷ ts) = ap (λ b. same_table t x || b) (any_table-unmark t ts)

differ-unmark : (ts : List RouterTable) → all_differ same_table (map unmark ts) ≡ all_differ same_table ts
differ-unmark [] = refl
differ-unmark (t ∷ ts) = both _ _ _ _ (ap not (any_table-unmark t ts)) (differ-unmark ts)

are_tables-unmark : (n : ℕ) (ts : List RouterTable) → are_tables n (map unmark ts) ≡ are_tables n ts
are_tables-unmark n ts =
    both _ _ _ _ (both _ _ _ _ (ap (λ k. k == n) (long-unmark ts)) (tables_from-unmark [] ts)) (differ-unmark ts)

-- with marks, each router still has its table
pub are_tables-marked : (n : ℕ) (ts : List RouterTable) (ms : List Mark) → are_tables n (fold marked ts ms) ≡ are_tables n ts
are_tables-marked n ts ms =
    sym (are_tables-unmark n (fold marked ts ms)) ∙ ap (are_tables n) (marks_same ts ms) ∙ are_tables-unmark n ts

-- ---- interfaces

at-unmark : (ts : List RouterTable) (i : ℕ) (r : RouterId)
    → option_map_or (λ (t : RouterTable). t.device) (slice_get (map unmark ts) i) r ≡ option_map_or (λ (t : RouterTable). t.device) (slice_get ts i) r
at-unmark [] i r = refl
at-unmark (t ∷ ts) zero r = refl
at-unmark (t ∷ ts) (suc i) r = at-unmark ts i r

device-marked : (ts : List RouterTable) (ms : List Mark) (r : RouterId) → device_in (fold marked ts ms) r ≡ device_in ts r
device-marked ts ms r =
    sym (at-unmark (fold marked ts ms) r.0 r) ∙ ap (λ us. device_in us r) (marks_same ts ms) ∙ at-unmark ts r.0 r

same_end-marked : (ts : List RouterTable) (ms : List Mark) (a b : TopoEnd) → same_end (fold marked ts ms) a b ≡ same_end ts a b
same_end-marked ts ms a b = rw (device-marked ts ms a.router, device-marked ts ms b.router)

any_same : {A : Type 0} (f g : A → Bool) → ((x : A) → f x ≡ g x) → (xs : List A) → list_any f xs ≡ list_any g xs
any_same f g same [] = refl
any_same f g same (x ∷ xs) = rw (same x, any_same f g same xs)

differ_same : {A : Type 0} (f g : A → A → Bool) → ((x y : A) → f x y ≡ g x y) → (xs : List A) → all_differ f xs ≡ all_differ g xs
differ_same f g same [] = refl
differ_same f g same (x ∷ xs) = rw (any_same (f x) (g x) (same x) xs, differ_same f g same xs)

-- with marks, interfaces that differ still do
pub ends_differ-marked : (ts : List RouterTable) (ms : List Mark) (es : List TopoEnd) → all_differ (same_end (fold marked ts ms)) es ≡ all_differ (same_end ts) es
ends_differ-marked ts ms es = differ_same (same_end (fold marked ts ms)) (same_end ts) (same_end-marked ts ms) es
