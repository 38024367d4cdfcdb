-- The values that the crate `toml` hands out, as the lists that a topology's definition speaks of.
use Rattle.std.proofs.Common.{◌≡◌, ◌<◌, ◌≤◌, ℕ, ◌+◌, Bool, not, cond, List, [], ◌∷◌, ◌++◌, length, get_or, drop, map, String, Global, string_bytes, refl, sym, ap, ◌∙◌, true, false, ◌||◌, ◌&&◌, ◌==◌, append_assoc}
use Rattle.std.specs.List.{list_any}
use Rattle.std.proofs.lemmas.List.{append-nil, drop_more, drop_all}
use Rattle.std.proofs.lemmas.List.Folds.{list_any-append}
use Rattle.std.specs.Map.{keys_of}
use Rattle.toml.specs.Data.{Data}
use Rattle.toml.specs.View.{items_of, members_view}
use Rattle.toml.specs.declared.value.Value.{Value}
use Rattle.dn_model.specs.declared.topology.TopoEnd.{TopoEnd}
use Rattle.dn_model.specs.declared.topology.TopoLink.{TopoLink}
use Rattle.base.specs.Name.{same_text}
use Rattle.base.specs.declared.ids.RouterId.{RouterId}
use Rattle.dn_model.specs.declared.topology.RouterTable.{RouterTable}
use Rattle.dn_model.specs.Topology.{all_ends, device_in, same_end}
use Rattle.dn_formats.proofs.TopologyLinksSound.{all_ends-push}
use Rattle.dn_formats.specs.TopologyText.{items_in, has_key_besides, has_text, has_end}
use Rattle.topology.specs.Taken.{Taken, with_ends}

pub items_in-items_of : (ds : List Data) → items_in (items_of ds) ≡ ds
items_in-items_of [] = refl
items_in-items_of (d ∷ ds) = ap (λ rest. d ∷ rest) (items_in-items_of ds)

-- whether a table has a key without a meaning, by its entries
pub has_key_besides-entries : (known : List ℕ → Bool) (es : List (String Global × Value))
    → has_key_besides known (members_view es) ≡ list_any (λ (k : String Global). not (known (string_bytes k))) (keys_of es)
has_key_besides-entries known [] = refl
has_key_besides-entries known (e ∷ es) = rw (has_key_besides-entries known es)

pub has_text-links : (name : List ℕ) (ls : List TopoLink) → has_text (map (λ l. l.name) ls) name ≡ list_any (λ (l : TopoLink). same_text l.name name) ls
has_text-links name [] = refl
has_text-links name (l ∷ ls) = rw (has_text-links name ls)

joined : (b before : Bool) → cond b true before ≡ (before || (b || false))
joined true true = refl
joined true false = refl
joined false true = refl
joined false false = refl

-- one end more
pub has_end-push : (tables : List RouterTable) (ends new : List TopoEnd) (end e : TopoEnd) (device : RouterId) (before after : Bool) → device ≡ device_in tables end.router → new ≡ ends ++ end ∷ []
    → before ≡ has_end tables ends e → after ≡ cond ((device.0 == (device_in tables e.router).0) && (end.index == e.index)) true before → after ≡ has_end tables new e
has_end-push tables ends new end e device before after is_device is_new is_before is_after =
    let same : TopoEnd → Bool = λ other. same_end tables other e in
    is_after ∙ ap (λ (d : RouterId). cond ((d.0 == (device_in tables e.router).0) && (end.index == e.index)) true before) is_device
    ∙ joined (same end) before ∙ ap (λ b. b || (same end || false)) is_before
    ∙ sym (ap (λ all. has_end tables all e) is_new ∙ list_any-append same ends (end ∷ []))

shared : (a b c : Bool) → ((a || b) || c) ≡ (a || (b || (c || false)))
shared true b c = refl
shared false true c = refl
shared false false true = refl
shared false false false = refl

-- a link's second end is taken where it was before, or is its first
pub second_taken : (tables : List RouterTable) (ends : List TopoEnd) (first second : TopoEnd)
    → ((has_end tables ends first || has_end tables ends second) || same_end tables first second) ≡ (has_end tables ends first || has_end tables (ends ++ first ∷ []) second)
second_taken tables ends first second =
    shared (has_end tables ends first) (has_end tables ends second) (same_end tables first second)
    ∙ ap (λ b. has_end tables ends first || b) (sym (list_any-append (λ other. same_end tables other second) ends (first ∷ [])))

-- two ends more, and the link whose ends they are
pub ends_pushed : (ls new : List TopoLink) (l : TopoLink) (old mid last : Taken) → old ≡ record { tables = old.tables; ends = all_ends ls } → mid ≡ with_ends old (l.first ∷ [])
    → last ≡ with_ends mid (l.second ∷ []) → new ≡ ls ++ l ∷ [] → last ≡ record { tables = old.tables; ends = all_ends new }
ends_pushed ls new l old mid last is_old is_mid is_last is_new =
    let ends : (old.ends ++ l.first ∷ []) ++ l.second ∷ [] ≡ all_ends new =
    ap (λ (t : Taken). (t.ends ++ l.first ∷ []) ++ l.second ∷ []) is_old ∙ sym (ap all_ends is_new ∙ all_ends-push ls l) in
    is_last ∙ ap (λ (m : Taken). with_ends m (l.second ∷ [])) is_mid ∙ ap (λ (es : List TopoEnd). record { tables = old.tables; ends = es }) ends

two_more : (xs ys : List TopoEnd) (f s : TopoEnd) → ((xs ++ f ∷ []) ++ s ∷ []) ++ ys ≡ xs ++ (f ∷ s ∷ ys)
two_more xs ys f s = simp append_assoc

-- the interfaces so far and those of the links that are left are those of all links
pub ends_next : (links : List TopoLink) (i : ℕ) (l : TopoLink) (old mid last : Taken) → i < length links → l ≡ get_or links i l → old.ends ++ all_ends (drop i links) ≡ all_ends links
    → mid ≡ with_ends old (l.first ∷ []) → last ≡ with_ends mid (l.second ∷ []) → last.ends ++ all_ends (drop (i + 1) links) ≡ all_ends links
ends_next links i l old mid last within is so_far is_mid is_last =
    ap (λ (t : Taken). t.ends ++ all_ends (drop (i + 1) links)) (is_last ∙ ap (λ (m : Taken). with_ends m (l.second ∷ [])) is_mid)
    ∙ two_more old.ends (all_ends (drop (i + 1) links)) l.first l.second
    ∙ ap (λ (more : List TopoEnd). old.ends ++ more) (ap (λ (k : TopoLink). k.first ∷ k.second ∷ all_ends (drop (i + 1) links)) is ∙ sym (ap all_ends (drop_more links i l within)))
    ∙ so_far

pub tables_kept : (ts : List RouterTable) (old mid last : Taken) (es fs : List TopoEnd) → old.tables ≡ ts → mid ≡ with_ends old es → last ≡ with_ends mid fs → last.tables ≡ ts
tables_kept ts old mid last es fs is_old is_mid is_last = ap (λ (t : Taken). t.tables) (is_last ∙ ap (λ (m : Taken). with_ends m fs) is_mid) ∙ is_old

pub ends_end : (ts : List RouterTable) (links : List TopoLink) (i : ℕ) (taken : Taken) → length links ≤ i → taken.tables ≡ ts → taken.ends ++ all_ends (drop i links) ≡ all_ends links
    → taken ≡ record { tables = ts; ends = all_ends links }
ends_end ts links i taken past tables so_far =
    let ends : taken.ends ≡ all_ends links =
    sym (append-nil taken.ends) ∙ ap (λ (ls : List TopoLink). taken.ends ++ all_ends ls) (sym (drop_all i links past)) ∙ so_far in
    ap (λ (t : List RouterTable). record { tables = t; ends = taken.ends }) tables ∙ ap (λ (es : List TopoEnd). record { tables = ts; ends = es }) ends

-- an edge more, or none
pub taken_next : (tables : List RouterTable) (ends edges more edge : List TopoEnd) (old new : Taken) → old ≡ record { tables = tables; ends = ends ++ edges } → new ≡ with_ends old edge → more ≡ edges ++ edge
    → new ≡ record { tables = tables; ends = ends ++ more }
taken_next tables ends edges more edge old new is_old is_new is_more =
    is_new ∙ ap (λ (o : Taken). with_ends o edge) is_old
    ∙ ap (λ (es : List TopoEnd). record { tables = tables; ends = es }) (append_assoc ends edges edge ∙ ap (λ (es : List TopoEnd). ends ++ es) (sym is_more))
