-- A document without a fault says a sound topology.
use Rattle.std.proofs.Common.{◌≡◌, ℕ, ◌+◌, ◌<◌, ◌≤◌, Bool, true, false, not, nat_le, List, [], ◌∷◌, ◌++◌, length, map, filter, Option, Some, None, is_none, option_and_then, cond, refl, ◌∙◌, arith, append_assoc, length-append}
use Rattle.std.proofs.lemmas.Bool.{and_parts, or_parts, not-true, not-false, leb-false, true≢false}
use Rattle.std.proofs.lemmas.Option.{same_Some}
use Rattle.std.proofs.lemmas.List.{append-nil}
use Rattle.std.proofs.lemmas.List.Elements.{filter_map-append}
use Rattle.std.proofs.lemmas.List.Folds.{list_all-append, list_any-append}
use Rattle.std.specs.List.{list_any, list_all}
use Rattle.toml.specs.Data.{Data, as_str}
use Rattle.dn_formats.specs.declared.topology_fault.TopoPart.TheVariants.{Routers}
use Rattle.base.specs.Name.{is_name_text}
use Rattle.base.specs.Name.{same_text}
use Rattle.base.specs.Lists.{all_differ}
use Rattle.dn_formats.specs.TopologyText.{passes, standing, faults_along, has_text, router_rows, routers_said}

-- ---- lists without a fault

pub front_empty : {A : Type 0} (xs ys : List A) → xs ++ ys ≡ [] → xs ≡ []
front_empty [] ys e = refl
front_empty (x ∷ xs) ys e = cc

pub back_empty : {A : Type 0} (xs ys : List A) → xs ++ ys ≡ [] → ys ≡ []
back_empty [] ys e = e
back_empty (x ∷ xs) ys e = cc

pub map_empty : {A B : Type 0} (f : A → B) (xs : List A) → map f xs ≡ [] → xs ≡ []
map_empty f [] e = refl
map_empty f (x ∷ xs) e = cc

-- no row of a table stands
abbrev pub NoneStands : {A : Type 0} → List (ℕ × (A → Bool)) → A → Type 0
NoneStands [] x = Unit {0}
NoneStands (row ∷ rows) x = (row.1 x ≡ false) × NoneStands rows x

row_at : {A B : Type 0} (f : A → B) (here : Bool) (row : A) (rest : List A) → map f (cond here (row ∷ rest) rest) ≡ [] → (here ≡ false) × (map f rest ≡ [])
row_at f true row rest e = cc
row_at f false row rest e = (refl, e)

pub none_stands : {A : Type 0} (rows : List (ℕ × (A → Bool))) (x : A) → standing rows x ≡ [] → NoneStands rows x
none_stands [] x e = tt
none_stands (row ∷ rows) x e =
    let parts = row_at (λ row. row.0) (row.1 x) row (filter (λ row. row.1 x) rows) e in
    (parts.0, none_stands rows x parts.1)

-- ---- lists in which all differ

pub all_differ-push : {A : Type 0} (same : A → A → Bool) (xs : List A) (x : A) → all_differ same xs ≡ true → list_any (λ y. same y x) xs ≡ false
    → all_differ same (xs ++ x ∷ []) ≡ true
all_differ-push same [] x differ other = refl
all_differ-push same (y ∷ xs) x differ other =
    let heads = or_parts (same y x) (list_any (λ z. same z x) xs) other in
    let parts = and_parts (not (list_any (same y) xs)) (all_differ same xs) differ in
    rw (list_any-append (same y) xs (x ∷ []), not-true _ parts.0, heads.0) (all_differ-push same xs x parts.1 heads.1)

-- ---- values that may be absent

pub and_then_some : {A B : Type 0} (f : A → Option B) (o : Option A) (y : B) → option_and_then f o ≡ Some y → (x : A) × ((o ≡ Some x) × (f x ≡ Some y))
and_then_some f None y e = cc
and_then_some f (Some x) y e = (x, (refl, e))

pub cond_some : (b : Bool) (v n : ℕ) → cond b (Some v) None ≡ Some n → (b ≡ true) × (v ≡ n)
cond_some true v n e = (refl, same_Some _ _ e)
cond_some false v n e = cc

-- ---- routers

-- the entries are few enough, and the names that they say are names and differ
pub record AreRouters (es : List Data) : Type 0 where
  pub few : length es ≤ 1024
  pub as_many : length (routers_said es) ≡ length es
  pub names : list_all is_name_text (routers_said es) ≡ true
  pub differ : all_differ same_text (routers_said es) ≡ true

router_push : (es : List Data) (x : Data) (name : Option (List ℕ)) → as_str x ≡ name → AreRouters es → nat_le 1024 (length es) ≡ false
    → is_none name ≡ false → passes (λ n. not (is_name_text n)) name ≡ false → passes (has_text (routers_said es)) name ≡ false → AreRouters (es ++ x ∷ [])
router_push es x None is sound few text named fresh = absurd (true≢false text)
router_push es x (Some name) is sound few text named fresh =
    let said : routers_said (es ++ x ∷ []) ≡ routers_said es ++ name ∷ [] = filter_map-append as_str es (x ∷ []) ∙ rw is in
    let low : length es < 1024 = leb-false _ _ few in
    record {
      few = rw (length-append es (x ∷ [])) (omega arith);
      as_many = rw (said, length-append (routers_said es) (name ∷ []), length-append es (x ∷ []), sound.as_many);
      names = rw (said, list_all-append is_name_text (routers_said es) (name ∷ []), sound.names, not-false _ named);
      differ = rw said (all_differ-push same_text (routers_said es) name sound.differ fresh);
    }

pub router_next : (es : List Data) (x : Data) → AreRouters es → NoneStands (router_rows es) x → AreRouters (es ++ x ∷ [])
router_next es x sound rows = router_push es x (as_str x) refl sound rows.0 rows.1.0 rows.1.1.0 rows.1.1.1.0

pub routers_sound : (es more : List Data) → AreRouters es → faults_along Routers router_rows es more ≡ [] → AreRouters (es ++ more)
unfolding faults_along
routers_sound es [] sound none = rw (append-nil es) sound
routers_sound es (x ∷ more) sound none =
    let stand : standing (router_rows es) x ≡ [] = map_empty (λ (cause : ℕ). record { part = Routers; entry = length es + 1; cause = cause }) _ (front_empty _ _ none) in
    let more_sound : AreRouters ((es ++ x ∷ []) ++ more) =
    routers_sound (es ++ x ∷ []) more (router_next es x sound (none_stands (router_rows es) x stand)) (back_empty _ _ none) in
    rw append_assoc at more_sound
