-- A link is down, and an object is there, as the last entry that names it says.
use Rattle.std.proofs.Common.{◌≡◌, ℕ, ◌∙◌, ◌||◌, ◌==◌, Bool, true, false, cond, Option, None, Some, List, [], ◌∷◌, ◌++◌, fold, refl, ap, sym, ⊎_elim}
use Rattle.std.specs.List.{list_any}
use Rattle.std.specs.Map.{lookup}
use Rattle.std.proofs.lemmas.Bool.{cases_Bool, eqb-true}
use Rattle.std.proofs.lemmas.List.Folds.{list_any-append}
use Rattle.base.specs.Links.{is_down}
use Rattle.base.specs.declared.ids.LinkId.{LinkId}
use Rattle.base.specs.declared.ids.RouterId.{RouterId}
use Rattle.base.specs.declared.target.Target.{Target}
use Rattle.dn_model.specs.Downs.{after_link, downs, other_links}
use Rattle.dn_model.specs.LastSays.{last_made, last_takes_down, names_link, names_object, object_made, takes_down}
use Rattle.dn_model.specs.Table.{Object as ObjectIs, after_object, objects, ops_on, other_objects}
use Rattle.dn_model.specs.Tables.{device_of}
use Rattle.dn_model.specs.declared.entry.Entry.{Entry}
use Rattle.dn_model.specs.declared.entry.Entry.TheVariants.{Route, Link}
use Rattle.dn_model.specs.declared.entry.Op.{Op}
use Rattle.dn_model.specs.declared.entry.Op.TheVariants.{Set, SetBy, Clear, Object, NoObject}
use Rattle.dn_model.specs.declared.topology.Topology.{Topology}

-- ---- links

-- a link that is no other one is gone
down-others : (k l : LinkId) (down : List LinkId) → is_down (other_links k down) l ≡ cond (k.0 == l.0) false (is_down down l)
down-others k l [] = ⊎_elim (λ (y : (k.0 == l.0) ≡ true). rw y refl) (λ (n : (k.0 == l.0) ≡ false). rw n refl) (cases_Bool (k.0 == l.0))
down-others k l (d ∷ ds) = by (d.0 == k.0) (k.0 == l.0) refl refl (down-others k l ds)
  where
    by : (a b : Bool) → (d.0 == k.0) ≡ a → (k.0 == l.0) ≡ b → is_down (other_links k ds) l ≡ cond (k.0 == l.0) false (is_down ds l) → is_down (other_links k (d ∷ ds)) l ≡ cond (k.0 == l.0) false (is_down (d ∷ ds) l)
    by true true e f h = rw (e, f) (rw f at h)
    by true false e f h =
        let off : (d.0 == l.0) ≡ false = ap (λ n. n == l.0) (eqb-true d.0 k.0 e) ∙ f in
        rw (e, f, off) (rw f at h)
    by false true e f h =
        let off : (d.0 == l.0) ≡ false = ap (λ n. d.0 == n) (sym (eqb-true k.0 l.0 f)) ∙ e in
        rw (e, f, off) (rw f at h)
    by false false e f h = rw (e, f) (ap (λ b. (d.0 == l.0) || b) (rw f at h))

down-step : (down : List LinkId) (e : Entry) (l : LinkId) → is_down (after_link down e) l ≡ cond (names_link l e) (takes_down e) (is_down down l)
down-step down (Route r n op) l = refl
down-step down (Link j k false) l = down-others k l down
down-step down (Link j k true) l =
    let both : is_down (other_links k down ++ k ∷ []) l ≡ (is_down (other_links k down) l || is_down (k ∷ []) l) = list_any-append (λ (d : LinkId). d.0 == l.0) (other_links k down) (k ∷ []) in
    both ∙ by (k.0 == l.0) refl (down-others k l down)
  where
    by : (b : Bool) → (k.0 == l.0) ≡ b → is_down (other_links k down) l ≡ cond (k.0 == l.0) false (is_down down l) → (is_down (other_links k down) l || is_down (k ∷ []) l) ≡ cond (k.0 == l.0) true (is_down down l)
    by true f h = let off : is_down (other_links k down) l ≡ false = rw f at h in rw (off, f) refl
    by false f h =
        let as_was : is_down (other_links k down) l ≡ is_down down l = rw f at h in
        ⊎_elim
        (λ (y : is_down down l ≡ true). rw (as_was, f, y) refl)
        (λ (n : is_down down l ≡ false). rw (as_was, f, n) refl)
        (cases_Bool (is_down down l))

down-from : (down : List LinkId) (es : List Entry) (l : LinkId) → is_down (fold after_link down es) l ≡ cond (list_any (names_link l) es) (last_takes_down l es) (is_down down l)
down-from down [] l = refl
down-from down (e ∷ es) l = down-from (after_link down e) es l ∙ by (list_any (names_link l) es) (names_link l e) refl refl (down-step down e l)
  where
    by : (a b : Bool) → list_any (names_link l) es ≡ a → names_link l e ≡ b → is_down (after_link down e) l ≡ cond (names_link l e) (takes_down e) (is_down down l) → cond (list_any (names_link l) es) (last_takes_down l es) (is_down (after_link down e) l) ≡ cond (list_any (names_link l) (e ∷ es)) (last_takes_down l (e ∷ es)) (is_down down l)
    by true true f g h = rw (f, g) refl
    by true false f g h = rw (f, g) refl
    by false true f g h = rw (f, g) (rw g at h)
    by false false f g h = rw (f, g) (rw g at h)

-- a link is down where the last entry that names it takes it down
pub down-last : (history : List Entry) (l : LinkId) → is_down (downs history) l ≡ last_takes_down l history
down-last history l = down-from [] history l ∙ by history
  where
    by : (es : List Entry) → cond (list_any (names_link l) es) (last_takes_down l es) false ≡ last_takes_down l es
    by [] = refl
    by (e ∷ es) = more (list_any (names_link l) es) (names_link l e) refl refl
      where
        more : (a b : Bool) → list_any (names_link l) es ≡ a → names_link l e ≡ b → cond (list_any (names_link l) (e ∷ es)) (last_takes_down l (e ∷ es)) false ≡ last_takes_down l (e ∷ es)
        more true true f g = rw (f, g) refl
        more true false f g = rw (f, g) refl
        more false true f g = rw (f, g) refl
        more false false f g = rw (f, g) refl

-- ---- objects

abbrev at_id : ℕ → List ObjectIs → Option Target
at_id id os = lookup (λ i. i == id) os

object-others : (k id : ℕ) (os : List ObjectIs) → at_id id (other_objects k os) ≡ cond (k == id) None (at_id id os)
object-others k id [] = ⊎_elim (λ (y : (k == id) ≡ true). rw y refl) (λ (n : (k == id) ≡ false). rw n refl) (cases_Bool (k == id))
object-others k id (o ∷ os) = by (o.0 == k) (k == id) refl refl (object-others k id os)
  where
    by : (a b : Bool) → (o.0 == k) ≡ a → (k == id) ≡ b → at_id id (other_objects k os) ≡ cond (k == id) None (at_id id os) → at_id id (other_objects k (o ∷ os)) ≡ cond (k == id) None (at_id id (o ∷ os))
    by true true e f h = rw (e, f) (rw f at h)
    by true false e f h =
        let off : (o.0 == id) ≡ false = ap (λ n. n == id) (eqb-true o.0 k e) ∙ f in
        rw (e, f, off) (rw f at h)
    by false true e f h =
        let off : (o.0 == id) ≡ false = ap (λ n. o.0 == n) (sym (eqb-true k id f)) ∙ e in
        rw (e, f, off) (rw f at h)
    by false false e f h = rw (e, f) (ap (λ b. cond (o.0 == id) (Some o.1) b) (rw f at h))

lookup-push : (id k : ℕ) (t : Target) (os : List ObjectIs) → at_id id os ≡ None → (k == id) ≡ true → at_id id (os ++ (k, t) ∷ []) ≡ Some t
lookup-push id k t [] h f = rw f refl
lookup-push id k t (o ∷ os) h f = by (o.0 == id) refl (λ n. lookup-push id k t os n f)
  where
    by : (b : Bool) → (o.0 == id) ≡ b → (at_id id os ≡ None → at_id id (os ++ (k, t) ∷ []) ≡ Some t) → at_id id ((o ∷ os) ++ (k, t) ∷ []) ≡ Some t
    by true e more = absurd (let n : Some o.1 ≡ None = rw e at h in cc)
    by false e more = let rest : at_id id os ≡ None = rw e at h in rw e (more rest)

lookup-other : (id k : ℕ) (t : Target) (os : List ObjectIs) → (k == id) ≡ false → at_id id (os ++ (k, t) ∷ []) ≡ at_id id os
lookup-other id k t [] f = rw f refl
lookup-other id k t (o ∷ os) f = ap (λ x. cond (o.0 == id) (Some o.1) x) (lookup-other id k t os f)

object-step : (os : List ObjectIs) (op : Op) (id : ℕ) → at_id id (after_object os op) ≡ cond (names_object id op) (object_made op) (at_id id os)
object-step os (Set p m t) id = refl
object-step os (SetBy p m i) id = refl
object-step os (Clear p m) id = refl
object-step os (NoObject k) id = object-others k id os
object-step os (Object k t) id = by (k == id) refl (object-others k id os)
  where
    by : (b : Bool) → (k == id) ≡ b → at_id id (other_objects k os) ≡ cond (k == id) None (at_id id os) → at_id id (other_objects k os ++ (k, t) ∷ []) ≡ cond (k == id) (Some t) (at_id id os)
    by true f h = let off : at_id id (other_objects k os) ≡ None = rw f at h in rw f (lookup-push id k t (other_objects k os) off f)
    by false f h = let as_was : at_id id (other_objects k os) ≡ at_id id os = rw f at h in rw f (lookup-other id k t (other_objects k os) f ∙ as_was)

object-from : (os : List ObjectIs) (all : List Op) (id : ℕ) → at_id id (fold after_object os all) ≡ cond (list_any (names_object id) all) (last_made id all) (at_id id os)
object-from os [] id = refl
object-from os (op ∷ all) id = object-from (after_object os op) all id ∙ by (list_any (names_object id) all) (names_object id op) refl refl (object-step os op id)
  where
    by : (a b : Bool) → list_any (names_object id) all ≡ a → names_object id op ≡ b → at_id id (after_object os op) ≡ cond (names_object id op) (object_made op) (at_id id os) → cond (list_any (names_object id) all) (last_made id all) (at_id id (after_object os op)) ≡ cond (list_any (names_object id) (op ∷ all)) (last_made id (op ∷ all)) (at_id id os)
    by true true f g h = rw (f, g) refl
    by true false f g h = rw (f, g) refl
    by false true f g h = rw (f, g) (rw g at h)
    by false false f g h = rw (f, g) (rw g at h)

-- an object is what the last update of the router's device that names it makes of it
pub object-last : (t : Topology) (history : List Entry) (r : RouterId) (id : ℕ) → lookup (λ i. i == id) (objects t history r) ≡ last_made id (ops_on t (device_of t r) history)
object-last t history r id = object-from [] (ops_on t (device_of t r) history) id ∙ by (ops_on t (device_of t r) history)
  where
    by : (all : List Op) → cond (list_any (names_object id) all) (last_made id all) None ≡ last_made id all
    by [] = refl
    by (op ∷ all) = more (list_any (names_object id) all) (names_object id op) refl refl
      where
        more : (a b : Bool) → list_any (names_object id) all ≡ a → names_object id op ≡ b → cond (list_any (names_object id) (op ∷ all)) (last_made id (op ∷ all)) None ≡ last_made id (op ∷ all)
        more true true f g = rw (f, g) refl
        more true false f g = rw (f, g) refl
        more false true f g = rw (f, g) refl
        more false false f g = rw (f, g) refl
