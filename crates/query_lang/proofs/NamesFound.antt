-- Routers, found by name from the last to the first.
use Rattle.std.proofs.Common.{◌≡◌, ℕ, Bool, true, false, cond, List, [], ◌∷◌, ◌++◌, Option, None, Some, Bor, find, length, refl, ap, sym, ◌∙◌, subst, IsTrue, All, IfSome, get_or, ltb, ◌<◌}
use Rattle.std.specs.Option.{is_some, option_copied, option_or}
use Rattle.std.specs.Str.{bytes_eq}
use Rattle.std.proofs.lemmas.Bool.{ltb-true}
use Rattle.std.proofs.lemmas.List.{nil_from_length}
use Rattle.std.proofs.lemmas.List.Elements.{All-get_or}
use Rattle.std.proofs.lemmas.Slice.Eq.{bytes_eq-Decides}
use Rattle.dn_formats.specs.ScriptText.{is_named}
use Rattle.base.specs.Name.{is_name_text}
use Rattle.base.specs.declared.ids.RouterId.{RouterId}
use Rattle.query_lang.specs.NameIndex.{router_in}

-- one that passes, or else what others give
either : {X : Type 0} (b : Bool) (x : X) (m : Option X) → option_or (cond b (Some x) None) m ≡ cond b (Some x) m
either true x m = refl
either false x m = refl

-- a list's last element stands before what others give
find-last : {X : Type 0} (p : X → Bool) (xs : List X) (x : X) (m : Option X)
    → option_or (find p (xs ++ x ∷ [])) m ≡ option_or (find p xs) (cond (p x) (Some x) m)
find-last {X} p [] x m = either (p x) x m
find-last {X} p (y ∷ ys) x m = by (p y) (find-last p ys x m)
  where
    by : (b : Bool) → option_or (find p (ys ++ x ∷ [])) m ≡ option_or (find p ys) (cond (p x) (Some x) m)
        → option_or (cond b (Some y) (find p (ys ++ x ∷ []))) m ≡ option_or (cond b (Some y) (find p ys)) (cond (p x) (Some x) m)
    by true h = refl
    by false h = h

-- where none is left, all that was found stands in the index
pub found-all : (p : RouterId → Bool) (rest : List RouterId) (index first : Option RouterId) → length rest ≡ 0
    → option_or (find p rest) index ≡ first → index ≡ first
found-all p rest index first none h =
    sym (ap (λ (xs : List RouterId). option_or (find p xs) index) (nil_from_length rest none)) ∙ h

-- the last of the rest goes into the index
pub found-more : (p : RouterId → Bool) (rest front : List RouterId) (last : RouterId) (old new first : Option RouterId)
    → rest ≡ front ++ last ∷ [] → new ≡ cond (p last) (Some last) old → option_or (find p rest) old ≡ first
    → option_or (find p front) new ≡ first
found-more p rest front last old new first cut put h =
    ap (λ (o : Option RouterId). option_or (find p front) o) put ∙ sym (find-last p front last old)
    ∙ sym (ap (λ (xs : List RouterId). option_or (find p xs) old) cut) ∙ h

or-none : (o : Option RouterId) → option_or o None ≡ o
or-none None = refl
or-none (Some r) = refl

-- an index without entries has nothing
pub found-first : (p : RouterId → Bool) (fed : List RouterId) (index : List (Bor (List ℕ) × RouterId)) (name : List ℕ)
    → index ≡ [] → option_or (find p fed) (router_in index name) ≡ find p fed
unfolding router_in
found-first p fed index name e =
    ap (λ (es : List (Bor (List ℕ) × RouterId)). option_or (find p fed) (router_in es name)) e ∙ or-none (find p fed)

-- what holds of each element holds of the one that is read at a place
pub All-copied : {X : Type 0} (P : X → Type 0) (xs : List X) (i : ℕ) (o : Option (Bor X)) (r : Option X) → r ≡ option_copied o
    → is_some o ≡ ltb i (length xs) → IfSome o (λ x. x.now ≡ get_or xs i x.now) → All P xs → IfSome r P
All-copied {X} P xs i None r is within value all = subst (λ (m : Option X). IfSome m P) (sym is) tt
All-copied {X} P xs i (Some x) r is within value all =
    let inside : i < length xs = ltb-true i (length xs) (sym within) in
    subst (λ (m : Option X). IfSome m P) (sym is) (subst P (sym value) (All-get_or P xs i x.now inside all))

-- a name of the same bytes has the same router
pub found-same : (routers : List (List ℕ)) (fed : List RouterId) (a b : List ℕ) (r : RouterId) → bytes_eq a b ≡ true
    → find (is_named routers a) fed ≡ Some r → find (is_named routers b) fed ≡ Some r
found-same routers fed a b r same found =
    subst (λ (name : List ℕ). find (is_named routers name) fed ≡ Some r) ((bytes_eq-Decides a b).0 same) found

-- and is a name too
pub name-same : (a b : List ℕ) → bytes_eq a b ≡ true → IsTrue (is_name_text a) → IsTrue (is_name_text b)
name-same a b same name = subst (λ (text : List ℕ). IsTrue (is_name_text text)) ((bytes_eq-Decides a b).0 same) name

pub ruleset same_name = (found-same, name-same)
