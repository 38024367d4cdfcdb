-- Flags of links say which are down.
use Rattle.std.proofs.Common.{◌≡◌, ℕ, zero, suc, ◌+◌, ◌<◌, ◌∙◌, ◌||◌, ◌==◌, Bool, true, false, cond, List, [], ◌∷◌, get_or, map, refl, ap, sym, subst, arith}
use Rattle.std.specs.List.{list_any}
use Rattle.std.proofs.lemmas.Bool.{eq-eqb, ne_eqb}
use Rattle.base.specs.Links.{is_down, without}
use Rattle.base.specs.declared.ids.LinkId.{LinkId}
use Rattle.base.specs.declared.target.Target.{Target}
use Rattle.net_engine.specs.LinkSet.{IsFlagPut, IsLinkPut, links_from}
use Rattle.net_engine.proofs.Following.{without-none}

-- the links of flags from one on don't have a link before it
down-below : (first : ℕ) (flags : List Bool) (l : LinkId) → l.0 < first → is_down (links_from first flags) l ≡ false
down-below first [] l b = refl
down-below first (true ∷ flags) l b = ap (λ x. x || is_down (links_from (suc first) flags) l) (ne_eqb first l.0 (λ e. omega arith)) ∙ down-below (suc first) flags l (omega arith)
down-below first (false ∷ flags) l b = down-below (suc first) flags l (omega arith)

down-from : (first : ℕ) (flags : List Bool) (l : LinkId) (k : ℕ) → l.0 ≡ first + k → is_down (links_from first flags) l ≡ get_or flags k false
down-from first [] l k e = refl
down-from first (true ∷ flags) l zero e = ap (λ x. x || is_down (links_from (suc first) flags) l) (eq-eqb first l.0 (omega arith))
down-from first (false ∷ flags) l zero e = down-below (suc first) flags l (omega arith)
down-from first (true ∷ flags) l (suc k) e = ap (λ x. x || is_down (links_from (suc first) flags) l) (ne_eqb first l.0 (λ f. omega arith)) ∙ down-from (suc first) flags l k (omega arith)
down-from first (false ∷ flags) l (suc k) e = down-from (suc first) flags l k (omega arith)

-- a link is down where its flag is set
pub down-flag : (flags : List Bool) (l : LinkId) → is_down (links_from 0 flags) l ≡ get_or flags l.0 false
down-flag flags l = down-from 0 flags l l.0 (omega arith)

-- where no flag is set none is down
pub none-set : (first : ℕ) (flags : List Bool) → list_any (λ f. f) flags ≡ false → links_from first flags ≡ []
none-set first [] h = refl
none-set first (true ∷ flags) h = cc
none-set first (false ∷ flags) h = none-set (suc first) flags h

pub link-put : (old new : List Bool) (l : LinkId) (down : Bool) → IsFlagPut old new l.0 down → IsLinkPut (links_from 0 old) (links_from 0 new) l down
link-put old new l down put k = down-flag new k ∙ put k.0 ∙ ap (λ b. cond (l.0 == k.0) down b) (sym (down-flag old k))

-- as the flags before and after were made
pub link-made : (was old new made : List Bool) (now : List LinkId) (l : LinkId) (down : Bool) → links_from 0 was ≡ now → old ≡ was → IsFlagPut old new l.0 down → made ≡ new → IsLinkPut now (links_from 0 made) l down
link-made was old new made now l down view same put is =
    let P : List LinkId → Type 0 = λ links. IsLinkPut links (links_from 0 made) l down in
    subst P view
    (subst (λ (fs : List Bool). IsLinkPut (links_from 0 fs) (links_from 0 made) l down) same
    (subst (λ (fs : List Bool). IsLinkPut (links_from 0 old) (links_from 0 fs) l down) (sym is) (link-put old new l down put)))

-- ---- targets where none is down

targets-up : (ts : List Target) → map (without []) ts ≡ ts
targets-up [] = refl
targets-up (t ∷ ts) = ap (λ us. without [] t ∷ us) (targets-up ts) ∙ ap (λ u. u ∷ ts) (without-none t)

pub targets-none : (down : List LinkId) (ts : List Target) → down ≡ [] → ts ≡ map (without down) ts
targets-none down ts none = subst (λ (ls : List LinkId). ts ≡ map (without ls) ts) (sym none) (sym (targets-up ts))

pub target-none : (down : List LinkId) (t : Target) → down ≡ [] → t ≡ without down t
target-none down t none = subst (λ (ls : List LinkId). t ≡ without ls t) (sym none) (sym (without-none t))
