-- The rule of the two copies that readers take.
use Rattle.std.proofs.Common.{◌≡◌, ℕ, ◌≢◌, List, [], ◌∷◌, ◌++◌, set, refl, sym, ap, ◌∙◌, subst, ⊎_elim, Option, Some, None, Result, Ok, Err, MatchResult, is_err, fold, false}
use Rattle.std.proofs.lemmas.List.Sums.{fold-append}
use mathlib.Core.Option.{some}
use lib.ListN.{get_elem?}
use Rattle.crossbeam_utils.specs.Register.{Admits, TurnsAt, Forks, Merges}
use Rattle.atomic_table.proofs.Lists.{at_set, at_snoc, set_again}
use Rattle.fast_pins.specs.declared.issue.Origin.{Origin}
use Rattle.fast_pins.specs.Known.{Known}
use Rattle.fast_pins.specs.Shelf.{AllOf}

-- a new view knows nothing
pub admits : Admits AllOf None
admits x views h seat o at = ⊎_elim (h seat o) (λ (e : None ≡ Some o). absurd (cc (e))) (at_snoc views None (Some o) seat at)

-- the rule holds of every list of views in which one became that of what is shown
all_set : (x y : Known) (views : List (Option Origin)) (seat : ℕ) (v : Option Origin) → x.origin ≡ y.origin → AllOf x views
    → ((o : Origin) → v ≡ Some o → o ≡ y.origin) → AllOf y (set views seat v)
all_set x y views seat v same h mine j o e = ⊎_elim (λ (t : (j ≡ seat) × (v ≡ Some o)). mine o t.1) (λ (t : (j ≢ seat) × (get_elem? views j ≡ some (Some o))). h j o t.1 ∙ same)
    (at_set views seat j v (Some o) e)

some_same : (a b : Origin) → Some a ≡ Some b → a ≡ b
some_same a b e = cc (e)

-- what is shown changes to an edition of the same publisher, and who shows it knows of which
pub claims : (seat : ℕ) (v : Option Origin) (x y : Known) → x.origin ≡ y.origin → TurnsAt AllOf seat v x y (λ before old new after. after ≡ Some new.origin)
claims seat v x y same views h at = (Some y.origin, all_set x y views seat (Some y.origin) same h (λ o e. sym (some_same y.origin o e)), refl)

-- a reader takes what is shown
pub sees : (seat : ℕ) (v : Option Origin) (x : Known) → TurnsAt AllOf seat v x x (λ before old new after. ((o : Origin) → before ≡ Some o → o ≡ old.origin) × (after ≡ before))
sees seat v x views h at = (v, subst (AllOf x) (sym (set_again views seat v at)) h, (λ o e. h seat o (at ∙ ap some e), refl))

pub forks : (seat : ℕ) (v : Option Origin) → Forks AllOf seat v v v
forks seat v x views h at j o e = ⊎_elim (all_set x x views seat v refl h (λ u is. h seat u (at ∙ ap some is)) j o)
    (λ (same : v ≡ Some o). h seat o (at ∙ ap some same)) (at_snoc (set views seat v) v (Some o) j e)

pub merges : (seat other : ℕ) (v w : Option Origin) → Merges AllOf seat v other w w None
merges seat other v w x views h at apart there =
    let told : (o : Origin) → w ≡ Some o → o ≡ x.origin = λ o is. ⊎_elim (λ (t : (other ≡ seat) × (w ≡ w)). absurd (apart t.0))
    (λ (t : (other ≢ seat) × (get_elem? views other ≡ some w)). h other o (t.1 ∙ ap some is)) (at_set views seat other w w there) in
    all_set x x (set views seat w) other None refl (all_set x x views seat w refl h told) (λ o e. absurd (cc (e)))

-- after the last publication all that was to be shown is that
pub last_shown : (x : Known) (ops : List Known) (op : Known) → fold (λ _ next. next) x (ops ++ op ∷ []) ≡ op
last_shown x ops op = fold-append (λ (old : Known) (next : Known). next) x ops (op ∷ [])

pub if_ok : {A B : Type 0} (r : Result A B) (P : Type 0) (Q : B → Type 0) → MatchResult r (λ _. P) Q → is_err r ≡ false → P
if_ok (Ok x) P Q m so = m
if_ok (Err y) P Q m so = absurd (cc (so))

pub at_ok : {A B : Type 0} (r : Result A B) (P : Type 0) (Q : B → Type 0) → MatchResult r (λ _. P) Q → (x : A) → r ≡ Ok x → P
at_ok (Ok y) P Q m x e = m
at_ok (Err y) P Q m x e = absurd (cc (e))
