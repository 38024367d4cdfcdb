-- A code put in the place of another.
use Rattle.std.proofs.Common.{◌≡◌, ℕ, List, get_or, set, ap, ◌∙◌, IfOk, OnOk}
use Rattle.std.specs.declared.result.Result.{Result}
use Rattle.std.specs.declared.result.Result.TheVariants.{Ok, Err}
use Rattle.std.specs.Fn.{FnOnceReturnsAtMut}
use denote.Param.Members.{Once}
use denote.Ref.{MutBor}
use Rattle.version_pages.specs.Changes.{Changes}

-- a call that leaves one code whatever was there puts that code
pub swapped : {F R E : Type 0} (g : Once F (MutBor ℕ × Unit {0}) (R × (MutBor ℕ × Unit {0}))) (f : F) (old new : List ℕ) (i v : ℕ) (res : Result R E) → ((x y : ℕ) (r : R) → FnOnceReturnsAtMut g f x r y → y ≡ v) → IfOk res (Changes g f old new i) → OnOk res (new ≡ set old i v)
swapped g f old new i v (Ok r) puts changed = changed.list ∙ ap (λ y. set old i y) (puts (get_or old i v) changed.value r (changed.called v))
swapped g f old new i v (Err e) puts changed = tt
