-- Laws of bytes that may be told.
use Rattle.std.proofs.Common.{◌≡◌, ℕ, List, [], ◌∷◌, ◌++◌, Option, Some, None, refl, ap, sym, append_assoc}
use Rattle.dn_io.specs.Told.{with_front, with_end}

-- two pieces in front are one
pub with_front-with_front : (front next : List ℕ) (told : Option (List ℕ)) → with_front front (with_front next told) ≡ with_front (front ++ next) told
with_front-with_front front next None = refl
with_front-with_front front next (Some bytes) = ap Some (sym (append_assoc front next bytes))

-- two pieces at the end are one
pub with_end-with_end : (told : Option (List ℕ)) (tail next : List ℕ) → with_end (with_end told tail) next ≡ with_end told (tail ++ next)
with_end-with_end None tail next = refl
with_end-with_end (Some bytes) tail next = ap Some (append_assoc bytes tail next)
