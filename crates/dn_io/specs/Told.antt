-- Bytes that an object may tell: `None` where it does not tell them, as a real file.
use Rattle.std.specs.Prelude.{◌≡◌, ℕ, List, [], ◌++◌, drop, Option, Some, None, IfSome}

-- these bytes in front of those that are told
abbrev pub with_front : List ℕ → Option (List ℕ) → Option (List ℕ)
with_front front None = None
with_front front (Some bytes) = Some (front ++ bytes)

-- these bytes at the end of those that are told
abbrev pub with_end : Option (List ℕ) → List ℕ → Option (List ℕ)
with_end None tail = None
with_end (Some bytes) tail = Some (bytes ++ tail)

-- those that are told, without their first n
abbrev pub without_first : ℕ → Option (List ℕ) → Option (List ℕ)
without_first n None = None
without_first n (Some bytes) = Some (drop n bytes)

-- no byte is left, as far as it is told
abbrev pub NothingLeft : Option (List ℕ) → Type 0
NothingLeft left = IfSome left (λ bytes. bytes ≡ [])
