-- Lists that keep room for what is to come.
use Rattle.std.specs.Prelude.{ℕ, ◌≡◌, ◌≤◌, [], vec_capacity}
use Rattle.std.specs.Global.{Vec}

-- an empty list has room for so many things
abbrev pub HasRoom : {X : Type 0} → ℕ → Vec X → Type 0
HasRoom n room = (room.items ≡ []) × (n ≤ vec_capacity room)
