-- A list that grows by one element.
use Rattle.std.specs.Prelude.{ℕ, ◌+◌, ◌<◌, ◌≤◌, List, length, set, insert}
use Rattle.version_pages.specs.declared.growth.Growth.{Growth}
use Rattle.version_pages.specs.declared.growth.Growth.TheVariants.{Before, Parts}

-- one more element before a place, or two in the place of one
abbrev pub grown : {T : Type 0} → Growth T → List T → ℕ → List T
grown (Before value) xs i = insert xs i value
grown (Parts lower upper) xs i = set (insert xs (i + 1) upper) i lower

-- the place at which a list grows is one of its places, or its end
abbrev pub CanGrow : {T : Type 0} → Growth T → List T → ℕ → Type 0
CanGrow (Before value) xs i = i ≤ length xs
CanGrow (Parts lower upper) xs i = i < length xs
