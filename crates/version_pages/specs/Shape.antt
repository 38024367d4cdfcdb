-- What a tree of pages is seen as, and what always holds of it.
use Rattle.std.specs.Prelude.{ℕ, zero, suc, ◌≡◌, ◌+◌, ◌*◌, ◌^◌, ◌-◌, ◌<◌, ◌≤◌, List, [], ◌∷◌, ◌++◌, length, take, slice_index_or, All}
use Rattle.std.specs.List.{flat_map}
use Rattle.version_pages.specs.declared.tree.TheConstants.{WIDE}

-- the elements in order, how many forks stand above each page, how many more elements or children the top node may take, and
-- how many it may lose
pub record Shape (T : Type 0) : Type 0 where
  pub items : List T
  pub height : ℕ
  pub room : ℕ
  pub spare : ℕ

abbrev pub items_of : {T : Type 0} → Shape T → List T
items_of s = s.items

-- the elements of trees, one after another
abbrev pub joined : {T : Type 0} → List (Shape T) → List T
joined kids = flat_map items_of kids

-- a page, and a fork over children
abbrev pub page_shape : {T : Type 0} → List T → Shape T
page_shape items = record { items = items; height = 0; room = 64 - length items; spare = length items - 1 }

abbrev pub fork_shape : {T : Type 0} → ℕ → List (Shape T) → Shape T
fork_shape height kids = record { items = joined kids; height = height; room = WIDE - length kids; spare = length kids - 2 }

-- the depth is a logarithm of the number of elements, between the one of base 2 and the one of base 128
pub record IsDeep {T : Type 0} (s : Shape T) : Type 0 where
  pub many : 2 ^ s.height ≤ length s.items
  pub few : length s.items ≤ 64 * WIDE ^ s.height

-- a child of a fork of this height
pub record IsUnder {T : Type 0} (height : ℕ) (kid : Shape T) : Type 0 where
  pub level : kid.height + 1 ≡ height
  pub deep : IsDeep kid

-- the children of a fork: 2 to 128, and all pages stand equally deep
pub record AreKids {T : Type 0} (height : ℕ) (kids : List (Shape T)) : Type 0 where
  pub two : 2 ≤ length kids
  pub most : length kids ≤ WIDE
  pub under : All (IsUnder height) kids

-- how many elements each child and those before it have together
pub record AreEnds {T : Type 0} (ends : List ℕ) (kids : List (Shape T)) : Type 0 where
  pub count : length ends ≡ length kids
  pub each : (k d : ℕ) → k < length kids → slice_index_or ends k d ≡ length (joined (take (k + 1) kids))

-- the same of the first children
pub record AreEndsTo {T : Type 0} (ends : List ℕ) (kids : List (Shape T)) (to : ℕ) : Type 0 where
  pub count : length ends ≡ to
  pub each : (k d : ℕ) → k < to → slice_index_or ends k d ≡ length (joined (take (k + 1) kids))

-- how many elements stand before a child
abbrev pub end_before : List ℕ → ℕ → ℕ
end_before ends zero = 0
end_before ends (suc k) = slice_index_or ends k 0

-- the numbers from one place to another are so much more than they were
pub record AreLonger (old new : List ℕ) (from to more : ℕ) : Type 0 where
  pub count : length new ≡ length old
  pub before : (n d : ℕ) → n < from → slice_index_or new n d ≡ slice_index_or old n d
  pub within : (n d : ℕ) → from ≤ n → n < to → slice_index_or new n d ≡ slice_index_or old n d + more
  pub after : (n d : ℕ) → to ≤ n → slice_index_or new n d ≡ slice_index_or old n d

-- a part of a list, in which a place of the list is this one
pub record IsWithin {T : Type 0} (all part : List T) (i j : ℕ) : Type 0 where
  pub before : List T
  pub after : List T
  pub whole : all ≡ before ++ (part ++ after)
  pub place : i ≡ length before + j

-- the child that has the element at a place, or the last where there is none, and the element's place in it
pub record IsAt {T : Type 0} (kids : List (Shape T)) (i k j : ℕ) : Type 0 where
  pub child : k < length kids
  pub place : i ≡ length (joined (take k kids)) + j
  pub inside : (d : Shape T) → i < length (joined kids) → j < length (slice_index_or kids k d).items
  pub within : (d : Shape T) → i ≤ length (joined kids) → j ≤ length (slice_index_or kids k d).items

-- two trees, one after the other, have the elements of one of the same height, and room for more
pub record AreHalves {T : Type 0} (lower upper whole : Shape T) : Type 0 where
  pub items : lower.items ++ upper.items ≡ whole.items
  pub lower_level : lower.height ≡ whole.height
  pub upper_level : upper.height ≡ whole.height
  pub lower_room : 0 < lower.room
  pub upper_room : 0 < upper.room
  pub lower_deep : IsDeep lower
  pub upper_deep : IsDeep upper

-- the child at a place parted in two
pub record IsParted {T : Type 0} (old new : List (Shape T)) (k : ℕ) (lower upper : Shape T) : Type 0 where
  pub count : length new ≡ length old + 1
  pub same : joined new ≡ joined old
  pub before : take k new ≡ take k old
  pub then : take (k + 1) new ≡ take k old ++ lower ∷ []
  pub first : (d : Shape T) → slice_index_or new k d ≡ lower
  pub second : (d : Shape T) → slice_index_or new (k + 1) d ≡ upper
  pub under : (h : ℕ) → All (IsUnder h) old → All (IsUnder h) new

-- the child at a place parted in two, the first of which has so many elements
pub record IsPartedAt {T : Type 0} (old new : List (Shape T)) (k len : ℕ) : Type 0 where
  pub lower : Shape T
  pub upper : Shape T
  pub long : len ≡ length lower.items
  pub halves : (d : Shape T) → AreHalves lower upper (slice_index_or old k d)
  pub parted : IsParted old new k lower upper
