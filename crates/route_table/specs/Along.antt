-- A walk over the slots behind that of a prefix, in order, which leaves the prefix's own addresses.
use Rattle.std.specs.Prelude.{ℕ, Bool, List, [], ◌∷◌, ◌++◌, fold, length, nat_le, nat_lt, ◌+◌, ◌-◌, ◌==◌, ◌||◌, if◌then◌else◌}
use Rattle.std.specs.List.{list_any}
use Rattle.base.specs.Cidr.{size}
use Rattle.base.specs.declared.run.Run.{Run}
use Rattle.route_table.specs.Slots.{PrefixRoutes}

-- how far it has come: from this address on none was met; the runs so far; and where the prefixes begin that it went past
pub record Along : Type 0 where
  pub at : ℕ
  pub runs : List Run
  pub begun : List ℕ

-- the addresses from `at` up to, and without, `past`, if there is any
abbrev pub gap : ℕ → ℕ → List Run
gap at past = if nat_lt at past then record { lo = at; hi = past - 1 } ∷ [] else []

abbrev pub past_of : PrefixRoutes → ℕ
past_of s = s.prefix.base + size s.prefix

-- whether a slot is passed over: it begins past all, or within what the walk has gone past, or has no route
abbrev pub is_passed_over : ℕ → ℕ → PrefixRoutes → Bool
is_passed_over past at s = (nat_le past s.prefix.base || nat_lt s.prefix.base at) || (length s.targets == 0)

abbrev pub along_slot : ℕ → Along → PrefixRoutes → Along
along_slot past w s = if is_passed_over past w.at s then w else record {
  at = past_of s;
  runs = w.runs ++ gap w.at s.prefix.base;
  begun = w.begun ++ s.prefix.base ∷ [];
}

abbrev pub along : ℕ → Along → List PrefixRoutes → Along
along past w slots = fold (along_slot past) w slots

-- one of these slots begins past all
abbrev pub begins_past : ℕ → List PrefixRoutes → Bool
begins_past past slots = list_any (λ s. nat_le past s.prefix.base) slots
