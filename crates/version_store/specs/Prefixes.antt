-- The prefixes that a history ever set, and how many rows a version of it has at most.
use Rattle.std.specs.Prelude.{ℕ, Bool, List, [], ◌∷◌, Option, None, length, ◌+◌, ◌*◌, ◌==◌, ◌&&◌, if◌then◌else◌}
use Rattle.std.specs.List.{filter_map, list_any}
use Rattle.base.specs.Cidr.{Cidr}
use Rattle.dn_model.specs.declared.entry.Entry.{Entry}
use Rattle.dn_model.specs.Entry.{prefix_set}
use Rattle.dn_model.specs.declared.entry.Entry.TheVariants.{Route, Link}

-- the prefix of the route that an entry sets; clearing one sets none
abbrev pub set_prefix : Entry → Option Cidr
set_prefix (Route r n op) = prefix_set op
set_prefix (Link j l down) = None

abbrev pub same_prefix : Cidr → Cidr → Bool
same_prefix p q = (p.base == q.base) && (p.len == q.len)

-- these prefixes, each once
abbrev pub each_once : List Cidr → List Cidr
each_once [] = []
each_once (p ∷ ps) = if list_any (same_prefix p) ps then each_once ps else p ∷ each_once ps

-- how many different prefixes a history ever set
abbrev pub prefixes_set : List Entry → ℕ
prefixes_set history = length (each_once (filter_map set_prefix history))

-- a version has a row for each interval between boundaries, of which there are at most two a prefix beside 0
abbrev pub most_rows : List Entry → ℕ
most_rows history = 2 * prefixes_set history + 1
