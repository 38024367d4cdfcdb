-- What the last entry that names a link, or the last update that names an object, says of it.
use Rattle.std.specs.Prelude.{ℕ, Bool, false, List, [], ◌∷◌, Option, None, Some, ◌==◌, if◌then◌else◌}
use Rattle.std.specs.List.{list_any}
use Rattle.base.specs.declared.ids.LinkId.{LinkId}
use Rattle.base.specs.declared.target.Target.{Target}
use Rattle.dn_model.specs.declared.entry.Entry.{Entry}
use Rattle.dn_model.specs.declared.entry.Entry.TheVariants.{Route, Link}
use Rattle.dn_model.specs.declared.entry.Op.{Op}
use Rattle.dn_model.specs.declared.entry.Op.TheVariants.{Set, SetBy, Clear, Object, NoObject}

-- whether an entry is one of this link
abbrev pub names_link : LinkId → Entry → Bool
names_link l (Route r n op) = false
names_link l (Link j k down) = k.0 == l.0

-- whether an entry takes its link down
abbrev pub takes_down : Entry → Bool
takes_down (Route r n op) = false
takes_down (Link j l down) = down

-- whether the last of these entries that names a link takes it down; none does where none names it
abbrev pub last_takes_down : LinkId → List Entry → Bool
last_takes_down l [] = false
last_takes_down l (e ∷ es) =
    if list_any (names_link l) es then last_takes_down l es else if names_link l e then takes_down e else false

-- whether an update is one of the object with this id
abbrev pub names_object : ℕ → Op → Bool
names_object id (Set p m t) = false
names_object id (SetBy p m i) = false
names_object id (Clear p m) = false
names_object id (Object i t) = i == id
names_object id (NoObject i) = i == id

-- what an update makes of its object
abbrev pub object_made : Op → Option Target
object_made (Set p m t) = None
object_made (SetBy p m i) = None
object_made (Clear p m) = None
object_made (Object i t) = Some t
object_made (NoObject i) = None

-- what the last of these updates that names an object makes of it; there is none where none names it
abbrev pub last_made : ℕ → List Op → Option Target
last_made id [] = None
last_made id (op ∷ ops) =
    if list_any (names_object id) ops then last_made id ops else if names_object id op then object_made op else None
