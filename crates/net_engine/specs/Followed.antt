-- Which entries a version follows yet.
use Rattle.dn_model.specs.declared.entry.Entry.{Entry}
use Rattle.dn_model.specs.declared.entry.Entry.TheVariants.{Route, Link}
use Rattle.dn_model.specs.declared.entry.Op.{Op}
use Rattle.dn_model.specs.declared.entry.Op.TheVariants.{Set, SetBy, Clear, Object, NoObject}

-- an update that sets a route with its target, or clears routes
abbrev pub IsFollowedOp : Op → Type 0
IsFollowedOp (Set p m target) = Unit {0}
IsFollowedOp (SetBy p m id) = ⊥
IsFollowedOp (Clear p m) = Unit {0}
IsFollowedOp (Object id target) = ⊥
IsFollowedOp (NoObject id) = ⊥

-- such an update of a router, or a link that goes down or comes up
abbrev pub IsFollowed : Entry → Type 0
IsFollowed (Route r n op) = IsFollowedOp op
IsFollowed (Link j l down) = Unit {0}
