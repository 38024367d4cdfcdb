-- Where walks end without a way on.
use Rattle.std.specs.Prelude.{ℕ, Bool, false, Option, None, Some, ◌&&◌, ◌==◌, nat_lt, if◌then◌else◌}
use Rattle.base.specs.Holes.{cause_rank, ends_by, is_cause}
use Rattle.base.specs.Reach.{is_router}
use Rattle.base.specs.Walk.{walk_end, walk_last}
use Rattle.base.specs.declared.ids.RouterId.{RouterId}
use Rattle.base.specs.declared.target.Target.{Target}

-- a walk's last router with what it does, if that is a cause
abbrev pub fall_of : RouterId → Target → Option (RouterId × Target)
fall_of r target = if is_cause target then Some (r, target) else None

-- whether this is a walk's end at a router by a cause
abbrev pub is_fall : Option (RouterId × Target) → RouterId → Target → Bool
is_fall None last cause = false
is_fall (Some end) last cause = is_router last end.0 && (is_cause end.1 && (cause_rank end.1 == cause_rank cause))

-- whether a walk of so many hops falls at a router by a cause
abbrev pub walk_falls : (RouterId → Target) → ℕ → RouterId → RouterId → Target → Bool
walk_falls f n r last cause = is_router last (walk_last f n r) && ends_by cause (walk_end f n r)

-- whether a router and a cause come before others: by router, then by cause
abbrev pub is_before : RouterId → Target → RouterId → Target → Bool
is_before r t s u = if r.0 == s.0 then nat_lt (cause_rank t) (cause_rank u) else nat_lt r.0 s.0

-- whether two routers and causes are the same
abbrev pub is_same : RouterId → Target → RouterId → Target → Bool
is_same r t s u = if r.0 == s.0 then cause_rank t == cause_rank u else false
