-- What is asked of walks: which addresses come to a router, come there past a waypoint, or go over a link. What each
-- router does with each address is given.
use Rattle.std.specs.Prelude.{ℕ, Bool, false, true, List, [], ◌∷◌, ◌==◌, if◌then◌else◌}
use Rattle.std.specs.List.{list_any}
use Rattle.base.specs.Walk.{at_address, walk}
use Rattle.base.specs.declared.ids.LinkId.{LinkId}
use Rattle.base.specs.declared.ids.RouterId.{RouterId}
use Rattle.base.specs.declared.target.Target.{Target}
use Rattle.base.specs.declared.target.Target.TheVariants.{NoRoute, Dropped, Local, Exit, OnLink, To, LinkDown}

abbrev pub is_router : RouterId → RouterId → Bool
is_router r s = s.0 == r.0

-- whether an address comes from a router to another, or to the same one at once: so many routers are there
abbrev pub reaches : ℕ → (RouterId → ℕ → Target) → RouterId → RouterId → ℕ → Bool
reaches routers does first to a = list_any (is_router to) (walk (at_address does a) routers first)

-- whether one of these routers is `to`, and none up to the first of them is `through`
abbrev pub comes_before : RouterId → RouterId → List RouterId → Bool
comes_before to through [] = false
comes_before to through (r ∷ rs) = if is_router through r then false else if is_router to r then true else comes_before to through rs

-- whether an address comes from a router to another without having met the waypoint
abbrev pub misses : ℕ → (RouterId → ℕ → Target) → RouterId → RouterId → RouterId → ℕ → Bool
misses routers does first to through a = comes_before to through (walk (at_address does a) routers first)

-- whether a target goes on over a link
abbrev pub is_over : LinkId → Target → Bool
is_over l NoRoute = false
is_over l (Dropped kind) = false
is_over l Local = false
is_over l (Exit i) = false
is_over l (OnLink i) = false
is_over l (To s k) = k.0 == l.0
is_over l (LinkDown k) = false

-- whether a router sends an address over a link
abbrev pub goes_over : (RouterId → ℕ → Target) → RouterId → LinkId → ℕ → Bool
goes_over does r l a = is_over l (does r a)
