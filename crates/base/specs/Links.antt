-- Links that are down: what targets become of it, and which are down after a history.
use Rattle.std.specs.Prelude.{Bool, List, ◌==◌, if◌then◌else◌}
use Rattle.std.specs.List.{list_any}
use Rattle.base.specs.declared.ids.LinkId.{LinkId}
use Rattle.base.specs.declared.target.Target.{Target}
use Rattle.base.specs.declared.target.Target.TheVariants.{NoRoute, Dropped, Local, Exit, OnLink, To, LinkDown}

-- whether a link is one of these
abbrev pub is_down : List LinkId → LinkId → Bool
is_down down l = list_any (λ d. d.0 == l.0) down

-- a target, where these links are down
abbrev pub without : List LinkId → Target → Target
without down NoRoute = NoRoute
without down (Dropped kind) = Dropped kind
without down Local = Local
without down (Exit i) = Exit i
without down (OnLink i) = OnLink i
without down (To s l) = if is_down down l then LinkDown l else To s l
without down (LinkDown l) = LinkDown l
