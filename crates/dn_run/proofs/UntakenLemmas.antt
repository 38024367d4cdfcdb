-- Which feeds scripts take.
use Rattle.std.proofs.Common.{◌≡◌, ◌||◌, List, [], ◌∷◌, refl, ap}
use Rattle.std.specs.List.{list_any}
use Rattle.dn_formats.specs.declared.script.Script.{Script}
use Rattle.base.specs.declared.ids.RouterId.{RouterId}
use Rattle.dn_run.specs.Jobs.{scripts_of}
use Rattle.dn_run.specs.Run.{takes_router}

-- whether some script takes from a router
pub scripts-any : (r : RouterId) (scripts : List Script) → list_any (λ (script : Script). takes_router r script.lines) scripts ≡ list_any (takes_router r) (scripts_of scripts)
scripts-any r [] = refl
scripts-any r (script ∷ scripts) = ap (λ b. takes_router r script.lines || b) (scripts-any r scripts)
