-- When the routers of feeds aren't found.
use Rattle.std.specs.Prelude.{◌≡◌, Result, Err}
use Rattle.dn_formats.specs.declared.error_line.ErrorLine.{ErrorLine}
use Rattle.dn_run.specs.declared.routers.RoutersRefused.{RoutersRefused}
use Rattle.dn_run.specs.declared.routers.RoutersRefused.TheVariants as refused

-- the line of the first fault; want of memory says nothing of it
abbrev pub AreRoutersRefused : {A : Type 0} → RoutersRefused → Result A ErrorLine → Type 0
AreRoutersRefused (refused.Line fault) meaning = meaning ≡ Err fault
AreRoutersRefused refused.OutOfMemory meaning = Unit {0}
