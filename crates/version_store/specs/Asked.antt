-- Why a query has no answer.
use Rattle.std.specs.Prelude.{Option, None, Some, ◌≡◌}
use Rattle.dn_model.specs.declared.query.Unknown.{Unknown}
use Rattle.dn_model.specs.declared.query.Unknown.TheVariants.{Router, Link}
use Rattle.version_store.specs.declared.asking.AskRefused.{AskRefused}
use Rattle.version_store.specs.declared.asking.AskRefused.TheVariants.{UnknownRouter, UnknownLink, OutOfMemory}

-- the refusal names the query's first unknown name; memory is wanted only where every name is known
abbrev pub IsAskRefusal : Option Unknown → AskRefused → Type 0
IsAskRefusal unknown (UnknownRouter place) = unknown ≡ Some (Router place)
IsAskRefusal unknown (UnknownLink place) = unknown ≡ Some (Link place)
IsAskRefusal unknown OutOfMemory = unknown ≡ None
