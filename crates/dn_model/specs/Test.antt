-- What is asked of each address, as tests.
use Rattle.std.specs.Prelude.{ℕ, Bool}
use Rattle.base.specs.Cycles.{goes_round}
use Rattle.base.specs.Holes.{falls}
use Rattle.base.specs.Reach.{reaches, misses, goes_over}
use Rattle.base.specs.declared.ids.RouterId.{RouterId}
use Rattle.dn_model.specs.declared.plain_test.Test.{Test}
use Rattle.dn_model.specs.declared.plain_test.Test.TheVariants.{Reaches, Misses, GoesOver, Falls, GoesRound}
use Rattle.base.specs.declared.target.Target.{Target}

-- whether an address passes a test, in a network of so many routers, of which each does this with each address
abbrev pub passes : ℕ → (RouterId → ℕ → Target) → Test → ℕ → Bool
passes routers does (Reaches first to) = reaches routers does first to
passes routers does (Misses first to through) = misses routers does first to through
passes routers does (GoesOver r l) = goes_over does r l
passes routers does (Falls first last cause) = falls routers does first last cause
passes routers does (GoesRound cycle) = goes_round does cycle
