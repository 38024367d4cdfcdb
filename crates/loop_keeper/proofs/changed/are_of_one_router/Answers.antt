use Rattle.std.proofs.Common.{length, refl}
use Rattle.std.proofs.lemmas.Bool.{eqb-true}
use Rattle.base.specs.declared.change.Change.{Change}
use Rattle.base.specs.declared.target.Target.TheVariants.{NoRoute}
use Rattle.loop_keeper.proofs.InOrder.{in-turn}
use Rattle.loop_keeper.proofs.changed.are_of_one_router.Goals as goal

abbrev no_change : Change
no_change = record { router = record { 0 = 0 }; run = record { lo = 0; hi = 0 }; before = NoRoute; after = NoRoute }

pub returns : goal.returns
returns c = λ e. in-turn c.args.changes.now (length c.args.changes.now) no_change refl c.requires (eqb-true _ _ e)
