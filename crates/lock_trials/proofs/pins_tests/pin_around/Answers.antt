use Rattle.std.proofs.Common.{ap, ◌∙◌}
use Rattle.fast_pins.specs.Known.{published}
use Rattle.fast_pins.proofs.Prefixes.{prefix_none}
use Rattle.lock_trials.proofs.pins_tests.pin_around.Goals as goal

pub publish-requires-clause-begins : goal.publish-requires-clause-begins
publish-requires-clause-begins g c κs within = prefix_none _ _ (ap published (c.reader-2.ensures.same ∙ c.reader.ensures.same) ∙ c.requires.nothing)
