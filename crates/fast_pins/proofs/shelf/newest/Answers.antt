use Rattle.fast_pins.proofs.Shown.{sees}
use Rattle.fast_pins.proofs.shelf.newest.Goals as goal

pub enter_as-requires : goal.enter_as-requires
enter_as-requires g c x = sees _ _ x
