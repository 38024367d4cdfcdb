-- What holds of a publisher between two calls.
use Rattle.std.specs.Prelude.{◌≡◌, List, Some}
use Rattle.logbook.specs.Pages.{Book}
use Rattle.fast_pins.specs.declared.issue.Issue.{Issue}
use Rattle.fast_pins.specs.Known.{Known, published}
use Rattle.fast_pins.specs.Law.{known_by, topology_in, list_in}

-- its own edition is all that its press has seen
pub record IsPublisher (own : Known) (book : Book) (log : List Issue) : Type 0 where
  pub own_is : own ≡ known_by book log own.topology
  pub topology_is : topology_in log ≡ Some own.topology
  pub list_is : list_in log ≡ published own
