use Rattle.feed_threads.proofs.ShownLemmas.{shows-later}
use Rattle.feed_threads.proofs.ask.outcome.Goals as goal

pub returns-in_err-snapshot-clause-shows : goal.returns-in_err-snapshot-clause-shows
returns-in_err-snapshot-clause-shows g c = shows-later _ _ _ _ _ c.look.ensures.looks.saw.seen c.show.ensures.shows

pub returns-in_err-outcome-clause-shows : goal.returns-in_err-outcome-clause-shows
returns-in_err-outcome-clause-shows g c = shows-later _ _ _ _ _ c.look.ensures.looks.saw.seen c.show.ensures.shows

pub returns-clause-shows : goal.returns-clause-shows
returns-clause-shows g c = shows-later _ _ _ _ _ c.look.ensures.looks.saw.seen c.show.ensures.shows
