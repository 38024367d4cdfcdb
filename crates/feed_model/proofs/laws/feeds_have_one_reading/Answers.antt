use Rattle.feed_model.proofs.FeedLemmas.{reading_once}
use Rattle.feed_model.proofs.laws.feeds_have_one_reading.Goals as goal

pub returns : goal.returns
returns c = reading_once
