use Rattle.feed_model.proofs.FeedLemmas.{faulted_once}
use Rattle.feed_model.proofs.laws.failed_feeds_have_one_reading.Goals as goal

pub returns : goal.returns
returns c = faulted_once
