use Rattle.std.proofs.Common.{length}
use Rattle.dn_run.proofs.feeds.+from_feeds.Given as goal

abbrev pub decreases-from_feeds : goal.decreases-from_feeds
decreases-from_feeds g l = length l.opening.feeds.now
