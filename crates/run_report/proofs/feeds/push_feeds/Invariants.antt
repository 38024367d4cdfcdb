use Rattle.std.proofs.Common.{◌≡◌, ◌++◌, drop}
use Rattle.std.specs.List.{flat_map}
use Rattle.dn_formats.specs.Report.{feed_lines}
use Rattle.run_report.proofs.feeds.push_feeds.Given as goal

abbrev pub invariant-loop-feed : goal.invariant-loop-feed
invariant-loop-feed l = l.out.items ++ flat_map (feed_lines l.t) (drop l.feed-index l.feeds) ≡ l.initial.out.items ++ flat_map (feed_lines l.t) l.feeds
