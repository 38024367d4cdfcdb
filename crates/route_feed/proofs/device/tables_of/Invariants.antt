use Rattle.std.proofs.Common.{◌≡◌, ◌++◌, ◌==◌, drop, filter, map}
use Rattle.feed_model.specs.Feed.{tables_of}
use Rattle.route_feed.proofs.device.tables_of.Given as goal

-- the numbers so far, and those of the tables that are left, are the device's
abbrev pub invariant-loop-table : goal.invariant-loop-table
invariant-loop-table l =
    l.numbers ++ map (λ table. table.number) (filter (λ table. table.device.0 == l.device.0) (drop l.table-index l.table-items))
    ≡ tables_of l.topology l.device
