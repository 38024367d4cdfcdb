-- The readers of the generated feeds, before any was read.
use Rattle.std.specs.Prelude.{ℕ, ◌+◌, List, [], map}
use Rattle.dn_io.specs.Memory.{SureSourceView}
use Rattle.made_input.specs.Updates.{made_feed}
use Rattle.route_feed.specs.FeedReader.{Reader, told_so_far}
use Rattle.dn_run.specs.Limits.{feed_limit}
use Rattle.dn_run.specs.Made.{made_router, router_numbers}

-- the reader of these bytes, the feed of a router
abbrev pub reader_of : ℕ → List ℕ → Reader SureSourceView
reader_of i bytes = record {
  source = record { left = bytes; place = 0 };
  limit = feed_limit;
  passed = 0;
  held = [];
  told = told_so_far (i + 1) (made_router i) [];
  tables = [];
}

-- that of a router's generated feed
abbrev pub made_reader : ℕ → ℕ → Reader SureSourceView
made_reader n i = reader_of i (made_feed i n)

abbrev pub made_readers : ℕ → List (Reader SureSourceView)
made_readers n = map (made_reader n) router_numbers
