-- The generated updates, which are dealt out to the routers' feeds in turn.
use Rattle.std.specs.Prelude.{ℕ, zero, suc, ◌+◌, ◌-◌, ◌*◌, ◌/◌, ◌%◌, ◌^◌, ◌==◌, ◌++◌, ◌∷◌, Bool, false, not, if◌then◌else◌, List, [], Some, None}
use Rattle.base.specs.Cidr.{Cidr}
use Rattle.feed_model.specs.Frames.{frame_text}
use Rattle.feed_model.specs.Message.{message_text}
use Rattle.feed_model.specs.Payload.{main_table}
use Rattle.feed_model.specs.declared.raw_route.RouteKind.TheVariants.{Unicast, Local}
use Rattle.feed_model.specs.declared.raw_route.RawRoute.{RawRoute}
use Rattle.made_input.specs.Network.{made_routers}

-- the prefix of an update, by its number: 8 to 24 bits
abbrev pub made_len : ℕ → ℕ
made_len j = 8 + j % 17

-- where addresses are scattered: multiples of a number near 2^32 over the golden ratio (Knuth, multiplicative hashing)
abbrev pub scattered : ℕ → ℕ
scattered j = j * 2654435761 % 2 ^ 32

-- the first address of the block that has an address: the bits past the prefix's length are cleared
abbrev pub aligned : ℕ → ℕ → ℕ
aligned a len = a / 2 ^ (32 - len) * 2 ^ (32 - len)

abbrev pub made_prefix : ℕ → Cidr
made_prefix j = record { base = aligned (scattered j) (made_len j); len = made_len j }

-- one update of five is of a router's own address, the others go on over port 2 by a gateway
abbrev pub route_at : Bool → ℕ → RawRoute
route_at own j = record {
  del = false;
  prefix = made_prefix j;
  table = main_table;
  metric = Some (j % 4);
  kind = if own then Local else Unicast;
  via = not own;
  oif = if own then None else Some 2;
  by = None;
}

abbrev pub made_route : ℕ → RawRoute
made_route j = route_at (j % 5 == 4) j

-- one netlink frame for each update
abbrev pub made_frame : ℕ → List ℕ
made_frame j = frame_text (record { kind = 1; payload = message_text (made_route j) })

-- an update goes to the feed of the router that its number leaves, divided by the number of routers
abbrev pub frame_for : ℕ → ℕ → List ℕ
frame_for router j = if j % made_routers == router then made_frame j else []

-- the feed of a router: its updates among so many first ones, in order
unfoldable pub made_feed : ℕ → ℕ → List ℕ
made_feed router zero = []
made_feed router (suc j) = made_feed router j ++ frame_for router j

-- the feeds of so many routers, in order
unfoldable pub feeds_below : ℕ → ℕ → List (List ℕ)
feeds_below zero n = []
feeds_below (suc router) n = feeds_below router n ++ made_feed router n ∷ []
