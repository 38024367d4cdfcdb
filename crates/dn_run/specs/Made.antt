-- What `make N` comes to: a run over the generated input of N updates, whose one script takes every feed and then asks
-- for the loops.
use Rattle.std.specs.Prelude.{ℕ, ◌+◌, ◌%◌, ◌≡◌, codes, decimal, List, [], ◌∷◌, ◌++◌, length, map, sum, None, false}
use Rattle.std.specs.List.{AllZip, range_with_len}
use Rattle.feed_model.specs.Feed.{IsReading}
use Rattle.dn_formats.specs.Lawful.{IsLawful, Job}
use Rattle.feed_model.specs.Steps.{FeedRead}
use Rattle.dn_model.specs.Topology.{Parts}
use Rattle.dn_model.specs.Tables.{parts}
use Rattle.dn_formats.specs.declared.script.Line.{Line}
use Rattle.dn_formats.specs.declared.script.Line.TheVariants.{Take, Ask}
use Rattle.dn_formats.specs.declared.told.JobTold.{JobTold}
use Rattle.dn_formats.specs.declared.told.Outcome.TheVariants.{Answered}
use Rattle.dn_formats.specs.declared.told.Told.TheVariants.{Asked}
use Rattle.dn_model.specs.Query.{Question}
use Rattle.dn_model.specs.declared.answer.Answer.TheVariants as answers
use Rattle.base.specs.declared.cycle.Cycle.{Cycle}
use Rattle.dn_model.specs.declared.entry.Entry.{Entry}
use Rattle.base.specs.declared.ids.RouterId.{RouterId}
use Rattle.dn_model.specs.declared.query.Ask.TheVariants as asks
use Rattle.dn_model.specs.declared.topology.Replace.TheVariants.{Key}
use Rattle.dn_model.specs.declared.topology.RouterTable.{RouterTable}
use Rattle.dn_model.specs.declared.topology.TopoEnd.{TopoEnd}
use Rattle.dn_model.specs.declared.topology.TopoLink.{TopoLink}
use Rattle.dn_model.specs.declared.topology.Topology.{Topology}
use Rattle.made_input.specs.Network.{made_routers}
use Rattle.made_input.specs.Updates.{made_feed}
use Rattle.dn_run.specs.Limits.{feed_limit, history_limit}

-- ---- the generated network and script, which the texts of the generated input say (a test compares them)

-- the routers by their numbers, from 0
abbrev pub router_numbers : List ℕ
router_numbers = range_with_len 0 made_routers

-- a letter and a number: the router m0, the link l0
abbrev pub numbered : List ℕ → ℕ → List ℕ
numbered letter i = letter ++ decimal i

abbrev pub made_router : ℕ → RouterId
made_router i = record { 0 = i }

-- an interface of a router
abbrev pub made_end : ℕ → ℕ → TopoEnd
made_end index i = record { router = made_router i; index = index }

-- a link joins each router, by its interface 2, with the next one, by its interface 3
abbrev pub made_link : ℕ → TopoLink
made_link i = record {
  name = numbered (codes "l") i;
  first = made_end 2 i;
  second = made_end 3 ((i + 1) % made_routers);
  unnumbered = false;
}

-- each router is a device, with its main table
abbrev pub made_table : ℕ → RouterTable
made_table i = record { device = made_router i; number = 254; replace = Key }

-- the ring, with an edge at the interface 1 of each router
abbrev pub made_network : Parts
made_network = record {
  routers = map (numbered (codes "m")) router_numbers;
  tables = map made_table router_numbers;
  links = map made_link router_numbers;
  edges = map (made_end 1) router_numbers;
}

-- the cycles, with no link down
abbrev pub loops_question : Question
loops_question = record { without = []; ask = asks.Loops }

-- the line that takes a router's feed to its end
abbrev pub made_take : ℕ → Line
made_take i = Take (i + 1) (made_router i) None

-- the script takes every feed, in order, and then asks for the loops
abbrev pub made_lines : List Line
made_lines = map made_take router_numbers ++ Ask (made_routers + 1) loops_question ∷ []

-- ---- what the run over the input comes to

-- what reading the generated feed of a router comes to
pub record IsMadeFeed (t : Topology) (n i : ℕ) (f : FeedRead) : Type 0 where
  pub feed_no : f.feed_no ≡ i + 1
  pub router_is : f.router ≡ made_router i
  pub reading : IsReading t f.router (made_feed i n) feed_limit f.steps f.end

-- the one job: the script over all feeds
abbrev pub made_job : List FeedRead → Job
made_job feeds = record { number = 1; lines = made_lines; feeds = feeds; kept_links = 0 }

-- what the job tells: its one query is answered with these cycles, over so many first entries of the history
abbrev pub told_cycles : ℕ → List Cycle → JobTold
told_cycles pin cycles = record {
  number = 1;
  told = Asked (made_routers + 1) loops_question (Answered pin (answers.Loops cycles)) ∷ [];
}

-- three lines: how many updates there are, how many cycles, and how many addresses go round them
abbrev pub summary_text : ℕ → List Cycle → List ℕ
summary_text n cycles =
    codes "updates " ++ (decimal n ++ (codes "\ncycles " ++ (decimal (length cycles)
    ++ (codes "\naddresses " ++ (decimal (sum (map (λ c. c.addresses) cycles)) ++ codes "\n")))))

-- A run over the generated input of n updates, whose jobs tell this: the feeds are read whole, and the history is the
-- one that the script makes of them.
pub record IsMadeRun (n : ℕ) (told : List JobTold) : Type 0 where
  pub t : Topology
  pub feeds : List FeedRead
  pub history : List Entry
  pub network : parts t ≡ made_network
  pub read : AllZip (IsMadeFeed t n) router_numbers feeds
  pub lawful : IsLawful t history_limit feeds (made_job feeds ∷ []) history told

-- one job told cycles
abbrev pub TellsCycles : List JobTold → Type 0
TellsCycles told = (pin : ℕ) × (cycles : List Cycle) × (told ≡ told_cycles pin cycles ∷ [])

-- the summary of the cycles that the run over the generated input of n updates tells
abbrev pub IsMade : ℕ → List ℕ → Type 0
IsMade n text =
    (pin : ℕ) × (cycles : List Cycle) × IsMadeRun n (told_cycles pin cycles ∷ []) × (text ≡ summary_text n cycles)
