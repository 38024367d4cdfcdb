-- What is printed of a query: its words, and its answer or its first unknown name.
use Rattle.std.specs.Prelude.{ℕ, Bool, List, [], ◌∷◌, ◌++◌, ◌-◌, Option, None, Some, option_and_then, map, codes, decimal, slice_get, unwrap_or}
use Rattle.std.specs.List.{flat_map}
use Rattle.dn_model.specs.Lookup.{link_of}
use Rattle.dn_model.specs.Query.{Question, names_of, text_of_name}
use Rattle.dn_model.specs.declared.answer.Answer.{Answer}
use Rattle.dn_model.specs.declared.answer.Answer.TheVariants as answer
use Rattle.base.specs.declared.cycle.Cycle.{Cycle}
use Rattle.base.specs.declared.hole.Hole.{Hole}
use Rattle.base.specs.declared.path_end.PathEnd.{PathEnd}
use Rattle.base.specs.declared.path_end.PathEnd.TheVariants.{At, Loop}
use Rattle.base.specs.declared.change.Change.{Change}
use Rattle.base.specs.declared.ids.RouterId.{RouterId}
use Rattle.dn_model.specs.declared.query.Ask.{Ask}
use Rattle.dn_model.specs.declared.query.Ask.TheVariants.{Uses}
use Rattle.dn_model.specs.declared.query.Unknown.{Unknown}
use Rattle.dn_model.specs.declared.query.Unknown.TheVariants.{Router, Link}
use Rattle.base.specs.declared.run.Run.{Run}
use Rattle.dn_model.specs.declared.topology.TopoLink.{TopoLink}
use Rattle.dn_model.specs.declared.topology.Topology.{Topology}
use Rattle.dn_formats.specs.QueryWords.{query_text}
use Rattle.dn_formats.specs.Texts.{address_text, line, link_state_text, run_text, name_of_router, target_text}
use Rattle.dn_formats.specs.declared.told.Outcome.{Outcome}
use Rattle.dn_formats.specs.declared.told.Outcome.TheVariants as outcome
use Rattle.dn_formats.specs.declared.told.LinkOutcome.{LinkOutcome}
use Rattle.dn_formats.specs.declared.told.LinkOutcome.TheVariants.{At as AtEntry, Full, UnknownLink}
use Rattle.dn_formats.specs.declared.told.Told.{Told}
use Rattle.dn_formats.specs.declared.told.Told.TheVariants.{Asked, Linked}

-- ---- a query

-- the texts of a query's names, from left to right
abbrev pub name_texts : Question → List (List ℕ)
name_texts q = map text_of_name (names_of q)

-- the text of the name at a place, from 1
abbrev pub name_at : Question → ℕ → List ℕ
name_at q place = unwrap_or (slice_get (name_texts q) (place - 1)) []

abbrev pub unknown_line : Question → Unknown → List ℕ
unknown_line q (Router place) = line (codes "unknown router " ++ name_at q place)
unknown_line q (Link place) = line (codes "unknown link " ++ name_at q place)

-- ---- an answer

-- the lines of each, or the line `none` where there are none
abbrev pub lines_or_none : {A : Type 0} → (A → List ℕ) → List A → List ℕ
lines_or_none lines [] = line (codes "none")
lines_or_none lines (x ∷ xs) = flat_map lines (x ∷ xs)

abbrev pub run_line : Run → List ℕ
run_line run = line (run_text run)

abbrev pub hop_text : Topology → RouterId → List ℕ
hop_text t r = codes " " ++ name_of_router t r

abbrev pub path_end_text : Topology → PathEnd → List ℕ
path_end_text t (At target) = target_text t target
path_end_text t Loop = codes "loop"

-- the routers of a walk, and how it ends
abbrev pub path_lines : Topology → List RouterId → PathEnd → List ℕ
path_lines t hops end =
    line (codes "hops" ++ flat_map (hop_text t) hops) ++ line (codes "end " ++ path_end_text t end)

-- the addresses that a router at an end of a link sends over it
abbrev pub end_lines : Topology → RouterId → List Run → List ℕ
end_lines t r runs = line (codes "from " ++ name_of_router t r) ++ lines_or_none run_line runs

-- the same of both ends, the first one first; a link that isn't there has none
abbrev pub uses_lines : Topology → Option TopoLink → List Run → List Run → List ℕ
uses_lines t None first second = []
uses_lines t (Some link) first second = end_lines t link.first.router first ++ end_lines t link.second.router second

-- the link that a query asks about
abbrev pub link_asked : Topology → Ask → Option TopoLink
link_asked t (Uses n) = option_and_then (λ l. slice_get t.links l.0) (link_of t n)
link_asked t ask = None

-- a cycle: its routers, its least address, and how many addresses go round
abbrev pub cycle_line : Topology → Cycle → List ℕ
cycle_line t c =
    line (codes "cycle" ++ flat_map (hop_text t) c.routers ++ codes " least " ++ address_text c.least
    ++ codes " addresses " ++ decimal c.addresses)

-- a black hole: its router, the cause, and the addresses that end there
abbrev pub hole_lines : Topology → Hole → List ℕ
hole_lines t h =
    line (codes "at " ++ name_of_router t h.router ++ codes " " ++ target_text t h.cause) ++ flat_map run_line h.runs

-- a router, its run of addresses, and what it does with them before and after
abbrev pub change_line : Topology → Change → List ℕ
change_line t c =
    line (name_of_router t c.router ++ codes " " ++ run_text c.run ++ codes " " ++ target_text t c.before
    ++ codes " -> " ++ target_text t c.after)

-- the answer to what was asked
abbrev pub answer_lines : Topology → Ask → Answer → List ℕ
answer_lines t ask (answer.Path hops end) = path_lines t hops end
answer_lines t ask (answer.Runs runs) = lines_or_none run_line runs
answer_lines t ask (answer.Uses first second) = uses_lines t (link_asked t ask) first second
answer_lines t ask (answer.Loops cycles) = lines_or_none (cycle_line t) cycles
answer_lines t ask (answer.Holes holes) = lines_or_none (hole_lines t) holes
answer_lines t ask (answer.Delta changes) = lines_or_none (change_line t) changes

-- ---- what is told

-- a query's line with its pin and its answer, or without a pin and with its first unknown name
abbrev pub outcome_lines : Topology → ℕ → Question → Outcome → List ℕ
outcome_lines t l q (outcome.Answered n answer) =
    line (codes "line " ++ decimal l ++ codes " at " ++ decimal n ++ codes " " ++ query_text q)
    ++ answer_lines t q.ask answer
outcome_lines t l q (outcome.Unknown unknown) =
    line (codes "line " ++ decimal l ++ codes " " ++ query_text q) ++ unknown_line q unknown

-- a link line's line, with the position of its entry or why it has none; below it the link's name where it is unknown
abbrev pub link_outcome_lines : ℕ → List ℕ → Bool → LinkOutcome → List ℕ
link_outcome_lines l name down (AtEntry p) =
    line (codes "line " ++ decimal l ++ codes " at " ++ decimal p ++ codes " " ++ link_state_text down ++ name)
link_outcome_lines l name down Full =
    line (codes "line " ++ decimal l ++ codes " full " ++ link_state_text down ++ name)
link_outcome_lines l name down UnknownLink =
    line (codes "line " ++ decimal l ++ codes " " ++ link_state_text down ++ name) ++ line (codes "unknown link " ++ name)

abbrev pub told_lines : Topology → Told → List ℕ
told_lines t (Asked l query outcome) = outcome_lines t l query outcome
told_lines t (Linked l name down outcome) = link_outcome_lines l name down outcome
