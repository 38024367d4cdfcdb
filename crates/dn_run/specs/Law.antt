-- When what the jobs of a run made and told is lawful.
use Rattle.std.specs.Prelude.{ℕ, suc, List, [], ◌∷◌, length}
use Rattle.dn_formats.specs.Lawful.{IsLawful, ScriptRun, jobs_of, link_entries}
use Rattle.dn_formats.specs.declared.script.Line.{Line}
use Rattle.dn_formats.specs.declared.told.JobTold.{JobTold}
use Rattle.dn_model.specs.declared.entry.Entry.{Entry}
use Rattle.dn_model.specs.declared.topology.Topology.{Topology}
use Rattle.feed_model.specs.Steps.{FeedRead}
use Rattle.dn_run.specs.Limits.{history_limit}

-- scripts, the first with this number, of all of whose link lines the history took the entry
abbrev pub whole_scripts : Topology → ℕ → List (List Line) → List ScriptRun
whole_scripts t number [] = []
whole_scripts t number (lines ∷ scripts) =
    record { lines = lines; kept_links = length (link_entries t number lines) } ∷ whole_scripts t (suc number) scripts

-- What these feeds and the scripts of these lines made and told is lawful: the history took every link line's entry.
abbrev pub IsLawfulRun : Topology → List FeedRead → List (List Line) → List Entry → List JobTold → Type 0
IsLawfulRun t feeds scripts history told =
    IsLawful t history_limit feeds (jobs_of (whole_scripts t 1 scripts) feeds) history told
