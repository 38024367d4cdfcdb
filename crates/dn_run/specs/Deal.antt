-- How the readers of feeds are dealt out to jobs.
use Rattle.std.specs.Prelude.{ℕ, suc, Bool, not, List, [], ◌∷◌, ◌++◌, length, filter}
use Rattle.std.specs.List.{flat_map}
use Rattle.dn_formats.specs.declared.script.Line.{Line}
use Rattle.feed_model.specs.declared.feed_told.FeedTold.{FeedTold}
use Rattle.feed_threads.specs.Jobs.{Task}
use Rattle.route_feed.specs.FeedReader.{Reader}
use Rattle.dn_run.specs.Run.{ScriptLines, takes_router}

-- whether lines take the feed of a reader
abbrev pub takes_reader : {S : Type 0} → List Line → Reader S → Bool
takes_reader lines r = takes_router r.told.router lines

-- the readers whose feeds lines don't take
abbrev pub left_by_lines : {S : Type 0} → List Line → List (Reader S) → List (Reader S)
left_by_lines lines readers = filter (λ r. not (takes_reader lines r)) readers

-- the tasks of scripts, of which the first has this number: each takes its feeds from those that are left
abbrev pub script_tasks : {S : Type 0} → ℕ → ScriptLines → List (Reader S) → List (Task S)
script_tasks number [] readers = []
script_tasks number (lines ∷ scripts) readers =
    record { number = number; lines = lines; feeds = filter (takes_reader lines) readers }
    ∷ script_tasks (suc number) scripts (left_by_lines lines readers)

-- the readers that are left by all of them
abbrev pub left_over : {S : Type 0} → ScriptLines → List (Reader S) → List (Reader S)
left_over [] readers = readers
left_over (lines ∷ scripts) readers = left_over scripts (left_by_lines lines readers)

-- a task for each reader, of which the first has this number
abbrev pub own_tasks : {S : Type 0} → ℕ → List (Reader S) → List (Task S)
own_tasks number [] = []
own_tasks number (r ∷ readers) = record { number = number; lines = []; feeds = r ∷ [] } ∷ own_tasks (suc number) readers

-- the tasks of a run
abbrev pub tasks_of : {S : Type 0} → ScriptLines → List (Reader S) → List (Task S)
tasks_of scripts readers =
    script_tasks 1 scripts readers ++ own_tasks (suc (length scripts)) (left_over scripts readers)

-- the readers of tasks
abbrev pub readers_of : {S : Type 0} → List (Task S) → List (Reader S)
readers_of tasks = flat_map (λ task. task.feeds) tasks

-- what comes back of a feed that was not read
abbrev pub unread_back : {S : Type 0} → Reader S → S × FeedTold
unread_back r = (r.source, r.told)
