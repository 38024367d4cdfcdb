-- What the words of a command line mean. The command is one of clap, whose own definitions say which words it takes,
-- and which of them is whose value; a word that asks for help is none that it takes.
use Rattle.std.specs.Prelude.{ℕ, true, codes, List, [], ◌∷◌, Option, None, Some, option_map, option_and_then, unwrap_or}
use Rattle.std.specs.Prelude.{if◌then◌else◌}
use Rattle.std.specs.Str.{bytes_eq}
use Rattle.clap.specs.Walk.{Row, Rule, Text, first_of, all_of}
use Rattle.clap.specs.Simple.{App, new_app, new_rule, on_top, with_rule, with_subcommand, subcommand_of}
use Rattle.clap.specs.Kinds.{Kinds}
use Rattle.clap.specs.Faults.{fault_of}
use Rattle.clap.specs.declared.builder.action.ArgAction.TheVariants.{Set, Append}
use Rattle.dn_formats.specs.Decimal.{number_within}
use Rattle.dn_run.specs.Limits.{most_updates}

-- ---- the command: `run TOPOLOGY [PART]..`

-- one word, which has to be there
abbrev pub topology_rule : Rule
topology_rule = record (new_rule (codes "topology")) { required = true; action = Some Set }

-- as many words as there are
abbrev pub part_rule : Rule
part_rule = record (new_rule (codes "part")) { action = Some Append }

abbrev pub run_command : App
run_command = with_rule (with_rule (new_app (codes "run")) topology_rule) part_rule

-- ---- the command: `make N`

-- one word, which has to be there
abbrev pub number_rule : Rule
number_rule = record (new_rule (codes "n")) { required = true; action = Some Set }

abbrev pub make_command : App
make_command = with_rule (new_app (codes "make")) number_rule

-- ---- the two commands of the program

unfoldable pub command_line : App
command_line =
    with_subcommand (with_subcommand
    (on_top (λ top. record top { subcommand_required = true }) (new_app (codes "deltanet")))
    run_command.top) make_command.top

-- ---- what words mean

-- a run: its topology's file, and the parts after it
pub record RunWords : Type 0 where
  pub topology : List ℕ
  pub parts : List (List ℕ)

-- a command: a run, or how many updates are made
pub data CommandWords : Type 0 where
  Run : (words : RunWords) → CommandWords
  Make : (n : ℕ) → CommandWords

-- the run that the values of `run` say
abbrev pub run_of_rows : List Row → Option RunWords
run_of_rows rows =
    option_map (λ topology. record { topology = topology; parts = unwrap_or (all_of (codes "part") rows) [] })
    (first_of (codes "topology") rows)

-- the number of updates that the values of `make` say: 1 to 1,000,000 in digits, without sign or leading zero
abbrev pub number_of_rows : List Row → Option ℕ
number_of_rows rows = option_and_then (number_within 1 most_updates) (first_of (codes "n") rows)

-- what a subcommand means, by its name and its values
abbrev pub meaning_of : Text × List Row → Option CommandWords
meaning_of entered =
    if bytes_eq entered.0 (codes "run") then option_map Run (run_of_rows entered.1)
    else if bytes_eq entered.0 (codes "make") then option_map Make (number_of_rows entered.1)
    else None

-- what is said, where no fault stands against it
abbrev pub unless_refused : {A : Type 0} → Kinds → Option A → Option A
unless_refused [] said = said
unless_refused (fault ∷ more) said = None

-- what a whole command line means, the program's name first, if it means something
abbrev pub command_of : List (List ℕ) → Option CommandWords
command_of words =
    unless_refused (fault_of command_line words) (option_and_then meaning_of (subcommand_of command_line words))
