-- What the words that were read say, and when words are refused.
use Rattle.std.specs.Prelude.{ℕ, ◌≡◌, ◌≤◌, Option, None, map}
use Rattle.std.specs.String.{string_bytes}
use Rattle.dn_run.specs.CommandLine.{CommandWords, Run, Make, RunWords}
use Rattle.dn_run.specs.Limits.{most_updates}
use Rattle.dn_run.specs.declared.words.Command.{Command}
use Rattle.dn_run.specs.declared.words.Command.TheVariants as commands
use Rattle.dn_run.specs.declared.words.RunCommand.{RunCommand}
use Rattle.dn_run.specs.declared.words.WordsRefused.{WordsRefused}
use Rattle.dn_run.specs.declared.words.WordsRefused.TheVariants as refused

-- the texts of a run
abbrev pub run_texts : RunCommand → RunWords
run_texts c = record { topology = string_bytes c.topology; parts = map string_bytes c.parts.items }

-- what a command says
abbrev pub command_words : Command → CommandWords
command_words (commands.Run c) = Run (run_texts c)
command_words (commands.Make n) = Make n

-- an input of so many updates can be made
abbrev pub CanBeMade : ℕ → Type 0
CanBeMade n = (1 ≤ n) × (n ≤ most_updates)

-- no update too many or too few is made
abbrev pub IsWithin : Command → Type 0
IsWithin (commands.Run c) = Unit {0}
IsWithin (commands.Make n) = CanBeMade n

-- bad words mean nothing; want of memory says nothing of them
abbrev pub AreRefused : {A : Type 0} → WordsRefused → Option A → Type 0
AreRefused refused.BadWords meaning = meaning ≡ None
AreRefused refused.OutOfMemory meaning = Unit {0}
