-- How a run of the program ends by its command.
use Rattle.std.proofs.Common.{◌≡◌, ℕ, Result, Ok, Err, IfOk, List, [], Option, None, Some, MatchOption, refl, ap, sym, subst}
use Rattle.dn_io.specs.Calls.{Call}
use Rattle.dn_io.specs.Files.{Files}
use Rattle.dn_formats.specs.declared.error_line.ErrorLine.TheVariants as errors
use Rattle.base.specs.declared.memory.OutOfMemory.{OutOfMemory}
use Rattle.dn_run.specs.CommandLine.{CommandWords, Make, Run, RunWords, command_of}
use Rattle.dn_run.specs.Ending.{Ending, ending_of}
use Rattle.dn_run.specs.Made.{IsMade}
use Rattle.dn_run.specs.Run.{FromCommand, FromMade, IsErrorLine, IsLine, names_of_command, names_of_run, names_of_words}
use Rattle.dn_run.specs.Stage.{Stage, WereAsked, is_fault}
use Rattle.dn_run.specs.Stops.{from_run, from_words}
use Rattle.dn_run.specs.declared.ruling.Ruling.{Ruling}
use Rattle.dn_run.specs.declared.status.Verdict.TheVariants.{BadWords, Done}
use Rattle.dn_run.proofs.ProgramLemmas.{stage-none, stage-stops}

-- what is due of a command, if there is one
abbrev from_command : Option Files → Ending → Option CommandWords → List Call → Type 0
from_command files ending said calls =
    MatchOption said (IsErrorLine ending calls BadWords errors.Words) (λ command. FromCommand command files calls ending)

abbrev IsStageOf : Option Files → List Call → Ending → Option CommandWords → Type 0
IsStageOf files new ending said = Stage [] new (names_of_command said) ending (from_command files ending said)

pub stage-run : (words : List (List ℕ)) (files : Option Files) (command : RunWords) (ending : Ending) (new : List Call) → command_of words ≡ Some (Run command) →
    Stage [] new (names_of_run command) ending (from_run command files ending) → Stage [] new (names_of_words words) ending (from_words words files ending)
stage-run words files command ending new is stage = subst (λ said. IsStageOf files new ending said) (sym is) stage

made-stage : (n : ℕ) (result : Result Ruling OutOfMemory) → IfOk result (λ r. (r.verdict ≡ Done) × IsMade n r.text) →
    Stage [] [] [] (ending_of result) (λ calls. FromMade n calls (ending_of result))
made-stage n (Err e) is = stage-stops _ [] []
made-stage n (Ok r) is = record {
  more = [];
  appended = refl;
  asked = subst (λ v. WereAsked v [] []) (sym is.0) refl;
  given_back = refl;
  failed = ap is_fault (sym is.0);
  due_is = (refl, is);
}

pub stage-made : (words : List (List ℕ)) (files : Option Files) (n : ℕ) (result : Result Ruling OutOfMemory) → command_of words ≡ Some (Make n) →
    IfOk result (λ r. (r.verdict ≡ Done) × IsMade n r.text) → Stage [] [] (names_of_words words) (ending_of result) (from_words words files (ending_of result))
stage-made words files n result is made = subst (λ said. IsStageOf files [] (ending_of result) said) (sym is) (made-stage n result made)

pub stage-refused : (words : List (List ℕ)) (files : Option Files) (ending : Ending) → command_of words ≡ None → IsLine ending BadWords errors.Words →
    Stage [] [] (names_of_words words) ending (from_words words files ending)
stage-refused words files ending none line =
    stage-none ending BadWords errors.Words (from_words words files ending) [] (names_of_words words) refl refl line
    (subst (λ said. from_command files ending said []) (sym none) (refl, line))
