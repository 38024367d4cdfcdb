-- What was written is what is due.
use Rattle.std.proofs.Common.{◌≡◌, ℕ, ◌++◌, false, List, [], Option, Result, Ok, ap, sym, ◌∙◌, subst}
use Rattle.base.specs.declared.memory.OutOfMemory.{OutOfMemory}
use Rattle.dn_io.specs.Calls.{Call, names_of, some_failed, some_out}
use Rattle.dn_io.specs.Files.{Files}
use Rattle.dn_run.specs.Ending.{Ending, Ruled, IfRuled, OrStops, ending_of}
use Rattle.dn_run.specs.Exit.{Exit, ByVerdict, ByWriteFault, ByMemory}
use Rattle.dn_run.specs.Run.{FromWords, IsDue, IsFinished, IsWritten}
use Rattle.dn_run.specs.Stage.{AnswersCalls, AreAsked, AsksFor, is_fault}
use Rattle.dn_run.specs.declared.ruling.Ruling.{Ruling}
use Rattle.dn_run.specs.declared.status.Verdict.{Verdict}
use Rattle.dn_run.proofs.AskedLemmas.{asks-for}

written : (due : Ending → Type 0) (v : Verdict) (text : List ℕ) (exit : Exit) (old new : Option (List ℕ)) → due (Ruled v text) → IsFinished v text exit old new → IsWritten due exit old new
written due v text (ByVerdict due_verdict) old new is done = (text, subst (λ (w : Verdict). due (Ruled w text)) done.0 is, done.1)
written due v text ByWriteFault old new is done = (v, done.0, done.1, subst (λ (t : List ℕ). due (Ruled v t)) done.2 is, done.3)
written due v text ByMemory old new is done = absurd done

-- what the verdict says of the calls, the program's end says
pub answers-calls : (v : Verdict) (text : List ℕ) (exit : Exit) (old new : Option (List ℕ)) (calls : List Call) → IsFinished v text exit old new →
    some_out calls ≡ false → some_failed calls ≡ is_fault v → AnswersCalls exit calls
answers-calls v text (ByVerdict due_verdict) old new calls done out failed = (out, failed ∙ ap is_fault done.0)
answers-calls v text ByWriteFault old new calls done out failed = out
answers-calls v text ByMemory old new calls done out failed = absurd done

-- of a run that came to a ruling
pub headline : (words : List (List ℕ)) (files : Option Files) (calls more : List Call) (result : Result Ruling OutOfMemory) (ruling : Ruling) (exit : Exit) (old new : Option (List ℕ)) →
    result ≡ Ok ruling → calls ≡ [] ++ more → OrStops (ending_of result) more (FromWords words files more (ending_of result)) →
    IsFinished ruling.verdict ruling.text exit old new → IsWritten (IsDue words files calls) exit old new
headline words files calls more result ruling exit old new ruled appended due done =
    let here : FromWords words files more (Ruled ruling.verdict ruling.text) =
    subst (λ (r : Result Ruling OutOfMemory). OrStops (ending_of r) more (FromWords words files more (ending_of r))) ruled due in
    written (IsDue words files calls) ruling.verdict ruling.text exit old new
    (subst (λ (cs : List Call). FromWords words files cs (Ruled ruling.verdict ruling.text)) (sym appended) here) done

pub asks : (calls more : List Call) (names : List (List ℕ)) (result : Result Ruling OutOfMemory) (ruling : Ruling) (exit : Exit) (old new : Option (List ℕ)) →
    result ≡ Ok ruling → calls ≡ [] ++ more → AreAsked (ending_of result) (names_of more) names → IsFinished ruling.verdict ruling.text exit old new → AsksFor exit (names_of calls) names
asks calls more names result ruling exit old new ruled appended asked done =
    subst (λ (cs : List Call). AsksFor exit (names_of cs) names) (sym appended)
    (asks-for ruling.verdict ruling.text exit old new (names_of more) names done
    (subst (λ (r : Result Ruling OutOfMemory). AreAsked (ending_of r) (names_of more) names) ruled asked))

pub answers : (calls more : List Call) (result : Result Ruling OutOfMemory) (ruling : Ruling) (exit : Exit) (old new : Option (List ℕ)) →
    result ≡ Ok ruling → calls ≡ [] ++ more → some_out more ≡ false → IfRuled (ending_of result) (λ verdict text. some_failed more ≡ is_fault verdict) →
    IsFinished ruling.verdict ruling.text exit old new → AnswersCalls exit calls
answers calls more result ruling exit old new ruled appended out failed done =
    subst (λ (cs : List Call). AnswersCalls exit cs) (sym appended)
    (answers-calls ruling.verdict ruling.text exit old new more done out
    (subst (λ (r : Result Ruling OutOfMemory). IfRuled (ending_of r) (λ verdict text. some_failed more ≡ is_fault verdict)) ruled failed))
