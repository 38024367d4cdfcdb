-- What a stage of a run leaves in the world's calls, and what it came to.
use Rattle.std.specs.Prelude.{ℕ, Bool, true, false, List, ◌++◌, ◌≡◌}
use Rattle.dn_io.specs.Faults.{Rose}
use Rattle.dn_io.specs.Calls.{Call, names_of, some_out, some_failed}
use Rattle.dn_run.specs.Ending.{Ending, Ruled, Stopped, IfRuled, OrStops}
use Rattle.dn_run.specs.Exit.{Exit, ByVerdict, ByWriteFault}
use Rattle.dn_run.specs.declared.status.Verdict.{Verdict}
use Rattle.dn_run.specs.declared.status.Verdict.TheVariants.{Done, Refusals, ReadFault}

-- these names are the first of those
abbrev pub IsFrontOf : List (List ℕ) → List (List ℕ) → Type 0
IsFrontOf names all = (rest : List (List ℕ)) × (all ≡ names ++ rest)

-- Which of some names were asked for: all of them where the jobs ran to their ends without a fault; the first of them
-- where a word, a text or a file ended the run.
abbrev pub WereAsked : Verdict → List (List ℕ) → List (List ℕ) → Type 0
WereAsked Done asked names = asked ≡ names
WereAsked Refusals asked names = asked ≡ names
WereAsked _ asked names = IsFrontOf asked names

-- whether a verdict may end a run before its jobs
abbrev pub may_end_early : Verdict → Bool
may_end_early Done = false
may_end_early Refusals = false
may_end_early _ = true

abbrev pub is_fault : Verdict → Bool
is_fault ReadFault = true
is_fault _ = false

abbrev pub AreAsked : Ending → List (List ℕ) → List (List ℕ) → Type 0
AreAsked (Ruled verdict text) asked names = WereAsked verdict asked names
AreAsked Stopped asked names = IsFrontOf asked names

-- Further names were asked for, all or the first of these, in order. Every source was given back, and one failed
-- exactly where the verdict is a read fault. What the run came to is due by what became of the calls.
pub record Stage (old new : List Call) (names : List (List ℕ)) (ending : Ending)
    (due : List Call → Type 0) : Type 0 where
  pub more : List Call
  pub appended : new ≡ old ++ more
  pub asked : AreAsked ending (names_of more) names
  pub given_back : some_out more ≡ false
  pub failed : IfRuled ending (λ verdict text. some_failed more ≡ is_fault verdict)
  pub due_is : OrStops ending more (due more)

-- Which names the program's end says were asked for: those that the verdict says, and else the first of them.
abbrev pub AsksFor : Exit → List (List ℕ) → List (List ℕ) → Type 0
AsksFor (ByVerdict verdict) asked names = WereAsked verdict asked names
AsksFor _ asked names = IsFrontOf asked names

-- What the program's end says of the calls: every source was given back, and one failed exactly where the verdict is a
-- read fault. At a fault of the sink, and out of memory, one may have failed.
abbrev pub AnswersCalls : Exit → List Call → Type 0
AnswersCalls (ByVerdict verdict) calls = (some_out calls ≡ false) × (some_failed calls ≡ is_fault verdict)
AnswersCalls _ calls = some_out calls ≡ false

-- the sink's count of faults: it rose at a fault of the sink, and else is as before
abbrev pub CountsWrites : Exit → ℕ → ℕ → Type 0
CountsWrites ByWriteFault old new = Rose old new
CountsWrites _ old new = new ≡ old
