-- What the report of a run over files tells.
use Rattle.std.specs.Prelude.{ℕ, suc, List, [], ◌∷◌, ◌≡◌, map, IsSomeAnd}
use Rattle.dn_io.specs.Files.{Files, bytes_of}
use Rattle.feed_model.specs.Feed.{IsReading}
use Rattle.dn_formats.specs.Report.{report}
use Rattle.feed_model.specs.Steps.{FeedRead, told_of}
use Rattle.dn_formats.specs.declared.told.JobTold.{JobTold}
use Rattle.base.specs.declared.ids.RouterId.{RouterId}
use Rattle.dn_model.specs.Tables.{parts}
use Rattle.dn_model.specs.declared.entry.Entry.{Entry}
use Rattle.dn_model.specs.declared.topology.Topology.{Topology}
use Rattle.dn_run.specs.CommandLine.{RunWords}
use Rattle.dn_run.specs.Law.{IsLawfulRun}
use Rattle.dn_run.specs.Limits.{feed_limit}
use Rattle.dn_run.specs.Run.{Fails, FeedParts, Knows, Reads, RunInput, Runs, Steps, steps_of}

-- there is a file of this name, and this is said of its bytes
abbrev pub OfFile : Files → List ℕ → (List ℕ → Type 0) → Type 0
OfFile files name says = IsSomeAnd (bytes_of files name) says

-- the input that steps come to where all these files are read
abbrev pub Gives : Files → Steps → RunInput → Type 0
Gives files (Fails verdict error) input = ⊥
Gives files (Reads name fault next) input = OfFile files name (λ bytes. Gives files (next bytes) input)
Gives files (Knows network next) input = (t : Topology) × (parts t ≡ network) × Gives files (next t) input
Gives files (Runs own) input = input ≡ own

-- these feeds, of which the first has this number, are of these routers, and are what reading their files comes to
abbrev pub AreFeedsOf : Files → Topology → ℕ → List RouterId → FeedParts → List FeedRead → Type 0
AreFeedsOf files t n [] [] [] = Unit {0}
AreFeedsOf files t n (r ∷ routers) (feed ∷ feeds) (f ∷ fs) =
    (f.feed_no ≡ n) × (f.router ≡ r)
    × OfFile files feed.1.file (λ bytes. IsReading t f.router bytes feed_limit f.steps f.end)
    × AreFeedsOf files t (suc n) routers feeds fs
AreFeedsOf files t n _ _ _ = ⊥

-- The report of a run over files, whose steps come to an input: each feed is what its file's bytes come to; one history
-- and what is told of the jobs are lawful over these feeds; and the text is the report of these.
pub record IsReportOf (files : Files) (command : RunWords) (text : List ℕ) : Type 0 where
  pub input : RunInput
  pub input_is : Gives files (steps_of command) input
  pub feeds : List FeedRead
  pub feeds_are : AreFeedsOf files input.t 1 input.routers input.feeds feeds
  pub history : List Entry
  pub told : List JobTold
  pub lawful : IsLawfulRun input.t feeds input.scripts history told
  pub text_is : text ≡ report input.t (map told_of feeds) history told
