-- The words of the command line, as clap takes them.
use Rattle.std.proofs.Common.{◌≡◌, ◌∙◌, Bool, true, false, List, [], ◌∷◌, codes, Option, Some, None, option_map, unwrap_or, refl, sym, ap, subst, inl, inr}
use Rattle.std.specs.Prelude.{option_and_then}
use Rattle.std.specs.Str.{bytes_eq}
use Rattle.std.proofs.lemmas.Option.{same_Some}
use Rattle.std.proofs.lemmas.Slice.Eq.{bytes_eq-Decides}
use Rattle.clap.specs.Kinds.{HasKind, IsAmong, Kinds}
use Rattle.clap.specs.Values.{kind_of}
use Rattle.clap.specs.Faults.{fault_of, is_simple_and_free}
use Rattle.clap.specs.Matches.{first_value, matched_of, raw_values, subcommand_name_of}
use Rattle.clap.specs.Simple.{App, HasMatchesOf, is_simple, subcommand_of, subcommand_rows_of}
use Rattle.clap.specs.Walk.{Row, Text, all_of, rows_of}
use Rattle.clap.specs.declared.error.Error.{Error}
use Rattle.clap.specs.declared.error.kind.ErrorKind.{ErrorKind}
use Rattle.clap.specs.declared.error.kind.ErrorKind.TheVariants as kind
use Rattle.clap.specs.declared.parser.matches.ArgMatches.{ArgMatches}
use Rattle.clap.specs.declared.parser.matches.ArgMatches.TheViews.{out-ArgMatches}
use Rattle.clap.specs.declared.parser.matches.Found.{Found}
use Rattle.clap.proofs.WalkLemmas.{first_value-rows, raw_values-rows}
use Rattle.dn_formats.specs.Decimal.{number_within}
use Rattle.dn_run.specs.CommandLine.{CommandWords, Make, Run, command_line, command_of, meaning_of, number_of_rows, run_of_rows, unless_refused}
use Rattle.dn_run.specs.Limits.{most_updates}

-- ---- the command

pub command_line_simple : is_simple command_line ≡ true
unfolding command_line
command_line_simple = refl

pub command_line_free : is_simple_and_free command_line ≡ true
unfolding command_line
command_line_free = refl

-- ---- the values of `run`

-- the parts are the values that the matches have
pub parts_in : (f : Found) (texts : Option (List Text)) → texts ≡ option_map raw_values (matched_of f (codes "part"))
    → unwrap_or (all_of (codes "part") (rows_of f)) [] ≡ unwrap_or texts []
parts_in f texts is = ap (λ (o : Option (List Text)). unwrap_or o []) (sym (is ∙ raw_values-rows f (codes "part")))

pub run_in : (f : Found) (topology : Option Text) → topology ≡ first_value f (codes "topology")
    → run_of_rows (rows_of f) ≡ option_map (λ text. record { topology = text; parts = unwrap_or (all_of (codes "part") (rows_of f)) [] }) topology
run_in f topology is = ap (option_map (λ (text : Text). record { topology = text; parts = unwrap_or (all_of (codes "part") (rows_of f)) [] })) (sym (is ∙ first_value-rows f (codes "topology")))

-- ---- the value of `make`

pub number_in : (f : Found) (number : Option Text) → number ≡ first_value f (codes "n") → number_of_rows (rows_of f) ≡ option_and_then (number_within 1 most_updates) number
number_in f number is = ap (option_and_then (number_within 1 most_updates)) (sym (is ∙ first_value-rows f (codes "n")))

-- ---- the subcommand

named_run : (name : Text) (rows : List Row) → name ≡ codes "run" → meaning_of (name, rows) ≡ option_map Run (run_of_rows rows)
named_run name rows is = rw ((bytes_eq-Decides name (codes "run")).1 is) refl

named_make : (name : Text) (rows : List Row) → name ≡ codes "make" → meaning_of (name, rows) ≡ option_map Make (number_of_rows rows)
named_make name rows is = rw is refl

named_other : (name : Text) (rows : List Row) → (name ≡ codes "run" → ⊥) → (name ≡ codes "make" → ⊥) → meaning_of (name, rows) ≡ None
named_other name rows run make = go (bytes_eq name (codes "run")) (bytes_eq name (codes "make")) refl refl
  where
    go : (t u : Bool) → bytes_eq name (codes "run") ≡ t → bytes_eq name (codes "make") ≡ u → meaning_of (name, rows) ≡ None
    go true u e f = absurd (run ((bytes_eq-Decides name (codes "run")).0 e))
    go false true e f = absurd (make ((bytes_eq-Decides name (codes "make")).0 f))
    go false false e f = rw (e, f) refl

-- what is said by an entry that has a name and rows
module _ {B : Type 0} (name : B → Text) (rows : B → List Row) where
  abbrev entered : Option B → Option (Text × List Row)
  entered o = option_map (λ b. (name b, rows b)) o

  entry_named : (word : Text) (means : List Row → Option CommandWords) → ((n : Text) (rs : List Row) → n ≡ word → meaning_of (n, rs) ≡ means rs) →
      (o : Option B) (rs : List Row) → option_map name o ≡ Some word → option_map (λ (p : Text × List Row). p.1) (entered o) ≡ Some rs → option_and_then meaning_of (entered o) ≡ means rs
  entry_named word means says None rs named has = absurd (cc)
  entry_named word means says (Some b) rs named has = says (name b) (rows b) (same_Some _ _ named) ∙ ap means (same_Some _ _ has)

  entry_other : (o : Option B) → (option_map name o ≡ Some (codes "run") → ⊥) → (option_map name o ≡ Some (codes "make") → ⊥) → option_and_then meaning_of (entered o) ≡ None
  entry_other None run make = refl
  entry_other (Some b) run make = named_other (name b) (rows b) (λ e. run (ap (λ (t : Text). Some t) e)) (λ e. make (ap (λ (t : Text). Some t) e))

pub met_run : (m : ArgMatches) (rows : List Row) → subcommand_name_of m ≡ Some (codes "run")
    → option_map (λ (p : Text × List Row). p.1) (subcommand_rows_of m) ≡ Some rows
    → option_and_then meaning_of (subcommand_rows_of m) ≡ option_map Run (run_of_rows rows)
met_run m rows named has = entry_named _ _ (codes "run") (λ rs. option_map Run (run_of_rows rs)) named_run (out-ArgMatches m).subcommand rows named has

pub met_make : (m : ArgMatches) (rows : List Row) → subcommand_name_of m ≡ Some (codes "make")
    → option_map (λ (p : Text × List Row). p.1) (subcommand_rows_of m) ≡ Some rows
    → option_and_then meaning_of (subcommand_rows_of m) ≡ option_map Make (number_of_rows rows)
met_make m rows named has = entry_named _ _ (codes "make") (λ rs. option_map Make (number_of_rows rs)) named_make (out-ArgMatches m).subcommand rows named has

pub met_other : (m : ArgMatches) → (subcommand_name_of m ≡ Some (codes "run") → ⊥) → (subcommand_name_of m ≡ Some (codes "make") → ⊥)
    → option_and_then meaning_of (subcommand_rows_of m) ≡ None
met_other m run make = entry_other _ _ (out-ArgMatches m).subcommand run make

-- ---- the words

among : {A : Type 0} (k : ErrorKind) (ks : Kinds) (said : Option A) → IsAmong k ks → unless_refused ks said ≡ None
among k [] said h = absurd h
among k (x ∷ xs) said h = refl

has_kind : {A : Type 0} (e : Error) (ks : Kinds) (said : Option A) → HasKind ks e → (kind_of e ≡ kind.OutOfMemory → ⊥) → unless_refused ks said ≡ None
has_kind e ks said (inl h) other = absurd (other h)
has_kind e ks said (inr h) other = among (kind_of e) ks said h

-- words that the command takes mean what the subcommand says
pub command_met : (a : App) (words : List Text) (m : ArgMatches) → a ≡ command_line → (is_simple_and_free a ≡ true → fault_of a words ≡ []) → HasMatchesOf a words m
    → command_of words ≡ option_and_then meaning_of (subcommand_rows_of m)
command_met a words m is taken has =
    let no_fault : fault_of command_line words ≡ [] = subst (λ (b : App). is_simple_and_free b ≡ true → fault_of b words ≡ []) is taken command_line_free in
    let matches : subcommand_rows_of m ≡ subcommand_of command_line words = (subst (λ (b : App). HasMatchesOf b words m) is has command_line_simple).1 in
    ap (λ (ks : Kinds). unless_refused ks (option_and_then meaning_of (subcommand_of command_line words))) no_fault ∙ ap (option_and_then meaning_of) (sym matches)

-- and those that it refuses, but for want of memory, mean nothing
pub command_refused : (a : App) (words : List Text) (e : Error) → a ≡ command_line → (is_simple_and_free a ≡ true → HasKind (fault_of a words) e) → (kind_of e ≡ kind.OutOfMemory → ⊥)
    → command_of words ≡ None
command_refused a words e is fails other =
    has_kind e (fault_of command_line words) _ (subst (λ (b : App). is_simple_and_free b ≡ true → HasKind (fault_of b words) e) is fails command_line_free) other
