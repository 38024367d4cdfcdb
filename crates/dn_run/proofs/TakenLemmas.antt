-- From which routers scripts take: what a script means depends on which they are, and not on how they are listed.
use Rattle.std.proofs.Common.{◌≡◌, ℕ, ◌+◌, ◌==◌, ◌||◌, Bool, true, false, List, [], ◌∷◌, ◌++◌, Option, None, Some, refl, ap, ap₂, sym, ◌∙◌, subst, arith}
use Rattle.std.specs.List.{find, flat_map, list_any}
use Rattle.std.proofs.lemmas.Bool.Decides.{nat_tests}
use Rattle.std.proofs.lemmas.List.{append-nil, map-append}
use Rattle.std.proofs.lemmas.List.Folds.{list_any-append}
use Rattle.std.proofs.lemmas.Grind.{flat_map-append}
use Rattle.dn_formats.specs.ScriptText.{command_meaning, count_of, is_named, line_meaning, lines_meaning, lines_of, numbered, script_of, take_count, take_from, take_meaning, two_of, with_line, words_of}
use Rattle.dn_formats.specs.declared.script.Line.{Line}
use Rattle.dn_formats.specs.declared.script.Script.{Script}
use Rattle.base.specs.declared.ids.RouterId.{RouterId}
use Rattle.dn_run.specs.Jobs.{scripts_of}
use Rattle.dn_run.specs.Run.{taken_by_line, taken_by_scripts}
use Rattle.dn_run.specs.Stops.{AreTaken}

-- whether a router is among these
abbrev among : List RouterId → RouterId → Bool
among routers r = list_any (λ q. q.0 == r.0) routers

abbrev AreSame : List RouterId → List RouterId → Type 0
AreSame taken others = (r : RouterId) → among taken r ≡ among others r

-- ---- what a script means

module _ (routers : List (List ℕ)) (feeds taken others : List RouterId) (same : AreSame taken others) where
  from-same : (n : ℕ) (count : Option ℕ) (r : Option RouterId) → take_from n others count r ≡ take_from n taken count r
  from-same n count None = refl
  from-same n count (Some r) = rw (same r) refl

  count-same : (n : ℕ) (name : List ℕ) (count : Option (Option ℕ)) → take_count routers feeds others n name count ≡ take_count routers feeds taken n name count
  count-same n name None = refl
  count-same n name (Some count) = rw (from-same n count (find (is_named routers name) feeds)) refl

  take-same : (n : ℕ) (operands : Option (List ℕ × List ℕ)) → take_meaning routers feeds others n operands ≡ take_meaning routers feeds taken n operands
  take-same n None = refl
  take-same n (Some operands) = count-same n operands.0 (count_of operands.1)

  command-same : (n : ℕ) (words : List (List ℕ)) → command_meaning routers feeds others n words ≡ command_meaning routers feeds taken n words
  command-same n [] = refl
  command-same n (verb ∷ operands) = rw (take-same n (two_of operands)) refl

  line-same : (n : ℕ) (text : List ℕ) → line_meaning routers feeds others n text ≡ line_meaning routers feeds taken n text
  line-same n text = rw (command-same n (words_of text)) refl

  lines-same : (n : ℕ) (texts : List (List ℕ)) → lines_meaning (line_meaning routers feeds others) n texts ≡ lines_meaning (line_meaning routers feeds taken) n texts
  lines-same n [] = refl
  lines-same n (text ∷ texts) = ap₂ with_line (ap (numbered n) (line-same n text)) (lines-same (n + 1) texts)

pub script_of-same : (routers : List (List ℕ)) (feeds taken others : List RouterId) (bytes : List ℕ) → AreSame taken others →
    script_of routers feeds others bytes ≡ script_of routers feeds taken bytes
script_of-same routers feeds taken others bytes same = rw (lines-same routers feeds taken others same 1 (lines_of bytes)) refl

-- ---- one more script

or-none : (b : Bool) → (b || false) ≡ b
or-none true = refl
or-none false = refl

or-assoc : (a b c : Bool) → ((a || b) || c) ≡ (a || (b || c))
or-assoc true b c = refl
or-assoc false b c = refl

-- a router that is among some is there already
pub already : (taken : List RouterId) (router r : RouterId) → among taken router ≡ true → among taken r ≡ (among taken r || among (router ∷ []) r)
already taken router r there = by-same (router.0 == r.0) refl
  where
    by-same : (b : Bool) → (router.0 == r.0) ≡ b → among taken r ≡ (among taken r || among (router ∷ []) r)
    by-same true is =
        let equal : router.0 ≡ r.0 = grind (arith, nat_tests, is) in
        let here : among taken r ≡ true = subst (λ (k : ℕ). list_any (λ q. q.0 == k) taken ≡ true) equal there in
        rw here refl
    by-same false is = rw is (sym (or-none (among taken r)))

-- the routers of these lines were added
abbrev pub AddsTaken : List RouterId → List RouterId → List Line → Type 0
AddsTaken old new lines = (r : RouterId) → among new r ≡ (among old r || among (flat_map taken_by_line lines) r)

pub adds-line : (first old new : List RouterId) (lines : List Line) (l : Line) →
    AddsTaken first old lines → ((r : RouterId) → among new r ≡ (among old r || among (taken_by_line l) r)) → AddsTaken first new (lines ++ l ∷ [])
adds-line first old new lines l so more r =
    more r ∙ ap (λ b. b || among (taken_by_line l) r) (so r) ∙ or-assoc (among first r) (among (flat_map taken_by_line lines) r) (among (taken_by_line l) r)
    ∙ ap (λ b. among first r || b) (sym (list_any-append (λ q. q.0 == r.0) (flat_map taken_by_line lines) (taken_by_line l))
    ∙ ap (λ xs. among xs r) (ap (λ xs. flat_map taken_by_line lines ++ xs) (sym (append-nil (taken_by_line l))) ∙ sym (flat_map-append taken_by_line lines (l ∷ []))))

pub taken-more : (old new : List RouterId) (read : List (List Line)) (lines : List Line) → AreTaken old read → AddsTaken old new lines → AreTaken new (read ++ lines ∷ [])
taken-more old new read lines are adds r =
    adds r ∙ ap (λ b. b || among (flat_map taken_by_line lines) r) (are r) ∙ sym (list_any-append (λ q. q.0 == r.0) (taken_by_scripts read) (flat_map taken_by_line lines))
    ∙ ap (λ xs. among xs r) (ap (λ xs. taken_by_scripts read ++ xs) (sym (append-nil (flat_map taken_by_line lines))) ∙ sym (flat_map-append (flat_map taken_by_line) read (lines ∷ [])))

pub scripts-push : (scripts new : List Script) (script : Script) → new ≡ scripts ++ script ∷ [] → scripts_of new ≡ scripts_of scripts ++ script.lines ∷ []
scripts-push scripts new script push = ap scripts_of push ∙ map-append (λ (s : Script). s.lines) scripts (script ∷ [])
