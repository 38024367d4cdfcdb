-- No two scripts take from one router, and none has too many lines: a script that would is refused.
use Rattle.std.proofs.Common.{◌≡◌, ℕ, ◌+◌, ◌≤◌, ◌==◌, All, ◌||◌, Bool, true, false, nat_lt, Result, Ok, Err, List, [], ◌∷◌, ◌++◌, codes, length, Option, None, Some, refl, sym, ◌∙◌, subst, arith}
use Rattle.std.specs.Prelude.{if◌then◌else◌}
use Rattle.std.specs.Str.{bytes_eq}
use Rattle.std.specs.List.{find, flat_map, list_any}
use Rattle.std.proofs.lemmas.Bool.Decides.{nat_tests}
use Rattle.std.proofs.lemmas.List.Elements.{All-append, All-cons, All-nil}
use Rattle.std.proofs.lemmas.List.Folds.{list_any-append}
use Rattle.dn_formats.specs.ScriptText.{ScriptFault, ask_meaning, at_line, command_meaning, count_of, is_named, line_meaning, lines_meaning, lines_of, link_meaning, numbered, one_of, passes, script_of, take_count, take_from, take_meaning, two_of, with_line, words_of}
use Rattle.dn_formats.specs.QueryWords.{query_of}
use Rattle.dn_formats.specs.ScriptCauses.{taken_twice, too_long, too_many_lines}
use Rattle.dn_formats.specs.Lawful.{takes}
use Rattle.dn_formats.specs.declared.script.Line.{Line}
use Rattle.dn_formats.specs.declared.script.Line.TheVariants.{Take, Ask, Link}
use Rattle.base.specs.Name.{is_name_text}
use Rattle.dn_model.specs.Query.{Question}
use Rattle.base.specs.declared.ids.RouterId.{RouterId}
use Rattle.dn_run.specs.Jobs.{AreFit, TakeApart}
use Rattle.dn_run.specs.Limits.{most_lines}
use Rattle.dn_run.specs.Run.{taken_by_line, takes_router}
use Rattle.dn_run.specs.Stops.{AreTaken, MayFollow}

-- whether a router is among these
abbrev among : List RouterId → RouterId → Bool
among routers r = list_any (λ q. q.0 == r.0) routers

-- a line takes from none of these routers
abbrev IsClear : List RouterId → Line → Type 0
IsClear taken l = (r : RouterId) → takes r l ≡ true → among taken r ≡ false

-- what a line may mean takes from none of them
abbrev MayBe : {E : Type 0} → List RouterId → Result (Option Line) E → Type 0
MayBe taken (Err e) = Unit {0}
MayBe taken (Ok None) = Unit {0}
MayBe taken (Ok (Some l)) = IsClear taken l

if-may : {E : Type 0} (taken : List RouterId) (b : Bool) (x y : Result (Option Line) E) → MayBe taken x → MayBe taken y → MayBe taken (if b then x else y)
if-may taken true x y p q = p
if-may taken false x y p q = q

from-clear : (n : ℕ) (taken : List RouterId) (count : Option ℕ) (r : Option RouterId) → MayBe taken (take_from n taken count r)
from-clear n taken count None = tt
from-clear n taken count (Some q) = by-among (among taken q) refl
  where
    by-among : (b : Bool) → among taken q ≡ b → MayBe taken (if b then Err taken_twice else Ok (Some (Take n q count)))
    by-among true is = tt
    by-among false is = λ r same. let equal : q.0 ≡ r.0 = grind (arith, nat_tests, same) in subst (λ (k : ℕ). list_any (λ p. p.0 == k) taken ≡ false) equal is

module _ (routers : List (List ℕ)) (feeds taken : List RouterId) where
  count-clear : (n : ℕ) (name : List ℕ) (count : Option (Option ℕ)) → MayBe taken (take_count routers feeds taken n name count)
  count-clear n name None = tt
  count-clear n name (Some count) = if-may taken (is_name_text name) _ _ (from-clear n taken count (find (is_named routers name) feeds)) tt

  take-clear : (n : ℕ) (operands : Option (List ℕ × List ℕ)) → MayBe taken (take_meaning routers feeds taken n operands)
  take-clear n None = tt
  take-clear n (Some operands) = count-clear n operands.0 (count_of operands.1)

  ask-clear : (n : ℕ) (query : Option Question) → MayBe taken (ask_meaning n query)
  ask-clear n None = tt
  ask-clear n (Some query) = λ r same. absurd (cc)

  link-clear : (n : ℕ) (down : Bool) (name : Option (List ℕ)) → MayBe taken (link_meaning n down name)
  link-clear n down None = tt
  link-clear n down (Some name) = if-may taken (is_name_text name) _ _ (λ r same. absurd (cc)) tt

  command-clear : (n : ℕ) (words : List (List ℕ)) → MayBe taken (command_meaning routers feeds taken n words)
  command-clear n [] = tt
  command-clear n (verb ∷ operands) =
      if-may taken (bytes_eq verb (codes "take")) _ _ (take-clear n (two_of operands))
      (if-may taken (bytes_eq verb (codes "down")) _ _ (link-clear n true (one_of operands))
      (if-may taken (bytes_eq verb (codes "up")) _ _ (link-clear n false (one_of operands)) (ask-clear n (query_of verb operands))))

  line-clear : (n : ℕ) (text : List ℕ) → MayBe taken (line_meaning routers feeds taken n text)
  line-clear n text = if-may taken (passes (words_of text)) _ _ tt (if-may taken (nat_lt 1024 (length text)) _ _ tt (command-clear n (words_of text)))

  numbered-clear : (n : ℕ) (meaning : Result (Option Line) ℕ) → MayBe taken meaning → MayBe taken (numbered n meaning)
  numbered-clear n meaning may = if-may taken (nat_lt 65536 n) _ _ tt (at-clear meaning may)
    where
      at-clear : (meaning : Result (Option Line) ℕ) → MayBe taken meaning → MayBe taken (at_line n meaning)
      at-clear (Err e) may = tt
      at-clear (Ok None) may = tt
      at-clear (Ok (Some l)) may = may

  -- lines take from none of these routers
  abbrev AreClear : List Line → Type 0
  AreClear lines = (r : RouterId) → takes_router r lines ≡ true → among taken r ≡ false

  abbrev MayAll : Result (List Line) ScriptFault → Type 0
  MayAll (Err f) = Unit {0}
  MayAll (Ok lines) = AreClear lines

  with-clear : (l : Result (Option Line) ScriptFault) (rest : Result (List Line) ScriptFault) → MayBe taken l → MayAll rest → MayAll (with_line l rest)
  with-clear (Err f) rest may all = tt
  with-clear (Ok l) (Err f) may all = tt
  with-clear (Ok None) (Ok lines) may all = all
  with-clear (Ok (Some l)) (Ok lines) may all = λ r same. by-first r (takes r l) refl same
    where
      by-first : (r : RouterId) (b : Bool) → takes r l ≡ b → (b || takes_router r lines) ≡ true → among taken r ≡ false
      by-first r true is same = may r is
      by-first r false is same = all r same

  lines-clear : (n : ℕ) (texts : List (List ℕ)) → MayAll (lines_meaning (line_meaning routers feeds taken) n texts)
  lines-clear n [] = λ r same. absurd (cc)
  lines-clear n (text ∷ texts) =
      with-clear (numbered n (line_meaning routers feeds taken n text)) (lines_meaning (line_meaning routers feeds taken) (n + 1) texts)
      (numbered-clear n (line_meaning routers feeds taken n text) (line-clear n text)) (lines-clear (n + 1) texts)

  script-clear : (bytes : List ℕ) → MayAll (script_of routers feeds taken bytes)
  script-clear bytes = by-length (nat_lt 16777216 (length bytes))
    where
      by-length : (b : Bool) → MayAll (if b then Err (record { line = 0; cause = too_long }) else lines_meaning (line_meaning routers feeds taken) 1 (lines_of bytes))
      by-length true = tt
      by-length false = lines-clear 1 (lines_of bytes)

  -- the lines of a script that was read take from none of the routers that were taken before
  pub clear : (bytes : List ℕ) (lines : List Line) → script_of routers feeds taken bytes ≡ Ok lines → AreClear lines
  clear bytes lines is = subst (λ m. MayAll m) is (script-clear bytes)

-- ---- how many lines a script has

-- lines of which the first has this number end within the most that a script may have
abbrev EndWithin : ℕ → Result (List Line) ScriptFault → Type 0
EndWithin n (Err f) = Unit {0}
EndWithin n (Ok lines) = length lines + n ≤ 65537

with-within : (n : ℕ) (l : Result (Option Line) ScriptFault) (rest : Result (List Line) ScriptFault) → EndWithin (n + 1) rest → EndWithin n (with_line l rest)
with-within n (Err f) rest within = tt
with-within n (Ok l) (Err f) within = tt
with-within n (Ok None) (Ok lines) within = omega (arith, within)
with-within n (Ok (Some l)) (Ok lines) within = omega (arith, within)

lines-within : (meaning : ℕ → List ℕ → Result (Option Line) ℕ) (n : ℕ) (texts : List (List ℕ)) → n ≤ 65537 → EndWithin n (lines_meaning meaning n texts)
lines-within meaning n [] below = omega (arith, below)
lines-within meaning n (text ∷ texts) below = by-number (nat_lt 65536 n) refl (lines-within meaning (n + 1) texts)
  where
    by-number : (b : Bool) → nat_lt 65536 n ≡ b → (n + 1 ≤ 65537 → EndWithin (n + 1) (lines_meaning meaning (n + 1) texts)) →
        EndWithin n (with_line (if b then Err (record { line = n; cause = too_many_lines }) else at_line n (meaning n text)) (lines_meaning meaning (n + 1) texts))
    by-number true is rest = tt
    by-number false is rest =
        let low : n + 1 ≤ 65537 = grind (arith, nat_tests, is) in
        with-within n (at_line n (meaning n text)) (lines_meaning meaning (n + 1) texts) (rest low)

-- a script that was read has no more lines than a script may have
pub short : (routers : List (List ℕ)) (feeds taken : List RouterId) (bytes : List ℕ) (lines : List Line) → script_of routers feeds taken bytes ≡ Ok lines → length lines ≤ most_lines
short routers feeds taken bytes lines is =
    let within : EndWithin 1 (Ok lines) = subst (λ m. EndWithin 1 m) is (by-length (nat_lt 16777216 (length bytes))) in
    omega (arith, within)
  where
    by-length : (b : Bool) → EndWithin 1 (if b then Err (record { line = 0; cause = too_long }) else lines_meaning (line_meaning routers feeds taken) 1 (lines_of bytes))
    by-length true = tt
    by-length false = lines-within (line_meaning routers feeds taken) 1 (lines_of bytes) (omega arith)

-- ---- one more script

-- no script is none too many
pub fit-none : AreFit []
fit-none = record { apart = tt; short = All-nil (λ lines. length lines ≤ most_lines) }

both-false : (a b : Bool) → (a || b) ≡ false → (a ≡ false) × (b ≡ false)
both-false true b is = absurd (cc)
both-false false b is = (refl, is)

neither : (a b : Bool) → a ≡ false → b ≡ false → (a || (b || false)) ≡ false
neither a b p q = rw (p, q) refl

pub apart-push : (read : List (List Line)) (lines : List Line) → TakeApart read → ((r : RouterId) → takes_router r lines ≡ true → list_any (takes_router r) read ≡ false) → TakeApart (read ++ lines ∷ [])
apart-push [] lines apart clear = ((λ r is. refl), tt)
apart-push (first ∷ read) lines apart clear = (
  (λ r is. list_any-append (takes_router r) read (lines ∷ []) ∙ neither (list_any (takes_router r) read) (takes_router r lines) (apart.0 r is) (not-both r (takes_router r lines) refl is)),
  apart-push read lines apart.1 (λ r is. (both-false (takes_router r first) (list_any (takes_router r) read) (clear r is)).1),
)
  where
    not-both : (r : RouterId) (b : Bool) → takes_router r lines ≡ b → takes_router r first ≡ true → b ≡ false
    not-both r true is taken = absurd (cc-both (takes_router r first) taken (both-false (takes_router r first) (list_any (takes_router r) read) (clear r is)).0)
      where
        cc-both : (b : Bool) → b ≡ true → b ≡ false → ⊥
        cc-both true t f = absurd (cc)
        cc-both false t f = absurd (cc)
    not-both r false is taken = refl

-- ---- the routers that scripts take

line-among : (r : RouterId) (l : Line) → among (taken_by_line l) r ≡ takes r l
line-among r (Take n q count) = or-false (q.0 == r.0)
  where
    or-false : (b : Bool) → (b || false) ≡ b
    or-false true = refl
    or-false false = refl
line-among r (Ask n query) = refl
line-among r (Link n name down) = refl

lines-among : (r : RouterId) (lines : List Line) → among (flat_map taken_by_line lines) r ≡ takes_router r lines
lines-among r [] = refl
lines-among r (l ∷ lines) = list_any-append (λ q. q.0 == r.0) (taken_by_line l) (flat_map taken_by_line lines) ∙ rw (line-among r l, lines-among r lines) refl

pub scripts-among : (r : RouterId) (scripts : List (List Line)) → among (flat_map (flat_map taken_by_line) scripts) r ≡ list_any (takes_router r) scripts
scripts-among r [] = refl
scripts-among r (lines ∷ scripts) =
    list_any-append (λ q. q.0 == r.0) (flat_map taken_by_line lines) (flat_map (flat_map taken_by_line) scripts) ∙ rw (lines-among r lines, scripts-among r scripts) refl

pub fit-added : (taken : List RouterId) (read new : List (List Line)) (lines : List Line) → AreTaken taken read → AreFit read → MayFollow taken lines → new ≡ read ++ lines ∷ [] → AreFit new
fit-added taken read new lines are fit follows added =
    let P : List Line → Type 0 = λ ls. length ls ≤ most_lines in
    record {
      apart = subst TakeApart (sym added) (apart-push read lines fit.apart (λ r is. sym (are r ∙ scripts-among r read) ∙ follows.clear r is));
      short = subst (All P) (sym added) (All-append P read (lines ∷ []) fit.short (All-cons P lines [] follows.short (All-nil P)));
    }
