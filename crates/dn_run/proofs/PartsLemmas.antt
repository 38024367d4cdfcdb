-- The parts of a command line, one after the other.
use Rattle.std.proofs.Common.{◌≡◌, ◌≢◌, ◌∙◌, ℕ, ◌+◌, ◌≤◌, ◌<◌, Bool, true, false, List, [], ◌∷◌, ◌++◌, ◌==◌, length, get_or, drop, map, Option, Some, None, option_map, option_and_then, Result, Ok, Err, nat_le, refl, sym, ap, ap₂, arith, append_assoc, append-nil, length-append}
use Rattle.std.specs.Prelude.{if◌then◌else◌}
use Rattle.std.specs.List.{cons_option}
use Rattle.std.proofs.lemmas.Bool.Decides.{nat_tests}
use Rattle.std.proofs.lemmas.List.{drop_more, drop_all, length-map}
use Rattle.std.proofs.lemmas.List.Elements.{filter_map-append}
use Rattle.std.proofs.Math.ListN.{get_or-map}
use Rattle.dn_formats.specs.Words.{FeedWords, Part, FeedPart, ScriptPart, PartsSaid, feed_of_part, part_of, feed_in, script_in, feed_at, script_at, parts_said, numbered_from, fault_of_part, part_faults, unless_faulty, parts_of, most_feeds, most_scripts}
use Rattle.dn_formats.specs.ScriptText.{has_bytes}
use Rattle.dn_formats.specs.declared.error_line.ErrorLine.{ErrorLine}
use Rattle.dn_formats.specs.declared.error_line.ErrorLine.TheVariants.{BadPart, TooManyParts}
use Rattle.dn_run.specs.declared.parts.PartsRefused.{PartsRefused}
use Rattle.dn_run.specs.declared.parts.PartsRefused.TheVariants as refused
use Rattle.dn_run.specs.PartsRead.{ArePartsRefused, next_number, with_part, script_named}

-- ---- one part

other_byte : (b : ℕ) (x y : Option Part) → (b ≡ 64 → ⊥) → (if b == 64 then x else y) ≡ y
other_byte b x y h = grind (arith, nat_tests)

-- a part without `@` at its front is a feed, or none
pub part_of-feed : (part : List ℕ) → ((rest : List ℕ) → part ≢ 64 ∷ rest) → part_of part ≡ option_map FeedPart (feed_of_part part)
part_of-feed [] h = refl
part_of-feed (b ∷ file) h = other_byte b _ _ (λ e. h file (ap (λ c. c ∷ file) e))

named : (b : Bool) (file : List ℕ) → option_map ScriptPart (if b then Some file else None) ≡ (if b then Some (ScriptPart file) else None)
named true file = refl
named false file = refl

-- and one with it the script of the rest
pub part_of-script : (part file : List ℕ) → part ≡ 64 ∷ file → part_of part ≡ script_named file
part_of-script part file e = rw e (named (has_bytes file) file)

-- ---- the parts in order

abbrev after_part : (PartsSaid → Result PartsSaid ErrorLine) → Result PartsSaid ErrorLine → Result PartsSaid ErrorLine
after_part next (Ok said) = next said
after_part next (Err fault) = Err fault

-- what is said with all of these parts more, or the first fault
unfoldable pub with_parts : PartsSaid → List (List ℕ) → Result PartsSaid ErrorLine
with_parts said [] = Ok said
with_parts said (part ∷ more) = after_part (λ next. with_parts next more) (with_part said (part_of part))

-- ---- a part more, as the definition says it

abbrev add_said : PartsSaid → ℕ → Option Part → PartsSaid
add_said said n None = said
add_said said n (Some (FeedPart feed)) = record said { feeds = said.feeds ++ (n, feed) ∷ [] }
add_said said n (Some (ScriptPart file)) = record said { scripts = said.scripts ++ (n, file) ∷ [] }

abbrev said_of : List (ℕ × FeedWords) → List (ℕ × List ℕ) → PartsSaid
said_of fs ss = record { feeds = fs; scripts = ss }

abbrev new_feeds : ℕ → Option Part → List (ℕ × FeedWords)
new_feeds n q = cons_option (option_map (λ feed. (n, feed)) (option_and_then feed_in q)) []

abbrev new_scripts : ℕ → Option Part → List (ℕ × List ℕ)
new_scripts n q = cons_option (option_map (λ file. (n, file)) (option_and_then script_in q)) []

tail_is : (said : PartsSaid) (n : ℕ) (q : Option Part) → said_of (said.feeds ++ new_feeds n q) (said.scripts ++ new_scripts n q) ≡ add_said said n q
tail_is said n None = ap₂ said_of (append-nil said.feeds) (append-nil said.scripts)
tail_is said n (Some (FeedPart feed)) = ap (said_of (said.feeds ++ (n, feed) ∷ [])) (append-nil said.scripts)
tail_is said n (Some (ScriptPart file)) = ap (λ fs. said_of fs (said.scripts ++ (n, file) ∷ [])) (append-nil said.feeds)

said_after : (earlier : List (ℕ × List ℕ)) (n : ℕ) (part : List ℕ) → parts_said (earlier ++ (n, part) ∷ []) ≡ add_said (parts_said earlier) n (part_of part)
said_after earlier n part =
    ap₂ said_of (filter_map-append feed_at earlier ((n, part) ∷ [])) (filter_map-append script_at earlier ((n, part) ∷ []))
    ∙ tail_is (parts_said earlier) n (part_of part)

-- a fault here is the first, and else those of what is left count
feed_more : (said : PartsSaid) (n : ℕ) (feed : FeedWords) (full : Bool) (faults : List ErrorLine) (all : PartsSaid) (more : List (List ℕ)) → n ≡ next_number said
    → unless_faulty faults all ≡ with_parts (record said { feeds = said.feeds ++ (n, feed) ∷ [] }) more
    → unless_faulty (cons_option (if full then Some (TooManyParts n) else None) faults) all
    ≡ after_part (λ next. with_parts next more) (if full then Err (TooManyParts (next_number said)) else Ok (record said { feeds = said.feeds ++ (next_number said, feed) ∷ [] }))
feed_more said n feed true faults all more e rest = ap (λ (m : ℕ). Err (TooManyParts m)) e
feed_more said n feed false faults all more e rest = rest ∙ ap (λ (m : ℕ). with_parts (record said { feeds = said.feeds ++ (m, feed) ∷ [] }) more) e

script_more : (said : PartsSaid) (n : ℕ) (file : List ℕ) (full : Bool) (faults : List ErrorLine) (all : PartsSaid) (more : List (List ℕ)) → n ≡ next_number said
    → unless_faulty faults all ≡ with_parts (record said { scripts = said.scripts ++ (n, file) ∷ [] }) more
    → unless_faulty (cons_option (if full then Some (TooManyParts n) else None) faults) all
    ≡ after_part (λ next. with_parts next more) (if full then Err (TooManyParts (next_number said)) else Ok (record said { scripts = said.scripts ++ (next_number said, file) ∷ [] }))
script_more said n file true faults all more e rest = ap (λ (m : ℕ). Err (TooManyParts m)) e
script_more said n file false faults all more e rest = rest ∙ ap (λ (m : ℕ). with_parts (record said { scripts = said.scripts ++ (m, file) ∷ [] }) more) e

next_after_feed : (said : PartsSaid) (n : ℕ) (feed : FeedWords) → n ≡ next_number said → n + 1 ≡ next_number (record said { feeds = said.feeds ++ (n, feed) ∷ [] })
next_after_feed said n feed e = omega (arith, e, length-append said.feeds ((n, feed) ∷ []))

next_after_script : (said : PartsSaid) (n : ℕ) (file : List ℕ) → n ≡ next_number said → n + 1 ≡ next_number (record said { scripts = said.scripts ++ (n, file) ∷ [] })
next_after_script said n file e = omega (arith, e, length-append said.scripts ((n, file) ∷ []))

one_more : (said : PartsSaid) (n : ℕ) (q : Option Part) (faults : List ErrorLine) (all : PartsSaid) (more : List (List ℕ)) → n ≡ next_number said
    → (n + 1 ≡ next_number (add_said said n q) → unless_faulty faults all ≡ with_parts (add_said said n q) more)
    → unless_faulty (cons_option (fault_of_part n said q) faults) all ≡ after_part (λ next. with_parts next more) (with_part said q)
one_more said n None faults all more e rest = ap (λ (m : ℕ). Err (BadPart m)) e
one_more said n (Some (FeedPart feed)) faults all more e rest =
    feed_more said n feed (nat_le most_feeds (length said.feeds)) faults all more e (rest (next_after_feed said n feed e))
one_more said n (Some (ScriptPart file)) faults all more e rest =
    script_more said n file (nat_le most_scripts (length said.scripts)) faults all more e (rest (next_after_script said n file e))

-- the first fault of the parts, or what they say, is what reading them one by one comes to
read_in_order : (earlier : List (ℕ × List ℕ)) (texts : List (List ℕ)) (n : ℕ) → n ≡ next_number (parts_said earlier)
    → unless_faulty (part_faults earlier (numbered_from n texts)) (parts_said (earlier ++ numbered_from n texts)) ≡ with_parts (parts_said earlier) texts
unfolding part_faults numbered_from with_parts
read_in_order earlier [] n e = ap (λ xs. Ok (parts_said xs)) (append-nil earlier)
read_in_order earlier (part ∷ more) n e =
    let places = earlier ++ (n, part) ∷ [] in
    let rest = numbered_from (n + 1) more in
    one_more (parts_said earlier) n (part_of part) (part_faults places rest) (parts_said (earlier ++ (n, part) ∷ rest)) more e (λ next.
    ap (λ xs. unless_faulty (part_faults places rest) (parts_said xs)) (sym (append_assoc earlier ((n, part) ∷ []) rest))
    ∙ read_in_order places more (n + 1) (next ∙ ap next_number (sym (said_after earlier n part)))
    ∙ ap (λ said. with_parts said more) (said_after earlier n part))

-- ---- reading a list of texts

pub parts_start : (texts : List (List ℕ)) → with_parts (record { feeds = []; scripts = [] }) texts ≡ parts_of texts
parts_start texts = sym (read_in_order [] texts 1 refl)

pub part_here : {A B : Type 0} (text : A → B) (xs : List A) (i : ℕ) (x : A) → i < length xs → x ≡ get_or xs i x → drop i (map text xs) ≡ text x ∷ drop (i + 1) (map text xs)
part_here text xs i x within is = drop_more (map text xs) i (text x) (omega (arith, within, length-map xs text)) ∙ ap (λ t. t ∷ drop (i + 1) (map text xs)) (get_or-map text xs i x ∙ ap text (sym is))

pub parts_step : {A : Type 0} (text : A → List ℕ) (xs : List A) (i : ℕ) (x : A) (said next : PartsSaid) → i < length xs → x ≡ get_or xs i x
    → with_parts said (drop i (map text xs)) ≡ parts_of (map text xs) → with_part said (part_of (text x)) ≡ Ok next
    → with_parts next (drop (i + 1) (map text xs)) ≡ parts_of (map text xs)
unfolding with_parts
parts_step text xs i x said next within is before here =
    sym (ap (after_part (λ s. with_parts s (drop (i + 1) (map text xs)))) here) ∙ sym (ap (with_parts said) (part_here text xs i x within is)) ∙ before

pub parts_stop : {A : Type 0} (text : A → List ℕ) (xs : List A) (i : ℕ) (x : A) (said : PartsSaid) (e : PartsRefused) → i < length xs → x ≡ get_or xs i x
    → with_parts said (drop i (map text xs)) ≡ parts_of (map text xs) → ArePartsRefused e (with_part said (part_of (text x)))
    → ArePartsRefused e (parts_of (map text xs))
unfolding with_parts
parts_stop text xs i x said refused.OutOfMemory within is before here = tt
parts_stop text xs i x said (refused.Line fault) within is before here =
    sym before ∙ ap (with_parts said) (part_here text xs i x within is) ∙ ap (after_part (λ s. with_parts s (drop (i + 1) (map text xs)))) here

pub parts_end : {A : Type 0} (text : A → List ℕ) (xs : List A) (i : ℕ) (said : PartsSaid) → length xs ≤ i
    → with_parts said (drop i (map text xs)) ≡ parts_of (map text xs) → parts_of (map text xs) ≡ Ok said
unfolding with_parts
parts_end text xs i said past before = sym before ∙ ap (with_parts said) (drop_all i (map text xs) (omega (arith, past, length-map xs text)))
