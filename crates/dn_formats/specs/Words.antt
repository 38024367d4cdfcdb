-- What the parts of a command line mean: the words after the topology's.
use Rattle.std.specs.Prelude.{ℕ, Bool, List, [], ◌∷◌, ◌++◌, ◌+◌, ◌&&◌, ◌==◌, if◌then◌else◌, length, nat_le, Option, None, Some, option_map, option_and_then, Result, Ok, Err}
use Rattle.std.specs.List.{before_first, after_first, filter_map, cons_option}
use Rattle.dn_formats.specs.declared.error_line.ErrorLine.{ErrorLine}
use Rattle.dn_formats.specs.declared.error_line.ErrorLine.TheVariants.{BadPart, TooManyParts}
use Rattle.base.specs.Name.{is_name_text}
use Rattle.dn_formats.specs.ScriptText.{has_bytes}

-- a feed: the name of its router, and its file
pub record FeedWords : Type 0 where
  pub router : List ℕ
  pub file : List ℕ

abbrev pub is_equals_sign : ℕ → Bool
is_equals_sign b = b == 61

-- the feed that a part `ROUTER=FILE` is, split at its first `=`: neither may be empty, and no name begins with `@`
abbrev pub feed_of_part : List ℕ → Option FeedWords
feed_of_part part =
    if is_name_text (before_first is_equals_sign part) && has_bytes (after_first is_equals_sign part)
    then Some (record { router = before_first is_equals_sign part; file = after_first is_equals_sign part }) else None

-- the file of the script that a part `@FILE` is
abbrev pub script_of_part : List ℕ → Option (List ℕ)
script_of_part [] = None
script_of_part (b ∷ file) = if (b == 64) && has_bytes file then Some file else None

-- a part: a feed, or a script by its file
pub data Part : Type 0 where
  FeedPart : FeedWords → Part
  ScriptPart : List ℕ → Part

-- what a part is, if it is one: a script where it begins with `@`, and else a feed
abbrev pub part_of : List ℕ → Option Part
part_of [] = None
part_of (b ∷ more) =
    if b == 64 then option_map ScriptPart (script_of_part (b ∷ more)) else option_map FeedPart (feed_of_part (b ∷ more))

-- the most feeds, and the most scripts, that a run takes
abbrev pub most_feeds : ℕ
most_feeds = 64

abbrev pub most_scripts : ℕ
most_scripts = 64

-- parts with their numbers
unfoldable pub numbered_from : ℕ → List (List ℕ) → List (ℕ × List ℕ)
numbered_from number [] = []
numbered_from number (part ∷ more) = (number, part) ∷ numbered_from (number + 1) more

abbrev pub numbered : List (List ℕ) → List (ℕ × List ℕ)
numbered = numbered_from 1

-- what parts say: the feeds and the scripts in order, each with the number of its part
pub record PartsSaid : Type 0 where
  pub feeds : List (ℕ × FeedWords)
  pub scripts : List (ℕ × List ℕ)

abbrev pub feed_in : Part → Option FeedWords
feed_in (FeedPart feed) = Some feed
feed_in (ScriptPart file) = None

abbrev pub script_in : Part → Option (List ℕ)
script_in (FeedPart feed) = None
script_in (ScriptPart file) = Some file

abbrev pub feed_at : ℕ × List ℕ → Option (ℕ × FeedWords)
feed_at place = option_map (λ feed. (place.0, feed)) (option_and_then feed_in (part_of place.1))

abbrev pub script_at : ℕ × List ℕ → Option (ℕ × List ℕ)
script_at place = option_map (λ file. (place.0, file)) (option_and_then script_in (part_of place.1))

abbrev pub parts_said : List (ℕ × List ℕ) → PartsSaid
parts_said places = record { feeds = filter_map feed_at places; scripts = filter_map script_at places }

-- the fault of a part by its number and what earlier parts say, if it has one
abbrev pub fault_of_part : ℕ → PartsSaid → Option Part → Option ErrorLine
fault_of_part number earlier None = Some (BadPart number)
fault_of_part number earlier (Some (FeedPart feed)) =
    if nat_le most_feeds (length earlier.feeds) then Some (TooManyParts number) else None
fault_of_part number earlier (Some (ScriptPart file)) =
    if nat_le most_scripts (length earlier.scripts) then Some (TooManyParts number) else None

-- the faults of parts in order, the first of which has the earlier ones before it
unfoldable pub part_faults : List (ℕ × List ℕ) → List (ℕ × List ℕ) → List ErrorLine
part_faults earlier [] = []
part_faults earlier (place ∷ more) =
    cons_option (fault_of_part place.0 (parts_said earlier) (part_of place.1))
    (part_faults (earlier ++ place ∷ []) more)

-- the first fault, or else what was said
abbrev pub unless_faulty : {A : Type 0} → List ErrorLine → A → Result A ErrorLine
unless_faulty [] said = Ok said
unless_faulty (fault ∷ more) said = Err fault

-- what the parts of a command line say, or the first of their faults
abbrev pub parts_of : List (List ℕ) → Result PartsSaid ErrorLine
parts_of parts = unless_faulty (part_faults [] (numbered parts)) (parts_said (numbered parts))
