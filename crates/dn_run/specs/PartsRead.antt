-- What the parts that were read say, and when parts are refused.
use Rattle.std.specs.Prelude.{◌≡◌, ◌++◌, ◌+◌, ℕ, List, [], ◌∷◌, length, nat_le, if◌then◌else◌, Option, None, Some}
use Rattle.std.specs.Prelude.{Result, Ok, Err, map}
use Rattle.std.specs.String.{string_bytes}
use Rattle.dn_formats.specs.ScriptText.{has_bytes}
use Rattle.dn_formats.specs.Words.{FeedWords, Part, FeedPart as feed_part, ScriptPart as script_part, PartsSaid}
use Rattle.dn_formats.specs.Words.{most_feeds, most_scripts}
use Rattle.dn_formats.specs.declared.error_line.ErrorLine.{ErrorLine}
use Rattle.dn_formats.specs.declared.error_line.ErrorLine.TheVariants.{BadPart, TooManyParts}
use Rattle.dn_run.specs.declared.parts.FeedPart.{FeedPart}
use Rattle.dn_run.specs.declared.parts.ScriptPart.{ScriptPart}
use Rattle.dn_run.specs.declared.parts.RunParts.{RunParts}
use Rattle.dn_run.specs.declared.parts.PartsRefused.{PartsRefused}
use Rattle.dn_run.specs.declared.parts.PartsRefused.TheVariants as refused

-- the texts of a feed and of a script, with the numbers of their parts
abbrev pub feed_texts : FeedPart → ℕ × FeedWords
feed_texts f = (f.part, record { router = f.router; file = string_bytes f.file })

abbrev pub script_texts : ScriptPart → ℕ × List ℕ
script_texts s = (s.part, string_bytes s.file)

-- the texts of all feeds and scripts
abbrev pub parts_texts : RunParts → PartsSaid
parts_texts p = record { feeds = map feed_texts p.feeds.items; scripts = map script_texts p.scripts.items }

-- a refusal of parts: the line of their first fault; want of memory says nothing of them
abbrev pub ArePartsRefused : {A : Type 0} → PartsRefused → Result A ErrorLine → Type 0
ArePartsRefused (refused.Line fault) meaning = meaning ≡ Err fault
ArePartsRefused refused.OutOfMemory meaning = Unit {0}

-- ---- one part more

-- the number of the part after those that say this
abbrev pub next_number : PartsSaid → ℕ
next_number said = length said.feeds + length said.scripts + 1

-- what is said with one part more, or the fault of that part
abbrev pub with_part : PartsSaid → Option Part → Result PartsSaid ErrorLine
with_part said None = Err (BadPart (next_number said))
with_part said (Some (feed_part feed)) =
    if nat_le most_feeds (length said.feeds) then Err (TooManyParts (next_number said))
    else Ok (record said { feeds = said.feeds ++ (next_number said, feed) ∷ [] })
with_part said (Some (script_part file)) =
    if nat_le most_scripts (length said.scripts) then Err (TooManyParts (next_number said))
    else Ok (record said { scripts = said.scripts ++ (next_number said, file) ∷ [] })

-- a script of this file, which may not be empty
abbrev pub script_named : List ℕ → Option Part
script_named file = if has_bytes file then Some (script_part file) else None
