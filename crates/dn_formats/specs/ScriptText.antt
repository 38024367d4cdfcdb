-- What the text of a script means: its lines that do something, or its first fault.
use Rattle.std.specs.Prelude.{ℕ, ◌+◌, Bool, true, false, List, [], ◌∷◌, ◌++◌, length, nat_lt, ◌||◌, ◌==◌, if◌then◌else◌, filter, find, slice_get, codes, Option, None, Some, Result, Ok, Err}
use Rattle.std.specs.List.{list_any, slice_split}
use Rattle.std.specs.Option.{option_map, option_to_list}
use Rattle.std.specs.Str.{bytes_eq}
use Rattle.dn_formats.specs.Decimal.{number_within}
use Rattle.dn_formats.specs.QueryWords.{query_in, query_of}
use Rattle.dn_formats.specs.ScriptCauses.{bad_line, take_unknown, taken_twice, too_many_lines, too_long}
use Rattle.base.specs.Name.{is_name_text}
use Rattle.dn_model.specs.Query.{Question}
use Rattle.base.specs.declared.ids.RouterId.{RouterId}
use Rattle.dn_formats.specs.declared.script.Line.{Line}
use Rattle.dn_formats.specs.declared.script.Line.TheVariants as line

-- where a script is refused: the line, from 1, or 0 for the whole, and the number of the cause
pub record ScriptFault : Type 0 where
  pub line : ℕ
  pub cause : ℕ

abbrev pub has_bytes : List ℕ → Bool
has_bytes [] = false
has_bytes (b ∷ bs) = true

abbrev pub is_line_feed : ℕ → Bool
is_line_feed b = b == 10

-- space, tab and carriage return
abbrev pub is_gap : ℕ → Bool
is_gap b = (b == 32) || (b == 9) || (b == 13)

abbrev pub without_empty_end : List (List ℕ) → List (List ℕ)
without_empty_end [] = []
without_empty_end (l ∷ []) = if has_bytes l then l ∷ [] else []
without_empty_end (l ∷ m ∷ ms) = l ∷ without_empty_end (m ∷ ms)

-- what stands before each line feed and before the end; nothing after the last line feed is no line
abbrev pub lines_of : List ℕ → List (List ℕ)
lines_of bytes = without_empty_end (slice_split is_line_feed bytes)

-- the words of a line, parted by one gap or more
abbrev pub words_of : List ℕ → List (List ℕ)
words_of line = filter has_bytes (slice_split is_gap line)

abbrev pub begins_with : ℕ → List ℕ → Bool
begins_with c [] = false
begins_with c (b ∷ bs) = b == c

-- a blank line, and one whose first word begins with `#`
abbrev pub passes : List (List ℕ) → Bool
passes [] = true
passes (word ∷ words) = begins_with 35 word

abbrev pub two_of : List (List ℕ) → Option (List ℕ × List ℕ)
two_of (a ∷ b ∷ []) = Some (a, b)
two_of _ = None

-- how many frames are taken: `all`, or a number from 1 to 2^32 - 1
abbrev pub count_of : List ℕ → Option (Option ℕ)
count_of word = if bytes_eq word (codes "all") then Some None else option_map Some (number_within 1 4294967295 word)

-- whether a router of the topology has this name, given the names of all
abbrev pub text_is : List ℕ → Option (List ℕ) → Bool
text_is text None = false
text_is text (Some t) = bytes_eq t text

abbrev pub is_named : List (List ℕ) → List ℕ → RouterId → Bool
is_named routers name r = text_is name (slice_get routers r.0)

abbrev pub same_router : RouterId → RouterId → Bool
same_router r s = s.0 == r.0

-- the router to take from must have a feed, and no earlier script may take it
abbrev pub take_from : ℕ → List RouterId → Option ℕ → Option RouterId → Result (Option Line) ℕ
take_from n taken count None = Err take_unknown
take_from n taken count (Some r) =
    if list_any (same_router r) taken then Err taken_twice else Ok (Some (line.Take n r count))

abbrev pub take_count : List (List ℕ) → List RouterId → List RouterId → ℕ → List ℕ → Option (Option ℕ)
    → Result (Option Line) ℕ
take_count routers feeds taken n name None = Err bad_line
take_count routers feeds taken n name (Some count) =
    if is_name_text name then take_from n taken count (find (is_named routers name) feeds) else Err bad_line

-- `take R N` and `take R all`
abbrev pub take_meaning : List (List ℕ) → List RouterId → List RouterId → ℕ → Option (List ℕ × List ℕ)
    → Result (Option Line) ℕ
take_meaning routers feeds taken n None = Err bad_line
take_meaning routers feeds taken n (Some operands) = take_count routers feeds taken n operands.0 (count_of operands.1)

-- the query that a line asks, if its words ask one and it has no more than 1,024 bytes
abbrev pub query_of_line : List ℕ → Option Question
query_of_line line = if nat_lt 1024 (length line) then None else query_in (words_of line)

-- a line that asks a query
abbrev pub ask_meaning : ℕ → Option Question → Result (Option Line) ℕ
ask_meaning n None = Err bad_line
ask_meaning n (Some query) = Ok (Some (line.Ask n query))

abbrev pub one_of : List (List ℕ) → Option (List ℕ)
one_of (a ∷ []) = Some a
one_of _ = None

-- `down L` and `up L`: the link of this name goes down, or comes up again; the network may have no such link
abbrev pub link_meaning : ℕ → Bool → Option (List ℕ) → Result (Option Line) ℕ
link_meaning n down None = Err bad_line
link_meaning n down (Some name) = if is_name_text name then Ok (Some (line.Link n name down)) else Err bad_line

-- what a line's words mean that doesn't pass
abbrev pub command_meaning : List (List ℕ) → List RouterId → List RouterId → ℕ → List (List ℕ) → Result (Option Line) ℕ
command_meaning routers feeds taken n [] = Err bad_line
command_meaning routers feeds taken n (verb ∷ operands) =
    if bytes_eq verb (codes "take") then take_meaning routers feeds taken n (two_of operands)
    else if bytes_eq verb (codes "down") then link_meaning n true (one_of operands)
    else if bytes_eq verb (codes "up") then link_meaning n false (one_of operands)
    else ask_meaning n (query_of verb operands)

-- what line n means: what it does, nothing where it passes, or the cause for which it is refused
abbrev pub line_meaning : List (List ℕ) → List RouterId → List RouterId → ℕ → List ℕ → Result (Option Line) ℕ
line_meaning routers feeds taken n text =
    if passes (words_of text) then Ok None
    else if nat_lt 1024 (length text) then Err bad_line
    else command_meaning routers feeds taken n (words_of text)

abbrev pub at_line : ℕ → Result (Option Line) ℕ → Result (Option Line) ScriptFault
at_line n (Err c) = Err (record { line = n; cause = c })
at_line n (Ok l) = Ok l

-- what line n means within the whole: line 65,537 is refused whatever it says
abbrev pub numbered : ℕ → Result (Option Line) ℕ → Result (Option Line) ScriptFault
numbered n meaning = if nat_lt 65536 n then Err (record { line = n; cause = too_many_lines }) else at_line n meaning

-- a line before the lines after it; the first fault counts
abbrev pub with_line : Result (Option Line) ScriptFault → Result (List Line) ScriptFault
    → Result (List Line) ScriptFault
with_line (Err f) rest = Err f
with_line (Ok l) (Err f) = Err f
with_line (Ok l) (Ok ls) = Ok (option_to_list l ++ ls)

-- what lines mean of which the first has number n
abbrev pub lines_meaning : (ℕ → List ℕ → Result (Option Line) ℕ) → ℕ → List (List ℕ) → Result (List Line) ScriptFault
lines_meaning meaning n [] = Ok []
lines_meaning meaning n (l ∷ ls) = with_line (numbered n (meaning n l)) (lines_meaning meaning (n + 1) ls)

-- what a script's bytes mean, given the routers' names, the routers that have a feed, and those that earlier scripts
-- take
abbrev pub script_of : List (List ℕ) → List RouterId → List RouterId → List ℕ → Result (List Line) ScriptFault
script_of routers feeds taken bytes =
    if nat_lt 16777216 (length bytes) then Err (record { line = 0; cause = too_long })
    else lines_meaning (line_meaning routers feeds taken) 1 (lines_of bytes)
