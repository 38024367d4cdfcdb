-- What the words of a line ask, and the words of what is asked: both by one table of the kinds of queries.
use Rattle.std.specs.Prelude.{ℕ, Bool, List, [], ◌∷◌, ◌++◌, ◌==◌, if◌then◌else◌, codes, find, map, Option, None, Some, option_map, option_and_then}
use Rattle.std.specs.List.{join_with_byte, list_all, slice_split}
use Rattle.std.specs.Str.{bytes_eq}
use Rattle.base.specs.Name.{is_name_text}
use Rattle.dn_model.specs.Query.{Question, names_asked, text_of_name}
use Rattle.dn_model.specs.declared.query.Ask.{Ask}
use Rattle.dn_model.specs.declared.query.Ask.TheVariants.{Path, Reach, Uses, Loops, Blackholes, Waypoint, Delta}
use Rattle.dn_formats.specs.Decimal.{address_of}
use Rattle.dn_formats.specs.Texts.{address_text}
use Rattle.dn_formats.specs.declared.ask_kind.AskKind.{AskKind}
use Rattle.dn_formats.specs.declared.ask_kind.AskKind.TheVariants as kind

-- ---- the table

-- the kinds, each once
abbrev pub ask_kinds : List AskKind
ask_kinds =
    kind.Path ∷ kind.Reach ∷ kind.Uses ∷ kind.Loops ∷ kind.Blackholes ∷ kind.Waypoint ∷ kind.Delta ∷ []

-- the verb of each
abbrev pub verb_of : AskKind → List ℕ
verb_of kind.Path = codes "path"
verb_of kind.Reach = codes "reach"
verb_of kind.Uses = codes "uses"
verb_of kind.Loops = codes "loops"
verb_of kind.Blackholes = codes "blackholes"
verb_of kind.Waypoint = codes "waypoint"
verb_of kind.Delta = codes "delta"

-- the words after a verb, from left to right, and what is asked with them
pub data Operands : Type 0 where
  RouterThen : (List ℕ → Operands) → Operands
  LinkThen : (List ℕ → Operands) → Operands
  AddressThen : (ℕ → Operands) → Operands
  Asks : Ask → Operands

-- the words after each verb
abbrev pub operands_of : AskKind → Operands
operands_of kind.Path = RouterThen (λ r. AddressThen (λ a. Asks (Path r a)))
operands_of kind.Reach = RouterThen (λ r. RouterThen (λ s. Asks (Reach r s)))
operands_of kind.Uses = LinkThen (λ l. Asks (Uses l))
operands_of kind.Loops = Asks Loops
operands_of kind.Blackholes = RouterThen (λ r. Asks (Blackholes r))
operands_of kind.Waypoint = RouterThen (λ r. RouterThen (λ s. RouterThen (λ w. Asks (Waypoint r s w))))
operands_of kind.Delta = Asks Delta

-- the kind of what is asked
abbrev pub kind_of : Ask → AskKind
kind_of (Path r a) = kind.Path
kind_of (Reach r s) = kind.Reach
kind_of (Uses l) = kind.Uses
kind_of Loops = kind.Loops
kind_of (Blackholes r) = kind.Blackholes
kind_of (Waypoint r s w) = kind.Waypoint
kind_of Delta = kind.Delta

-- the addresses in what is asked
abbrev pub addresses_in : Ask → List ℕ
addresses_in (Path r a) = a ∷ []
addresses_in ask = []

-- ---- words to what is asked

-- the kind with this verb
abbrev pub kind_named : List ℕ → Option AskKind
kind_named verb = find (λ kind. bytes_eq verb (verb_of kind)) ask_kinds

-- what words ask where these are due: every one of them is what is due there, and none is left
abbrev pub read_as : Operands → List (List ℕ) → Option Ask
read_as (Asks ask) [] = Some ask
read_as (Asks ask) (word ∷ words) = None
read_as (RouterThen next) [] = None
read_as (RouterThen next) (word ∷ words) = if is_name_text word then read_as (next word) words else None
read_as (LinkThen next) [] = None
read_as (LinkThen next) (word ∷ words) = if is_name_text word then read_as (next word) words else None
read_as (AddressThen next) [] = None
read_as (AddressThen next) (word ∷ words) = option_and_then (λ a. read_as (next a) words) (address_of word)

-- what a verb asks of the words after it
abbrev pub ask_of : List ℕ → List (List ℕ) → Option Ask
ask_of verb words = option_and_then (λ kind. read_as (operands_of kind) words) (kind_named verb)

-- ---- what is asked to words

-- the words of what is asked: the verb, the names, and then the addresses
abbrev pub ask_words : Ask → List (List ℕ)
ask_words ask =
    verb_of (kind_of ask) ∷ map text_of_name (names_asked ask) ++ map address_text (addresses_in ask)

-- ---- queries

abbrev pub is_comma : ℕ → Bool
is_comma b = b == 44

-- the names that stand in one word, parted by commas, if each is one: there is at least one
abbrev pub names_in : List ℕ → Option (List (List ℕ))
names_in word = if list_all is_name_text (slice_split is_comma word) then Some (slice_split is_comma word) else None

-- a query with no link down
abbrev pub asked_alone : Ask → Question
asked_alone ask = record { without = []; ask = ask }

-- a query with these links down; there is none for `delta`
abbrev pub asked_without : List (List ℕ) → Ask → Option Question
asked_without links Delta = None
asked_without links ask = Some (record { without = links; ask = ask })

-- what words ask with these links down
abbrev pub asked_with : Option (List (List ℕ)) → Option Ask → Option Question
asked_with None ask = None
asked_with (Some links) None = None
asked_with (Some links) (Some ask) = asked_without links ask

-- `L,L.. QUERY`, in which no second `without` may stand
abbrev pub without_of : List (List ℕ) → Option Question
without_of (links ∷ verb ∷ words) = asked_with (names_in links) (ask_of verb words)
without_of _ = None

-- the query of a verb and the words after it: links that are down may come first
unfoldable pub query_of : List ℕ → List (List ℕ) → Option Question
query_of verb words =
    if bytes_eq verb (codes "without") then without_of words else option_map asked_alone (ask_of verb words)

-- the query that words ask
abbrev pub query_in : List (List ℕ) → Option Question
query_in [] = None
query_in (verb ∷ words) = query_of verb words

-- `without` and the links that are taken as down, in one word, parted by commas; nothing where there are none
abbrev pub without_words : List (List ℕ) → List (List ℕ)
without_words [] = []
without_words (l ∷ ls) = codes "without" ∷ join_with_byte 44 (l ∷ ls) ∷ []

-- the words of a query
abbrev pub query_words : Question → List (List ℕ)
query_words q = without_words q.without ++ ask_words q.ask

-- the words of a query's line, joined by one space
abbrev pub query_text : Question → List ℕ
query_text q = join_with_byte 32 (query_words q)
