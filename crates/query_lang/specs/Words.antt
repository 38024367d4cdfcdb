-- Words of a line: the next one, as what is due there, and one that is added.
use Rattle.std.specs.Prelude.{◌≡◌, ℕ, List, [], ◌∷◌, ◌++◌, codes, Option, None, Some, option_map, if◌then◌else◌}
use Rattle.base.specs.Name.{is_name_text}
use Rattle.dn_formats.specs.Decimal.{address_of}
use Rattle.query_lang.specs.declared.query_line.Unread.{Unread}
use Rattle.query_lang.specs.declared.query_line.Unread.TheVariants.{NoQuery, OutOfMemory}

-- the first word, if it is a name, and the words after it
abbrev pub name_first : List (List ℕ) → Option (List ℕ × List (List ℕ))
name_first [] = None
name_first (word ∷ words) = if is_name_text word then Some (word, words) else None

-- the address that the first word is, if it is one, and the words after it
abbrev pub address_first : List (List ℕ) → Option (ℕ × List (List ℕ))
address_first [] = None
address_first (word ∷ words) = option_map (λ a. (a, words)) (address_of word)

-- nothing is found; want of memory says nothing of it
abbrev pub IsUnread : {A : Type 0} → Unread → Option A → Type 0
IsUnread NoQuery found = found ≡ None
IsUnread OutOfMemory found = Unit {0}

-- a word after another one: a space before it; nothing where there is none
abbrev pub word_after : Option (List ℕ) → List ℕ
word_after None = []
word_after (Some word) = codes " " ++ word
