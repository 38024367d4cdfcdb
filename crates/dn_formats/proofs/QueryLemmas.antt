-- Queries, written and read.
use Rattle.std.proofs.Common.{◌≡◌, ◌<◌, ◌≤◌, ℕ, ◌^◌, Bool, true, false, List, [], ◌∷◌, ◌++◌, ◌&&◌, nat_le, nat_lt, not, length, map, Option, None, Some, codes, append_assoc, refl, sym, ◌∙◌, ap, subst, arith}
use Rattle.std.specs.Prelude.{if◌then◌else◌, find, option_and_then, option_map}
use Rattle.std.specs.List.{join_with_byte, list_all, slice_split}
use Rattle.std.specs.Str.{bytes_eq}
use Rattle.std.proofs.lemmas.Bool.{and_parts, and_from, leb-true, ltb-true, ne_eqb}
use Rattle.std.proofs.lemmas.Bool.Decides.{nat_tests}
use Rattle.std.proofs.lemmas.List.{append-nil}
use Rattle.std.proofs.lemmas.List.Folds.{list_all-append}
use Rattle.std.proofs.lemmas.List.Splits.{join_with_byte-slice_split, length-slice_split}
use Rattle.std.proofs.lemmas.Option.{none-some, same_Some}
use Rattle.std.proofs.lemmas.Slice.Eq.{bytes_eq-Decides}
use Rattle.base.specs.Name.{is_byte_of_name, is_name_text}
use Rattle.dn_model.specs.Query.{IsAskedWithout, Question, names_asked, text_of_name}
use Rattle.dn_model.specs.declared.query.Ask.{Ask}
use Rattle.dn_model.specs.declared.query.Ask.TheVariants.{Path, Reach, Uses, Loops, Blackholes, Waypoint, Delta}
use Rattle.dn_formats.specs.Decimal.{address_of}
use Rattle.dn_formats.specs.QueryLaw.{IsWritable}
use Rattle.dn_formats.specs.QueryWords.{Operands, RouterThen, LinkThen, AddressThen, Asks, addresses_in, ask_kinds, ask_of, ask_words, asked_alone, asked_with, asked_without, is_comma, kind_named, kind_of, names_in, operands_of, query_in, query_of, query_text, query_words, read_as, verb_of, without_of, without_words}
use Rattle.dn_formats.specs.ScriptText.{has_bytes, is_gap, words_of}
use Rattle.dn_formats.specs.Texts.{address_text}
use Rattle.dn_formats.specs.declared.ask_kind.AskKind.{AskKind}
use Rattle.dn_formats.specs.declared.ask_kind.AskKind.TheVariants as kind
use Rattle.dn_formats.proofs.AddressLemmas.{address-text-read, address-text-written, address-word}
use Rattle.dn_formats.proofs.SplitLemmas.{all-weaker, is_word, joined-word, no-gap, none_pass, some-bytes, split-joined, words-joined}

-- ---- read, and written again

-- the words after the verb
abbrev after_verb : Ask → List (List ℕ)
after_verb ask = map text_of_name (names_asked ask) ++ map address_text (addresses_in ask)

-- whatever is asked with these operands after these words is written so
abbrev Prints : AskKind → Operands → List (List ℕ) → Type 0
Prints k (Asks ask) before = (kind_of ask ≡ k) × (after_verb ask ≡ before)
Prints k (RouterThen next) before = (name : List ℕ) → Prints k (next name) (before ++ name ∷ [])
Prints k (LinkThen next) before = (name : List ℕ) → Prints k (next name) (before ++ name ∷ [])
Prints k (AddressThen next) before = (a : ℕ) → Prints k (next a) (before ++ address_text a ∷ [])

-- the table of verbs is that of what is written
table-prints : (k : AskKind) → Prints k (operands_of k) []
table-prints kind.Path = λ r a. (refl, refl)
table-prints kind.Reach = λ r s. (refl, refl)
table-prints kind.Uses = λ l. (refl, refl)
table-prints kind.Loops = (refl, refl)
table-prints kind.Blackholes = λ r. (refl, refl)
table-prints kind.Waypoint = λ r s w. (refl, refl)
table-prints kind.Delta = (refl, refl)

next-word : (before : List (List ℕ)) (word : List ℕ) (words : List (List ℕ)) → (before ++ word ∷ []) ++ words ≡ before ++ word ∷ words
next-word before word words = append_assoc before (word ∷ []) words

if-some : (b : Bool) (o : Option Ask) (ask : Ask) → (if b then o else None) ≡ Some ask → o ≡ Some ask
if-some true o ask is = is
if-some false o ask is = absurd (none-some ask is)

-- what words ask is written by those words
read-prints : (k : AskKind) (due : Operands) (before words : List (List ℕ)) (ask : Ask) → Prints k due before → read_as due words ≡ Some ask → (kind_of ask ≡ k) × (after_verb ask ≡ before ++ words)
read-prints k (Asks asked) before [] ask prints is =
    subst (λ (x : Ask). (kind_of x ≡ k) × (after_verb x ≡ before ++ [])) (same_Some asked ask is) (prints.0, prints.1 ∙ sym (append-nil before))
read-prints k (Asks asked) before (word ∷ words) ask prints is = absurd (none-some ask is)
read-prints k (RouterThen next) before [] ask prints is = absurd (none-some ask is)
read-prints k (RouterThen next) before (word ∷ words) ask prints is =
    let rest = read-prints k (next word) (before ++ word ∷ []) words ask (prints word) (if-some (is_name_text word) (read_as (next word) words) ask is) in
    (rest.0, rest.1 ∙ next-word before word words)
read-prints k (LinkThen next) before [] ask prints is = absurd (none-some ask is)
read-prints k (LinkThen next) before (word ∷ words) ask prints is =
    let rest = read-prints k (next word) (before ++ word ∷ []) words ask (prints word) (if-some (is_name_text word) (read_as (next word) words) ask is) in
    (rest.0, rest.1 ∙ next-word before word words)
read-prints k (AddressThen next) before [] ask prints is = absurd (none-some ask is)
read-prints k (AddressThen next) before (word ∷ words) ask prints is = by-address (address_of word) (λ a. read-prints k (next a) (before ++ address_text a ∷ []) words ask (prints a)) refl is
  where
    by-address : (o : Option ℕ) → ((a : ℕ) → read_as (next a) words ≡ Some ask → (kind_of ask ≡ k) × (after_verb ask ≡ (before ++ address_text a ∷ []) ++ words))
        → address_of word ≡ o → option_and_then (λ a. read_as (next a) words) o ≡ Some ask → (kind_of ask ≡ k) × (after_verb ask ≡ before ++ word ∷ words)
    by-address None prints e is = absurd (none-some ask is)
    by-address (Some a) prints e is =
        let rest = prints a is in
        (rest.0, rest.1 ∙ next-word before (address_text a) words ∙ ap (λ w. before ++ w ∷ words) (address-text-written word a e))

-- the kind of a verb has it
kind-verb : (verb : List ℕ) (kinds : List AskKind) (k : AskKind) → find (λ x. bytes_eq verb (verb_of x)) kinds ≡ Some k → verb ≡ verb_of k
kind-verb verb [] k is = absurd (none-some k is)
kind-verb verb (x ∷ xs) k is = by-test (bytes_eq verb (verb_of x)) (kind-verb verb xs k) refl is
  where
    by-test : (b : Bool) → (find (λ y. bytes_eq verb (verb_of y)) xs ≡ Some k → verb ≡ verb_of k) → bytes_eq verb (verb_of x) ≡ b → (if b then Some x else find (λ y. bytes_eq verb (verb_of y)) xs) ≡ Some k → verb ≡ verb_of k
    by-test true later e is = (bytes_eq-Decides verb (verb_of x)).0 e ∙ ap verb_of (same_Some x k is)
    by-test false later e is = later is

ask-prints : (verb : List ℕ) (words : List (List ℕ)) (ask : Ask) → ask_of verb words ≡ Some ask → ask_words ask ≡ verb ∷ words
ask-prints verb words ask is = by-kind (kind_named verb) refl is
  where
    by-kind : (o : Option AskKind) → kind_named verb ≡ o → option_and_then (λ k. read_as (operands_of k) words) o ≡ Some ask → ask_words ask ≡ verb ∷ words
    by-kind None e is = absurd (none-some ask is)
    by-kind (Some k) e is =
        let written = read-prints k (operands_of k) [] words ask (table-prints k) is in
        ap (λ (x : AskKind). verb_of x ∷ after_verb ask) written.0 ∙ ap (λ v. v ∷ after_verb ask) (sym (kind-verb verb ask_kinds k e)) ∙ ap (λ ws. verb ∷ ws) written.1

alone-prints : (verb : List ℕ) (words : List (List ℕ)) (q : Question) (o : Option Ask) → ask_of verb words ≡ o → option_map asked_alone o ≡ Some q → query_words q ≡ verb ∷ words
alone-prints verb words q None e is = absurd (none-some q is)
alone-prints verb words q (Some ask) e is =
    ap query_words (sym (same_Some (asked_alone ask) q is)) ∙ ask-prints verb words ask e

-- links in one word are written so
links-print : (word : List ℕ) (links : List (List ℕ)) → names_in word ≡ Some links → (join_with_byte 44 links ≡ word) × (1 ≤ length links)
links-print word links is = by-test (list_all is_name_text (slice_split is_comma word)) is
  where
    by-test : (b : Bool) → (if b then Some (slice_split is_comma word) else None) ≡ Some links → (join_with_byte 44 links ≡ word) × (1 ≤ length links)
    by-test false is = absurd (none-some links is)
    by-test true is =
        subst (λ (ls : List (List ℕ)). (join_with_byte 44 ls ≡ word) × (1 ≤ length ls)) (same_Some (slice_split is_comma word) links is)
        (join_with_byte-slice_split 44 word, omega (arith, length-slice_split is_comma word))

without-is : (links : List (List ℕ)) (ask : Ask) (q : Question) → asked_without links ask ≡ Some q → record { without = links; ask = ask } ≡ q
without-is links (Path r a) q is = same_Some (record { without = links; ask = Path r a }) q is
without-is links (Reach r s) q is = same_Some (record { without = links; ask = Reach r s }) q is
without-is links (Uses l) q is = same_Some (record { without = links; ask = Uses l }) q is
without-is links Loops q is = same_Some (record { without = links; ask = Loops }) q is
without-is links (Blackholes r) q is = same_Some (record { without = links; ask = Blackholes r }) q is
without-is links (Waypoint r s w) q is = same_Some (record { without = links; ask = Waypoint r s w }) q is
without-is links Delta q is = absurd (none-some q is)

some-links : (links : List (List ℕ)) → 1 ≤ length links → without_words links ≡ codes "without" ∷ join_with_byte 44 links ∷ []
some-links [] some = absurd (omega arith)
some-links (l ∷ ls) some = refl

with-prints : (word verb : List ℕ) (words : List (List ℕ)) (q : Question) (links : Option (List (List ℕ))) (asked : Option Ask) → names_in word ≡ links → ask_of verb words ≡ asked → asked_with links asked ≡ Some q
    → query_words q ≡ codes "without" ∷ word ∷ verb ∷ words
with-prints word verb words q None asked e f is = absurd (none-some q is)
with-prints word verb words q (Some links) None e f is = absurd (none-some q is)
with-prints word verb words q (Some links) (Some ask) e f is =
    let written = links-print word links e in
    ap query_words (sym (without-is links ask q is)) ∙ ap (λ ws. ws ++ ask_words ask) (some-links links written.1)
    ∙ ap (λ w. codes "without" ∷ w ∷ ask_words ask) written.0 ∙ ap (λ ws. codes "without" ∷ word ∷ ws) (ask-prints verb words ask f)

without-prints : (words : List (List ℕ)) (q : Question) → without_of words ≡ Some q → query_words q ≡ codes "without" ∷ words
without-prints [] q is = absurd (none-some q is)
without-prints (word ∷ []) q is = absurd (none-some q is)
without-prints (word ∷ verb ∷ words) q is = with-prints word verb words q (names_in word) (ask_of verb words) refl refl is

-- a query that words ask is written by those words
pub query-printed : (words : List (List ℕ)) (q : Question) → query_in words ≡ Some q → query_words q ≡ words
unfolding query_of
query-printed [] q is = absurd (none-some q is)
query-printed (verb ∷ words) q is = by-test (bytes_eq verb (codes "without")) refl is
  where
    by-test : (b : Bool) → bytes_eq verb (codes "without") ≡ b → (if b then without_of words else option_map asked_alone (ask_of verb words)) ≡ Some q → query_words q ≡ verb ∷ words
    by-test true e is = without-prints words q is ∙ ap (λ v. v ∷ words) (sym ((bytes_eq-Decides verb (codes "without")).0 e))
    by-test false e is = alone-prints verb words q (ask_of verb words) refl is

-- ---- written, and read again

router-due : (next : List ℕ → Operands) (word : List ℕ) (words : List (List ℕ)) → is_name_text word ≡ true → read_as (RouterThen next) (word ∷ words) ≡ read_as (next word) words
router-due next word words is = ap (λ b. if b then read_as (next word) words else None) is

link-due : (next : List ℕ → Operands) (word : List ℕ) (words : List (List ℕ)) → is_name_text word ≡ true → read_as (LinkThen next) (word ∷ words) ≡ read_as (next word) words
link-due next word words is = ap (λ b. if b then read_as (next word) words else None) is

address-due : (next : ℕ → Operands) (a : ℕ) (words : List (List ℕ)) → a < 2 ^ 32 → read_as (AddressThen next) (address_text a ∷ words) ≡ read_as (next a) words
address-due next a words small = ap (λ (o : Option ℕ). option_and_then (λ x. read_as (next x) words) o) (address-text-read a small)

-- whether what is asked has names and addresses
abbrev are_names : Ask → Bool
are_names ask = list_all is_name_text (map text_of_name (names_asked ask))

abbrev are_addresses : Ask → Bool
are_addresses ask = list_all (λ a. nat_lt a (2 ^ 32)) (addresses_in ask)

-- the words after a verb ask again what was asked
operands-read : (ask : Ask) → are_names ask ≡ true → are_addresses ask ≡ true → read_as (operands_of (kind_of ask)) (after_verb ask) ≡ Some ask
operands-read (Path r a) names addresses =
    router-due (λ n. AddressThen (λ x. Asks (Path n x))) r (address_text a ∷ []) (and_parts (is_name_text r) true names).0
    ∙ address-due (λ x. Asks (Path r x)) a [] (ltb-true a (2 ^ 32) (and_parts (nat_lt a (2 ^ 32)) true addresses).0)
operands-read (Reach r s) names addresses =
    let two = and_parts (is_name_text r) (is_name_text s && true) names in
    router-due (λ n. RouterThen (λ m. Asks (Reach n m))) r (s ∷ []) two.0
    ∙ router-due (λ m. Asks (Reach r m)) s [] (and_parts (is_name_text s) true two.1).0
operands-read (Uses l) names addresses = link-due (λ n. Asks (Uses n)) l [] (and_parts (is_name_text l) true names).0
operands-read Loops names addresses = refl
operands-read (Blackholes r) names addresses = router-due (λ n. Asks (Blackholes n)) r [] (and_parts (is_name_text r) true names).0
operands-read (Waypoint r s w) names addresses =
    let two = and_parts (is_name_text r) (is_name_text s && (is_name_text w && true)) names in
    let more = and_parts (is_name_text s) (is_name_text w && true) two.1 in
    router-due (λ n. RouterThen (λ m. RouterThen (λ k. Asks (Waypoint n m k)))) r (s ∷ w ∷ []) two.0
    ∙ router-due (λ m. RouterThen (λ k. Asks (Waypoint r m k))) s (w ∷ []) more.0
    ∙ router-due (λ k. Asks (Waypoint r s k)) w [] (and_parts (is_name_text w) true more.1).0
operands-read Delta names addresses = refl

-- each verb is that of its kind, a word, and not `without`
own-verb : (k : AskKind) → kind_named (verb_of k) ≡ Some k
own-verb kind.Path = refl
own-verb kind.Reach = refl
own-verb kind.Uses = refl
own-verb kind.Loops = refl
own-verb kind.Blackholes = refl
own-verb kind.Waypoint = refl
own-verb kind.Delta = refl

other-verb : (k : AskKind) → bytes_eq (verb_of k) (codes "without") ≡ false
other-verb kind.Path = refl
other-verb kind.Reach = refl
other-verb kind.Uses = refl
other-verb kind.Loops = refl
other-verb kind.Blackholes = refl
other-verb kind.Waypoint = refl
other-verb kind.Delta = refl

verb-word : (k : AskKind) → is_word (verb_of k) ≡ true
verb-word kind.Path = refl
verb-word kind.Reach = refl
verb-word kind.Uses = refl
verb-word kind.Loops = refl
verb-word kind.Blackholes = refl
verb-word kind.Waypoint = refl
verb-word kind.Delta = refl

ask-read : (ask : Ask) → are_names ask ≡ true → are_addresses ask ≡ true → ask_of (verb_of (kind_of ask)) (after_verb ask) ≡ Some ask
ask-read ask names addresses =
    ap (λ (o : Option AskKind). option_and_then (λ k. read_as (operands_of k) (after_verb ask)) o) (own-verb (kind_of ask)) ∙ operands-read ask names addresses

-- a name is a word, and has no comma
name-byte : (b : ℕ) → is_byte_of_name b ≡ true → 45 ≤ b
name-byte b is = grind (arith, nat_tests)

name-no-gap : (b : ℕ) → is_byte_of_name b ≡ true → not (is_gap b) ≡ true
name-no-gap b is = no-gap b (omega (arith, name-byte b is))

name-no-comma : (b : ℕ) → is_byte_of_name b ≡ true → not (is_comma b) ≡ true
name-no-comma b is = ap not (ne_eqb b 44 (λ (e : b ≡ 44). absurd (omega (arith, name-byte b is))))

name-parts : (n : List ℕ) → is_name_text n ≡ true → (1 ≤ length n) × (list_all is_byte_of_name n ≡ true)
name-parts n is =
    let two = and_parts (nat_le 1 (length n) && nat_le (length n) 32) (list_all is_byte_of_name n) is in
    (leb-true 1 (length n) (and_parts (nat_le 1 (length n)) (nat_le (length n) 32) two.0).0, two.1)

name-word : (n : List ℕ) → is_name_text n ≡ true → is_word n ≡ true
name-word n is =
    let parts = name-parts n is in
    and_from (has_bytes n) (none_pass is_gap n) (some-bytes n (omega (arith, parts.0))) (all-weaker is_byte_of_name (λ b. not (is_gap b)) name-no-gap n parts.1)

name-commas : (n : List ℕ) → is_name_text n ≡ true → none_pass is_comma n ≡ true
name-commas n is = all-weaker is_byte_of_name (λ b. not (is_comma b)) name-no-comma n (name-parts n is).1

address-words : (xs : List ℕ) → list_all (λ a. nat_lt a (2 ^ 32)) xs ≡ true → list_all is_word (map address_text xs) ≡ true
address-words [] h = refl
address-words (a ∷ xs) h =
    let two = and_parts (nat_lt a (2 ^ 32)) (list_all (λ x. nat_lt x (2 ^ 32)) xs) h in
    and_from (is_word (address_text a)) (list_all is_word (map address_text xs)) (address-word a (ltb-true a (2 ^ 32) two.0)) (address-words xs two.1)

ask-are-words : (ask : Ask) → are_names ask ≡ true → are_addresses ask ≡ true → list_all is_word (ask_words ask) ≡ true
ask-are-words ask names addresses =
    let texts = map text_of_name (names_asked ask) in
    let numbers = map address_text (addresses_in ask) in
    and_from (is_word (verb_of (kind_of ask))) (list_all is_word (texts ++ numbers)) (verb-word (kind_of ask))
    (list_all-append is_word texts numbers
    ∙ and_from (list_all is_word texts) (list_all is_word numbers) (all-weaker is_name_text is_word name-word texts names) (address-words (addresses_in ask) addresses))

-- the links of `without` in one word are read again
links-read : (l : List ℕ) (ls : List (List ℕ)) → list_all is_name_text (l ∷ ls) ≡ true → names_in (join_with_byte 44 (l ∷ ls)) ≡ Some (l ∷ ls)
links-read l ls names =
    let parted : slice_split is_comma (join_with_byte 44 (l ∷ ls)) ≡ l ∷ ls = split-joined is_comma 44 refl l ls (all-weaker is_name_text (none_pass is_comma) name-commas (l ∷ ls) names) in
    ap (λ (parts : List (List ℕ)). if list_all is_name_text parts then Some parts else None) parted
    ∙ ap (λ b. if b then Some (l ∷ ls) else None) names

without-asked : (l : List ℕ) (ls : List (List ℕ)) (ask : Ask) → IsAskedWithout (l ∷ ls) ask → asked_without (l ∷ ls) ask ≡ Some (record { without = l ∷ ls; ask = ask })
without-asked l ls (Path r a) is = refl
without-asked l ls (Reach r s) is = refl
without-asked l ls (Uses k) is = refl
without-asked l ls Loops is = refl
without-asked l ls (Blackholes r) is = refl
without-asked l ls (Waypoint r s w) is = refl
without-asked l ls Delta is = absurd (cc)

words-read : (links : List (List ℕ)) (ask : Ask) → IsWritable (record { without = links; ask = ask }) → query_in (query_words (record { without = links; ask = ask })) ≡ Some (record { without = links; ask = ask })
unfolding query_of
words-read [] ask is =
    ap (λ b. if b then without_of (after_verb ask) else option_map asked_alone (ask_of (verb_of (kind_of ask)) (after_verb ask))) (other-verb (kind_of ask))
    ∙ ap (λ (o : Option Ask). option_map asked_alone o) (ask-read ask is.names is.addresses)
words-read (l ∷ ls) ask is =
    ap (λ (o : Option (List (List ℕ))). asked_with o (ask_of (verb_of (kind_of ask)) (after_verb ask))) (links-read l ls is.links)
    ∙ ap (λ (o : Option Ask). asked_with (Some (l ∷ ls)) o) (ask-read ask is.names is.addresses)
    ∙ without-asked l ls ask is.without

query-are-words : (links : List (List ℕ)) (ask : Ask) → IsWritable (record { without = links; ask = ask }) → list_all is_word (query_words (record { without = links; ask = ask })) ≡ true
query-are-words [] ask is = ask-are-words ask is.names is.addresses
query-are-words (l ∷ ls) ask is =
    and_from (is_word (join_with_byte 44 (l ∷ ls))) (list_all is_word (ask_words ask))
    (joined-word 44 refl l ls (all-weaker is_name_text is_word name-word (l ∷ ls) is.links)) (ask-are-words ask is.names is.addresses)

-- a query that is written is read again
pub query-written : (q : Question) → IsWritable q → query_in (words_of (query_text q)) ≡ Some q
query-written q is = ap query_in (words-joined (query_words q) (query-are-words q.without q.ask is)) ∙ words-read q.without q.ask is

pub query-text : (line : List ℕ) (q : Question) → query_in (words_of line) ≡ Some q → query_text q ≡ join_with_byte 32 (words_of line)
query-text line q is = ap (join_with_byte 32) (query-printed (words_of line) q is)

pub ruleset printed_queries = query-written

pub ruleset read_queries = query-text
