-- Queries that words ask.
use Rattle.std.specs.Prelude.{IfErr, IsErrAnd, Result, Ok, Err, option_map, option_and_then}
use Rattle.std.proofs.Common.{◌≡◌, ◌≢◌, ◌≤◌, ◌+◌, ℕ, Bool, true, false, Option, None, Some, List, [], ◌∷◌, ◌++◌, length, if◌then◌else◌, ◌&&◌, refl, arith, ap, subst, sym, ◌∙◌}
use Rattle.std.specs.List.{list_all, slice_split}
use Rattle.std.proofs.lemmas.List.{length-append, length-map}
use Rattle.std.proofs.lemmas.Option.{same_Some}
use Rattle.base.specs.Name.{is_name_text}
use Rattle.dn_model.specs.Query.{IsQuestion, IsAskedWithout, names_asked, link_names, LinkName}
use Rattle.dn_model.specs.declared.query.Ask.{Ask}
use Rattle.dn_model.specs.declared.query.Ask.TheVariants.{Path, Reach, Uses, Loops, Blackholes, Waypoint, Delta}
use Rattle.dn_formats.specs.Decimal.{address_of}
use Rattle.dn_formats.specs.QueryWords.{Operands, RouterThen, LinkThen, AddressThen, is_comma, names_in, read_as}
use Rattle.dn_formats.specs.ScriptText.{one_of, two_of}
use Rattle.query_lang.specs.Words.{address_first, name_first, IsUnread}
use Rattle.query_lang.specs.declared.query_line.Unread.{Unread}
use Rattle.query_lang.specs.declared.query_line.Unread.TheVariants.{NoQuery, OutOfMemory}

-- ---- words after a verb

-- a router or a link is due: the first word is its name
pub router-read : (next : List ℕ → Operands) (words rest : List (List ℕ)) (name : List ℕ) → name_first words ≡ Some (name, rest) → read_as (RouterThen next) words ≡ read_as (next name) rest
router-read next [] rest name is = absurd (cc)
router-read next (w ∷ ws) rest name is = by-name (is_name_text w) refl is
  where
    by-name : (b : Bool) → is_name_text w ≡ b → if◌then◌else◌ {A = Option (List ℕ × List (List ℕ))} b (Some (w, ws)) None ≡ Some (name, rest) → (if b then read_as (next w) ws else None) ≡ read_as (next name) rest
    by-name true e is = ap (λ (q : List ℕ × List (List ℕ)). read_as (next q.0) q.1) (same_Some {A = List ℕ × List (List ℕ)} (w, ws) (name, rest) is)
    by-name false e is = absurd (cc)

pub link-read : (next : List ℕ → Operands) (words rest : List (List ℕ)) (name : List ℕ) → name_first words ≡ Some (name, rest) → read_as (LinkThen next) words ≡ read_as (next name) rest
link-read next [] rest name is = absurd (cc)
link-read next (w ∷ ws) rest name is = router-read next (w ∷ ws) rest name is

pub router-unread : (next : List ℕ → Operands) (words : List (List ℕ)) (e : Unread) → IsUnread e (name_first words) → IsUnread e (read_as (RouterThen next) words)
router-unread next words OutOfMemory is = tt
router-unread next [] NoQuery is = refl
router-unread next (w ∷ ws) NoQuery is = by-name (is_name_text w) is
  where
    by-name : (b : Bool) → if◌then◌else◌ {A = Option (List ℕ × List (List ℕ))} b (Some (w, ws)) None ≡ None → (if b then read_as (next w) ws else None) ≡ None
    by-name true is = absurd (cc)
    by-name false is = refl

pub link-unread : (next : List ℕ → Operands) (words : List (List ℕ)) (e : Unread) → IsUnread e (name_first words) → IsUnread e (read_as (LinkThen next) words)
link-unread next words OutOfMemory is = tt
link-unread next [] NoQuery is = refl
link-unread next (w ∷ ws) NoQuery is = router-unread next (w ∷ ws) NoQuery is

-- an address is due
pub address-read : (next : ℕ → Operands) (words rest : List (List ℕ)) (a : ℕ) → address_first words ≡ Some (a, rest) → read_as (AddressThen next) words ≡ read_as (next a) rest
address-read next [] rest a is = absurd (cc)
address-read next (w ∷ ws) rest a is = by-address (address_of w) is
  where
    by-address : (o : Option ℕ) → option_map {U = ℕ × List (List ℕ)} (λ x. (x, ws)) o ≡ Some (a, rest) → option_and_then (λ x. read_as (next x) ws) o ≡ read_as (next a) rest
    by-address None is = absurd (cc)
    by-address (Some x) is = ap (λ (q : ℕ × List (List ℕ)). read_as (next q.0) q.1) (same_Some {A = ℕ × List (List ℕ)} (x, ws) (a, rest) is)

pub address-unread : (next : ℕ → Operands) (words : List (List ℕ)) (e : Unread) → IsUnread e (address_first words) → IsUnread e (read_as (AddressThen next) words)
address-unread next words OutOfMemory is = tt
address-unread next [] NoQuery is = refl
address-unread next (w ∷ ws) NoQuery is = by-address (address_of w) is
  where
    by-address : (o : Option ℕ) → option_map {U = ℕ × List (List ℕ)} (λ x. (x, ws)) o ≡ None → option_and_then (λ x. read_as (next x) ws) o ≡ None
    by-address None is = refl
    by-address (Some x) is = absurd (cc)

-- an error that is handed on says the same of what comes to the same
pub unread-again : (result : Result Ask Unread) (e : Unread) (found last : Option Ask) → found ≡ last → IsErrAnd result (λ d. d ≡ e) → IsUnread e last → IfErr result (λ d. IsUnread d found)
unread-again (Ok ask) e found last same is unread = absurd is
unread-again (Err d) e found last same is unread = subst (λ (x : Unread). IsUnread x found) (sym is) (subst (IsUnread e) (sym same) unread)

pub ruleset words_due = (router-read, link-read, address-read, router-unread, link-unread, address-unread)

-- `down` and `up` have one word after them
pub one_of-none : (ws : List (List ℕ)) → length ws ≢ 1 → one_of ws ≡ None
one_of-none [] h = refl
one_of-none (a ∷ []) h = absurd (h refl)
one_of-none (a ∷ b ∷ cs) h = refl

-- `take` has two words after it
pub two_of-none : (ws : List (List ℕ)) → length ws ≢ 2 → two_of ws ≡ None
two_of-none [] h = refl
two_of-none (a ∷ []) h = refl
two_of-none (a ∷ b ∷ []) h = absurd (h refl)
two_of-none (a ∷ b ∷ c ∷ ds) h = refl

-- ---- names parted by commas

-- names before others, if there are any
abbrev pub after_names : List (List ℕ) → Option (List (List ℕ)) → Option (List (List ℕ))
after_names front None = None
after_names front (Some names) = Some (front ++ names)

-- these parts, if each is a name
abbrev all_names : List (List ℕ) → Option (List (List ℕ))
all_names parts = if list_all is_name_text parts then Some parts else None

one-more : (first : List ℕ) (parts : List (List ℕ)) (b : Bool) → (if b then Some (first ∷ parts) else None) ≡ after_names (first ∷ []) (if b then Some parts else None)
one-more first parts true = refl
one-more first parts false = refl

-- a part of a word that is a name, before the other parts
pub names_in-first : (word first after : List ℕ) → slice_split is_comma word ≡ first ∷ slice_split is_comma after → is_name_text first ≡ true → names_in word ≡ after_names (first ∷ []) (names_in after)
names_in-first word first after e h =
    ap all_names e ∙ ap (λ b. if b && list_all is_name_text (slice_split is_comma after) then Some (first ∷ slice_split is_comma after) else None) h
    ∙ one-more first (slice_split is_comma after) (list_all is_name_text (slice_split is_comma after))

pub names_in-none : (word first : List ℕ) (more : List (List ℕ)) → slice_split is_comma word ≡ first ∷ more → is_name_text first ≡ false → names_in word ≡ None
names_in-none word first more e h =
    ap all_names e ∙ ap (λ b. if b && list_all is_name_text more then Some (first ∷ more) else None) h

pub names_in-last : (word : List ℕ) → slice_split is_comma word ≡ word ∷ [] → is_name_text word ≡ true → names_in word ≡ Some (word ∷ [])
names_in-last word e h = ap all_names e ∙ ap (λ b. if b && true then Some (word ∷ []) else None) h

-- ---- few names

few-asked : (ask : Ask) → length (names_asked ask) ≤ 3
few-asked (Path r a) = omega arith
few-asked (Reach r s) = omega arith
few-asked (Uses l) = omega arith
few-asked Loops = omega arith
few-asked (Blackholes r) = omega arith
few-asked (Waypoint r s w) = omega arith
few-asked Delta = omega arith

-- so few links and what is asked are a query, where it isn't `delta`
pub is-question : (links : List (List ℕ)) (ask : Ask) → length links ≤ 1025 → IsAskedWithout links ask → IsQuestion (record { without = links; ask = ask })
is-question links ask h asked =
    let few : length (names_asked ask) ≤ 3 = few-asked ask in
    let all : length (link_names links ++ names_asked ask) ≡ length (link_names links) + length (names_asked ask) = length-append (link_names links) (names_asked ask) in
    let same : length (link_names links) ≡ length links = length-map links (λ n. LinkName n) in
    record { few = omega arith; without = asked }

pub ruleset operands_missing = two_of-none

pub ruleset operand_missing = one_of-none
