-- The words of a query, joined by spaces.
use Rattle.std.proofs.Common.{◌≡◌, ◌≤◌, ◌-◌, ℕ, List, [], ◌∷◌, ◌++◌, Some, codes, length, map, unwrap_or, ap, sym, ◌∙◌, append_assoc, decimal, refl}
use Rattle.std.specs.List.{flat_map, join_with_byte, slice_get}
use Rattle.std.proofs.lemmas.List.{append-nil, get_or_append_left, get_or-append_right}
use Rattle.std.proofs.lemmas.Option.{slice_get_within, get_or_from_slice_get, unwrap_or-slice_get}
use Rattle.dn_model.specs.Query.{Question, names_asked, link_names, text_of_name}
use Rattle.dn_model.specs.declared.query.Ask.{Ask}
use Rattle.dn_model.specs.declared.query.Ask.TheVariants.{Path, Reach, Uses, Loops, Blackholes, Waypoint, Delta}
use Rattle.dn_formats.specs.Texts.{address_text}
use Rattle.dn_formats.specs.AnswerText.{name_at, name_texts}
use Rattle.dn_formats.specs.QueryWords.{addresses_in, ask_words, kind_of, verb_of}
use Rattle.query_lang.specs.Words.{word_after}

-- words before those of what is asked, each with a space after it
pub words-before : (links : List ℕ) (ask : Ask) → join_with_byte 32 ((codes "without" ∷ links ∷ []) ++ ask_words ask) ≡ codes "without " ++ (links ++ (32 ∷ join_with_byte 32 (ask_words ask)))
words-before links ask = refl

one-joined : (v r : List ℕ) → (((v ++ (32 ∷ r)) ++ []) ++ []) ++ [] ≡ v ++ (32 ∷ r)
one-joined v r = simp append-nil

path-joined : (v r a : List ℕ) → (((v ++ (32 ∷ r)) ++ []) ++ []) ++ ((32 ∷ a) ++ []) ≡ v ++ (32 ∷ (r ++ (32 ∷ a)))
path-joined v r a = simp (append-nil, append_assoc)

two-joined : (v r s : List ℕ) → (((v ++ (32 ∷ r)) ++ (32 ∷ s)) ++ []) ++ [] ≡ v ++ (32 ∷ (r ++ (32 ∷ s)))
two-joined v r s = simp (append-nil, append_assoc)

three-joined : (v r s w : List ℕ) → (((v ++ (32 ∷ r)) ++ (32 ∷ s)) ++ (32 ∷ w)) ++ [] ≡ v ++ (32 ∷ (r ++ (32 ∷ (s ++ (32 ∷ w)))))
three-joined v r s w = simp (append-nil, append_assoc)

-- the words of what is asked, added one after another
pub ask_joined : (ask : Ask) → ((((verb_of (kind_of ask) ++ word_after (slice_get (map text_of_name (names_asked ask)) 0)) ++ word_after (slice_get (map text_of_name (names_asked ask)) 1))
    ++ word_after (slice_get (map text_of_name (names_asked ask)) 2)) ++ flat_map (λ a. codes " " ++ address_text a) (addresses_in ask)) ≡ join_with_byte 32 (ask_words ask)
ask_joined (Path r a) = path-joined (codes "path") r (address_text a)
ask_joined (Reach r s) = two-joined (codes "reach") r s
ask_joined (Uses l) = one-joined (codes "uses") l
ask_joined Loops = refl
ask_joined (Blackholes r) = one-joined (codes "blackholes") r
ask_joined (Waypoint r s w) = three-joined (codes "waypoint") r s w
ask_joined Delta = refl

links-texts : (links : List (List ℕ)) (rest : List (List ℕ)) (ask : Ask) → map text_of_name (names_asked ask) ≡ rest → map text_of_name (link_names links ++ names_asked ask) ≡ links ++ rest
links-texts [] rest ask h = h
links-texts (l ∷ ls) rest ask h = ap (λ more. l ∷ more) (links-texts ls rest ask h)

-- the texts of a query's names are its links, and then the names in what is asked
pub name_texts-parts : (q : Question) → name_texts q ≡ q.without ++ map text_of_name (names_asked q.ask)
name_texts-parts q = links-texts q.without (map text_of_name (names_asked q.ask)) q.ask refl

-- the name at a place of a query is one of its links
pub name_at-link : (q : Question) (place : ℕ) (link : List ℕ) → slice_get q.without (place - 1) ≡ Some link → name_at q place ≡ link
name_at-link q place link h =
    ap (λ (names : List (List ℕ)). unwrap_or (slice_get names (place - 1)) []) (name_texts-parts q)
    ∙ unwrap_or-slice_get (q.without ++ map text_of_name (names_asked q.ask)) (place - 1) []
    ∙ get_or_append_left q.without (map text_of_name (names_asked q.ask)) [] (place - 1) (slice_get_within q.without (place - 1) link h)
    ∙ get_or_from_slice_get q.without (place - 1) link [] h

-- or else one of the names in what is asked
pub name_at-asked : (q : Question) (ask : Ask) (place at : ℕ) → length q.without ≤ place - 1 → at ≡ place - 1 - length q.without
    → ask ≡ q.ask → name_at q place ≡ unwrap_or (slice_get (map text_of_name (names_asked ask)) at) []
name_at-asked q ask place at h e f =
    ap (λ (names : List (List ℕ)). unwrap_or (slice_get names (place - 1)) []) (name_texts-parts q)
    ∙ unwrap_or-slice_get (q.without ++ map text_of_name (names_asked q.ask)) (place - 1) []
    ∙ get_or-append_right q.without (map text_of_name (names_asked q.ask)) (length q.without) (place - 1) [] refl h
    ∙ sym (unwrap_or-slice_get (map text_of_name (names_asked q.ask)) (place - 1 - length q.without) [])
    ∙ ap (λ n. unwrap_or (slice_get (map text_of_name (names_asked q.ask)) n) []) (sym e)
    ∙ ap (λ (a : Ask). unwrap_or (slice_get (map text_of_name (names_asked a)) at) []) (sym f)

-- a text that was added is another that is the same
pub same-added : (before after x y : List ℕ) → after ≡ before ++ x → y ≡ x → after ≡ before ++ y
same-added before after x y e f = e ∙ ap (λ (z : List ℕ). before ++ z) (sym f)

regroup : (o a b c d : List ℕ) → ((o ++ a) ++ b) ++ (c ++ d) ≡ o ++ (((a ++ b) ++ c) ++ d)
regroup o a b c d = simp append_assoc

-- the addresses that go round a cycle, added piece by piece
pub round-added : (before p q after : List ℕ) (least addresses : ℕ) → p ≡ before ++ codes " least " → q ≡ p ++ address_text least
    → after ≡ q ++ (codes " addresses " ++ decimal addresses)
    → after ≡ before ++ (codes " least " ++ address_text least ++ codes " addresses " ++ decimal addresses)
round-added before p q after least addresses is_p is_q is_after =
    is_after ∙ ap (λ (x : List ℕ). x ++ (codes " addresses " ++ decimal addresses)) (is_q ∙ ap (λ (x : List ℕ). x ++ address_text least) is_p)
    ∙ regroup before (codes " least ") (address_text least) (codes " addresses ") (decimal addresses)

pub ruleset query_words = words-before
