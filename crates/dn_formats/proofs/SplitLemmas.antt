-- Parts joined by a byte and parted there again.
use Rattle.std.proofs.Common.{◌≡◌, ◌<◌, ◌≤◌, ℕ, Bool, true, false, List, [], ◌∷◌, ◌++◌, ◌&&◌, not, filter, refl, sym, ◌∙◌, ap, arith, length}
use Rattle.std.specs.List.{All, join_with_byte, list_all, slice_split}
use Rattle.std.proofs.lemmas.Bool.{and_from, and_parts}
use Rattle.std.proofs.lemmas.Bool.Decides.{nat_tests}
use Rattle.std.proofs.lemmas.List.Folds.{list_all-append}
use Rattle.std.proofs.lemmas.List.Elements.{All-nil, All-cons}
use Rattle.std.proofs.lemmas.List.Splits.{slice_split_at, slice_split_none}
use Rattle.dn_formats.specs.ScriptText.{has_bytes, is_gap, words_of}

-- bytes of which none passes
abbrev pub none_pass : (ℕ → Bool) → List ℕ → Bool
none_pass p part = list_all (λ b. not (p b)) part

not-passing : (b : Bool) → not b ≡ true → b ≡ false
not-passing true h = sym h
not-passing false h = refl

none-pass : (p : ℕ → Bool) (part : List ℕ) → none_pass p part ≡ true → All (λ b. p b ≡ false) part
none-pass p [] h = All-nil (λ b. p b ≡ false)
none-pass p (b ∷ bs) h =
    let two = and_parts (not (p b)) (none_pass p bs) h in
    All-cons (λ b. p b ≡ false) b bs (not-passing (p b) two.0) (none-pass p bs two.1)

-- where none of a part's bytes parts, the joined parts are parted again
pub split-joined : (p : ℕ → Bool) (c : ℕ) → p c ≡ true → (part : List ℕ) (parts : List (List ℕ)) → list_all (none_pass p) (part ∷ parts) ≡ true → slice_split p (join_with_byte c (part ∷ parts)) ≡ part ∷ parts
split-joined p c parted part [] h = slice_split_none p part (none-pass p part (and_parts (none_pass p part) true h).0)
split-joined p c parted part (next ∷ parts) h =
    let two = and_parts (none_pass p part) (list_all (none_pass p) (next ∷ parts)) h in
    slice_split_at p part c (join_with_byte c (next ∷ parts)) (none-pass p part two.0) parted
    ∙ ap (λ more. part ∷ more) (split-joined p c parted next parts two.1)

-- a word has bytes, and no gap
abbrev pub is_word : List ℕ → Bool
is_word word = has_bytes word && none_pass is_gap word

-- a byte above the space is no gap
pub no-gap : (b : ℕ) → 33 ≤ b → not (is_gap b) ≡ true
no-gap b above = let other : is_gap b ≡ false = grind (arith, nat_tests) in ap not other

pub some-bytes : (word : List ℕ) → 0 < length word → has_bytes word ≡ true
some-bytes [] some = absurd (omega arith)
some-bytes (b ∷ bs) some = refl

pub all-weaker : {X : Type 0} (p q : X → Bool) → ((x : X) → p x ≡ true → q x ≡ true) → (xs : List X) → list_all p xs ≡ true → list_all q xs ≡ true
all-weaker p q h [] all = refl
all-weaker p q h (x ∷ xs) all =
    let two = and_parts (p x) (list_all p xs) all in
    and_from (q x) (list_all q xs) (h x two.0) (all-weaker p q h xs two.1)

longer : (word more : List ℕ) → has_bytes word ≡ true → has_bytes (word ++ more) ≡ true
longer [] more h = absurd (cc)
longer (b ∷ bs) more h = refl

joined-gaps : (c : ℕ) → not (is_gap c) ≡ true → (part : List ℕ) (parts : List (List ℕ)) → list_all is_word (part ∷ parts) ≡ true → none_pass is_gap (join_with_byte c (part ∷ parts)) ≡ true
joined-gaps c other part [] h = (and_parts (has_bytes part) (none_pass is_gap part) (and_parts (is_word part) true h).0).1
joined-gaps c other part (next ∷ parts) h =
    let two = and_parts (is_word part) (list_all is_word (next ∷ parts)) h in
    list_all-append (λ b. not (is_gap b)) part (c ∷ join_with_byte c (next ∷ parts))
    ∙ and_from (none_pass is_gap part) (none_pass is_gap (c ∷ join_with_byte c (next ∷ parts))) (and_parts (has_bytes part) (none_pass is_gap part) two.0).1
    (and_from (not (is_gap c)) (none_pass is_gap (join_with_byte c (next ∷ parts))) other (joined-gaps c other next parts two.1))

joined-bytes : (c : ℕ) (part : List ℕ) (parts : List (List ℕ)) → has_bytes part ≡ true → has_bytes (join_with_byte c (part ∷ parts)) ≡ true
joined-bytes c part [] h = h
joined-bytes c part (next ∷ parts) h = longer part (c ∷ join_with_byte c (next ∷ parts)) h

-- words joined by a byte that is no gap are one word
pub joined-word : (c : ℕ) → not (is_gap c) ≡ true → (part : List ℕ) (parts : List (List ℕ)) → list_all is_word (part ∷ parts) ≡ true → is_word (join_with_byte c (part ∷ parts)) ≡ true
joined-word c other part parts h =
    and_from (has_bytes (join_with_byte c (part ∷ parts))) (none_pass is_gap (join_with_byte c (part ∷ parts)))
    (joined-bytes c part parts (and_parts (has_bytes part) (none_pass is_gap part) (and_parts (is_word part) (list_all is_word parts) h).0).0)
    (joined-gaps c other part parts h)

kept : (word : List ℕ) (words : List (List ℕ)) → has_bytes word ≡ true → filter has_bytes (word ∷ words) ≡ word ∷ filter has_bytes words
kept word words e = rw e refl

all-kept : (words : List (List ℕ)) → list_all is_word words ≡ true → filter has_bytes words ≡ words
all-kept [] h = refl
all-kept (word ∷ words) h =
    let two = and_parts (is_word word) (list_all is_word words) h in
    kept word words (and_parts (has_bytes word) (none_pass is_gap word) two.0).0 ∙ ap (λ more. word ∷ more) (all-kept words two.1)

no-gaps : (words : List (List ℕ)) → list_all is_word words ≡ true → list_all (none_pass is_gap) words ≡ true
no-gaps [] h = refl
no-gaps (word ∷ words) h =
    let two = and_parts (is_word word) (list_all is_word words) h in
    rw ((and_parts (has_bytes word) (none_pass is_gap word) two.0).1, no-gaps words two.1) refl

-- words joined by one space are the words of the line
pub words-joined : (words : List (List ℕ)) → list_all is_word words ≡ true → words_of (join_with_byte 32 words) ≡ words
words-joined [] h = refl
words-joined (word ∷ words) h =
    ap (filter has_bytes) (split-joined is_gap 32 refl word words (no-gaps (word ∷ words) h)) ∙ all-kept (word ∷ words) h
