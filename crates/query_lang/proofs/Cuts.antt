-- Texts cut at the first byte of a kind.
use Rattle.std.proofs.Common.{◌≡◌, ◌<◌, ◌≤◌, ℕ, ◌+◌, Bool, true, false, List, [], ◌∷◌, length, drop, get_or, position, nat_lt, cond, filter, unwrap_or, Some, None, refl, sym, ◌∙◌, ap, arith}
use Rattle.std.specs.List.{position_or_len, slice_split, before_first, after_first}
use Rattle.std.proofs.lemmas.Bool.{ltb-false, ltb-true}
use Rattle.std.proofs.lemmas.List.{take_all, drop_all, nil_from_length, length-take}
use Rattle.std.proofs.lemmas.List.Sums.{prefix_len-le-length, fails_before_first, passes_at_first}
use Rattle.std.proofs.lemmas.List.Splits.{slice_split_first, slice_split_none, slice_split-cons_yes, length-slice_split}
use Rattle.dn_formats.specs.ScriptText.{is_gap, is_line_feed, words_of, lines_of, has_bytes, without_empty_end}

end_at : (b : Bool) (n len : ℕ) → nat_lt n len ≡ b → n ≤ len → unwrap_or (cond b (Some n) None) len ≡ n
end_at true n len e h = refl
end_at false n len e h = omega (arith, ltb-false n len e)

-- the first place that passes, or the length
pub unwrap_or-position : (p : ℕ → Bool) (xs : List ℕ) → unwrap_or (position p xs) (length xs) ≡ position_or_len p xs
unwrap_or-position p xs = end_at (nat_lt (position_or_len p xs) (length xs)) (position_or_len p xs) (length xs) refl (prefix_len-le-length _ xs)

-- the parts of a list in which none passes
pub slice_split_whole : (p : ℕ → Bool) (xs : List ℕ) → length xs ≤ position_or_len p xs → slice_split p xs ≡ xs ∷ []
slice_split_whole p xs h = slice_split_none p xs (λ k d l. fails_before_first p xs k d (omega arith))

pub slice_split_more : (p : ℕ → Bool) (xs : List ℕ) → position_or_len p xs < length xs → slice_split p xs ≡ before_first p xs ∷ slice_split p (after_first p xs)
slice_split_more p xs h = slice_split_first p xs 0 h

has_bytes-length : (w : List ℕ) → 0 < length w → has_bytes w ≡ true
has_bytes-length [] h = absurd (omega arith)
has_bytes-length (b ∷ bs) h = refl

ends_later : (l : List ℕ) (ls : List (List ℕ)) → 0 < length ls → without_empty_end (l ∷ ls) ≡ l ∷ without_empty_end ls
ends_later l [] h = absurd (omega arith)
ends_later l (m ∷ ms) h = refl

ends_here : (l : List ℕ) → has_bytes l ≡ true → without_empty_end (l ∷ []) ≡ l ∷ []
ends_here l e = rw e refl

lines_cut : (xs : List ℕ) → position_or_len is_line_feed xs < length xs → lines_of xs ≡ before_first is_line_feed xs ∷ lines_of (after_first is_line_feed xs)
lines_cut xs h =
    ap without_empty_end (slice_split_more is_line_feed xs h)
    ∙ ends_later (before_first is_line_feed xs) (slice_split is_line_feed (after_first is_line_feed xs))
    (omega (arith, length-slice_split is_line_feed (after_first is_line_feed xs)))

one_line : (xs ys zs : List ℕ) → ys ≡ xs → zs ≡ [] → xs ∷ [] ≡ ys ∷ lines_of zs
one_line xs ys zs e f = rw (e, f) refl

lines_whole : (xs : List ℕ) → 0 < length xs → length xs ≤ position_or_len is_line_feed xs → lines_of xs ≡ before_first is_line_feed xs ∷ lines_of (after_first is_line_feed xs)
lines_whole xs h l =
    ap without_empty_end (slice_split_whole is_line_feed xs l) ∙ ends_here xs (has_bytes-length xs h)
    ∙ one_line xs (before_first is_line_feed xs) (after_first is_line_feed xs) (take_all (position_or_len is_line_feed xs) xs l)
    (drop_all (position_or_len is_line_feed xs + 1) xs (omega arith))

lines_either : (xs : List ℕ) (b : Bool) → nat_lt (position_or_len is_line_feed xs) (length xs) ≡ b → 0 < length xs → lines_of xs ≡ before_first is_line_feed xs ∷ lines_of (after_first is_line_feed xs)
lines_either xs true e h = lines_cut xs (ltb-true _ _ e)
lines_either xs false e h = lines_whole xs h (ltb-false _ _ e)

-- the first line, and the lines after it
pub lines_of-first : (xs : List ℕ) → 0 < length xs → lines_of xs ≡ before_first is_line_feed xs ∷ lines_of (after_first is_line_feed xs)
lines_of-first xs h = lines_either xs (nat_lt (position_or_len is_line_feed xs) (length xs)) refl h

-- a gap at the front parts no word
pub words_of-gap : (xs : List ℕ) → 0 < length xs → is_gap (get_or xs 0 0) ≡ true → words_of (drop 1 xs) ≡ words_of xs
words_of-gap [] h g = absurd (omega arith)
words_of-gap (b ∷ bs) h g = sym (ap (filter has_bytes) (slice_split-cons_yes is_gap b bs g))

keeps : (w : List ℕ) (ws : List (List ℕ)) → has_bytes w ≡ true → filter has_bytes (w ∷ ws) ≡ w ∷ filter has_bytes ws
keeps w ws e = rw e refl

not_both : (b : Bool) → b ≡ true → b ≡ false → ⊥
not_both b e f = cc

gap_first : (xs : List ℕ) (n : ℕ) → is_gap (get_or xs n 0) ≡ true → n ≡ 0 → is_gap (get_or xs 0 0) ≡ true
gap_first xs n g e = ap (λ k. is_gap (get_or xs k 0)) (sym e) ∙ g

first_gap_later : (xs : List ℕ) → 0 < length xs → is_gap (get_or xs 0 0) ≡ false → position_or_len is_gap xs ≡ 0 → ⊥
first_gap_later xs h g e =
    not_both _ (gap_first xs (position_or_len is_gap xs) (passes_at_first is_gap xs 0 (omega arith)) e) g

words_cut : (xs : List ℕ) → position_or_len is_gap xs < length xs → 0 < position_or_len is_gap xs → words_of xs ≡ before_first is_gap xs ∷ words_of (after_first is_gap xs)
words_cut xs h l =
    ap (filter has_bytes) (slice_split_more is_gap xs h)
    ∙ keeps (before_first is_gap xs) (slice_split is_gap (after_first is_gap xs))
    (has_bytes-length (before_first is_gap xs) (omega (arith, length-take (position_or_len is_gap xs) xs)))

one_word : (xs ys zs : List ℕ) → ys ≡ xs → zs ≡ [] → xs ∷ [] ≡ ys ∷ words_of zs
one_word xs ys zs e f = rw (e, f) refl

words_whole : (xs : List ℕ) → 0 < length xs → length xs ≤ position_or_len is_gap xs → words_of xs ≡ before_first is_gap xs ∷ words_of (after_first is_gap xs)
words_whole xs h l =
    ap (filter has_bytes) (slice_split_whole is_gap xs l) ∙ keeps xs [] (has_bytes-length xs h)
    ∙ one_word xs (before_first is_gap xs) (after_first is_gap xs) (take_all (position_or_len is_gap xs) xs l)
    (drop_all (position_or_len is_gap xs + 1) xs (omega arith))

words_either : (xs : List ℕ) (b : Bool) → nat_lt (position_or_len is_gap xs) (length xs) ≡ b → 0 < length xs → 0 < position_or_len is_gap xs → words_of xs ≡ before_first is_gap xs ∷ words_of (after_first is_gap xs)
words_either xs true e h l = words_cut xs (ltb-true _ _ e) l
words_either xs false e h l = words_whole xs h (ltb-false _ _ e)

-- the first word of a line that begins with one, and the words after it
pub words_of-first : (xs : List ℕ) → 0 < length xs → is_gap (get_or xs 0 0) ≡ false → words_of xs ≡ before_first is_gap xs ∷ words_of (after_first is_gap xs)
words_of-first xs h g =
    words_either xs (nat_lt (position_or_len is_gap xs) (length xs)) refl h (omega (arith, first_gap_later xs h g))

pub words_of-empty : (xs ys : List ℕ) → words_of ys ≡ words_of xs → length ys ≡ 0 → words_of xs ≡ []
words_of-empty xs ys e h = sym e ∙ ap words_of (nil_from_length ys h)

pub ruleset place_or_length = unwrap_or-position
