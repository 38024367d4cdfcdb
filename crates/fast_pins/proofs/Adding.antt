-- The steps of a publisher keep the law of its book.
use Rattle.std.proofs.Common.{◌≡◌, ◌≢◌, ℕ, ◌<◌, ◌≤◌, true, false, List, [], ◌∷◌, ◌++◌, length, set, refl, ap, sym, ◌∙◌, subst, inl, ⊎_elim, arith, length-append, length-set, Some, None}
use Rattle.std.proofs.lemmas.List.{append-nil}
use mathlib.Core.List.{IsPrefix}
use mathlib.Core.Logic.{dite}
use native.Mathlib.Decide.{dec_le}
use prog.Atomic.{either}
use Rattle.std.specs.Prelude.{◌==◌}
use Rattle.logbook.specs.Pages.{Cell, cell, Nib, no_nib, may_write, Step, Moves, keeps, gives, adds}
use Rattle.dn_model.specs.declared.entry.Posted.{Posted}
use Rattle.fast_pins.specs.declared.issue.Issue.{Issue}
use Rattle.fast_pins.specs.Law.{IsHome, Follows, IsKept, line_in, next_in, topology_in, list_in, lists_of, issue_in, Arms, Begins, Adds, Looks}
use Rattle.fast_pins.proofs.Prefixes.{prefix_more, prefix_trans, prefix_shorter, prefix_whole, prefix_length, prefix_snoc}
use Rattle.fast_pins.proofs.Homes.{home_there, home_set, home_here, home_more}
use Rattle.fast_pins.proofs.Issues.{line_last, topology_last, list_last, lists_append, none_of}

abbrev pub shown : List Issue → List Issue
shown log = []

abbrev pub moved : List Issue → List Issue → ℕ → Type 0
moved xs ys n = Unit {0}

-- what an exchange of 0 for 0 makes of a word
abbrev pub exchanged : ℕ → ℕ
exchanged n = either (n == 0) 0 n

-- the law holds of an opened book
pub opens : IsKept ((0, true) ∷ (0, true) ∷ []) []
opens = record {
  some_cell = omega arith;
  first_cell = refl;
  begun = λ xs p some. absurd (let l = prefix_length xs [] p in omega arith);
  follows = λ xs ys p q some less. absurd (let l = prefix_length ys [] q in omega arith);
}

-- it stays where cells stay used up
kept_on : (cells cells' : List Cell) (log : List Issue) → ((key : ℕ) → IsHome cells key → IsHome cells' key) → IsKept cells log → IsKept cells' log
kept_on cells cells' log on k = record {
  some_cell = let l = home_there cells' 0 (on 0 k.first_cell) in omega arith;
  first_cell = on 0 k.first_cell;
  begun = λ xs p some. on (line_in xs) (k.begun xs p some);
  follows = λ xs ys p q some less is. let f = k.follows xs ys p q some less is in record { used = on (next_in xs) f.used; same = f.same; begins = f.begins };
}

-- ---- a right to write a new cell

pub arms : (seen : List Issue) (f : ℕ → ℕ) (s : Step Issue) → Moves IsKept shown moved 0 (seen, (no_nib, None)) f (Arms s (seen, (no_nib, None)))
arms seen f s cs log k pre away =
    let more : List Cell = (0, false) ∷ [] in
    let first : List Cell = set cs 0 (f (cell cs 0).0, true) in
    let kept : IsKept (first ++ more) log = kept_on cs (first ++ more) log (λ key h. home_more first more key (home_set cs 0 key (f (cell cs 0).0) h)) k in (
      k.some_cell,
      k.first_cell,
      (adds, [], None, tt, subst (IsKept (first ++ more)) (sym (append-nil log)) kept, inl (refl, refl), refl),
    )

-- ---- an issue joins a log

module _ (cs : List Cell) (log : List Issue) (k : IsKept cs log) (n v key : ℕ) (e : Issue) (there : key < length cs) where
  abbrev cells_after_it : List Cell
  cells_after_it = set (set cs 0 (n, true)) key (v, true)

  on : (other : ℕ) → IsHome cs other → IsHome cells_after_it other
  on other h = home_set (set cs 0 (n, true)) key other v (home_set cs 0 other n h)

  used_up : IsHome cells_after_it key
  used_up = home_here (set cs 0 (n, true)) key v (subst (λ (m : ℕ). key < m) (sym (length-set cs 0 (n, true))) there)

  -- the law stays where its line was begun, and it follows each issue of the line
  joins : IsHome cells_after_it e.line → ((xs : List Issue) → IsPrefix xs log → 0 < length xs → line_in xs ≡ e.line → Follows cells_after_it xs (log ++ e ∷ [])) → IsKept cells_after_it (log ++ e ∷ [])
  joins begun after = record {
    some_cell = let l = home_there cells_after_it 0 (on 0 k.first_cell) in omega arith;
    first_cell = on 0 k.first_cell;
    begun = λ xs p some. ⊎_elim (λ (q : IsPrefix xs log). on (line_in xs) (k.begun xs q some))
        (λ (is : xs ≡ log ++ e ∷ []). subst (IsHome cells_after_it) (sym (ap line_in is ∙ line_last log e)) begun) (prefix_snoc xs log e p);
    follows = λ xs ys p q some less is. ⊎_elim
        (λ (r : IsPrefix ys log). let f = k.follows xs ys p r some less is in record { used = on (next_in xs) f.used; same = f.same; begins = f.begins })
        (λ (whole : ys ≡ log ++ e ∷ []).
        let short : length xs ≤ length log = let l = ap length whole ∙ length-append log (e ∷ []) in omega arith in
        let r : IsPrefix xs log = prefix_shorter xs log (log ++ e ∷ []) (subst (IsPrefix xs) whole p) (prefix_more log (e ∷ [])) short in
        subst (Follows cells_after_it xs) (sym whole) (after xs r some (is ∙ (ap line_in whole ∙ line_last log e)))) (prefix_snoc ys log e q);
  }

-- ---- a line begins

-- a right that is not used up began no line
fresh : (cs : List Cell) (log : List Issue) (key : ℕ) → IsKept cs log → (cell cs key).1 ≡ false → (xs : List Issue) → IsPrefix xs log → 0 < length xs → line_in xs ≢ key
fresh cs log key k free xs p some is = let h : IsHome cs key = subst (IsHome cs) is (k.begun xs p some) in absurd (cc (h, free))

pub begins : (p : Nib) (f : ℕ → ℕ) (s : Step Issue) → p.right ≡ may_write → Moves IsKept shown moved 0 ([], (p, None)) f (Begins s ([], (p, None)))
begins p f s right cs log k pre away =
    let at = away right in
    let e : Issue = issue_in p.key s.ask.next s.ask in
    let n : ℕ = f (cell cs 0).0 in
    let none = fresh cs log p.key k at.1 in
    let law = joins cs log k n p.value p.key e at.0 (used_up cs log k n p.value p.key e at.0) (λ xs q some is. absurd (none xs q some is)) in (
      k.some_cell,
      k.first_cell,
      (gives, e ∷ [], None, right, law, inl (refl, refl), (log, refl, none_of p.key [] log none)),
    )

-- ---- a line goes on

module _ (cs : List Cell) (log seen : List Issue) (key : ℕ) (k : IsKept cs log) (pre : IsPrefix seen log) (some_seen : 0 < length seen) (is_key : key ≡ next_in seen) (free : (cell cs key).1 ≡ false) where
  -- no later issue is of the line whose last one was seen
  apart : (xs : List Issue) → IsPrefix xs log → length seen < length xs → line_in xs ≢ line_in seen
  apart xs p less is =
      let first : IsPrefix seen xs = prefix_shorter seen xs log pre p (omega arith) in
      let f = k.follows seen xs first p some_seen less (sym is) in
      let h : IsHome cs key = subst (IsHome cs) (sym is_key) f.used in absurd (cc (h, free))

  -- the lists of the line are those that were seen
  all_seen : lists_of (line_in seen) log ≡ lists_of (line_in seen) seen
  all_seen =
      let rest = pre.0 in
      let nothing : lists_of (line_in seen) rest ≡ [] = none_of (line_in seen) seen rest (λ zs p some.
      let q : IsPrefix (seen ++ zs) log = (p.0, append_assoc' seen zs p.0 ∙ (ap (λ (l : List Issue). seen ++ l) p.1 ∙ pre.1)) in
      apart (seen ++ zs) q (let l = length-append seen zs in omega arith)) in
      ap (lists_of (line_in seen)) (sym pre.1) ∙ (lists_append (line_in seen) seen rest ∙ (ap (λ (l : List (List Posted)). lists_of (line_in seen) seen ++ l) nothing ∙ append-nil (lists_of (line_in seen) seen)))
    where
      append_assoc' : (xs ys zs : List Issue) → (xs ++ ys) ++ zs ≡ xs ++ (ys ++ zs)
      append_assoc' [] ys zs = refl
      append_assoc' (x ∷ xs) ys zs = ap (λ (l : List Issue). x ∷ l) (append_assoc' xs ys zs)

pub goes_on : (seen : List Issue) (p : Nib) (f : ℕ → ℕ) (s : Step Issue) → p.right ≡ may_write → p.key ≡ next_in seen → 0 < length seen
    → topology_in seen ≡ Some s.ask.topology → IsPrefix (list_in seen) s.ask.list → Moves IsKept shown moved 0 (seen, (p, None)) f (Adds s (seen, (p, None)))
goes_on seen p f s right is_key some_seen same begun cs log k pre away =
    let at = away right in
    let e : Issue = issue_in (line_in seen) s.ask.next s.ask in
    let n : ℕ = f (cell cs 0).0 in
    let up = used_up cs log k n p.value p.key e at.0 in
    let last : topology_in (log ++ e ∷ []) ≡ Some s.ask.topology = topology_last log e in
    let later = apart cs log seen p.key k pre some_seen is_key at.1 in
    let cells : List Cell = set (set cs 0 (n, true)) p.key (p.value, true) in
    let after : (xs : List Issue) → IsPrefix xs log → 0 < length xs → line_in xs ≡ line_in seen → Follows cells xs (log ++ e ∷ []) = λ xs q some is.
    dite (dec_le (length xs) (length seen))
    (λ le. let r : IsPrefix xs seen = prefix_shorter xs seen log q pre le in
    dite (dec_le (length seen) (length xs))
    (λ ge. let it : xs ≡ seen = prefix_whole xs seen r ge in record {
      used = subst (IsHome cells) (is_key ∙ ap next_in (sym it)) up;
      same = ap topology_in it ∙ (same ∙ sym last);
      begins = subst₂' (list_in seen) (list_in xs) s.ask.list (list_in (log ++ e ∷ [])) (ap list_in (sym it)) (sym (list_last log e)) begun;
    })
    (λ short. let g = k.follows xs seen r pre some (omega arith) is in record {
      used = on cs log k n p.value p.key e at.0 (next_in xs) g.used;
      same = g.same ∙ (same ∙ sym last);
      begins = subst (IsPrefix (list_in xs)) (sym (list_last log e)) (prefix_trans (list_in xs) (list_in seen) s.ask.list g.begins begun);
    }))
    (λ long. absurd (later xs q (omega arith) is)) in
    let law = joins cs log k n p.value p.key e at.0 (on cs log k n p.value p.key e at.0 (line_in seen) (k.begun seen pre some_seen)) after in (
      k.some_cell,
      k.first_cell,
      (gives, e ∷ [], None, right, law, inl (refl, refl), (log, refl, all_seen cs log seen p.key k pre some_seen is_key at.1)),
    )
  where
    subst₂' : (a a' b b' : List Posted) → a ≡ a' → b ≡ b' → IsPrefix a b → IsPrefix a' b'
    subst₂' a a' b b' e f q = subst (IsPrefix a') f (subst (λ (l : List Posted). IsPrefix l b) e q)

-- ---- a look

pub looks : (seen : List Issue) (p : Nib) (f : ℕ → ℕ) (s : Step Issue) → p.right ≡ may_write → Moves IsKept shown moved 0 (seen, (p, None)) f (Looks s (seen, (p, None)))
looks seen p f s right cs log k pre away =
    let at = away right in
    let first : List Cell = set cs 0 (f (cell cs 0).0, true) in
    let kept : IsKept first log = kept_on cs first log (λ key h. home_set cs 0 key (f (cell cs 0).0) h) k in
    let all : List Issue = log ++ [] in
    let same : all ≡ log = append-nil log in
    let lists : (xs : List Issue) → IsPrefix xs seen → 0 < length xs → p.key ≡ next_in xs → lists_of (line_in xs) all ≡ lists_of (line_in xs) xs = λ xs q some is_key.
    ap (lists_of (line_in xs)) same ∙ all_seen cs log xs p.key k (prefix_trans xs seen log q pre) some is_key at.1 in (
      k.some_cell,
      k.first_cell,
      (keeps, [], None, tt, subst (IsKept first) (sym same) kept, inl (refl, refl), (refl, lists)),
    )
