-- A part of a list in the place of another of the same length.
use Rattle.std.proofs.Common.{◌≡◌, ℕ, ◌+◌, ◌-◌, ◌<◌, ◌≤◌, List, ◌++◌, length, take, drop, get_or, ap, ◌∙◌, arith, length-append}
use Rattle.std.proofs.lemmas.List.{get_or-append_right, get_or-drop, get_or-take, get_or_append_left, length-drop, length-take-le}

module _ {X : Type 0} (xs mid : List X) (first past : ℕ) (order : first ≤ past) (inside : past ≤ length xs) (fits : length mid ≡ past - first) where
  front-long : length (take first xs) ≡ first
  front-long = length-take-le first xs (omega arith)

  pub patched-long : length (take first xs ++ (mid ++ drop past xs)) ≡ length xs
  patched-long = omega (arith, length-append (take first xs) (mid ++ drop past xs), length-append mid (drop past xs), length-drop past xs, front-long, fits)

  pub patched-before : (k : ℕ) (d : X) → k < first → get_or (take first xs ++ (mid ++ drop past xs)) k d ≡ get_or xs k d
  patched-before k d l = get_or_append_left (take first xs) (mid ++ drop past xs) d k (omega (arith, front-long)) ∙ get_or-take first xs k d l

  pub patched-here : (k : ℕ) (d : X) → first ≤ k → k < past → get_or (take first xs ++ (mid ++ drop past xs)) k d ≡ get_or mid (k - first) d
  patched-here k d low high =
      get_or-append_right (take first xs) (mid ++ drop past xs) first k d front-long low
      ∙ get_or_append_left mid (drop past xs) d (k - first) (omega (arith, fits))

  pub patched-behind : (k : ℕ) (d : X) → past ≤ k → get_or (take first xs ++ (mid ++ drop past xs)) k d ≡ get_or xs k d
  patched-behind k d low =
      let back : past + (k - first - (past - first)) ≡ k = omega arith in
      get_or-append_right (take first xs) (mid ++ drop past xs) first k d front-long (omega arith)
      ∙ get_or-append_right mid (drop past xs) (past - first) (k - first) d fits (omega arith)
      ∙ get_or-drop past xs (k - first - (past - first)) d
      ∙ ap (λ i. get_or xs i d) back
