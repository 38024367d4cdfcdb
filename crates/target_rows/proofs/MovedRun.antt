-- What routers do where one of them does something else with atoms that stand side by side.
use Rattle.std.proofs.Common.{◌≡◌, ◌≢◌, ℕ, ◌+◌, ◌-◌, ◌<◌, ◌≤◌, List, [], length, map, take, drop, get_or, set, ap, sym, ⊎_elim, ◌∙◌, arith, get_or-set_other, get_or-set_same}
use Rattle.std.proofs.lemmas.Bool.{cases_lt}
use Rattle.std.proofs.lemmas.List.{get_or-drop, get_or-map, get_or-take, get_or_default, length-drop, length-map, length-set, length-take-le, same_lists, set-get_or}
use Rattle.base.specs.declared.target.Target.{Target}
use Rattle.base.specs.declared.target.Target.TheVariants.{NoRoute}
use Rattle.target_rows.specs.Labels.{Labels, moved_run, target_at, targets_of}
use Rattle.target_rows.proofs.Patched.{patched-before, patched-behind, patched-here, patched-long}

module _ (g : Labels) (r first past : ℕ) (after : Target) (order : first ≤ past) (inside : past ≤ length g.rows) where
  -- the rows that change, as they are and as they come to be
  abbrev old-part : List (List Target)
  old-part = take (past - first) (drop first g.rows)

  abbrev new-part : List (List Target)
  new-part = map (λ targets. set targets r after) (take (past - first) (drop first g.rows))

  old-long : length old-part ≡ past - first
  old-long = length-take-le (past - first) (drop first g.rows) (omega (arith, length-drop first g.rows))

  new-long : length new-part ≡ past - first
  new-long = length-map (take (past - first) (drop first g.rows)) (λ targets. set targets r after) ∙ old-long

  -- as many atoms
  pub moved_run-long : length (moved_run g r first past after).rows ≡ length g.rows
  moved_run-long = patched-long g.rows new-part first past order inside new-long

  -- at another place all routers do what they did
  pub moved_run-away : (k : ℕ) → (first ≤ k → k < past → ⊥) → targets_of (moved_run g r first past after) k ≡ targets_of g k
  moved_run-away k away = ⊎_elim
      (λ (l : k < first). patched-before g.rows new-part first past order inside new-long k [] l)
      (λ (l : first ≤ k).
      ⊎_elim
      (λ (m : k < past). absurd (away l m))
      (λ (m : past ≤ k). patched-behind g.rows new-part first past order inside new-long k [] m)
      (cases_lt k past))
      (cases_lt k first)

  -- at one of these places the one router alone does something else
  pub moved_run-row : (k : ℕ) → first ≤ k → k < past → targets_of (moved_run g r first past after) k ≡ set (targets_of g k) r after
  moved_run-row k low high =
      let back : first + (k - first) ≡ k = omega arith in
      patched-here g.rows new-part first past order inside new-long k [] low high
      ∙ get_or-map (λ targets. set targets r after) old-part (k - first) [] [] (omega (arith, old-long))
      ∙ ap (λ row. set row r after) (get_or-take (past - first) (drop first g.rows) (k - first) [] (omega arith) ∙ get_or-drop first g.rows (k - first) [] ∙ ap (λ i. get_or g.rows i []) back)

  pub moved_run-here : (k : ℕ) → first ≤ k → k < past → r < length (targets_of g k) → target_at (moved_run g r first past after) r k ≡ after
  moved_run-here k low high wide = ap (λ row. get_or row r NoRoute) (moved_run-row k low high) ∙ get_or-set_same (targets_of g k) r after NoRoute wide

  -- every other router does what it did
  pub moved_run-others : (q k : ℕ) → q ≢ r → target_at (moved_run g r first past after) q k ≡ target_at g q k
  moved_run-others q k ne = ⊎_elim
      (λ (l : k < first). same (λ m o. omega arith))
      (λ (l : first ≤ k).
      ⊎_elim
      (λ (m : k < past). ap (λ row. get_or row q NoRoute) (moved_run-row k l m) ∙ get_or-set_other (targets_of g k) r q after NoRoute ne)
      (λ (m : past ≤ k). same (λ n o. omega arith))
      (cases_lt k past))
      (cases_lt k first)
    where
      same : (first ≤ k → k < past → ⊥) → target_at (moved_run g r first past after) q k ≡ target_at g q k
      same away = ap (λ row. get_or row q NoRoute) (moved_run-away k away)

  -- each row is as long as before
  pub moved_run-wide : (k : ℕ) → length (targets_of (moved_run g r first past after) k) ≡ length (targets_of g k)
  moved_run-wide k = ⊎_elim
      (λ (l : k < first). ap length (moved_run-away k (λ m o. omega arith)))
      (λ (l : first ≤ k).
      ⊎_elim
      (λ (m : k < past). ap length (moved_run-row k l m) ∙ length-set (targets_of g k) r after)
      (λ (m : past ≤ k). ap length (moved_run-away k (λ n o. omega arith)))
      (cases_lt k past))
      (cases_lt k first)

  -- where the router does this already, each row stays
  pub moved_run-same : ((k : ℕ) → first ≤ k → k < past → target_at g r k ≡ after) → (moved_run g r first past after).rows ≡ g.rows
  moved_run-same does = same_lists (moved_run g r first past after).rows g.rows moved_run-long (λ k d l.
      let lk : k < length g.rows = omega (arith, moved_run-long) in
      get_or_default (moved_run g r first past after).rows k d [] l ∙ each k ∙ get_or_default g.rows k [] d lk)
    where
      each : (k : ℕ) → targets_of (moved_run g r first past after) k ≡ targets_of g k
      each k = ⊎_elim
          (λ (l : k < first). moved_run-away k (λ m o. omega arith))
          (λ (l : first ≤ k).
          ⊎_elim
          (λ (m : k < past). moved_run-row k l m ∙ ap (set (targets_of g k) r) (sym (does k l m)) ∙ set-get_or (targets_of g k) r NoRoute)
          (λ (m : past ≤ k). moved_run-away k (λ n o. omega arith))
          (cases_lt k past))
          (cases_lt k first)
