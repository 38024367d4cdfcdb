-- One step of a walk over slots, as the code takes it.
use Rattle.std.proofs.Common.{◌≡◌, ◌≢◌, ℕ, ◌+◌, ◌<◌, ◌≤◌, ◌∙◌, true, false, List, [], ◌∷◌, ◌++◌, length, get_or, take, drop, ap, sym, subst, arith}
use Rattle.std.proofs.lemmas.List.{length-append, take-append-drop}
use Rattle.std.proofs.lemmas.List.Sums.{fold-append, fold_more}
use Rattle.base.specs.declared.run.Run.{Run}
use Rattle.route_table.specs.Along.{Along, along, along_slot, gap, is_passed_over, past_of}
use Rattle.route_table.specs.Slots.{AreSlots, PrefixRoutes}
use Rattle.route_table.proofs.Along.{along-ended, begun-are, begun_from, below-passed, empty-passed, gone, gone-over, slot-gone, slot-passed}

module _ (past : ℕ) (from : Along) (slots : List PrefixRoutes) (i : ℕ) (s : PrefixRoutes) (l : i < length slots) (here : s ≡ get_or slots i s) where
  abbrev before : Along
  before = along past from (take i slots)

  abbrev after : Along
  after = along past from (take (i + 1) slots)

  more : after ≡ along_slot past before s
  more = fold_more (along_slot past) from slots i s l ∙ ap (λ x. along_slot past before x) (sym here)

  more-passed : is_passed_over past before.at s ≡ true → after ≡ before
  more-passed h = more ∙ slot-passed past before s h

  more-gone : is_passed_over past before.at s ≡ false → after ≡ gone before s
  more-gone h = more ∙ slot-gone past before s h

  pub passed-below : (at base : ℕ) → base ≡ s.prefix.base → base < at → at ≡ before.at → after ≡ before
  passed-below at base b lt a = more-passed (below-passed past before.at s (omega arith))

  pub passed-empty : s.targets ≡ [] → after ≡ before
  passed-empty e = more-passed (empty-passed past before.at s e)

  over : (at base : ℕ) → base ≡ s.prefix.base → base < past → at ≤ base → s.targets ≢ [] → at ≡ before.at → after ≡ gone before s
  over at base b lp la n a = more-gone (gone-over past before.at s (omega arith) (omega arith) n)

  pub gone-at : (at base next : ℕ) → base ≡ s.prefix.base → base < past → at ≤ base → s.targets ≢ [] → at ≡ before.at → next ≡ past_of s → next ≡ after.at
  gone-at at base next b lp la n a is = is ∙ sym (ap (λ (v : Along). v.at) (over at base b lp la n a))

  pub gone-runs : (at base : ℕ) (runs added : List Run) → base ≡ s.prefix.base → base < past → at ≤ base → s.targets ≢ [] → at ≡ before.at → runs ≡ before.runs → added ≡ runs ++ gap at base → added ≡ after.runs
  gone-runs at base runs added b lp la n a r is =
      is
      ∙ ap (λ rs. rs ++ gap at base) r
      ∙ ap (λ k. before.runs ++ gap k base) a
      ∙ ap (λ k. before.runs ++ gap before.at k) b
      ∙ sym (ap (λ (v : Along). v.runs) (over at base b lp la n a))

  pub gone-few : (at base was now : ℕ) → base ≡ s.prefix.base → base < past → at ≤ base → s.targets ≢ [] → at ≡ before.at → now ≤ was + length before.begun + 1 → now ≤ was + length after.begun
  gone-few at base was now b lp la n a few =
      let e : length after.begun ≡ length before.begun + 1 = ap (λ (v : Along). length v.begun) (over at base b lp la n a) ∙ length-append before.begun (s.prefix.base ∷ []) in
      omega arith

  pub ended : (base : ℕ) → AreSlots slots → base ≡ s.prefix.base → past ≤ base → along past from slots ≡ before
  ended base h b e = along-ended past from slots i s h l (subst (λ (x : PrefixRoutes). past ≤ x.prefix.base) here (omega arith))

-- no walk over some of the slots goes past more than over all
pub few-more : (past : ℕ) (from : Along) (slots : List PrefixRoutes) (i : ℕ) → length (along past from (take i slots)).begun ≤ length (along past from slots).begun
few-more past from slots i =
    let before : Along = along past from (take i slots) in
    let all : along past from slots ≡ along past before (drop i slots) = ap (λ xs. along past from xs) (sym (take-append-drop i slots)) ∙ fold-append (along_slot past) from (take i slots) (drop i slots) in
    let e : length (along past from slots).begun ≡ length before.begun + length (begun_from past before.at (drop i slots)) =
    ap (λ (v : Along). length v.begun) all ∙ ap length (begun-are past before (drop i slots)) ∙ length-append before.begun (begun_from past before.at (drop i slots)) in
    omega arith
