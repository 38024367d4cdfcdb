-- The runs of changes taken out of kept cycles.
use Rattle.std.proofs.Common.{◌≡◌, ℕ, zero, suc, ◌+◌, ◌-◌, ◌<◌, ◌≤◌, ◌∙◌, Bool, true, false, ◌&&◌, ◌||◌, nat_le, List, [], ◌∷◌, ◌++◌, length, get_or, take, refl, ap, ap₂, sym, subst, ⊎_elim, arith}
use Rattle.std.specs.Prelude.{Contains}
use Rattle.std.proofs.lemmas.Bool.{and_from, and_parts, and_right, both_ways, cases_Bool, cases_lt, false≢true, leb-true}
use Rattle.std.proofs.lemmas.List.{take_more}
use Rattle.base.specs.Delta.{AreChanges, IsChange}
use Rattle.base.specs.Runs.{holds}
use Rattle.base.specs.declared.change.Change.{Change}
use Rattle.base.specs.declared.ids.RouterId.{RouterId}
use Rattle.base.proofs.RunsOnce.{holds-in}
use Rattle.loop_check.specs.Following.{is_among}
use Rattle.loop_keeper.specs.Edits.{AreChangedWithin, AreTakenOut, Brings}
use Rattle.loop_keeper.specs.Finding.{is_touched, touches}
use Rattle.loop_keeper.specs.Kept.{AreSegments, HasKept, IsAt, Kept}
use Rattle.loop_keeper.specs.declared.segment.Edit.TheVariants.{Without}
use Rattle.loop_keeper.proofs.Segments.{low_of, rise-le, side-from, some_kept}
use Rattle.version_pages.specs.Search.{EndsBelow}

or-none : (x : Bool) → (x || false) ≡ x
or-none true = refl
or-none false = refl

-- ---- out of the segments of a run

-- an address is touched, if the run has it and the router is among these
not-touched : (c : Change) (rs : List RouterId) (a : ℕ) → (c.run.lo ≤ a → a ≤ c.run.hi → is_among rs c.router ≡ false) → is_touched (c ∷ []) rs a ≡ false
not-touched c rs a h = or-none (touches rs a c) ∙ ⊎_elim
    (λ (t : holds a c.run ≡ true).
    let p : (nat_le c.run.lo a ≡ true) × (nat_le a c.run.hi ≡ true) = and_parts (nat_le c.run.lo a) (nat_le a c.run.hi) t in
    ap (λ (x : Bool). x && holds a c.run) (h (leb-true c.run.lo a p.0) (leb-true a c.run.hi p.1)))
    (λ (f : holds a c.run ≡ false). and_right (is_among rs c.router) (holds a c.run) f)
    (cases_Bool (holds a c.run))

not-among : (c : Change) (rs : List RouterId) (a : ℕ) → is_touched (c ∷ []) rs a ≡ false → c.run.lo ≤ a → a ≤ c.run.hi → is_among rs c.router ≡ false
not-among c rs a h f t = ⊎_elim
    (λ (x : is_among rs c.router ≡ true). absurd (both_ways (touches rs a c) (sym (or-none (touches rs a c)) ∙ h) (and_from (is_among rs c.router) (holds a c.run) x (holds-in a c.run f t))))
    (λ (x : is_among rs c.router ≡ false). x)
    (cases_Bool (is_among rs c.router))

pub out-within : (c : Change) (past : ℕ) (old new : List Kept) → past ≡ c.run.hi + 1 → AreChangedWithin (Without c.router) c.run.lo past old new → AreTakenOut (c ∷ []) old new
out-within c past old new e h = record {
  form = h.form;
  only = λ rs a b has. ⊎_elim
      (λ (o : HasKept old rs a × (c.run.lo ≤ a → a < past → is_among rs c.router ≡ false)). (o.0, not-touched c rs a (λ f t. o.1 f (omega arith))))
      (λ (o : Brings (Without c.router) rs × (c.run.lo ≤ a) × (a < past)). absurd o.0)
      (h.only rs a b has);
  kept = λ rs a b has t. h.kept rs a b has (λ f u. not-among c rs a t f (omega arith));
}

pub out-unmet : (c : Change) (old : List Kept) (n end : ℕ) → EndsBelow low_of old (c.run.lo + 1) n → EndsBelow low_of old (c.run.hi + 1) end → ((k : ℕ) (d : Kept) (rs : List RouterId) → n - 1 ≤ k → k < end → k < length old → Contains (get_or old k d).cycles rs → is_among rs c.router ≡ false) → AreSegments old → AreTakenOut (c ∷ []) old old
out-unmet c old n end from to none form = record {
  form = form;
  only = λ rs a b has.
      let is : IsAt old has.place a = has.at in
      let inside : has.place < length old = is.inside in (
        has,
        not-touched c rs a (λ f t.
            let first : n - 1 ≤ has.place = ⊎_elim
            (λ (x : has.place < n - 1).
            let bound : n ≤ length old = from.inside in
            let last : (get_or old (n - 1) some_kept).low < c.run.lo + 1 = from.before some_kept (omega arith) in
            let rise : (get_or old (has.place + 1) some_kept).low ≤ (get_or old (n - 1) some_kept).low = rise-le old (has.place + 1) (n - 1) some_kept form (omega arith) (omega arith) in
            let next : a < (get_or old (has.place + 1) some_kept).low = is.to some_kept (omega arith) in
            absurd (omega arith))
            (λ (x : n - 1 ≤ has.place). x)
            (cases_lt has.place (n - 1)) in
            let last : has.place < end = ⊎_elim
            (λ (x : has.place < end). x)
            (λ (x : end ≤ has.place). let y : c.run.hi + 1 ≤ a = side-from old (c.run.hi + 1) end has.place a form to x is in absurd (omega arith))
            (cases_lt has.place end) in
            none has.place some_kept rs first last inside (has.among some_kept)),
      );
  kept = λ rs a b has t. has;
}

-- ---- for each change

or-group : (x y z : Bool) → (x || (y || z)) ≡ ((x || y) || z)
or-group true y z = refl
or-group false y z = refl

pub touched-append : (cs ds : List Change) (rs : List RouterId) (a : ℕ) → is_touched (cs ++ ds) rs a ≡ (is_touched cs rs a || is_touched ds rs a)
touched-append [] ds rs a = refl
touched-append (c ∷ cs) ds rs a = ap (λ (x : Bool). touches rs a c || x) (touched-append cs ds rs a) ∙ or-group (touches rs a c) (is_touched cs rs a) (is_touched ds rs a)

pub out-none : (old : List Kept) → AreSegments old → AreTakenOut [] old old
out-none old form = record { form = form; only = λ rs a b has. (has, refl); kept = λ rs a b has t. has }

-- where nothing is kept nothing is taken out
pub out-empty : (changes : List Change) (old : List Kept) → length old ≡ 0 → AreSegments old → AreTakenOut changes old old
out-empty changes old none form = record {
  form = form;
  only = λ rs a b has. let inside : has.place < length old = has.at.inside in absurd (omega arith);
  kept = λ rs a b has t. has;
}

or-false : (x y : Bool) → (x || y) ≡ false → (x ≡ false) × (y ≡ false)
or-false true y h = absurd (false≢true (sym h))
or-false false y h = (refl, h)

pub out-then : (cs ds : List Change) (old now new : List Kept) → AreTakenOut cs old now → AreTakenOut ds now new → AreTakenOut (cs ++ ds) old new
out-then cs ds old now new x y = record {
  form = y.form;
  only = λ rs a b has.
      let q = y.only rs a b has in
      let p = x.only rs a b q.0 in
      (p.0, touched-append cs ds rs a ∙ ap₂ (λ (u : Bool). λ (v : Bool). u || v) p.1 q.1);
  kept = λ rs a b has t.
      let p : (is_touched cs rs a ≡ false) × (is_touched ds rs a ≡ false) = or-false (is_touched cs rs a) (is_touched ds rs a) (sym (touched-append cs ds rs a) ∙ t) in
      y.kept rs a b (x.kept rs a b has p.0) p.1;
}

-- ---- change after change

pub each-change : (cs : List Change) (k : ℕ) (d : Change) → AreChanges cs → k < length cs → IsChange (get_or cs k d)
each-change [] k d h l = absurd (omega arith)
each-change (x ∷ cs) zero d h l = h.0
each-change (x ∷ cs) (suc k) d h l = each-change cs k d h.2 (omega arith)

pub out-next : (cs : List Change) (k : ℕ) (d : Change) (old now new : List Kept) → k < length cs → AreTakenOut (take k cs) old now → AreTakenOut (get_or cs k d ∷ []) now new → AreTakenOut (take (k + 1) cs) old new
out-next cs k d old now new l x y =
    let P : List Change → Type 0 = λ v. AreTakenOut v old new in
    subst P (sym (take_more cs k d l)) (out-then (take k cs) (get_or cs k d ∷ []) old now new x y)
