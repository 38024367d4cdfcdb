-- The stretches of changes.
use Rattle.std.proofs.Common.{◌≡◌, ℕ, zero, suc, ◌+◌, ◌<◌, ◌≤◌, ◌∙◌, true, List, [], ◌∷◌, ◌++◌, length, get_or, ap, sym, subst, inl, inr, ⊎_elim, arith}
use Rattle.std.specs.Prelude.{Contains}
use Rattle.std.proofs.lemmas.List.{get_or_default}
use Rattle.std.specs.List.Sorted.{IsPermutation}
use Rattle.std.proofs.lemmas.Bool.{cases_eq, false≢true, or_cases, or_left}
use Rattle.std.proofs.lemmas.List.Elements.{Contains-append_left, Contains-push, Contains-push_cases}
use Rattle.std.proofs.lemmas.List.Sorted.{Contains-permutation, IsPermutation-sym}
use Rattle.base.specs.Delta.{IsChange}
use Rattle.base.specs.Forwarding.{AreForwarding, does}
use Rattle.base.specs.declared.change.Change.{Change}
use Rattle.base.specs.declared.forwarding_row.ForwardingRow.{ForwardingRow}
use Rattle.loop_keeper.specs.Finding.{FindsMore, TellsAfter}
use Rattle.loop_keeper.specs.Looks.{meets, meets_some}
use Rattle.loop_keeper.specs.Places.{AreMet}
use Rattle.loop_keeper.specs.Starts.{DoesSo, IsStartOf, start_of}
use Rattle.loop_keeper.specs.Together.{AddsStretch, AreStretches, IsItsStretch, IsServed, IsStretch}
use Rattle.loop_keeper.specs.declared.found.Found.{Found}
use Rattle.loop_keeper.specs.declared.following.Start.{Start}
use Rattle.loop_keeper.specs.declared.stretch.Stretch.{Stretch}
use Rattle.loop_keeper.proofs.Along.{met-each, meets-at}
use Rattle.loop_keeper.proofs.Starting.{does-after}

-- ---- one more

pub adds-none : (n : ℕ) (rows : List ForwardingRow) (c : Change) (old : List Stretch) → (TellsAfter (does rows) c → (found : List Found) → FindsMore (does rows) (c ∷ []) found found) → AddsStretch n rows c old old
adds-none n rows c old none = record { each = λ s h. inl h; kept = λ s h. h; served = inr none }

its-stretch : (n : ℕ) (rows : List ForwardingRow) (c : Change) (last : ℕ) (s : Stretch) → AreForwarding n rows → IsStartOf n (start_of c) → IsChange c → AreMet rows c s.first last → s.past ≡ last + 1 → s.start ≡ start_of c → IsStretch n rows (c ∷ []) s
its-stretch n rows c last s form start is met past same = record {
  form = form;
  inside = let l : last < length rows = met.inside in omega arith;
  meets = λ k d f b. or_left (meets c (get_or rows k d)) (meets_some [] (get_or rows k d)) (met-each n rows c s.first last k d form met f (omega arith));
  start = let P : Start → Type 0 = λ v. IsStartOf n v in subst P (sym same) start;
  does_so = λ tells k f b.
      let P : Start → Type 0 = λ v. DoesSo rows v k in
      subst P (sym same) (does-after n rows c s.first last form met.inside met.from met.to met.low is (tells 0 c (omega arith)) k f (omega arith));
}

pub adds-one : (n : ℕ) (rows : List ForwardingRow) (c : Change) (last : ℕ) (s : Stretch) (old new : List Stretch) → AreForwarding n rows → IsStartOf n (start_of c) → IsChange c → AreMet rows c s.first last → s.past ≡ last + 1 → s.start ≡ start_of c → new ≡ old ++ s ∷ [] → AddsStretch n rows c old new
adds-one n rows c last s old new form start is met past same e =
    let P : List Stretch → Type 0 = λ v. AddsStretch n rows c old v in
    subst P (sym e) (record {
      each = λ x h. ⊎_elim
          (λ (o : Contains old x). inl o)
          (λ (o : s ≡ x). let Q : Stretch → Type 0 = λ v. IsStretch n rows (c ∷ []) v in inr (subst Q o (its-stretch n rows c last s form start is met past same)))
          (Contains-push_cases old s x h);
      kept = λ x h. Contains-append_left old (s ∷ []) x h;
      served = inl (s, Contains-push old s, record { last = last; met = met; past = past; start = same });
    })

-- ---- change after change

of-all : (n : ℕ) (rows : List ForwardingRow) (cs : List Change) (k : ℕ) (d : Change) (s : Stretch) → k < length cs → IsStretch n rows (get_or cs k d ∷ []) s → IsStretch n rows cs s
of-all n rows cs k d s l h = record {
  form = h.form;
  inside = h.inside;
  meets = λ i row f b. meets-at cs k d (get_or rows i row) l (only (get_or cs k d) (get_or rows i row) (h.meets i row f b));
  start = h.start;
  does_so = λ tells i f b. h.does_so (λ j e m. its (get_or cs k d) j e m (tells k d l)) i f b;
}
  where
    only : (c : Change) (row : ForwardingRow) → meets_some (c ∷ []) row ≡ true → meets c row ≡ true
    only c row m = ⊎_elim (λ (x : meets c row ≡ true). x) (λ (x : meets_some [] row ≡ true). absurd (false≢true x)) (or_cases (meets c row) (meets_some [] row) m)

    its : (c : Change) (j : ℕ) (e : Change) → j < 1 → TellsAfter (does rows) c → TellsAfter (does rows) (get_or (c ∷ []) j e)
    its c zero e m h = h
    its c (suc j) e m h = absurd (omega arith)

served-still : (rows : List ForwardingRow) (c : Change) (old new : List Stretch) → ((s : Stretch) → Contains old s → Contains new s) → IsServed rows old c → IsServed rows new c
served-still rows c old new kept h = ⊎_elim
    (λ (x : (s : Stretch) × Contains old s × IsItsStretch rows c s). inl (x.0, kept x.0 x.1, x.2))
    (λ (x : TellsAfter (does rows) c → (found : List Found) → FindsMore (does rows) (c ∷ []) found found). inr x)
    h

-- the stretches of the first so many changes
pub record AreFirst (n : ℕ) (rows : List ForwardingRow) (cs : List Change) (count : ℕ) (stretches : List Stretch) : Type 0 where
  pub each : (s : Stretch) → Contains stretches s → IsStretch n rows cs s
  pub all : (k : ℕ) (d : Change) → k < count → k < length cs → IsServed rows stretches (get_or cs k d)

pub first-none : (n : ℕ) (rows : List ForwardingRow) (cs : List Change) (stretches : List Stretch) → stretches ≡ [] → AreFirst n rows cs 0 stretches
first-none n rows cs stretches e =
    let P : List Stretch → Type 0 = λ v. AreFirst n rows cs 0 v in
    subst P (sym e) (record {
      each = λ s h. let l : h.0 < 0 = h.1 in absurd (omega arith);
      all = λ k d b l. absurd (omega arith);
    })

pub first-next : (n : ℕ) (rows : List ForwardingRow) (cs : List Change) (k : ℕ) (d : Change) (old new : List Stretch) → k < length cs → AreFirst n rows cs k old → AddsStretch n rows (get_or cs k d) old new → AreFirst n rows cs (k + 1) new
first-next n rows cs k d old new l h add = record {
  each = λ s m. ⊎_elim
      (λ (x : Contains old s). h.each s x)
      (λ (x : IsStretch n rows (get_or cs k d ∷ []) s). of-all n rows cs k d s l x)
      (add.each s m);
  all = λ j e b m. ⊎_elim
      (λ (x : j ≡ k). let P : Change → Type 0 = λ v. IsServed rows new v in subst P (here j e x l) add.served)
      (λ (x : j ≡ k → ⊥). served-still rows (get_or cs j e) old new add.kept (h.all j e (omega arith) m))
      (cases_eq j k);
}
  where
    here : (j : ℕ) (e : Change) → j ≡ k → k < length cs → get_or cs k d ≡ get_or cs j e
    here j e x m = get_or_default cs k d e m ∙ ap (λ (v : ℕ). get_or cs v e) (sym x)

pub first-all : (n : ℕ) (rows : List ForwardingRow) (cs : List Change) (count : ℕ) (stretches : List Stretch) → length cs ≤ count → AreFirst n rows cs count stretches → AreStretches n rows cs stretches
first-all n rows cs count stretches l h = record { each = h.each; all = λ k d b. h.all k d (omega arith) b }

-- ---- in another order

pub sorted-stretches : (n : ℕ) (rows : List ForwardingRow) (cs : List Change) (old new : List Stretch) → IsPermutation old new → AreStretches n rows cs old → AreStretches n rows cs new
sorted-stretches n rows cs old new p h = record {
  each = λ s m. h.each s (Contains-permutation new old s (IsPermutation-sym old new p) m);
  all = λ k d b. served-still rows (get_or cs k d) old new (λ s m. Contains-permutation old new s p m) (h.all k d b);
}
