-- What was found put beside what is kept.
use Rattle.std.proofs.Common.{◌≡◌, ℕ, ◌<◌, ◌≤◌, ◌∙◌, List, [], ◌∷◌, ◌++◌, length, get_or, refl, ap, sym, subst, inl, inr, ⊎_elim, arith}
use Rattle.std.specs.Prelude.{Contains}
use Rattle.std.proofs.lemmas.List.Elements.{Contains-append_left, Contains-push, Contains-push_cases}
use Rattle.base.specs.declared.ids.RouterId.{RouterId}
use Rattle.loop_keeper.specs.Edits.{AreChangedWithin, ArePutIn, Keeps}
use Rattle.loop_keeper.specs.Finding.{HasFound}
use Rattle.loop_keeper.specs.Kept.{AreSegments, HasKept, Kept}
use Rattle.loop_keeper.specs.declared.found.Found.{Found}
use Rattle.loop_keeper.specs.declared.segment.Edit.TheVariants.{With}

-- nothing put in
pub put-nothing : (found : List Found) (old : List Kept) → length found ≡ 0 → AreSegments old → ArePutIn found old old
put-nothing found old e form = record {
  form = form;
  only = λ rs a b has. inl has;
  kept = λ rs a b has. has;
  here = λ rs a b h. let i : Contains found h.one = h.among in let l : i.0 < length found = i.1 in absurd (omega arith);
}

single : (one x : Found) → Contains (one ∷ []) x → one ≡ x
single one x i =
    let l : i.0 < 1 = i.1 in
    let z : i.0 ≡ 0 = omega arith in
    sym (ap (λ (n : ℕ). get_or (one ∷ []) n x) z) ∙ i.2

here-single : (one x : Found) → one ≡ x → Contains (one ∷ []) x
here-single one x e = (0, (omega arith), e)

found-left : (xs : List Found) (one : Found) (rs : List RouterId) (a : ℕ) → HasFound xs rs a → HasFound (xs ++ one ∷ []) rs a
found-left xs one rs a h = record { one = h.one; among = Contains-append_left xs (one ∷ []) h.one h.among; is = h.is; from = h.from; to = h.to }

found-last : (xs : List Found) (one : Found) (rs : List RouterId) (a : ℕ) → HasFound (one ∷ []) rs a → HasFound (xs ++ one ∷ []) rs a
found-last xs one rs a h =
    let P : Found → Type 0 = λ v. Contains (xs ++ one ∷ []) v in
    let i : Contains (one ∷ []) h.one = h.among in
    let same : one ≡ h.one = single one h.one i in
    record { one = h.one; among = subst P same (Contains-push xs one); is = h.is; from = h.from; to = h.to }

-- the last one put in, then the others
pub put-then : (xs : List Found) (one : Found) (old now new : List Kept) → ArePutIn (one ∷ []) old now → ArePutIn xs now new → ArePutIn (xs ++ one ∷ []) old new
put-then xs one old now new x y = record {
  form = y.form;
  only = λ rs a b has. ⊎_elim
      (λ (k : HasKept now rs a). ⊎_elim
      (λ (o : HasKept old rs a). inl o)
      (λ (f : HasFound (one ∷ []) rs a). inr (found-last xs one rs a f))
      (x.only rs a b k))
      (λ (f : HasFound xs rs a). inr (found-left xs one rs a f))
      (y.only rs a b has);
  kept = λ rs a b has. y.kept rs a b (x.kept rs a b has);
  here = λ rs a b h. ⊎_elim
      (λ (i : Contains xs h.one). y.here rs a b (record { one = h.one; among = i; is = h.is; from = h.from; to = h.to }))
      (λ (e : one ≡ h.one). y.kept rs a b (x.here rs a b (record { one = h.one; among = here-single one h.one e; is = h.is; from = h.from; to = h.to })))
      (Contains-push_cases xs one h.one h.among);
}

-- ---- one put in

its-bounds : (one : Found) (rs : List RouterId) (a : ℕ) → HasFound (one ∷ []) rs a → (one.routers ≡ rs) × (one.low ≤ a) × (a < one.past)
its-bounds one rs a h =
    let R : Found → Type 0 = λ v. (v.routers ≡ rs) × (v.low ≤ a) × (a < v.past) in
    subst R (sym (single one h.one h.among)) (h.is, h.from, h.to)

pub put-within : (one : Found) (old new : List Kept) → AreChangedWithin (With one.routers) one.low one.past old new → ArePutIn (one ∷ []) old new
put-within one old new h = record {
  form = h.form;
  only = λ rs a b has. ⊎_elim
      (λ (o : HasKept old rs a × (one.low ≤ a → a < one.past → Keeps (With one.routers) rs)). inl o.0)
      (λ (o : (one.routers ≡ rs) × (one.low ≤ a) × (a < one.past)). inr (record { one = one; among = here-single one one refl; is = o.0; from = o.1; to = o.2 }))
      (h.only rs a b has);
  kept = λ rs a b has. h.kept rs a b has (λ f t. tt);
  here = λ rs a b f.
      let its : (one.routers ≡ rs) × (one.low ≤ a) × (a < one.past) = its-bounds one rs a f in
      h.here rs a b its.0 its.1 its.2;
}
