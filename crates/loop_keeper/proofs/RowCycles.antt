-- All cycles of rows.
use Rattle.std.proofs.Common.{◌≡◌, ℕ, ◌+◌, ◌<◌, ◌≤◌, ◌^◌, ◌∙◌, true, List, ◌++◌, length, get_or, map, refl, sym, subst, ⊎_elim, arith}
use Rattle.std.specs.Prelude.{Contains}
use Rattle.std.proofs.lemmas.Bool.{cases_eq}
use Rattle.std.proofs.lemmas.List.Elements.{Contains-append_cases, Contains-append_left, Contains-append_right}
use Rattle.base.specs.Cycles.{is_cycle}
use Rattle.base.specs.Forwarding.{AreForwarding, row_low, row_past, target_of}
use Rattle.base.specs.declared.forwarding_row.ForwardingRow.{ForwardingRow}
use Rattle.base.specs.declared.ids.RouterId.{RouterId}
use Rattle.base.proofs.Covers.{high-at}
use Rattle.base.proofs.Elements.{contains-map, map-contains}
use Rattle.label_view.proofs.InRow.{some_row}
use Rattle.loop_check.specs.RowCycles.{AreCyclesAt}
use Rattle.loop_keeper.specs.Together.{FindsIn, FindsWithin}
use Rattle.loop_keeper.specs.Whole.{found_between}
use Rattle.loop_keeper.specs.declared.found.Found.{Found}
use Rattle.loop_keeper.proofs.Meeting.{row-cycle}

-- ---- one row

pub finds-in : (n : ℕ) (rows : List ForwardingRow) (i low past : ℕ) (cycles : List (List RouterId)) (old new : List Found) → AreForwarding n rows → i < length rows → AreCyclesAt rows i cycles → ((d : ForwardingRow) → low ≡ (get_or rows i d).low) → ((d : ForwardingRow) → past ≡ (get_or rows i d).past) → new ≡ old ++ map (found_between low past) cycles → FindsIn rows i old new
finds-in n rows i low past cycles old new form l are begins ends e =
    let P : List Found → Type 0 = λ v. FindsIn rows i old v in
    let lo : low ≡ (get_or rows i some_row).low = begins some_row in
    let hi : past ≡ (get_or rows i some_row).past = ends some_row in
    let o : (get_or rows i some_row).past ≤ 2 ^ 32 = high-at row_low row_past 0 rows i some_row form.cover l in
    let bound : past ≤ 2 ^ 32 = omega arith in
    subst P (sym e) (record {
      sound = λ before rs a h. ⊎_elim
          (λ (j : Contains old h.one). before rs a (record { one = h.one; among = j; is = h.is; from = h.from; to = h.to }))
          (λ (j : Contains (map (found_between low past) cycles) h.one).
          let its = contains-map (found_between low past) cycles h.one j in
          let R : Found → Type 0 = λ v. (v.routers ≡ rs) × (v.low ≤ a) × (a < v.past) in
          let at : (its.0 ≡ rs) × (low ≤ a) × (a < past) = subst R (sym its.2) (h.is, h.from, h.to) in
          let f : low ≤ a = at.1 in
          let t : a < past = at.2 in
          let C : List RouterId → Type 0 = λ v. is_cycle (target_of (get_or rows i some_row)) v ≡ true in
          let cycle : is_cycle (target_of (get_or rows i some_row)) rs ≡ true = subst C at.0 ((are some_row).each its.0 its.1) in
          let b : a < 2 ^ 32 = omega arith in
          (b, row-cycle n rows i some_row a rs form l (omega arith) (omega arith) ∙ cycle))
          (Contains-append_cases old (map (found_between low past) cycles) h.one h.among);
      inside = λ before x j. ⊎_elim
          (λ (k : Contains old x). before x k)
          (λ (k : Contains (map (found_between low past) cycles) x).
          let its = contains-map (found_between low past) cycles x k in
          let B : Found → Type 0 = λ v. v.past ≤ 2 ^ 32 in
          subst B its.2 bound)
          (Contains-append_cases old (map (found_between low past) cycles) x j);
      kept = λ rs a h. record { one = h.one; among = Contains-append_left old (map (found_between low past) cycles) h.one h.among; is = h.is; from = h.from; to = h.to };
      found = λ router d rs a from to goes m.
          let x : low ≡ (get_or rows i d).low = begins d in
          let y : past ≡ (get_or rows i d).past = ends d in
          let cycle : is_cycle (target_of (get_or rows i d)) rs ≡ true = sym (row-cycle n rows i d a rs form l from to) ∙ goes in
          record { one = found_between low past rs; among = Contains-append_right old (map (found_between low past) cycles) (found_between low past rs) (map-contains (found_between low past) cycles rs ((are d).all rs cycle)); is = refl; from = omega arith; to = omega arith };
    })

-- ---- row after row

pub within-start : (rows : List ForwardingRow) (i : ℕ) (found : List Found) → FindsWithin rows i i found found
within-start rows i found = record {
  sound = λ h. h;
  inside = λ h. h;
  kept = λ rs a h. h;
  found = λ k router from to d rs a lo hi goes m. absurd (omega arith);
}

pub within-next : (rows : List ForwardingRow) (first i : ℕ) (old now new : List Found) → FindsWithin rows first i old now → FindsIn rows i now new → FindsWithin rows first (i + 1) old new
within-next rows first i old now new h at = record {
  sound = λ b. at.sound (h.sound b);
  inside = λ b. at.inside (h.inside b);
  kept = λ rs a b. at.kept rs a (h.kept rs a b);
  found = λ k router from to d rs a lo hi goes m. ⊎_elim
      (λ (same : k ≡ i).
      let L : ℕ → Type 0 = λ v. (get_or rows v d).low ≤ a in
      let H : ℕ → Type 0 = λ v. a < (get_or rows v d).past in
      at.found router d rs a (subst L same lo) (subst H same hi) goes m)
      (λ (other : k ≡ i → ⊥).
      let b : k < i = omega arith in
      at.kept rs a (h.found k router from b d rs a lo hi goes m))
      (cases_eq k i);
}
