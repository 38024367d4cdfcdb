-- What is done by the routes of one prefix, after a setting.
use Rattle.std.proofs.Common.{◌≡◌, ◌<◌, ◌≤◌, ◌+◌, ℕ, suc, Option, Result, Ok, Err, OnOk, OnErr, IfSome, is_ok, if◌then◌else◌, List, [], ◌∷◌, ◌++◌, refl, ap, sym, subst, ◌∙◌, get_or, length, set, take, drop, arith}
use Rattle.std.specs.List.{Contains, insert}
use Rattle.std.specs.List.Sorted.{IsPermutation}
use Rattle.base.proofs.Elements.{contains-here}
use Rattle.dn_model.specs.declared.way.Way.{Way}
use Rattle.route_table.specs.declared.metric_way.MetricWay.{MetricWay}
use Rattle.route_table.specs.Targets.{metric_of, with_target, without_metric}
use Rattle.route_table.specs.Ascending.{AscendsFrom, IsFound, IsGap}
use Rattle.route_table.proofs.Places.{ascends-filter, ascends-insert, ascends-set, first-least, others-drop, others-insert, others-set}

abbrev pub entry : ℕ → Way → MetricWay
entry m t = record { metric = m; way = t }

-- put in the place of the one with the same metric, if there was memory for it
pub put-is : {E : Type 0} (r : Result (Unit {0}) E) (old new : List MetricWay) (m i : ℕ) (t : Way) → AscendsFrom metric_of 0 old → IsFound metric_of old m i → new ≡ (if is_ok r then set old i (entry m t) else old) → OnOk r (IsPermutation new (with_target old m t))
put-is (Ok u) old new m i t h f is = subst (λ zs. IsPermutation zs (with_target old m t)) (sym is) (others-set metric_of 0 old m i (entry m t) h f)
put-is (Err e) old new m i t h f is = tt

pub put-ascends : {E : Type 0} (r : Result (Unit {0}) E) (old new : List MetricWay) (m i : ℕ) (t : Way) → AscendsFrom metric_of 0 old → IsFound metric_of old m i → new ≡ (if is_ok r then set old i (entry m t) else old) → AscendsFrom metric_of 0 new
put-ascends (Ok u) old new m i t h f is = subst (λ zs. AscendsFrom metric_of 0 zs) (sym is) (ascends-set metric_of 0 old m i (entry m t) h f refl)
put-ascends (Err e) old new m i t h f is = subst (λ zs. AscendsFrom metric_of 0 zs) (sym is) h

-- put where none has the metric
pub inserted-is : {E : Type 0} (r : Result (Unit {0}) E) (old new : List MetricWay) (m i : ℕ) (t : Way) → AscendsFrom metric_of 0 old → IsGap metric_of old m i → new ≡ (if is_ok r then insert old i (entry m t) else old) → OnOk r (IsPermutation new (with_target old m t))
inserted-is (Ok u) old new m i t h g is = subst (λ zs. IsPermutation zs (with_target old m t)) (sym is) (others-insert metric_of 0 old m i (entry m t) h g)
inserted-is (Err e) old new m i t h g is = tt

pub inserted-ascends : {E : Type 0} (r : Result (Unit {0}) E) (old new : List MetricWay) (m i : ℕ) (t : Way) → AscendsFrom metric_of 0 old → IsGap metric_of old m i → new ≡ (if is_ok r then insert old i (entry m t) else old) → AscendsFrom metric_of 0 new
inserted-ascends (Ok u) old new m i t h g is = subst (λ zs. AscendsFrom metric_of 0 zs) (sym is) (ascends-insert metric_of 0 old m i (entry m t) h g (omega arith) refl)
inserted-ascends (Err e) old new m i t h g is = subst (λ zs. AscendsFrom metric_of 0 zs) (sym is) h

-- taken out
pub dropped-is : {E : Type 0} (r : Result (Unit {0}) E) (old new : List MetricWay) (m i : ℕ) → AscendsFrom metric_of 0 old → IsFound metric_of old m i → OnOk r (new ≡ take i old ++ drop (i + 1) old) → OnOk r (new ≡ without_metric old m)
dropped-is (Ok u) old new m i h f is =
    let n : i + 1 ≡ suc i = omega arith in
    is ∙ ap (λ k. take i old ++ drop k old) n ∙ others-drop metric_of 0 old m i h f
dropped-is (Err e) old new m i h f is = tt

pub dropped-ascends : {E : Type 0} (r : Result (Unit {0}) E) (old new : List MetricWay) (m i : ℕ) → AscendsFrom metric_of 0 old → OnOk r (new ≡ without_metric old m) → OnErr r (new ≡ old) → AscendsFrom metric_of 0 new
dropped-ascends (Ok u) old new m i h is same = subst (λ zs. AscendsFrom metric_of 0 zs) (sym is) (ascends-filter metric_of _ 0 old h)
dropped-ascends (Err e) old new m i h is same = subst (λ zs. AscendsFrom metric_of 0 zs) (sym same) h

-- one alone
pub only-is : (xs : List MetricWay) (x : MetricWay) → 0 < length xs → length xs ≤ 1 → ((d : MetricWay) → x ≡ get_or xs 0 d) → xs ≡ x ∷ []
only-is [] x l few is = absurd (omega arith)
only-is (y ∷ []) x l few is = ap (λ (z : MetricWay). z ∷ []) (sym (is x))
only-is (y ∷ z ∷ zs) x l few is = absurd (omega arith)

-- the first has the least metric
pub first-of : (xs : List MetricWay) (x : MetricWay) → AscendsFrom metric_of 0 xs → 0 < length xs → ((d : MetricWay) → x ≡ get_or xs 0 d) → Contains xs x × ((y : MetricWay) → Contains xs y → x.metric ≤ y.metric)
first-of [] x h l is = absurd (omega arith)
first-of (x ∷ xs) y h l is =
    subst (λ z. Contains (x ∷ xs) z × ((w : MetricWay) → Contains (x ∷ xs) w → z.metric ≤ w.metric)) (sym (is y))
    (contains-here x xs, λ w i. first-least metric_of 0 x xs w h i)

pub least-over : (o : Option MetricWay) (xs now : List MetricWay) → xs ≡ now → IfSome o (λ x. Contains xs x × ((y : MetricWay) → Contains xs y → x.metric ≤ y.metric)) → IfSome o (λ x. Contains now x × ((y : MetricWay) → Contains now y → x.metric ≤ y.metric))
least-over o xs now e h = subst (λ ys. IfSome o (λ x. Contains ys x × ((y : MetricWay) → Contains ys y → x.metric ≤ y.metric))) e h
