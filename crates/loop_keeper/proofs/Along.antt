-- Rows followed from the router of a change on, behind those that were followed before.
use Rattle.std.proofs.Common.{◌≡◌, ℕ, ◌+◌, ◌-◌, ◌*◌, ◌<◌, ◌≤◌, Bool, true, nat_le, nat_lt, List, [], ◌∷◌, length, get_or, take, sym, subst, ⊎_elim, arith}
use Rattle.std.proofs.lemmas.Bool.{and_from, cases_eq, cases_lt, le-leb, lt-ltb}
use Rattle.std.proofs.lemmas.List.Folds.{list_any_at}
use Rattle.base.specs.Delta.{IsChange}
use Rattle.base.specs.Forwarding.{AreForwarding, does, row_low, row_past}
use Rattle.base.specs.Rows.{CoverFrom}
use Rattle.base.specs.declared.change.Change.{Change}
use Rattle.base.specs.declared.forwarding_row.ForwardingRow.{ForwardingRow}
use Rattle.base.specs.declared.ids.RouterId.{RouterId}
use Rattle.base.specs.declared.target.Target.{Target}
use Rattle.base.proofs.Covers.{ordered-at}
use Rattle.base.proofs.Elements.{contains-none}
use Rattle.label_view.proofs.InRow.{some_row}
use Rattle.loop_keeper.specs.Finding.{AllGoRound, AllInside, FindLast, FindRow, FindsBetween, FindsMore, FindsOn, TellsAfter}
use Rattle.loop_keeper.specs.Looks.{AreLookedAt, meets, meets_some}
use Rattle.loop_keeper.specs.Places.{AreMet, IsReached}
use Rattle.loop_keeper.specs.Starts.{DoesSo, start_of}
use Rattle.loop_keeper.specs.declared.found.Found.{Found}
use Rattle.loop_keeper.proofs.Looking.{looks-pass}
use Rattle.loop_keeper.proofs.Meeting.{IsBetween, row-between, touched-none, touched-one, touched-take}
use Rattle.loop_keeper.proofs.Starting.{apart, does-after}

-- ---- places

-- a row that does not begin above an address is not behind one that ends above it
pub places-rise : (rows : List ForwardingRow) (i j a : ℕ) (d : ForwardingRow) → CoverFrom row_low row_past 0 rows → i < length rows → (get_or rows i d).low ≤ a → a < (get_or rows j d).past → i ≤ j
places-rise rows i j a d cover l low past = ⊎_elim
    (λ (x : j < i).
    let o : (get_or rows j d).past ≤ (get_or rows i d).low = apart 0 rows j i d cover x l in
    absurd (omega arith))
    (λ (x : i ≤ j). x)
    (cases_lt j i)

pub met-order : (n : ℕ) (rows : List ForwardingRow) (c : Change) (first last : ℕ) → AreForwarding n rows → IsChange c → AreMet rows c first last → first ≤ last
met-order n rows c first last form is met =
    let ends : c.run.lo ≤ c.run.hi = is.ends in
    let from : (get_or rows first some_row).low ≤ c.run.lo = met.from some_row in
    places-rise rows first last c.run.hi some_row form.cover met.begins (omega arith) (met.past some_row)

-- the change meets each of its rows
pub met-each : (n : ℕ) (rows : List ForwardingRow) (c : Change) (first last k : ℕ) (d : ForwardingRow) → AreForwarding n rows → AreMet rows c first last → first ≤ k → k ≤ last → meets c (get_or rows k d) ≡ true
met-each n rows c first last k d form met f t =
    let end : last < length rows = met.inside in
    let inside : k < length rows = omega arith in
    let wide : (get_or rows k d).low < (get_or rows k d).past = ordered-at row_low row_past 0 rows k d form.cover inside in
    let past : c.run.lo < (get_or rows k d).past = ⊎_elim
    (λ (e : first ≡ k). let P : ℕ → Type 0 = λ v. c.run.lo < (get_or rows v d).past in subst P e (met.to d))
    (λ (ne : first ≡ k → ⊥).
    let o : (get_or rows first d).past ≤ (get_or rows k d).low = apart 0 rows first k d form.cover (omega arith) inside in
    let p : c.run.lo < (get_or rows first d).past = met.to d in
    omega arith)
    (cases_eq first k) in
    let low : (get_or rows k d).low ≤ c.run.hi = ⊎_elim
    (λ (e : last ≡ k). let P : ℕ → Type 0 = λ v. (get_or rows v d).low ≤ c.run.hi in subst P e (met.low d))
    (λ (ne : last ≡ k → ⊥).
    let o : (get_or rows k d).past ≤ (get_or rows last d).low = apart 0 rows k last d form.cover (omega arith) end in
    let p : (get_or rows last d).low ≤ c.run.hi = met.low d in
    omega arith)
    (cases_eq last k) in
    and_from (nat_lt c.run.lo (get_or rows k d).past) (nat_le (get_or rows k d).low c.run.hi) (lt-ltb c.run.lo (get_or rows k d).past past) (le-leb (get_or rows k d).low c.run.hi low)

pub meets-at : (cs : List Change) (k : ℕ) (d : Change) (row : ForwardingRow) → k < length cs → meets (get_or cs k d) row ≡ true → meets_some cs row ≡ true
meets-at cs k d row l m = list_any_at (λ c. meets c row) cs k d l m

-- ---- how far rows were followed

-- the row before the place where they end is the change's first one at most
near-first : (n : ℕ) (rows : List ForwardingRow) (c : Change) (first last place : ℕ) → AreForwarding n rows → AreMet rows c first last → IsReached rows place c.run.lo → place ≤ first + 1
near-first n rows c first last place form met reach = ⊎_elim
    (λ (x : 0 < place).
    let inside : place ≤ length rows = reach.inside in
    let o : place - 1 ≤ first = places-rise rows (place - 1) first c.run.lo some_row form.cover (omega arith) (reach.low some_row x) (met.to some_row) in
    omega arith)
    (λ (x : place ≤ 0). omega arith)
    (cases_lt 0 place)

pub reach-none : (rows : List ForwardingRow) (a : ℕ) → IsReached rows 0 a
reach-none rows a = record { inside = omega arith; low = λ d p. absurd (omega arith) }

pub reach-later : (rows : List ForwardingRow) (place a b : ℕ) → a ≤ b → IsReached rows place a → IsReached rows place b
reach-later rows place a b o h = record { inside = h.inside; low = λ d p. let x : (get_or rows (place - 1) d).low ≤ a = h.low d p in omega arith }

pub reach-met : (rows : List ForwardingRow) (c : Change) (first last : ℕ) → AreMet rows c first last → IsReached rows (last + 1) c.run.hi
reach-met rows c first last met = record {
  inside = let l : last < length rows = met.inside in omega arith;
  low = λ d p.
      let P : ℕ → Type 0 = λ v. (get_or rows v d).low ≤ c.run.hi in
      let e : last ≡ last + 1 - 1 = omega arith in
      subst P e (met.low d);
}

-- ---- the cycles of the rows of a change

pub does-along : (n : ℕ) (rows : List ForwardingRow) (c : Change) (first last from : ℕ) → AreForwarding n rows → IsChange c → AreMet rows c first last → first ≤ from → TellsAfter (does rows) c → (k : ℕ) → from ≤ k → k < last + 1 → DoesSo rows (start_of c) k
does-along n rows c first last from form is met o tells = λ k f b. does-after n rows c first last form met.inside met.from met.to met.low is tells k (omega arith) b

pub finds-on : (n : ℕ) (rows : List ForwardingRow) (c : Change) (first last from place : ℕ) (old new : List Found) → AreForwarding n rows → IsChange c → AreMet rows c first last → IsReached rows place c.run.lo → first ≤ from → ((k : ℕ) → first ≤ k → k < from → k < place) → FindLast rows old c.router place → FindsBetween rows from (last + 1) c.router old new → FindsOn rows c (last + 1) old new
finds-on n rows c first last from place old new form is met reach o before was h = record {
  more = record {
    sound = h.sound;
    inside = h.inside;
    kept = h.kept;
    found = λ rs a b goes t.
        let its = touched-one c rs a t in
        let lo : c.run.lo ≤ a = its.1 in
        let hi : a ≤ c.run.hi = its.2 in
        let f : (get_or rows first some_row).low ≤ c.run.lo = met.from some_row in
        let p : c.run.hi < (get_or rows last some_row).past = met.past some_row in
        let at : IsBetween rows first last a some_row = row-between 0 rows first last a some_row form.cover met.begins met.inside (omega arith) (omega arith) in
        each at.place at.from at.to some_row rs a at.low at.past goes its.0;
  };
  last = λ p.
      let P : ℕ → Type 0 = λ v. FindRow rows new c.router v in
      let e : last ≡ last + 1 - 1 = omega arith in
      subst P e (each last (met-order n rows c first last form is met) (omega arith));
}
  where
    each : (k : ℕ) → first ≤ k → k ≤ last → FindRow rows new c.router k
    each k f t = ⊎_elim
        (λ (x : k < from).
        let b : k < place = before k f x in
        let near : place ≤ first + 1 = near-first n rows c first last place form met reach in
        let P : ℕ → Type 0 = λ v. FindRow rows old c.router v in
        let e : place - 1 ≡ k = omega arith in
        let some : 0 < place = omega arith in
        let row : FindRow rows old c.router k = subst P e (was some) in
        λ d rs a low past goes m. h.kept rs a (row d rs a low past goes m))
        (λ (x : from ≤ k). h.found k x (omega arith))
        (cases_lt k from)

pub looks-along : (n w : ℕ) (rows : List ForwardingRow) (c : Change) (test : ForwardingRow → Bool) (first last from place x y : ℕ) → AreForwarding n rows → IsChange c → AreMet rows c first last → IsReached rows place c.run.lo → first ≤ from → place ≤ from → ((row : ForwardingRow) → meets c row ≡ true → test row ≡ true) → y ≤ x + w * (last + 1 - from) → AreLookedAt w rows test place (last + 1) x y
looks-along n w rows c test first last from place x y form is met reach o q passes cost =
    let near : place ≤ first + 1 = near-first n rows c first last place form met reach in
    let order : first ≤ last = met-order n rows c first last form is met in
    let end : last < length rows = met.inside in
    looks-pass w rows test place from (last + 1) (last + 1) x y q (omega arith) (λ s. omega arith) (omega arith) (λ k f b. passes (get_or rows k some_row) (met-each n rows c first last k some_row form met (omega arith) (omega arith))) cost

-- ---- change after change

-- before the first one nothing was found
pub inside-none : (found : List Found) → found ≡ [] → AllInside found
inside-none found e =
    let P : List Found → Type 0 = λ v. AllInside v in
    subst P (sym e) (λ one i. absurd (contains-none one i))

pub round-none : (does_so : RouterId → ℕ → Target) (found : List Found) → found ≡ [] → AllGoRound does_so found
round-none does_so found e =
    let P : List Found → Type 0 = λ v. AllGoRound does_so v in
    subst P (sym e) (λ rs a h. absurd (contains-none h.one h.among))

pub more-none : (does_so : RouterId → ℕ → Target) (found : List Found) → FindsMore does_so [] found found
more-none does_so found = record { sound = λ h. h; inside = λ h. h; kept = λ rs a h. h; found = touched-none does_so found }

pub more-next : (does_so : RouterId → ℕ → Target) (cs : List Change) (k : ℕ) (d : Change) (old now new : List Found) → k < length cs → FindsMore does_so (take k cs) old now → FindsMore does_so (get_or cs k d ∷ []) now new → FindsMore does_so (take (k + 1) cs) old new
more-next does_so cs k d old now new l x y = record {
  sound = λ h. y.sound (x.sound h);
  inside = λ h. y.inside (x.inside h);
  kept = λ rs a h. y.kept rs a (x.kept rs a h);
  found = touched-take does_so cs k d now new l x.found y;
}
