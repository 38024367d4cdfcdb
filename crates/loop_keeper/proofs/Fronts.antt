-- Rows that several changes meet, looked at from the first on.
use Rattle.std.proofs.Common.{◌≡◌, ℕ, suc, ◌+◌, ◌-◌, ◌*◌, ◌<◌, ◌≤◌, ◌∙◌, Bool, true, false, nat_lt, List, [], ◌∷◌, length, get_or, refl, ap, sym, subst, inl, inr, ⊎_elim, arith}
use Rattle.std.specs.Prelude.{Contains, if◌then◌else◌, max, min}
use Rattle.std.proofs.lemmas.Bool.{cases_eq, cases_lt, false≢true, ltb-false, ltb-true, or_cases, or_left}
use Rattle.std.proofs.lemmas.List.{get_or_default}
use Rattle.base.specs.Forwarding.{does}
use Rattle.base.specs.declared.change.Change.{Change}
use Rattle.base.specs.declared.forwarding_row.ForwardingRow.{ForwardingRow}
use Rattle.base.specs.declared.ids.RouterId.{RouterId}
use Rattle.base.specs.declared.target.Target.TheVariants.{NoRoute}
use Rattle.label_view.proofs.InRow.{some_row}
use Rattle.loop_check.specs.Following.{is_among}
use Rattle.loop_keeper.specs.Finding.{AllInside, AllTellAfter, FindRow, FindTouched, FindsBetween, FindsMore, TellsAfter, is_touched, touches}
use Rattle.loop_keeper.specs.Looks.{AreLookedAt, meets_some}
use Rattle.loop_keeper.specs.Together.{AreInOrder, ArePassed, AreStretches, FindsTo, FindsWithin, IsFront, IsItsStretch, IsPassed, IsStretch, front_with}
use Rattle.loop_keeper.specs.declared.following.Start.{Start}
use Rattle.loop_keeper.specs.declared.found.Found.{Found}
use Rattle.loop_keeper.specs.declared.stretch.Stretch.{Stretch}
use Rattle.loop_keeper.specs.declared.together.Front.{Front}
use Rattle.loop_keeper.proofs.Looking.{looks-more, looks-pass}
use Rattle.loop_keeper.proofs.Meeting.{IsBetween, row-between, touched-one}

-- ---- the rows of a front before a place

pub finds-to-none : (rows : List ForwardingRow) (front : Front) (to : ℕ) (found : List Found) → min front.past to ≤ front.place → FindsTo rows front to found found
finds-to-none rows front to found h = record {
  sound = λ x. x;
  inside = λ x. x;
  kept = λ rs a x. x;
  found = λ k router f t p either. absurd (omega arith);
}

pub finds-to : (rows : List ForwardingRow) (front : Front) (to past shared first : ℕ) (old now new : List Found) → past ≡ min front.past to → shared ≡ min front.shared to → first ≤ max front.place shared → FindsWithin rows front.place shared old now → FindsBetween rows first past front.start.router now new → FindsTo rows front to old new
finds-to rows front to past shared first old now new is-past is-shared is-first x y = record {
  sound = λ h. y.sound (x.sound h);
  inside = λ h. y.inside (x.inside h);
  kept = λ rs a h. y.kept rs a (x.kept rs a h);
  found = λ k router f t p either. ⊎_elim
      (λ (s : k < shared).
      let row : FindRow rows now router k = x.found k router f s in
      λ d rs a lo hi goes m. y.kept rs a (row d rs a lo hi goes m))
      (λ (s : shared ≤ k). ⊎_elim
      (λ (z : k < front.shared). absurd (omega (arith, is-shared)))
      (λ (z : router ≡ front.start.router).
      let P : RouterId → Type 0 = λ v. FindRow rows new v k in
      subst P (sym z) (y.found k (omega (arith, is-first)) (omega (arith, is-past))))
      either)
      (cases_lt k shared);
}

-- its looks are at the rows before the place
pub looks-both : (w x y z place past shared first : ℕ) → shared ≤ past → first ≡ max place shared → y ≤ x + w * (shared - place) → z ≤ y + w * (past - first) → z ≤ x + w * (past - place)
looks-both w x y z place past shared first o e h k = looks-more w x y z (shared - place) (past - first) (past - place) h k (omega arith)

pub looks-to : (n : ℕ) (rows : List ForwardingRow) (cs : List Change) (front : Front) (to x y : ℕ) → IsFront n rows cs front → y ≤ x + n * (min front.past to - front.place) → front.place ≤ to → AreLookedAt n rows (meets_some cs) front.place to x y
looks-to n rows cs front to x y h cost o =
    let inside : front.past ≤ length rows = h.form.inside in
    looks-pass n rows (meets_some cs) front.place front.place (min front.past to) to x y (omega arith) o (λ s. omega arith) (omega arith) (λ k f b. h.meets k some_row f (omega arith)) cost

-- behind the last stretch
pub looks-last : (n : ℕ) (rows : List ForwardingRow) (cs : List Change) (front : Front) (x y : ℕ) → IsFront n rows cs front → y ≤ x + n * (min front.past front.past - front.place) → AreLookedAt n rows (meets_some cs) front.place (front.place + front.past) x y
looks-last n rows cs front x y h cost =
    let inside : front.past ≤ length rows = h.form.inside in
    let same : min front.past front.past ≡ front.past = omega arith in
    let P : ℕ → Type 0 = λ v. y ≤ x + n * (v - front.place) in
    looks-pass n rows (meets_some cs) front.place front.place front.past (front.place + front.past) x y (omega arith) (omega arith) (λ s. omega arith) inside (λ k f b. h.meets k some_row f b) (subst P same cost)

-- ---- a front with a stretch more

abbrev with-by : Bool → Front → Stretch → Front
with-by b front s =
    if b
    then record { place = s.first; past = s.past; shared = front.past; start = s.start }
    else record { place = s.first; past = front.past; shared = max front.shared s.past; start = front.start }

front-by : (b : Bool) (n : ℕ) (rows : List ForwardingRow) (cs : List Change) (front : Front) (s : Stretch) → nat_lt front.past s.past ≡ b → IsFront n rows cs front → IsStretch n rows cs s → front.place ≤ s.first → IsFront n rows cs (with-by b front s)
front-by true n rows cs front s e h is o =
    let more : front.past < s.past = ltb-true front.past s.past e in
    let shared : front.past ≤ s.past = omega arith in
    record {
      form = record { inside = is.inside; shared = shared; start = λ l. is.start; form = λ l. is.form };
      meets = is.meets;
      does_so = is.does_so;
    }
front-by false n rows cs front s e h is o =
    let less : s.past ≤ front.past = ltb-false front.past s.past e in
    let below : front.shared ≤ front.past = h.form.shared in
    let shared : max front.shared s.past ≤ front.past = omega arith in
    record {
      form = record { inside = h.form.inside; shared = shared; start = λ (l : s.first < front.past). h.form.start (omega arith); form = λ l. is.form };
      meets = λ k d (f : s.first ≤ k) b. h.meets k d (omega arith) b;
      does_so = λ tells k (f : s.first ≤ k) b. h.does_so tells k (omega arith) b;
    }

pub front-more : (n : ℕ) (rows : List ForwardingRow) (cs : List Change) (front next : Front) (s : Stretch) → next ≡ front_with front s → IsFront n rows cs front → IsStretch n rows cs s → front.place ≤ s.first → IsFront n rows cs next
front-more n rows cs front next s e h is o =
    let P : Front → Type 0 = λ v. IsFront n rows cs v in
    subst P (sym e) (front-by (nat_lt front.past s.past) n rows cs front s refl h is o)

pub front-none : (n : ℕ) (rows : List ForwardingRow) (cs : List Change) (front : Front) → front.place ≡ 0 → front.past ≡ 0 → front.shared ≡ 0 → IsFront n rows cs front
front-none n rows cs front a b c = record {
  form = record { inside = omega arith; shared = omega arith; start = λ l. absurd (omega arith); form = λ l. absurd (omega arith) };
  meets = λ k d f l. absurd (omega arith);
  does_so = λ tells k f l. absurd (omega arith);
}

pub with-place : (front : Front) (s : Stretch) → (front_with front s).place ≡ s.first
with-place front s = place-by (nat_lt front.past s.past)
  where
    place-by : (b : Bool) → (with-by b front s).place ≡ s.first
    place-by true = refl
    place-by false = refl

-- looks before the first row of a stretch
pub looks-with : (n : ℕ) (rows : List ForwardingRow) (cs : List Change) (front next : Front) (s : Stretch) (x y : ℕ) → next ≡ front_with front s → IsFront n rows cs front → y ≤ x + n * (min front.past s.first - front.place) → front.place ≤ s.first → AreLookedAt n rows (meets_some cs) front.place next.place x y
looks-with n rows cs front next s x y e h cost o =
    let P : ℕ → Type 0 = λ v. AreLookedAt n rows (meets_some cs) front.place v x y in
    subst P (sym (ap (λ (v : Front). v.place) e ∙ with-place front s)) (looks-to n rows cs front s.first x y h cost o)

pub rise-more : (stretches : List Stretch) (i : ℕ) (d : Stretch) (front next : Front) → next ≡ front_with front (get_or stretches i d) → i < length stretches → AreInOrder stretches → (k : ℕ) (e : Stretch) → i + 1 ≤ k → k < length stretches → next.place ≤ (get_or stretches k e).first
rise-more stretches i d front next is l order k e f m =
    let same : get_or stretches i d ≡ get_or stretches i e = get_or_default stretches i d e l in
    let P : Stretch → Type 0 = λ v. v.first ≤ (get_or stretches k e).first in
    let rise : (get_or stretches i d).first ≤ (get_or stretches k e).first = subst P (sym same) (order i k e (omega arith) m) in
    let place : next.place ≡ (get_or stretches i d).first = ap (λ (v : Front). v.place) is ∙ with-place front (get_or stretches i d) in
    omega arith

-- ---- the stretches that a front has

-- rows before a place were looked at
looked : (rows : List ForwardingRow) (front : Front) (to : ℕ) (now new : List Found) (x : Stretch) → FindsTo rows front to now new → IsPassed rows front now x → (k : ℕ) → x.first ≤ k → k < x.past → k < to → FindRow rows new x.start.router k
looked rows front to now new x h is = λ k f b t. ⊎_elim
    (λ (l : k < front.place).
    let row : FindRow rows now x.start.router k = is.done k f b l in
    λ d rs a lo hi goes m. h.kept rs a (row d rs a lo hi goes m))
    (λ (l : front.place ≤ k).
    let past : x.past ≤ front.past = is.past in
    h.found k x.start.router l t (omega arith) (⊎_elim
    (λ (y : x.past ≤ front.shared). inl (omega arith))
    (λ (y : x.start ≡ front.start). inr (ap (λ (v : Start). v.router) y))
    is.rest))
    (cases_lt k front.place)

passed-by : (b : Bool) (rows : List ForwardingRow) (front : Front) (s x : Stretch) (now new : List Found) → nat_lt front.past s.past ≡ b → FindsTo rows front s.first now new → IsPassed rows front now x → IsPassed rows (with-by b front s) new x
passed-by true rows front s x now new e h is =
    let more : front.past < s.past = ltb-true front.past s.past e in
    let old : x.past ≤ front.past = is.past in
    let past : x.past ≤ s.past = omega arith in
    record { past = past; rest = inl old; done = looked rows front s.first now new x h is }
passed-by false rows front s x now new e h is =
    record {
      past = is.past;
      rest = ⊎_elim
          (λ (y : x.past ≤ front.shared). let z : x.past ≤ max front.shared s.past = omega arith in inl z)
          (λ (y : x.start ≡ front.start). inr y)
          is.rest;
      done = looked rows front s.first now new x h is;
    }

own-by : (b : Bool) (rows : List ForwardingRow) (front : Front) (s : Stretch) (new : List Found) → nat_lt front.past s.past ≡ b → IsPassed rows (with-by b front s) new s
own-by true rows front s new e =
    let past : s.past ≤ s.past = omega arith in
    record { past = past; rest = inr refl; done = λ k f p (l : k < s.first). absurd (omega arith) }
own-by false rows front s new e =
    let less : s.past ≤ front.past = ltb-false front.past s.past e in
    let shared : s.past ≤ max front.shared s.past = omega arith in
    record { past = less; rest = inl shared; done = λ k f p (l : k < s.first). absurd (omega arith) }

pub passed-none : (rows : List ForwardingRow) (stretches : List Stretch) (front : Front) (found : List Found) → ArePassed rows stretches 0 front found found
passed-none rows stretches front found = record { sound = λ h. h; kept = λ rs a h. h; each = λ k d b l. absurd (omega arith) }

passed-with : (rows : List ForwardingRow) (stretches : List Stretch) (i : ℕ) (d : Stretch) (front : Front) (old now new : List Found) → i < length stretches → ArePassed rows stretches i front old now → FindsTo rows front (get_or stretches i d).first now new → ArePassed rows stretches (i + 1) (front_with front (get_or stretches i d)) old new
passed-with rows stretches i d front old now new l h to = record {
  sound = λ x. to.sound (h.sound x);
  kept = λ rs a x. to.kept rs a (h.kept rs a x);
  each = λ k e b m. ⊎_elim
      (λ (x : k ≡ i).
      let P : Stretch → Type 0 = λ v. IsPassed rows (front_with front (get_or stretches i d)) new v in
      subst P (here k e x) (own-by (nat_lt front.past (get_or stretches i d).past) rows front (get_or stretches i d) new refl))
      (λ (x : k ≡ i → ⊥). passed-by (nat_lt front.past (get_or stretches i d).past) rows front (get_or stretches i d) (get_or stretches k e) now new refl to (h.each k e (omega arith) m))
      (cases_eq k i);
}
  where
    here : (k : ℕ) (e : Stretch) → k ≡ i → get_or stretches i d ≡ get_or stretches k e
    here k e x = get_or_default stretches i d e l ∙ ap (λ (v : ℕ). get_or stretches v e) (sym x)

pub passed-more : (rows : List ForwardingRow) (stretches : List Stretch) (i : ℕ) (d : Stretch) (front next : Front) (old now new : List Found) → next ≡ front_with front (get_or stretches i d) → i < length stretches → ArePassed rows stretches i front old now → FindsTo rows front (get_or stretches i d).first now new → ArePassed rows stretches (i + 1) next old new
passed-more rows stretches i d front next old now new e l h to =
    let P : Front → Type 0 = λ v. ArePassed rows stretches (i + 1) v old new in
    subst P (sym e) (passed-with rows stretches i d front old now new l h to)

-- ---- all of them

touched-some : (cs : List Change) (rs : List RouterId) (a : ℕ) (d : Change) → is_touched cs rs a ≡ true → (k : ℕ) × (k < length cs) × (is_touched (get_or cs k d ∷ []) rs a ≡ true)
touched-some [] rs a d t = absurd (false≢true t)
touched-some (c ∷ cs) rs a d t = ⊎_elim
    (λ (x : touches rs a c ≡ true). (0, (omega arith), or_left (touches rs a c) (is_touched [] rs a) x))
    (λ (x : is_touched cs rs a ≡ true).
    let r = touched-some cs rs a d x in
    let l : r.0 < length cs = r.1 in
    (suc r.0, (omega arith), r.2))
    (or_cases (touches rs a c) (is_touched cs rs a) t)

-- the cycles of each stretch are found
found-all : (n : ℕ) (rows : List ForwardingRow) (cs : List Change) (stretches : List Stretch) (found : List Found) → AreStretches n rows cs stretches → AllTellAfter (does rows) cs → ((s : Stretch) → Contains stretches s → (k : ℕ) → s.first ≤ k → k < s.past → FindRow rows found s.start.router k) → FindTouched (does rows) cs found
found-all n rows cs stretches found are tells each = λ rs a b goes t.
    let some = touched-some cs rs a no_change t in
    let c : Change = get_or cs some.0 no_change in
    ⊎_elim
    (λ (x : (s : Stretch) × Contains stretches s × IsItsStretch rows c s).
    let s : Stretch = x.0 in
    let its : IsItsStretch rows c s = x.2 in
    let is : IsStretch n rows cs s = are.each s x.1 in
    let on = touched-one c rs a some.2 in
    let lo : c.run.lo ≤ a = on.1 in
    let hi : a ≤ c.run.hi = on.2 in
    let f : (get_or rows s.first some_row).low ≤ c.run.lo = its.met.from some_row in
    let p : c.run.hi < (get_or rows its.last some_row).past = its.met.past some_row in
    let at : IsBetween rows s.first its.last a some_row = row-between 0 rows s.first its.last a some_row is.form.cover its.met.begins its.met.inside (omega arith) (omega arith) in
    let t : at.place ≤ its.last = at.to in
    let e : s.past ≡ its.last + 1 = its.past in
    let same : c.router ≡ s.start.router = sym (ap (λ (v : Start). v.router) its.start) in
    let M : RouterId → Type 0 = λ v. is_among rs v ≡ true in
    each s x.1 at.place at.from (omega arith) some_row rs a at.low at.past goes (subst M same on.0))
    (λ (x : TellsAfter (does rows) c → (f : List Found) → FindsMore (does rows) (c ∷ []) f f).
    (x (tells some.0 no_change some.1) found).found rs a b goes some.2)
    (are.all some.0 no_change some.1)
  where
    no_change : Change
    no_change = record { router = record { 0 = 0 }; run = record { lo = 0; hi = 0 }; before = NoRoute; after = NoRoute }

pub finds-together : (n : ℕ) (rows : List ForwardingRow) (cs : List Change) (stretches : List Stretch) (count : ℕ) (front : Front) (old now new : List Found) → (AllInside old → AllInside now) → length stretches ≤ count → AreStretches n rows cs stretches → AllTellAfter (does rows) cs → ArePassed rows stretches count front old now → FindsTo rows front front.past now new → FindsMore (does rows) cs old new
finds-together n rows cs stretches count front old now new inside l are tells h to = record {
  sound = λ x. to.sound (h.sound x);
  inside = λ x. to.inside (inside x);
  kept = λ rs a x. to.kept rs a (h.kept rs a x);
  found = found-all n rows cs stretches new are tells (λ s m k f b.
      let j : ℕ = m.0 in
      let inside : m.0 < length stretches = m.1 in
      let P : Stretch → Type 0 = λ v. IsPassed rows front now v in
      let is : IsPassed rows front now s = subst P m.2 (h.each m.0 s (omega arith) m.1) in
      let past : s.past ≤ front.past = is.past in
      looked rows front front.past now new s to is k f b (omega arith));
}
