-- Each step on the turn and on the count keeps the rule of a lock.
use Rattle.std.proofs.Common.{◌≡◌, ◌≢◌, ℕ, zero, suc, ◌+◌, ◌%◌, ◌^◌, ◌<◌, eqb, true, List, [], ◌∷◌, ◌++◌, length, get_or, set, sym, refl, ap, ◌∙◌, subst, ⊎_elim, arith, length-set, length-append, get_or-set_other, get_or-set_same, eq-eqb, ne_eqb, Some}
use Rattle.std.specs.Prelude.{None}
use Rattle.std.specs.Prelude.{Option, Contains, ◌==◌}
use Rattle.std.proofs.lemmas.List.Elements.{All-nil, filter-append}
use mathlib.Core.Logic.{dite}
use mathlib.Core.Option.{some, none, some-injective, some-ne-none}
use mathlib.Core.List.{IsPrefix}
use native.Mathlib.Decide.{ℕ_discrete}
use lib.ListN.{get_elem?}
use lib.Seq.{set-get_or}
use prog.Atomic.{either}
use Rattle.atomic_table.specs.Table.{State, Me, step, keeps, takes, gives, stepped, put_back, Allows}
use Rattle.atomic_table.proofs.Lists.{at_set, set_else}
use Rattle.dn_model.specs.declared.entry.Entry.{Entry}
use Rattle.dn_model.specs.declared.entry.Posted.{Posted}
use Rattle.version_lock.specs.declared.book.Basis.{Basis}
use Rattle.version_lock.specs.declared.view.Setup.{Setup}
use Rattle.version_lock.specs.declared.view.View.{View}
use Rattle.version_lock.specs.History.{posted_by}
use Rattle.version_lock.specs.Rule.{Knows, Kept}
use Rattle.version_lock.specs.Steps.{holding, having_seen, without_turn, without_olds, won, applied, counted, freed, recalled}
use Rattle.version_lock.proofs.Histories.{prefix_self, prefix_trans, prefix_more}

-- ---- lists of views

pub set_at : {A : Type 0} (l : List A) (i : ℕ) (a b : A) → get_elem? l i ≡ some a → get_elem? (set l i b) i ≡ some b
set_at [] i a b e = absurd (some-ne-none a (sym e))
set_at (x ∷ xs) zero a b e = refl
set_at (x ∷ xs) (suc i) a b e = set_at xs i a b e

pub seats_stay : (K : ℕ → View → Type 0) (vs : List View) (id : ℕ) (w : View) → K id w → ((j : ℕ) (d : View) → j ≢ id → get_elem? vs j ≡ some d → K j d)
    → (j : ℕ) (d : View) → get_elem? (set vs id w) j ≡ some d → K j d
seats_stay K vs id w mine others j d e = ⊎_elim
    (λ (t : (j ≡ id) × (w ≡ d)). subst (λ (x : ℕ × View). K x.0 x.1) (λ i. (sym t.0 i, t.1 i)) mine)
    (λ (t : (j ≢ id) × (get_elem? vs j ≡ some d)). others j d t.0 t.1) (at_set vs id j w d e)

-- a number stays used by the seat that owns it
pub borne_set : (vs : List View) (id o n : ℕ) (v w : View) → get_elem? vs id ≡ some v → (Contains v.used n → Contains w.used n)
    → (u : View) × (get_elem? vs o ≡ some u) × Contains u.used n → (u : View) × (get_elem? (set vs id w) o ≡ some u) × Contains u.used n
borne_set vs id o n v w at more b = dite (ℕ_discrete o id)
    (λ e.
    let same : b.0 ≡ v = some-injective b.0 v (sym b.1 ∙ (ap (get_elem? vs) e ∙ at)) in
    (w, ap (get_elem? (set vs id w)) e ∙ set_at vs id v w at, more (subst (λ (z : View). Contains z.used n) same b.2)))
    (λ apart. (b.0, set_else vs id o w apart ∙ b.1, b.2))

-- what a seat knows stays so where the history grows by nothing of its numbers, and it keeps its numbers and its turn
pub stays : (setup : Setup) (log log' : List Posted) (turn turn' holder holder' : ℕ) (owner owner' : ℕ → ℕ) (at : ℕ) (v : View)
    → IsPrefix log log' → ((n : ℕ) → owner n ≡ at → (owner' n ≡ at) × (posted_by n log' ≡ posted_by n log))
    → (turn ≡ 1 → at ≡ holder → (turn' ≡ 1) × (at ≡ holder') × (log ≡ log'))
    → Knows setup log turn holder owner at v → Knows setup log' turn' holder' owner' at v
stays setup log log' turn turn' holder holder' owner owner' at v more own next k = record {
  of_lock = k.of_lock;
  begins = prefix_trans v.seen log log' k.begins more;
  olds = k.olds;
  turns = λ t. let u = k.turns t in let w = next u.0 u.1 in (w.0, w.1, u.2 ∙ w.2, u.3);
  uses = λ n c. let u = k.uses n c in let o = own n u.1 in (u.0, o.0, u.2 ∙ sym o.1);
  spares = λ n a b. let u = k.spares n a b in let o = own n u.1 in (u.0, o.0, o.1 ∙ u.2, u.3);
  number = k.number;
}

module _ {B : Type 0} (history_of : B → List Posted) (basis_of : B → Basis) (setup : Setup) where
  abbrev St : Type 0
  St = State (Option B) View

  abbrev M : Type 0
  M = Me (Option B) View

  abbrev Rule : St → Type 0
  Rule = Kept history_of basis_of setup

  abbrev turn_of : St → ℕ
  turn_of s = get_or s.words 0 0

  -- a step that changes nothing but one view, whose numbers stay used
  pub unmoved : (s : St) (k : Rule s) (i id : ℕ) (cs : List (ℕ × Option B)) (v w : View) → get_elem? s.views id ≡ some v
      → ((n : ℕ) → Contains v.used n → Contains w.used n) → (v.turn ≡ true → w.turn ≡ true)
      → Knows setup k.history (turn_of s) k.holder k.owner id w → Rule (stepped s i (get_or s.words i 0) id cs w keeps)
  unmoved s k i id cs v w at more turn mine = subst (λ (ws : List ℕ). Rule record { words = ws; homes = s.homes; views = set s.views id w }) (sym (set-get_or s.words i 0)) record {
    history = k.history;
    holder = k.holder;
    owner = k.owner;
    two_words = k.two_words;
    one_slot = k.one_slot;
    turn_is = k.turn_is;
    count_is = k.count_is;
    home = k.home;
    held = λ one. let h = k.held one in dite (ℕ_discrete k.holder id)
        (λ e.
        let same : h.0 ≡ v = some-injective h.0 v (sym h.1 ∙ (ap (get_elem? s.views) e ∙ at)) in
        (w, ap (get_elem? (set s.views id w)) e ∙ set_at s.views id v w at, turn (ap (λ (z : View). z.turn) (sym same) ∙ h.2)))
        (λ apart. (h.0, set_else s.views id k.holder w apart ∙ h.1, h.2));
    borne = λ n has. borne_set s.views id (k.owner n) n v w at (more n) (k.borne n has);
    each = seats_stay (Knows setup k.history (turn_of s) k.holder k.owner) s.views id w mine (λ j d _. k.each j d);
  }

  pub recalls : (slots id : ℕ) (me : M) → Allows Rule slots id me 0 (λ n. n) (recalled (step slots 0 0 0 none) me)
  recalls slots id me s k _ at _ = let v : View = me.0 in let w : View = without_olds v in let known = k.each id v at in (
    w,
    keeps,
    tt,
    unmoved s k 0 id me.1 v w at (λ n c. c) (λ t. t) record {
      of_lock = known.of_lock;
      begins = known.begins;
      olds = All-nil _;
      turns = known.turns;
      uses = known.uses;
      spares = known.spares;
      number = known.number;
    },
    (refl, known.olds),
  )

  pub counts : (slots id : ℕ) (me : M) → me.0.turn ≡ true → Allows Rule slots id me 1 (λ n. n) (counted (step slots 1 0 0 none) me)
  counts slots id me turn s k _ at _ = let known = k.each id me.0 at in (
    me.0,
    keeps,
    tt,
    unmoved s k 1 id me.1 me.0 me.0 at (λ n c. c) (λ t. t) known,
    (refl, k.count_is ∙ ap length (sym (known.turns turn).2)),
  )

  pub wins : (slots id : ℕ) (me : M) → 0 < me.0.span → Allows Rule slots id me 0 (λ x. either (eqb x 0) 1 x) (won history_of basis_of (step slots 0 0 1 none) me)
  wins slots id me numbered s k _ at _ = let x : ℕ = turn_of s in let v : View = me.0 in let known = k.each id v at in dite (ℕ_discrete x 0)
      (λ hit.
      let h = k.home hit in
      let book : B = h.0 in
      let w : View = holding (history_of book) v in
      let wide = k.two_words in
      let deep = k.one_slot in
      let now : get_or (set s.words 0 1) 0 0 ≡ 1 = get_or-set_same s.words 0 1 0 (omega arith) in (
        w,
        takes 0 (Some book),
        h.1,
        subst (λ b. Rule (stepped s 0 (either b 1 x) id me.1 w (takes 0 (Some book)))) (sym (eq-eqb x 0 hit)) record {
          history = k.history;
          holder = id;
          owner = k.owner;
          two_words = length-set s.words 0 1 ∙ wide;
          one_slot = length-set s.homes 0 none ∙ deep;
          turn_is = subst (λ (z : ℕ). z < 2) (sym now) (omega arith);
          count_is = get_or-set_other s.words 0 1 1 0 (λ e. omega arith) ∙ k.count_is;
          home = λ zero_now. let e : 1 ≡ 0 = sym now ∙ zero_now in absurd (omega arith);
          held = λ _. (w, set_at s.views id v w at, refl);
          borne = λ n has. borne_set s.views id (k.owner n) n v w at (λ c. c) (k.borne n has);
          each = subst (λ (z : ℕ). (j : ℕ) (d : View) → get_elem? (set s.views id w) j ≡ some d → Knows setup k.history z id k.owner j d) (sym now)
              (seats_stay (Knows setup k.history 1 id k.owner) s.views id w
              record {
                of_lock = known.of_lock;
                begins = subst (λ (l : List Posted). IsPrefix l k.history) (sym h.2) (prefix_self k.history);
                olds = All-nil _;
                turns = λ _. (refl, refl, h.2, numbered);
                uses = λ n c. let u = known.uses n c in (u.0, u.1, ap (posted_by n) h.2);
                spares = known.spares;
                number = known.number;
              }
              (λ j d other e. stays setup k.history k.history x 1 k.holder id k.owner k.owner j d (prefix_self k.history) (λ n o. (o, refl))
              (λ one _. let z : 1 ≡ 0 = sym one ∙ hit in absurd (omega arith)) (k.each j d e)));
        },
        (
          (λ _. (
            book,
            refl,
            subst (λ (l : List Posted). IsPrefix v.seen l) (sym h.2) known.begins,
            (λ n c. ap (posted_by n) h.2 ∙ sym (known.uses n c).2),
            (λ z e. h.3 ∙ ap (λ (y : Setup). y.basis) (sym (known.of_lock z e))),
          )),
          (λ miss. absurd (miss hit)),
        ),
      ))
      (λ miss. (
        v,
        keeps,
        tt,
        subst (λ b. Rule (stepped s 0 (either b 1 x) id me.1 v keeps)) (sym (ne_eqb x 0 miss)) (unmoved s k 0 id me.1 v v at (λ n c. c) (λ t. t) known),
        ((λ hit. absurd (miss hit)), (λ _. refl)),
      ))

  carried_book : (cs : List (ℕ × Option B)) (a b : B) → cs ≡ (0, Some a) ∷ [] → cs ≡ (0, Some b) ∷ [] → a ≡ b
  carried_book cs a b p q = ap (book_in a) (sym p ∙ q)
    where
      inside : B → Option B → B
      inside d None = d
      inside d (Some x) = x

      book_in : B → List (ℕ × Option B) → B
      book_in d [] = d
      book_in d (x ∷ xs) = inside d x.1

  pub applies : (slots id : ℕ) (me : M) (book : B) (e : Entry) → me.1 ≡ (0, Some book) ∷ [] → me.0.turn ≡ true
      → history_of book ≡ me.0.seen ++ record { seat = me.0.first; entry = e } ∷ [] → length (history_of book) < 2 ^ 64
      → Allows Rule slots id me 1 (λ n. (n + 1) % 2 ^ 64) (applied history_of (step slots 1 1 0 none) me)
  applies slots id me book e carried turn posted fits s k _ at _ =
      let v : View = me.0 in
      let known = k.each id v at in
      let mine = known.turns turn in
      let p : Posted = record { seat = v.first; entry = e } in
      let log : List Posted = k.history in
      let log' : List Posted = history_of book in
      let grown : log' ≡ log ++ p ∷ [] = posted ∙ ap (λ (l : List Posted). l ++ p ∷ []) mine.2 in
      let w : View = having_seen log' v in
      let wide = k.two_words in
      let c : ℕ = (get_or s.words 1 0 + 1) % 2 ^ 64 in
      let long : length log' ≡ length log + 1 = ap length grown ∙ length-append log (p ∷ []) in
      let count = k.count_is in
      let next : c ≡ length log' = omega arith in
      let still : get_or (set s.words 1 c) 0 0 ≡ turn_of s = get_or-set_other s.words 1 0 c 0 (λ e. omega arith) in
      let more : IsPrefix log log' = subst (λ (l : List Posted). IsPrefix log l) (sym grown) (prefix_more log (p ∷ [])) in
      let first_mine = known.uses v.first (known.number mine.3) in
      let others : (n : ℕ) → n ≢ v.first → posted_by n log' ≡ posted_by n log = λ n apart. ap (posted_by n) grown ∙ other_entry n log p (λ same. apart (sym same)) in (
        w,
        keeps,
        tt,
        record {
          history = log';
          holder = k.holder;
          owner = k.owner;
          two_words = length-set s.words 1 c ∙ wide;
          one_slot = k.one_slot;
          turn_is = subst (λ (z : ℕ). z < 2) (sym still) k.turn_is;
          count_is = get_or-set_same s.words 1 c 0 (omega arith) ∙ next;
          home = λ zero_now. let z : 1 ≡ 0 = sym mine.0 ∙ (sym still ∙ zero_now) in absurd (omega arith);
          held = λ _. (w, subst (λ (j : ℕ). get_elem? (set s.views id w) j ≡ some w) mine.1 (set_at s.views id v w at), turn);
          borne = λ n has. dite (ℕ_discrete n v.first)
              (λ is. (
                w,
                subst (λ (j : ℕ). get_elem? (set s.views id w) j ≡ some w) (sym (ap k.owner is ∙ first_mine.1)) (set_at s.views id v w at),
                subst (λ (m : ℕ). Contains v.used m) (sym is) (known.number mine.3),
              ))
              (λ apart. borne_set s.views id (k.owner n) n v w at (λ c. c) (k.borne n (λ none_yet. has (others n apart ∙ none_yet))));
          each = subst (λ (z : ℕ). (j : ℕ) (d : View) → get_elem? (set s.views id w) j ≡ some d → Knows setup log' z k.holder k.owner j d) (sym still)
              (seats_stay (Knows setup log' (turn_of s) k.holder k.owner) s.views id w
              record {
                of_lock = known.of_lock;
                begins = prefix_self log';
                olds = All-nil _;
                turns = λ _. (mine.0, mine.1, refl, mine.3);
                uses = λ n c. let u = known.uses n c in (u.0, u.1, refl);
                spares = λ n a b. let u = known.spares n a b in (u.0, u.1, others n (λ same. omega arith) ∙ u.2, u.3);
                number = known.number;
              }
              (λ j d other there. stays setup log log' (turn_of s) (turn_of s) k.holder k.holder k.owner k.owner j d more
              (λ n o. (o, others n (λ same. other (sym o ∙ (ap k.owner same ∙ first_mine.1)))))
              (λ _ holds. absurd (other (holds ∙ sym mine.1))) (k.each j d there)));
        },
        λ other_book held_now. ap (λ (z : B). (having_seen (history_of z) v, me.1)) (carried_book me.1 book other_book carried held_now),
      )
    where
      append_none : (a : List Posted) → a ++ [] ≡ a
      append_none [] = refl
      append_none (x ∷ a) = ap (λ w. x ∷ w) (append_none a)

      other_entry : (n : ℕ) (l : List Posted) (q : Posted) → ¬ (q.seat ≡ n) → posted_by n (l ++ q ∷ []) ≡ posted_by n l
      other_entry n l q apart = filter-append (λ (y : Posted). y.seat == n) l (q ∷ []) ∙ (rw (ne_eqb q.seat n apart) (append_none (posted_by n l)))

  pub frees : (slots id : ℕ) (me : M) (book : B) → me.1 ≡ (0, Some book) ∷ [] → me.0.turn ≡ true → history_of book ≡ me.0.seen → basis_of book ≡ setup.basis
      → Allows Rule slots id me 0 (λ _. 0) (λ _. freed (step slots 0 0 0 none) me 0)
  frees slots id me book carried turn same based s k _ at _ =
      let v : View = me.0 in
      let known = k.each id v at in
      let mine = known.turns turn in
      let w : View = without_turn v in
      let wide = k.two_words in
      let deep = k.one_slot in
      let now : get_or (set s.words 0 0) 0 0 ≡ 0 = get_or-set_same s.words 0 0 0 (omega arith) in (
        w,
        gives,
        tt,
        subst (λ (cs : List (ℕ × Option B)). Rule record { words = set s.words 0 0; homes = put_back s.homes cs; views = set s.views id w }) (sym carried) record {
          history = k.history;
          holder = id;
          owner = k.owner;
          two_words = length-set s.words 0 0 ∙ wide;
          one_slot = length-set s.homes 0 (some (Some book)) ∙ deep;
          turn_is = subst (λ (z : ℕ). z < 2) (sym now) (omega arith);
          count_is = get_or-set_other s.words 0 1 0 0 (λ e. omega arith) ∙ k.count_is;
          home = λ _. (book, set_first s.homes (some (Some book)) (omega arith), same ∙ mine.2, based);
          held = λ one. let z : 0 ≡ 1 = sym now ∙ one in absurd (omega arith);
          borne = λ n has. borne_set s.views id (k.owner n) n v w at (λ c. c) (k.borne n has);
          each = subst (λ (z : ℕ). (j : ℕ) (d : View) → get_elem? (set s.views id w) j ≡ some d → Knows setup k.history z id k.owner j d) (sym now)
              (seats_stay (Knows setup k.history 0 id k.owner) s.views id w
              record {
                of_lock = known.of_lock;
                begins = known.begins;
                olds = known.olds;
                turns = λ t. absurd (cc);
                uses = known.uses;
                spares = known.spares;
                number = known.number;
              }
              (λ j d other there. stays setup k.history k.history (turn_of s) 0 k.holder id k.owner k.owner j d (prefix_self k.history) (λ n o. (o, refl))
              (λ _ holds. absurd (other (holds ∙ sym mine.1))) (k.each j d there)));
        },
        ap (λ (cs : List (ℕ × Option B)). (w, rest_of cs)) carried,
      )
    where
      set_first : {A : Type 0} (l : List A) (a : A) → 0 < length l → get_elem? (set l 0 a) 0 ≡ some a
      set_first [] a h = absurd (omega arith)
      set_first (x ∷ xs) a h = refl

      rest_of : List (ℕ × Option B) → List (ℕ × Option B)
      rest_of [] = []
      rest_of (x ∷ xs) = xs
