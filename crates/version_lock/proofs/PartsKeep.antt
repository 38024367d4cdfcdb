-- Each step that parts a seat's view, or puts two together, keeps the rule of a lock.
use Rattle.std.proofs.Common.{◌≡◌, ◌≢◌, ◌⊎◌, ℕ, zero, suc, ◌+◌, ◌<◌, ◌≤◌, true, false, List, [], ◌∷◌, ◌++◌, length, get_or, set, sym, refl, ap, ◌∙◌, subst, ⊎_elim, inl, inr, arith, Some}
use Rattle.std.specs.Prelude.{Option, Contains, All}
use Rattle.std.proofs.lemmas.List.Elements.{All-nil, All-cons, All-head, All-tail, Contains-append_left, Contains-append_right, Contains-append_cases}
use mathlib.Core.Logic.{dite}
use mathlib.Core.Option.{some, some-injective, some-ne-none}
use mathlib.Core.List.{IsPrefix}
use native.Mathlib.Decide.{dec_le, ℕ_discrete}
use lib.ListN.{get_elem?}
use Rattle.atomic_table.specs.Table.{State, Me, Splits, Joins}
use Rattle.atomic_table.proofs.Lists.{at_set, at_longer, at_last, set_else}
use Rattle.dn_model.specs.declared.entry.Posted.{Posted}
use Rattle.version_lock.specs.declared.book.Basis.{Basis}
use Rattle.version_lock.specs.declared.view.Past.{Past}
use Rattle.version_lock.specs.declared.view.Setup.{Setup}
use Rattle.version_lock.specs.declared.view.View.{View}
use Rattle.version_lock.specs.History.{posted_by, HasSameOf}
use Rattle.version_lock.specs.Rule.{Knows, Kept, Remembers, keeps_lower, has_upper, upper_of, note_of, joined, spent_view, longer, numbers_from, numbers_of, past_of}
use Rattle.version_lock.specs.Steps.{without_olds}
use Rattle.version_lock.proofs.Histories.{prefix_self, none_before, same_between, longer_begins_left, longer_begins_right, longer_is}
use Rattle.version_lock.proofs.Keeps.{seats_stay, set_at, stays}
use Rattle.version_lock.proofs.Numbers.{only_one, first_of, range_of, HasNumberIn}

-- ---- who owns a number afterwards

abbrev picks : {P Q : Type 0} → Dec P → Dec Q → ℕ → ℕ → ℕ
picks (yes p) (yes q) a b = a
picks (yes p) (no q) a b = b
picks (no p) d a b = b

picks_in : {P Q : Type 0} (d : Dec P) (e : Dec Q) (a b : ℕ) → P → Q → picks d e a b ≡ a
picks_in (yes p) (yes q) a b x y = refl
picks_in (yes p) (no q) a b x y = absurd (q y)
picks_in (no p) e a b x y = absurd (p x)

picks_out : {P Q : Type 0} (d : Dec P) (e : Dec Q) (a b : ℕ) → (P → Q → ⊥) → picks d e a b ≡ b
picks_out (yes p) (yes q) a b out = absurd (out p q)
picks_out (yes p) (no q) a b out = refl
picks_out (no p) e a b out = refl

-- the numbers from low up to high go to `new`
abbrev handed : ℕ → ℕ → ℕ → (ℕ → ℕ) → ℕ → ℕ
handed low high new owner n = picks (dec_le low n) (dec_le (suc n) high) new (owner n)

handed_in : (low high new : ℕ) (owner : ℕ → ℕ) (n : ℕ) → low ≤ n → n < high → handed low high new owner n ≡ new
handed_in low high new owner n a b = picks_in (dec_le low n) (dec_le (suc n) high) new (owner n) a (omega arith)

handed_out : (low high new : ℕ) (owner : ℕ → ℕ) (n : ℕ) → (low ≤ n → n < high → ⊥) → handed low high new owner n ≡ owner n
handed_out low high new owner n out = picks_out (dec_le low n) (dec_le (suc n) high) new (owner n) (λ a b. out a (omega arith))

-- what one seat owned, another does
abbrev passed : ℕ → ℕ → (ℕ → ℕ) → ℕ → ℕ
passed from to owner n = picks (ℕ_discrete (owner n) from) (ℕ_discrete 0 0) to (owner n)

passed_on : (from to : ℕ) (owner : ℕ → ℕ) (n : ℕ) → owner n ≡ from → passed from to owner n ≡ to
passed_on from to owner n e = picks_in (ℕ_discrete (owner n) from) (ℕ_discrete 0 0) to (owner n) e refl

passed_by : (from to : ℕ) (owner : ℕ → ℕ) (n : ℕ) → owner n ≢ from → passed from to owner n ≡ owner n
passed_by from to owner n apart = picks_out (ℕ_discrete (owner n) from) (ℕ_discrete 0 0) to (owner n) (λ e _. apart e)

-- ---- one more view

at_end : {A : Type 0} (l : List A) (a b : A) (j : ℕ) → get_elem? (l ++ a ∷ []) j ≡ some b → ((j ≢ length l) × (get_elem? l j ≡ some b)) ⊎ ((j ≡ length l) × (a ≡ b))
at_end [] a b zero e = inr (refl, some-injective a b e)
at_end [] a b (suc j) e = absurd (some-ne-none b (sym e))
at_end (x ∷ xs) a b zero e = inl ((λ h. absurd (omega arith)), e)
at_end (x ∷ xs) a b (suc j) e = ⊎_elim (λ t. let n = t.0 in inl ((λ h. n (omega arith)), t.1)) (λ t. let same = t.0 in inr (omega arith, t.1)) (at_end xs a b j e)

-- a number that a view has: who owns it, and that its entries are seen
pub brings : (setup : Setup) (log : List Posted) (turn holder : ℕ) (owner : ℕ → ℕ) (at : ℕ) (v : View) → Knows setup log turn holder owner at v → (n : ℕ)
    → HasNumberIn v.first v.span v.used n → (n < setup.seats) × (owner n ≡ at) × (posted_by n v.seen ≡ posted_by n log)
brings setup log turn holder owner at v known n has = ⊎_elim (known.uses n)
    (λ (r : (v.first ≤ n) × (n < v.first + v.span)). let low = r.0 in let high = r.1 in dite (ℕ_discrete n v.first)
    (λ is. known.uses n (subst (λ (k : ℕ). Contains v.used k) (sym is) (known.number (omega arith))))
    (λ apart. let s = known.spares n (omega arith) high in (s.0, s.1, none_before n v.seen log known.begins s.2 ∙ sym s.2))) has

-- a view without numbers and turn knows nothing but a beginning
knows_note : (setup : Setup) (log : List Posted) (turn holder : ℕ) (owner : ℕ → ℕ) (at : ℕ) (v : View) → ((s : Setup) → v.setup ≡ Some s → s ≡ setup)
    → IsPrefix v.seen log → Knows setup log turn holder owner at (note_of v)
knows_note setup log turn holder owner at v is begins = record {
  of_lock = is;
  begins = begins;
  olds = All-nil _;
  turns = λ t. absurd (cc);
  uses = λ n c. let inside = c.1 in absurd (omega arith);
  spares = λ n a b. absurd (omega arith);
  number = λ l. absurd (omega arith);
}

knows_spent : (setup : Setup) (log : List Posted) (turn holder : ℕ) (owner : ℕ → ℕ) (at : ℕ) → Knows setup log turn holder owner at spent_view
knows_spent setup log turn holder owner at = record {
  of_lock = λ s e. absurd (cc);
  begins = (log, refl);
  olds = All-nil _;
  turns = λ t. absurd (cc);
  uses = λ n c. let inside = c.1 in absurd (omega arith);
  spares = λ n a b. absurd (omega arith);
  number = λ l. absurd (omega arith);
}

module _ {B : Type 0} (history_of : B → List Posted) (basis_of : B → Basis) (setup : Setup) where
  abbrev St : Type 0
  St = State (Option B) View

  abbrev Rule : St → Type 0
  Rule = Kept history_of basis_of setup

  abbrev turn_of : St → ℕ
  turn_of s = get_or s.words 0 0

  -- a seat that has no turn is not the holder
  not_holder : (s : St) (k : Rule s) (id : ℕ) (v : View) → get_elem? s.views id ≡ some v → v.turn ≡ false
      → (h : View) × (get_elem? s.views k.holder ≡ some h) × (h.turn ≡ true) → k.holder ≢ id
  not_holder s k id v at free h is =
      let same : h.0 ≡ v = some-injective h.0 v (sym h.1 ∙ (ap (get_elem? s.views) is ∙ at)) in
      let both : true ≡ false = sym h.2 ∙ (ap (λ (x : View). x.turn) same ∙ free) in absurd (cc (both))

  pub notes : (id : ℕ) (v : View) → Splits Rule id v v (note_of v)
  notes id v s k at =
      let same : set s.views id v ≡ s.views = set_again' s.views id v at in
      subst (λ (vs : List View). Rule record { words = s.words; homes = s.homes; views = vs ++ note_of v ∷ [] }) (sym same) record {
        history = k.history;
        holder = k.holder;
        owner = k.owner;
        two_words = k.two_words;
        one_slot = k.one_slot;
        turn_is = k.turn_is;
        count_is = k.count_is;
        home = k.home;
        held = λ one. let h = k.held one in (h.0, at_longer s.views (note_of v ∷ []) k.holder h.0 h.1, h.2);
        borne = λ n has. let u = k.borne n has in (u.0, at_longer s.views (note_of v ∷ []) (k.owner n) u.0 u.1, u.2);
        each = λ j d there. ⊎_elim (λ (t : (j ≢ length s.views) × (get_elem? s.views j ≡ some d)). k.each j d t.1)
            (λ (t : (j ≡ length s.views) × (note_of v ≡ d)). subst (λ (x : View). Knows setup k.history (turn_of s) k.holder k.owner j x) t.1
            (let known = k.each id v at in knows_note setup k.history (turn_of s) k.holder k.owner j v known.of_lock known.begins))
            (at_end s.views (note_of v) d j there);
      }
    where
      set_again' : (l : List View) (i : ℕ) (a : View) → get_elem? l i ≡ some a → set l i a ≡ l
      set_again' = Rattle.atomic_table.proofs.Lists.set_again

  pub splits : (count id : ℕ) (v : View) → v.turn ≡ false → 0 < count → count < v.span → Splits Rule id v (keeps_lower count v) (has_upper count v)
  splits count id v free some_number fewer s k at =
      let known = k.each id v at in
      let left : View = keeps_lower count v in
      let right : View = has_upper count v in
      let low : ℕ = upper_of count v in
      let high : ℕ = v.first + v.span in
      let vs : List View = set s.views id left in
      let new : ℕ = length vs in
      let owner' : ℕ → ℕ = handed low high new k.owner in
      let upper : (n : ℕ) → low ≤ n → n < high → (n < setup.seats) × (k.owner n ≡ id) × (posted_by n k.history ≡ []) × ¬ Contains v.used n = λ n a b. known.spares n (omega arith) b in
      let here : get_elem? vs id ≡ some left = set_at s.views id v left at in
      let stays_owned : (n j : ℕ) → j ≢ id → k.owner n ≡ j → owner' n ≡ j = λ n j other o. handed_out low high new k.owner n (λ a b. other (sym o ∙ (upper n a b).1)) ∙ o in
      let none_yet : (n : ℕ) → low ≤ n → n < high → posted_by n v.seen ≡ [] = λ n a b. none_before n v.seen k.history known.begins (upper n a b).2 in
      record {
        history = k.history;
        holder = k.holder;
        owner = owner';
        two_words = k.two_words;
        one_slot = k.one_slot;
        turn_is = k.turn_is;
        count_is = k.count_is;
        home = k.home;
        held = λ one. let h = k.held one in
            (h.0, at_longer vs (right ∷ []) k.holder h.0 (set_else s.views id k.holder left (not_holder s k id v at free h) ∙ h.1), h.2);
        borne = λ n has.
            let u = k.borne n has in
            let same : owner' n ≡ k.owner n = handed_out low high new k.owner n (λ a b. has (upper n a b).2) in
            let there : (w : View) × (get_elem? vs (k.owner n) ≡ some w) × Contains w.used n = dite (ℕ_discrete (k.owner n) id)
            (λ is.
            let was : u.0 ≡ v = some-injective u.0 v (sym u.1 ∙ (ap (get_elem? s.views) is ∙ at)) in
            (left, ap (get_elem? vs) is ∙ here, subst (λ (x : View). Contains x.used n) was u.2))
            (λ apart. (u.0, set_else s.views id (k.owner n) left apart ∙ u.1, u.2)) in
            (there.0, ap (get_elem? (vs ++ right ∷ [])) same ∙ at_longer vs (right ∷ []) (k.owner n) there.0 there.1, there.2);
        each = λ j d there. ⊎_elim
            (λ (t : (j ≢ length vs) × (get_elem? vs j ≡ some d)). seats_stay (Knows setup k.history (turn_of s) k.holder owner') s.views id left
            record {
              of_lock = known.of_lock;
              begins = known.begins;
              olds = known.olds;
              turns = λ (t : v.turn ≡ true). let both : true ≡ false = sym t ∙ free in absurd (cc (both));
              uses = λ n c. let u = known.uses n c in (u.0, handed_out low high new k.owner n (λ a b. (upper n a b).3 c) ∙ u.1, u.2);
              spares = λ n a b. let u = known.spares n a (omega (arith, b)) in (u.0, handed_out low high new k.owner n (λ c d. absurd (omega (arith, b, c))) ∙ u.1, u.2, u.3);
              number = λ _. known.number (omega arith);
            }
            (λ i x other e. stays setup k.history k.history (turn_of s) (turn_of s) k.holder k.holder k.owner owner' i x (prefix_self k.history)
            (λ n o. (stays_owned n i other o, refl)) (λ one holds. (one, holds, refl)) (k.each i x e)) j d t.1)
            (λ (t : (j ≡ length vs) × (right ≡ d)). subst (λ (x : ℕ × View). Knows setup k.history (turn_of s) k.holder owner' x.0 x.1) (λ i. (sym t.0 i, t.1 i))
            (record {
              of_lock = known.of_lock;
              begins = known.begins;
              olds = All-cons (Remembers v.seen) (record { seen = []; numbers = low ∷ [] }) []
                  ((v.seen, refl), (λ n c. let e = only_one low n c in none_yet n (omega arith) (omega arith))) (All-nil _);
              turns = λ t. absurd (cc);
              uses = λ n c. let e = only_one low n c in let a : low ≤ n = omega arith in let b : n < high = omega arith in let u = upper n a b in
                  (u.0, handed_in low high new k.owner n a b, none_yet n a b ∙ sym u.2);
              spares = λ n a b. let c : low ≤ n = omega (arith, a) in let d : n < high = omega (arith, b) in let u = upper n c d in
                  (u.0, handed_in low high new k.owner n c d, u.2, λ e. let same = only_one low n e in absurd (omega (arith, a)));
              number = λ _. first_of low [];
            }))
            (at_end vs right d j there);
      }

  pub joins : (id : ℕ) (v : View) (other : ℕ) (o : View) → v.turn ≡ false → o.turn ≡ false → Joins Rule id v other o (joined v o) spent_view
  joins id v other o free free' s k at apart there =
      let both : View = joined v o in
      let vs : List View = set s.views id both in
      let at' : get_elem? s.views other ≡ some o = sym (set_else s.views id other both apart) ∙ there in
      let known = k.each id v at in
      let his = k.each other o at' in
      let log : List Posted = k.history in
      let long : List Posted = longer v.seen o.seen in
      let owner' : ℕ → ℕ = passed other id k.owner in
      let begins : IsPrefix long log = longer_is (λ l. IsPrefix l log) v.seen o.seen known.begins his.begins in
      let left : IsPrefix v.seen long = longer_begins_left v.seen o.seen log known.begins his.begins in
      let right : IsPrefix o.seen long = longer_begins_right v.seen o.seen log known.begins his.begins in
      let keeps_owner : (n : ℕ) → k.owner n ≢ other → owner' n ≡ k.owner n = λ n. passed_by other id k.owner n in
      let not_other : (n : ℕ) → k.owner n ≡ id → k.owner n ≢ other = λ n o e. apart (sym e ∙ o) in
      let mine : (n : ℕ) → Contains v.used n → posted_by n long ≡ posted_by n v.seen = λ n c. same_between n v.seen long log left begins (known.uses n c).2 in
      let his_numbers : (n : ℕ) → Contains (numbers_of o.first o.span o.used) n → (n < setup.seats) × (k.owner n ≡ other) × (posted_by n o.seen ≡ posted_by n log) =
      λ n c. brings setup log (turn_of s) k.holder k.owner other o his n (range_of o.first o.span o.used n c) in
      let theirs : (n : ℕ) → Contains (numbers_of o.first o.span o.used) n → posted_by n long ≡ posted_by n o.seen =
      λ n c. same_between n o.seen long log right begins (his_numbers n c).2 in
      let knows_both : Knows setup log (turn_of s) k.holder owner' id both = record {
        of_lock = known.of_lock;
        begins = begins;
        olds = All-cons (Remembers long) (record { seen = v.seen; numbers = v.used }) (past_of o ∷ []) (left, mine)
            (All-cons (Remembers long) (past_of o) [] (right, theirs) (All-nil _));
        turns = λ (t : v.turn ≡ true). let no_turn : true ≡ false = sym t ∙ free in absurd (cc (no_turn));
        uses = λ n c. ⊎_elim
            (λ c. let u = known.uses n c in (u.0, keeps_owner n (not_other n u.1) ∙ u.1, mine n c ∙ u.2))
            (λ c. let u = his_numbers n c in (u.0, passed_on other id k.owner n u.1, theirs n c ∙ u.2))
            (Contains-append_cases v.used (numbers_of o.first o.span o.used) n c);
        spares = λ n a b. let u = known.spares n a b in (
          u.0,
          keeps_owner n (not_other n u.1) ∙ u.1,
          u.2,
          λ c. ⊎_elim u.3 (λ c. apart (sym (his_numbers n c).1 ∙ u.1)) (Contains-append_cases v.used (numbers_of o.first o.span o.used) n c),
        );
        number = λ l. Contains-append_left v.used (numbers_of o.first o.span o.used) v.first (known.number l);
      } in
      let here : get_elem? (set vs other spent_view) id ≡ some both = set_else vs other id spent_view (λ e. apart (sym e)) ∙ set_at s.views id v both at in
      record {
        history = log;
        holder = k.holder;
        owner = owner';
        two_words = k.two_words;
        one_slot = k.one_slot;
        turn_is = k.turn_is;
        count_is = k.count_is;
        home = k.home;
        held = λ one. let h = k.held one in
            (h.0, set_else vs other k.holder spent_view (not_holder s k other o at' free' h) ∙ (set_else s.views id k.holder both (not_holder s k id v at free h) ∙ h.1), h.2);
        borne = λ n has.
            let u = k.borne n has in
            dite (ℕ_discrete (k.owner n) other)
            (λ is.
            let was : u.0 ≡ o = some-injective u.0 o (sym u.1 ∙ (ap (get_elem? s.views) is ∙ at')) in
            let used : Contains o.used n = subst (λ (x : View). Contains x.used n) was u.2 in (
              both,
              ap (get_elem? (set vs other spent_view)) (passed_on other id k.owner n is) ∙ here,
              Contains-append_right v.used (numbers_of o.first o.span o.used) n (Contains-append_left o.used (numbers_from o.first o.span) n used),
            ))
            (λ not_his. dite (ℕ_discrete (k.owner n) id)
            (λ is.
            let was : u.0 ≡ v = some-injective u.0 v (sym u.1 ∙ (ap (get_elem? s.views) is ∙ at)) in
            let used : Contains v.used n = subst (λ (x : View). Contains x.used n) was u.2 in (
              both,
              ap (get_elem? (set vs other spent_view)) (keeps_owner n not_his ∙ is) ∙ here,
              Contains-append_left v.used (numbers_of o.first o.span o.used) n used,
            ))
            (λ not_mine. (
              u.0,
              ap (get_elem? (set vs other spent_view)) (keeps_owner n not_his)
                  ∙ (set_else vs other (k.owner n) spent_view not_his ∙ (set_else s.views id (k.owner n) both not_mine ∙ u.1)),
              u.2,
            )));
        each = seats_stay (Knows setup log (turn_of s) k.holder owner') vs other spent_view (knows_spent setup log (turn_of s) k.holder owner' other)
            (λ j d not_his e. seats_stay (λ i x. i ≢ other → Knows setup log (turn_of s) k.holder owner' i x) s.views id both (λ _. knows_both)
            (λ i x not_mine e i_not_his. stays setup log log (turn_of s) (turn_of s) k.holder k.holder k.owner owner' i x (prefix_self log)
            (λ n own. (keeps_owner n (λ is. i_not_his (sym own ∙ is)) ∙ own, refl)) (λ one holds. (one, holds, refl)) (k.each i x e)) j d e not_his);
      }

-- what a seat remembers of a join
pub remembered : {B : Type 0} (v o : View) (cs : List (ℕ × Option B)) (m n : Me (Option B) View) → m ≡ (joined v o, cs) → n ≡ (without_olds m.0, m.1)
    → All (Remembers m.0.seen) m.0.olds
    → IsPrefix v.seen n.0.seen × IsPrefix o.seen n.0.seen × HasSameOf v.used v.seen n.0.seen × HasSameOf (numbers_of o.first o.span o.used) o.seen n.0.seen
remembered {B} v o cs m n is after all =
    let long : List Posted = longer v.seen o.seen in
    let mine : Past = record { seen = v.seen; numbers = v.used } in
    let both = subst (λ (z : Me (Option B) View). All (Remembers z.0.seen) z.0.olds) is all in
    let left = All-head (Remembers long) mine (past_of o ∷ []) both in
    let right = All-head (Remembers long) (past_of o) [] (All-tail (Remembers long) mine (past_of o ∷ []) both) in
    let same : n.0.seen ≡ long = ap (λ (z : Me (Option B) View). z.0.seen) after ∙ ap (λ (z : Me (Option B) View). z.0.seen) is in
    let told : IsPrefix v.seen long × IsPrefix o.seen long × HasSameOf v.used v.seen long × HasSameOf (numbers_of o.first o.span o.used) o.seen long =
    (left.0, right.0, left.1, right.1) in
    subst (λ (l : List Posted). IsPrefix v.seen l × IsPrefix o.seen l × HasSameOf v.used v.seen l × HasSameOf (numbers_of o.first o.span o.used) o.seen l) (sym same) told
