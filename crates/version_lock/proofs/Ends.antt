-- The rule of a lock where it is made, and where it is closed.
use Rattle.std.proofs.Common.{◌≡◌, ◌≢◌, ◌⊎◌, ℕ, zero, suc, ◌+◌, ◌<◌, ◌≤◌, Bool, true, false, List, [], ◌∷◌, ◌++◌, sym, refl, ap, ◌∙◌, subst, ⊎_elim, arith, eq-eqb, Some, get_or, cond}
use Rattle.std.specs.Prelude.{Option, Contains, All, ◌==◌}
use Rattle.std.proofs.lemmas.List.Elements.{All-nil, All-cons, filter-append}
use mathlib.Core.Logic.{dite}
use mathlib.Core.Option.{some, some-injective, some-ne-none}
use native.Mathlib.Decide.{ℕ_discrete}
use lib.ListN.{get_elem?}
use Rattle.atomic_table.specs.Table.{opening, Final, Seen}
use Rattle.dn_model.specs.declared.entry.Posted.{Posted}
use Rattle.version_lock.specs.declared.book.Basis.{Basis}
use Rattle.version_lock.specs.declared.view.Setup.{Setup}
use Rattle.version_lock.specs.declared.view.View.{View}
use Rattle.version_lock.specs.declared.seat.Seat.TheInside.{Inside}
use Rattle.version_lock.specs.Callers.{Caller, HasNumber, caller_of, view_in}
use Rattle.version_lock.specs.Seats.{IsSeat, caller_at}
use Rattle.version_lock.specs.History.{posted_by}
use Rattle.version_lock.specs.Rule.{Knows, Kept, first_view}
use Rattle.version_lock.proofs.Histories.{prefix_self}

-- a number of a list of one
only_one : (x n : ℕ) → Contains (x ∷ []) n → n ≡ x
only_one x n c = let at = c.1 in let first : c.0 ≡ 0 = omega arith in sym c.2 ∙ ap (λ (k : ℕ). get_or (x ∷ []) k n) first

first_of : (x : ℕ) (xs : List ℕ) → Contains (x ∷ xs) x
first_of x xs = (0, omega arith, refl)

setup_in : (a b : Setup) → Some a ≡ Some b → a ≡ b
setup_in a b e = cc (e)

first_alone : (K : ℕ → View → Type 0) (v : View) → K 0 v → (at : ℕ) (w : View) → get_elem? (v ∷ []) at ≡ some w → K at w
first_alone K v mine zero w e = subst (K 0) (some-injective v w e) mine
first_alone K v mine (suc at) w e = absurd (some-ne-none w (sym e))

tail_none : {A : Type 0} (a b : List A) → a ++ b ≡ a → b ≡ []
tail_none [] b e = e
tail_none (x ∷ a) b e = tail_none a b (cc)

-- an entry bears its own number
bears : (x : Posted) (xs : List Posted) → posted_by x.seat (x ∷ xs) ≢ []
bears x xs = rw (eq-eqb x.seat x.seat refl) (λ e. absurd (cc (e)))

bears_later : (n : ℕ) (x : Posted) (xs : List Posted) → posted_by n xs ≢ [] → posted_by n (x ∷ xs) ≢ []
bears_later n x xs has = by_test (x.seat == n)
  where
    by_test : (b : Bool) → cond b (x ∷ posted_by n xs) (posted_by n xs) ≢ []
    by_test true e = absurd (cc (e))
    by_test false e = has e

bears_after : (n : ℕ) (xs ys : List Posted) → posted_by n ys ≢ [] → posted_by n (xs ++ ys) ≢ []
bears_after n [] ys has = has
bears_after n (x ∷ xs) ys has = bears_later n x (xs ++ ys) (bears_after n xs ys has)

-- what holds of each number that an entry bears holds of each entry's number
each_number : (P : ℕ → Type 0) (xs : List Posted) → ((n : ℕ) → posted_by n xs ≢ [] → P n) → All (λ p. P p.seat) xs
each_number P [] all = All-nil (λ (p : Posted). P p.seat)
each_number P (x ∷ xs) all = All-cons (λ (p : Posted). P p.seat) x xs (all x.seat (bears x xs)) (each_number P xs (λ n has. all n (bears_later n x xs has)))

module _ {B : Type 0} (history_of : B → List Posted) (basis_of : B → Basis) (setup : Setup) where
  pub opens : (book : B) → history_of book ≡ [] → basis_of book ≡ setup.basis → 0 < setup.seats
      → Kept history_of basis_of setup (opening (0 ∷ 0 ∷ []) (Some book ∷ []) (first_view setup))
  opens book empty based some_seat = record {
    history = [];
    holder = 0;
    owner = λ n. 0;
    two_words = refl;
    one_slot = refl;
    turn_is = omega arith;
    count_is = refl;
    home = λ _. (book, refl, empty, based);
    held = λ one. absurd (omega arith);
    borne = λ n has. absurd (has refl);
    each = first_alone (λ at v. Knows setup [] 0 0 (λ n. 0) at v) (first_view setup)
        record {
          of_lock = λ s e. sym (setup_in setup s e);
          begins = prefix_self [];
          olds = All-nil _;
          turns = λ t. absurd (cc);
          uses = λ n c. (subst (λ (k : ℕ). k < setup.seats) (sym (only_one 0 n c)) some_seat, refl, refl);
          spares = λ n a b. let small : n < setup.seats = omega (arith, b) in (small, refl, refl, λ c. let e = only_one 0 n c in omega arith);
          number = λ _. first_of 0 [];
        };
  }

  -- a seat that has a number owns it
  owns : (log : List Posted) (turn holder : ℕ) (owner : ℕ → ℕ) (id : ℕ) (v : View) → Knows setup log turn holder owner id v
      → (n : ℕ) → Contains v.used n ⊎ ((v.first ≤ n) × (n < v.first + v.span)) → owner n ≡ id
  owns log turn holder owner id v known n has = ⊎_elim (λ c. (known.uses n c).1)
      (λ (r : (v.first ≤ n) × (n < v.first + v.span)). let low = r.0 in let high = r.1 in dite (ℕ_discrete n v.first)
      (λ is. (known.uses n (subst (λ (k : ℕ). Contains v.used k) (sym is) (known.number (omega arith)))).1)
      (λ apart. (known.spares n (omega arith) high).1)) has

  -- a seat that has every number has seen all, uses each number that an entry bears, and finds the book at home
  pub closes : (id : ℕ) (v : View) (ws : List ℕ) (xs : List (Option B)) → Final (Seen (Kept history_of basis_of setup) id v) ws xs → v.turn ≡ false
      → ((n : ℕ) → n < setup.seats → Contains v.used n ⊎ ((v.first ≤ n) × (n < v.first + v.span)))
      → (book : B) × (get_elem? xs 0 ≡ some (Some book)) × (history_of book ≡ v.seen) × (basis_of book ≡ setup.basis) × All (λ p. Contains v.used p.seat) (history_of book)
  closes id v ws xs final free every =
      let s = final.0 in
      let k = final.1.0 in
      let at = final.1.1 in
      let known = k.each id v at in
      let own : (n : ℕ) → n < setup.seats → k.owner n ≡ id = λ n l. owns k.history (get_or s.words 0 0) k.holder k.owner id v known n (every n l) in
      let few = k.turn_is in
      let nobody : get_or s.words 0 0 ≡ 0 = dite (ℕ_discrete (get_or s.words 0 0) 0) (λ z. z) (λ taken.
      let h = k.held (omega arith) in
      let his = k.each k.holder h.0 h.1 in
      let number = his.uses h.0.first (his.number (his.turns h.2).3) in
      let me : k.holder ≡ id = sym number.1 ∙ own h.0.first number.0 in
      let same : h.0 ≡ v = some-injective h.0 v (sym h.1 ∙ (ap (get_elem? s.views) me ∙ at)) in
      let both : true ≡ false = sym h.2 ∙ (ap (λ (x : View). x.turn) same ∙ free) in absurd (cc (both))) in
      let home = k.home nobody in
      let used : (n : ℕ) → posted_by n k.history ≢ [] → Contains v.used n = λ n has.
      let u = k.borne n has in
      let his = (k.each (k.owner n) u.0 u.1).uses n u.2 in
      let same : u.0 ≡ v = some-injective u.0 v (sym u.1 ∙ (ap (get_elem? s.views) (own n his.0) ∙ at)) in
      subst (λ (x : View). Contains x.used n) same u.2 in
      let all : v.seen ≡ k.history = whole v.seen known.begins.0 k.history known.begins.1 (λ n has. (known.uses n (used n has)).2) in
      let same : history_of home.0 ≡ k.history = home.2 in (
        home.0,
        final.4 0 (Some home.0) home.1,
        same ∙ sym all,
        home.3,
        subst (λ (l : List Posted). All (λ p. Contains v.used p.seat) l) (sym same) (each_number (Contains v.used) k.history used),
      )
    where
      whole : (seen rest log : List Posted) → seen ++ rest ≡ log → ((n : ℕ) → posted_by n log ≢ [] → posted_by n seen ≡ posted_by n log) → seen ≡ log
      whole seen [] log is same = sym (append_none seen) ∙ is
        where
          append_none : (a : List Posted) → a ++ [] ≡ a
          append_none [] = refl
          append_none (x ∷ a) = ap (λ w. x ∷ w) (append_none a)
      whole seen (e ∷ es) log is same =
          let some_here : posted_by e.seat log ≢ [] = subst (λ (l : List Posted). posted_by e.seat l ≢ []) is (bears_after e.seat seen (e ∷ es) (bears e es)) in
          let parts : posted_by e.seat log ≡ posted_by e.seat seen ++ posted_by e.seat (e ∷ es) = ap (posted_by e.seat) (sym is) ∙ filter-append (λ (y : Posted). y.seat == e.seat) seen (e ∷ es) in
          absurd (bears e es (tail_none (posted_by e.seat seen) (posted_by e.seat (e ∷ es)) (sym parts ∙ sym (same e.seat some_here))))

  -- what comes out of the slot when the lock is closed by a seat
  pub closes_by : (lock_setup : Setup) (old : Inside) (seat : Caller) (id : ℕ) (v : View) (ws : List ℕ) (xs : List (Option B)) (taken : Option B)
      → setup ≡ lock_setup → IsSeat old → caller_at old ≡ seat → old.badge.views ≡ v ∷ [] → Final (Seen (Kept history_of basis_of setup) id v) ws xs
      → ((n : ℕ) → n < lock_setup.seats → HasNumber seat n) → get_elem? xs 0 ≡ some taken
      → (book : B) × (taken ≡ Some book) × (history_of book ≡ seat.seen) × (basis_of book ≡ lock_setup.basis) × All (λ p. Contains seat.used p.seat) (history_of book)
  closes_by lock_setup old seat id v ws xs taken same is view had final every out =
      let was : view_in old.badge.views ≡ v = ap view_in had in
      let seat_is : caller_of old.badge.table_id v ≡ seat = ap (caller_of old.badge.table_id) (sym was) ∙ view in
      let end = closes id v ws xs final (ap (λ (x : View). x.turn) (sym was) ∙ is.no_turn)
      (λ n l. subst (λ (z : Caller). HasNumber z n) (sym seat_is) (every n (subst (λ (z : Setup). n < z.seats) same l))) in (
        end.0,
        some-injective taken (Some end.0) (sym out ∙ end.1),
        end.2 ∙ ap (λ (z : Caller). z.seen) seat_is,
        end.3 ∙ ap (λ (z : Setup). z.basis) same,
        subst (λ (z : Caller). All (λ p. Contains z.used p.seat) (history_of end.0)) seat_is end.4,
      )
