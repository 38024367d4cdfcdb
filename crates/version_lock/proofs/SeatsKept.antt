-- What a seat is after a call that worked with its view.
use Rattle.std.proofs.Common.{◌≡◌, ℕ, ◌+◌, ◌-◌, ◌<◌, false, List, [], ◌∷◌, ◌++◌, length, sym, refl, ap, ◌∙◌, subst, arith, length-append, eq-eqb, ne_eqb}
use Rattle.std.specs.Prelude.{Option, Result, Ok, Err, IfOk, OnOk, Contains, ◌==◌}
use Rattle.std.proofs.lemmas.List.Elements.{filter-append, Contains-append_left}
use mathlib.Core.List.{IsPrefix}
use Rattle.atomic_table.specs.Table.{Me}
use Rattle.atomic_table.specs.declared.badge.Badge.{Badge}
use Rattle.dn_model.specs.declared.entry.Entry.{Entry}
use Rattle.dn_model.specs.declared.entry.Posted.{Posted}
use Rattle.version_lock.specs.declared.book.PostRefused.{PostRefused}
use Rattle.version_lock.specs.declared.seat.Seat.TheInside.{Inside}
use Rattle.version_lock.specs.declared.view.View.{View}
use Rattle.version_lock.specs.Callers.{Caller, Applied, caller_of, posted_of, view_in}
use Rattle.version_lock.specs.History.{posted_by, HasSameOf}
use Rattle.version_lock.specs.Rule.{joined, keeps_lower, has_upper, upper_of, numbers_of}
use Rattle.version_lock.specs.Seats.{IsSeat, caller_at}
use Rattle.version_lock.specs.Steps.{holding, having_seen, without_turn, without_olds}
use Rattle.version_lock.specs.Tokens.{HasSameNumbers}
use Rattle.version_lock.proofs.Histories.{prefix_trans}
use Rattle.version_lock.proofs.Numbers.{first_of}

-- the view of a seat is the one that its badge had
pub view_was : (old : Inside) (v : View) → IsSeat old → old.badge.views ≡ v ∷ [] → view_in old.badge.views ≡ v
view_was old v is e = ap view_in e

-- a seat whose view has the same numbers and no turn is a seat again
pub seat_again : (old : Inside) (badge : Badge View) (v w : View) → IsSeat old → old.badge.views ≡ v ∷ [] → badge.views ≡ w ∷ [] → HasSameNumbers v w → w.turn ≡ false
    → IsSeat record { badge = badge; number = old.number; span = old.span }
seat_again old badge v w is had has same free = let now : view_in badge.views ≡ w = ap view_in has in let was : view_in old.badge.views ≡ v = ap view_in had in record {
  one = has ∙ ap (λ (x : View). x ∷ []) (sym now);
  number_is = is.number_is ∙ (ap (λ (x : View). x.first) was ∙ (sym same.first ∙ ap (λ (x : View). x.first) (sym now)));
  span_is = is.span_is ∙ (ap (λ (x : View). x.span) was ∙ (sym same.span ∙ ap (λ (x : View). x.span) (sym now)));
  some_number = is.some_number;
  in_range = is.in_range;
  uses_number = subst (λ (x : View). Contains x.used x.first) (sym now)
      (subst (λ (z : List ℕ × ℕ). Contains z.0 z.1) (λ i. (sym same.used i, sym same.first i)) (subst (λ (x : View). Contains x.used x.first) was is.uses_number));
  no_turn = ap (λ (x : View). x.turn) now ∙ free;
}

-- what a call that won the turn leaves of a seat
pub seat_after : (old : Inside) (badge : Badge View) (v held w : View) (history : List Posted) → IsSeat old → old.badge.views ≡ v ∷ [] → held ≡ holding history v
    → HasSameNumbers held w → w.turn ≡ false → badge.views ≡ w ∷ [] → IsSeat record { badge = badge; number = old.number; span = old.span }
seat_after old badge v held w history is had holds same free has =
    let as_held : HasSameNumbers (holding history v) w = subst (λ (x : View). HasSameNumbers x w) holds same in
    seat_again old badge v w is had has (record { setup = as_held.setup; first = as_held.first; span = as_held.span; used = as_held.used }) free

pub seen_after : (old : Inside) (seat : Caller) (badge : Badge View) (v held w : View) (history : List Posted) → caller_at old ≡ seat → old.badge.views ≡ v ∷ []
    → held ≡ holding history v → IsPrefix v.seen history → IsPrefix held.seen w.seen → badge.views ≡ w ∷ [] → IsPrefix seat.seen (view_in badge.views).seen
seen_after old seat badge v held w history is had holds first then has =
    let was : v.seen ≡ seat.seen = ap (λ (x : View). x.seen) (sym (ap view_in had)) ∙ ap (λ (x : Caller). x.seen) is in
    let all : IsPrefix v.seen w.seen = prefix_trans v.seen held.seen w.seen (subst (λ (x : View). IsPrefix v.seen x.seen) (sym holds) first) then in
    subst (λ (z : List Posted × View). IsPrefix z.0 z.1.seen) (λ i. (was i, ap view_in (sym has) i)) all

append_none : (a : List Posted) → a ++ [] ≡ a
append_none [] = refl
append_none (x ∷ a) = ap (λ w. x ∷ w) (append_none a)

-- one more entry is one more of the number that it bears
pub posted_more : (l : List Posted) (p : Posted) → posted_by p.seat (l ++ p ∷ []) ≡ posted_by p.seat l ++ p ∷ []
posted_more l p = filter-append (λ (y : Posted). y.seat == p.seat) l (p ∷ []) ∙ rw (eq-eqb p.seat p.seat refl) refl

pub posted_else : (n : ℕ) (l : List Posted) (p : Posted) → ¬ (p.seat ≡ n) → posted_by n (l ++ p ∷ []) ≡ posted_by n l
posted_else n l p apart = filter-append (λ (y : Posted). y.seat == n) l (p ∷ []) ∙ rw (ne_eqb p.seat n apart) (append_none (posted_by n l))

pub applied_is : (answer : Result ℕ PostRefused) (entry : Entry) (limit : ℕ) (old new : Caller) (h : List Posted) → Contains old.used old.number → IsPrefix old.seen h
    → HasSameOf old.used old.seen h → OnOk answer (new.seen ≡ h ++ posted_of old entry ∷ []) → IfOk answer (λ n. n ≡ length h + 1) → OnOk answer (length h < limit)
    → IfOk answer (Applied entry limit old new)
applied_is (Err e) entry limit old new h number begins own seen position room = tt
applied_is (Ok p) entry limit old new h number begins own seen position room =
    let long : length new.seen ≡ length h + 1 = ap length seen ∙ length-append h (posted_of old entry ∷ []) in
    record {
      number = position ∙ sym long;
      room = omega arith;
      before = h;
      begins = begins;
      ends = seen;
      own = ap (posted_by old.number) seen ∙ (posted_more h (posted_of old entry) ∙ ap (λ (l : List Posted). l ++ posted_of old entry ∷ []) (own old.number number));
      others = λ n c apart. ap (posted_by n) seen ∙ (posted_else n h (posted_of old entry) (λ e. apart (sym e)) ∙ own n c);
    }

-- what a seat has after its entry was applied
pub applied_after : {B : Type 0} (old : Inside) (seat : Caller) (badge : Badge View) (v held : View) (m : Me (Option B) View) (h : List Posted) (answer : Result ℕ PostRefused) (entry : Entry) (limit : ℕ)
    → IsSeat old → caller_at old ≡ seat → old.badge.views ≡ v ∷ [] → held ≡ holding h v → IsPrefix v.seen h → HasSameOf v.used v.seen h
    → OnOk answer (m ≡ (without_turn (having_seen (held.seen ++ record { seat = old.number; entry = entry } ∷ []) held), []))
    → IfOk answer (λ n. n ≡ length held.seen + 1) → OnOk answer (length held.seen < limit) → badge.views ≡ m.0 ∷ []
    → IfOk answer (Applied entry limit seat (caller_at record { badge = badge; number = old.number; span = old.span }))
applied_after {B} old seat badge v held m h (Err e) entry limit is view had holds first own after position room has = tt
applied_after {B} old seat badge v held m h (Ok p) entry limit is view had holds first own after position room has =
    let was : view_in old.badge.views ≡ v = ap view_in had in
    let now : view_in badge.views ≡ m.0 = ap view_in has in
    let new : Caller = caller_of badge.table_id (view_in badge.views) in
    let before : Caller = caller_of old.badge.table_id v in
    let seat_is : before ≡ seat = ap (caller_of old.badge.table_id) (sym was) ∙ view in
    let number : old.number ≡ v.first = is.number_is ∙ ap (λ (x : View). x.first) was in
    let seen_h : held.seen ≡ h = ap (λ (x : View). x.seen) holds in
    let ends : new.seen ≡ h ++ posted_of before entry ∷ [] =
    ap (λ (x : View). x.seen) now ∙ (ap (λ (x : Me (Option B) View). x.0.seen) after ∙ (λ i. let e : Posted = record { seat = number i; entry = entry } in seen_h i ++ e ∷ [])) in
    let done : Applied entry limit before new p = applied_is (Ok p) entry limit before new h (subst (λ (x : View). Contains x.used x.first) was is.uses_number) first own ends
    (position ∙ ap (λ (l : List Posted). length l + 1) seen_h) (subst (λ (l : List Posted). length l < limit) seen_h room) in
    subst (λ (z : Caller). Applied entry limit z new p) seat_is done

-- a seat that took another in is a seat again
pub seat_joined : (old : Inside) (badge : Badge View) (v o w : View) → IsSeat old → old.badge.views ≡ v ∷ [] → badge.views ≡ w ∷ [] → w ≡ without_olds (joined v o)
    → IsSeat record { badge = badge; number = old.number; span = old.span }
seat_joined old badge v o w is had has joins =
    let was : view_in old.badge.views ≡ v = ap view_in had in
    let now : view_in badge.views ≡ without_olds (joined v o) = ap view_in has ∙ joins in
    record {
      one = has ∙ ap (λ (x : View). x ∷ []) (sym (ap view_in has));
      number_is = is.number_is ∙ (ap (λ (x : View). x.first) was ∙ sym (ap (λ (x : View). x.first) now));
      span_is = is.span_is ∙ (ap (λ (x : View). x.span) was ∙ sym (ap (λ (x : View). x.span) now));
      some_number = is.some_number;
      in_range = is.in_range;
      uses_number = subst (λ (x : View). Contains x.used x.first) (sym now)
          (Contains-append_left v.used (numbers_of o.first o.span o.used) v.first (subst (λ (x : View). Contains x.used x.first) was is.uses_number));
      no_turn = ap (λ (x : View). x.turn) now ∙ (ap (λ (x : View). x.turn) (sym was) ∙ is.no_turn);
    }

-- a seat that gave numbers away is a seat again
pub seat_lower : (old : Inside) (badge : Badge View) (v w : View) (count : ℕ) → IsSeat old → old.badge.views ≡ v ∷ [] → badge.views ≡ w ∷ [] → w ≡ keeps_lower count v
    → count < old.span → IsSeat record { badge = badge; number = old.number; span = old.span - count }
seat_lower old badge v w count is had has keeps fewer =
    let was : view_in old.badge.views ≡ v = ap view_in had in
    let now : view_in badge.views ≡ keeps_lower count v = ap view_in has ∙ keeps in
    let range = is.in_range in
    record {
      one = has ∙ ap (λ (x : View). x ∷ []) (sym (ap view_in has));
      number_is = is.number_is ∙ (ap (λ (x : View). x.first) was ∙ sym (ap (λ (x : View). x.first) now));
      span_is = ap (λ (n : ℕ). n - count) (is.span_is ∙ ap (λ (x : View). x.span) was) ∙ sym (ap (λ (x : View). x.span) now);
      some_number = omega arith;
      in_range = omega arith;
      uses_number = subst (λ (x : View). Contains x.used x.first) (sym now) (subst (λ (x : View). Contains x.used x.first) was is.uses_number);
      no_turn = ap (λ (x : View). x.turn) now ∙ (ap (λ (x : View). x.turn) (sym was) ∙ is.no_turn);
    }

-- the numbers that were given away make a seat
pub seat_upper : (old : Inside) (badge : Badge View) (v w : View) (count : ℕ) → IsSeat old → old.badge.views ≡ v ∷ [] → badge.views ≡ w ∷ []
    → w ≡ without_olds (has_upper count v) → 0 < count → count < old.span → IsSeat record { badge = badge; number = old.number + (old.span - count); span = count }
seat_upper old badge v w count is had has given some_number fewer =
    let was : view_in old.badge.views ≡ v = ap view_in had in
    let now : view_in badge.views ≡ without_olds (has_upper count v) = ap view_in has ∙ given in
    let range = is.in_range in
    let first : old.number ≡ v.first = is.number_is ∙ ap (λ (x : View). x.first) was in
    let span : old.span ≡ v.span = is.span_is ∙ ap (λ (x : View). x.span) was in
    record {
      one = has ∙ ap (λ (x : View). x ∷ []) (sym (ap view_in has));
      number_is = (λ i. first i + (span i - count)) ∙ sym (ap (λ (x : View). x.first) now);
      span_is = sym (ap (λ (x : View). x.span) now);
      some_number = some_number;
      in_range = omega arith;
      uses_number = subst (λ (x : View). Contains x.used x.first) (sym now) (first_of (upper_of count v) []);
      no_turn = ap (λ (x : View). x.turn) now;
    }
