-- An edit of one child of a fork is an edit of the fork.
use Rattle.std.proofs.Common.{◌≡◌, ℕ, ◌+◌, ◌<◌, List, ◌++◌, length, get_or, set, take, drop, ap, sym, subst, ◌∙◌, IfOk, OnErr, IsErr, is_ok, if◌then◌else◌, arith, length-append, length-drop}
use Rattle.std.specs.declared.result.Result.{Result}
use Rattle.std.specs.declared.result.Result.TheVariants.{Ok, Err}
use Rattle.std.specs.Fn.{FnOnceReturnsAtMut}
use Rattle.std.proofs.lemmas.List.{length-set, length-take-le}
use denote.Param.Members.{Once}
use denote.Ref.{MutBor}
use Rattle.version_pages.specs.Shape.{Shape, items_of, joined}
use Rattle.version_pages.specs.Changes.{Changes, ChangesRun}
use Rattle.version_pages.specs.Keys.{first_key}
use Rattle.version_pages.proofs.Ending.{place-few}
use Rattle.version_pages.proofs.Inserted.{put-in, put-key, run-in}
use Rattle.version_pages.proofs.Joined.{get-in, set-in, same-in}

module _ {F T R E : Type 0} (g : Once F (MutBor T × Unit {0}) (R × (MutBor T × Unit {0}))) (f : F) where
  pub changed-in : (kids : List (Shape T)) (all : List T) (k i j : ℕ) (kid x : Shape T) (res : Result R E) → joined kids ≡ all → kid ≡ get_or kids k kid → k < length kids → i ≡ length (joined (take k kids)) + j → j < length (items_of (get_or kids k kid)) → IfOk res (Changes g f (items_of kid) (items_of x) j) → IfOk res (Changes g f all (joined (set kids k x)) i)
  changed-in kids all k i j kid x (Ok r) e is l place in' h = record {
    value = h.value;
    called = λ d. subst (λ t. FnOnceReturnsAtMut g f t r h.value) (ap (λ s. get_or (items_of s) j d) is ∙ sym (get-in kids k i j kid d l place in') ∙ ap (λ t. get_or t i d) e) (h.called d);
    list = set-in kids k i j kid x h.value l place in' (h.list ∙ ap (λ s. set (items_of s) j h.value) is) ∙ ap (λ t. set t i h.value) e;
  }
  changed-in kids all k i j kid x (Err r) e is l place in' h = tt

-- there are as many elements as before
pub changed-long : {F T R E : Type 0} (g : Once F (MutBor T × Unit {0}) (R × (MutBor T × Unit {0}))) (f : F) (old new : List T) (i : ℕ) (res : Result R E) → IfOk res (Changes g f old new i) → OnErr res (new ≡ old) → length new ≡ length old
changed-long g f old new i (Ok r) changed same = ap length changed.list ∙ length-set old i changed.value
changed-long g f old new i (Err e) changed same = ap length same

-- a change of some elements of one child is one of the fork
module _ {F T R E : Type 0} (g : Once F (MutBor (List T) × Unit {0}) (R × (MutBor (List T) × Unit {0}))) (f : F) where
  pub run-changed-in : (kids : List (Shape T)) (all : List T) (k i j : ℕ) (kid x : Shape T) (res : Result R E) → joined kids ≡ all → kid ≡ get_or kids k kid → k < length kids → i ≡ length (joined (take k kids)) + j → IfOk res (ChangesRun g f (items_of kid) (items_of x) j) → IfOk res (ChangesRun g f all (joined (set kids k x)) i)
  run-changed-in kids all k i j kid x (Ok r) e is l place h = record {
    count = h.count;
    some = h.some;
    inside = omega (arith, h.inside, place, place-few kids k kid l is, ap length e);
    run = h.run;
    long = h.long;
    called = subst (λ t. FnOnceReturnsAtMut g f t r h.run) (run-in kids all i k j kid e l is place h.count h.inside) h.called;
    list = put-in kids all i k j kid e l is place h.run (i + h.count) (j + h.count) x (omega (arith, place)) (omega (arith, h.inside)) h.inside h.list;
  }
  run-changed-in kids all k i j kid x (Err r) e is l place h = tt

  pub run-long : (old new : List T) (i : ℕ) (res : Result R E) → IfOk res (ChangesRun g f old new i) → OnErr res (new ≡ old) → length new ≡ length old
  run-long old new i (Ok r) h same = omega (arith, ap length h.list, length-append (take i old ++ h.run) (drop (i + h.count) old), length-append (take i old) h.run, length-take-le i old (omega (arith, h.inside)), h.long, length-drop (i + h.count) old, h.inside)
  run-long old new i (Err r) h same = ap length same

  pub run-key : (key_of : T → ℕ) (old new : List T) (i key : ℕ) (res : Result R E) → IfOk res (ChangesRun g f old new i) → OnErr res (new ≡ old) → key ≡ first_key key_of old → 0 < i → key ≡ first_key key_of new
  run-key key_of old new i key (Ok r) h same noted p = put-key key_of old new h.run (drop (i + h.count) old) i key noted (omega (arith, h.inside)) h.list p
  run-key key_of old new i key (Err r) h same noted p = noted ∙ sym (ap (first_key key_of) same)

-- the elements stay where those of the child do
pub same-kept : {T R E : Type 0} (kids : List (Shape T)) (all : List T) (k : ℕ) (kid x : Shape T) (res : Result R E) → joined kids ≡ all → kid ≡ get_or kids k kid → k < length kids → OnErr res (items_of x ≡ items_of kid) → OnErr res (joined (set kids k x) ≡ all)
same-kept kids all k kid x (Ok r) e is l h = tt
same-kept kids all k kid x (Err r) e is l h = same-in kids k kid x l (h ∙ ap items_of is) ∙ e

-- a call that leaves one value whatever was there puts that value
pub put-kept : {F T R E : Type 0} (g : Once F (MutBor T × Unit {0}) (R × (MutBor T × Unit {0}))) (f : F) (old new : List T) (i : ℕ) (v : T) (res : Result R E) → ((x y : T) (r : R) → FnOnceReturnsAtMut g f x r y → y ≡ v) → IfOk res (Changes g f old new i) → OnErr res (new ≡ old) → new ≡ (if is_ok res then set old i v else old)
put-kept g f old new i v (Ok r) puts changed same = changed.list ∙ ap (λ y. set old i y) (puts (get_or old i v) changed.value r (changed.called v))
put-kept g f old new i v (Err e) puts changed same = same

-- where it failed a list is as before
pub err-kept : {X R E : Type 0} (res : Result R E) (new more old : List X) → IsErr res → new ≡ old → new ≡ (if is_ok res then more else old)
err-kept (Ok r) new more old failed same = subst (λ b. new ≡ (if b then more else old)) failed same
err-kept (Err e) new more old failed same = same

-- what holds anyway holds where a call failed
pub on-err : {R E : Type 0} (res : Result R E) (P : Type 0) → P → OnErr res P
on-err (Ok r) P h = tt
on-err (Err e) P h = h
