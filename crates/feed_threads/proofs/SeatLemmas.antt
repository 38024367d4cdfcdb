-- What a seat saw more of the history, and what of it is its own.
use Rattle.std.proofs.Common.{◌≡◌, ℕ, ◌<◌, length, take, arith, Bool, true, if◌then◌else◌, append_assoc, List, [], ◌∷◌, ◌++◌, refl, ap, sym, ◌∙◌, subst, Result, Ok, Err, OnOk, OnErr, IsErr}
use Rattle.std.specs.Prelude.{Contains}
use Rattle.std.proofs.lemmas.List.{map-append}
use mathlib.Core.List.{IsPrefix}
use Rattle.version_lock.proofs.Histories.{prefix_self, prefix_trans}
use Rattle.version_lock.specs.Callers.{Caller, IsSameSeat, KeepsOwn, IsSeatOf, Lock}
use Rattle.dn_model.specs.Entry.{entries}
use Rattle.dn_model.specs.declared.entry.Entry.{Entry}
use Rattle.dn_model.specs.declared.entry.Entry.TheVariants.{Route}
use Rattle.feed_model.specs.Steps.{entries_by}
use Rattle.dn_model.specs.declared.entry.Op.{Op}
use Rattle.base.specs.declared.ids.RouterId.{RouterId}
use Rattle.feed_threads.specs.Seats.{own_of, LooksOn, SawMore}
use Rattle.feed_threads.specs.Takes.{TookFirst}

-- a seat that saw nothing more
pub saw-none : (seat : Caller) → SawMore seat seat
saw-none seat = record { same = refl; seen = prefix_self seat.seen; others = λ n is other. refl }

-- a seat that saw more, and then more
pub saw-more : (old mid new : Caller) → SawMore old mid → SawMore mid new → SawMore old new
saw-more old mid new a b = record {
  same = b.same ∙ ap (λ (s : Caller). record s { seen = new.seen }) a.same;
  seen = prefix_trans old.seen mid.seen new.seen a.seen b.seen;
  others = λ n is other.
      b.others n (subst (λ (s : Caller). Contains s.used n) (sym a.same) is) (λ e. other (e ∙ ap (λ (s : Caller). s.number) a.same))
      ∙ a.others n is other;
}

-- the number of a seat that saw more is the one that it had
pub saw-number : (old new : Caller) → SawMore old new → new.number ≡ old.number
saw-number old new saw = ap (λ (s : Caller). s.number) saw.same

-- and it is still the lock's
pub saw-seat : (lock : Lock) (old new : Caller) → SawMore old new → IsSeatOf lock old → IsSeatOf lock new
saw-seat lock old new saw is = subst (λ (s : Caller). IsSeatOf lock s) (sym saw.same) is

-- a seat each of whose used numbers has the entries that it had
pub looks_kept : (old new : Caller) → IsSameSeat old new → IsPrefix old.seen new.seen → Contains old.used old.number → KeepsOwn old new → LooksOn old new
looks_kept old new same seen is keeps = record { saw = record { same = same; seen = seen; others = λ n is other. keeps n is }; own = ap entries (keeps old.number is) }

pub looks_none : (seat : Caller) → LooksOn seat seat
looks_none seat = record { saw = saw-none seat; own = refl }

-- a seat that looked twice
pub looks_more : (old mid new : Caller) → LooksOn old mid → LooksOn mid new → LooksOn old new
looks_more old mid new a b = record {
  saw = saw-more old mid new a.saw b.saw;
  own = subst (λ (n : ℕ). own_of n new.seen ≡ own_of n mid.seen) (saw-number old mid a.saw) b.own ∙ a.own;
}

-- the own entries once one more update of a feed was applied
pub own-more : (old mid new : Caller) (n : ℕ) (ops more : List (RouterId × Op)) (u : RouterId × Op) (took : Bool) → SawMore old mid → took ≡ true → more ≡ ops ++ u ∷ [] →
    own_of old.number mid.seen ≡ own_of old.number old.seen ++ entries_by n ops →
    own_of mid.number new.seen ≡ own_of mid.number mid.seen ++ (if took then Route u.0 n u.1 ∷ [] else []) →
    own_of old.number new.seen ≡ own_of old.number old.seen ++ entries_by n more
own-more old mid new n ops more u took saw is parts before after =
    let e : Entry = Route u.0 n u.1 in
    let one : own_of mid.number new.seen ≡ own_of mid.number mid.seen ++ e ∷ [] = after ∙ ap (λ (b : Bool). own_of mid.number mid.seen ++ (if b then e ∷ [] else [])) is in
    subst (λ (k : ℕ). own_of k new.seen ≡ own_of k mid.seen ++ e ∷ []) (saw-number old mid saw) one
    ∙ ap (λ es. es ++ e ∷ []) before ∙ append_assoc (own_of old.number old.seen) (entries_by n ops) (e ∷ [])
    ∙ ap (λ es. own_of old.number old.seen ++ es) (sym (map-append (λ (v : RouterId × Op). Route v.0 n v.1) ops (u ∷ [])))
    ∙ ap (λ os. own_of old.number old.seen ++ entries_by n os) (sym parts)

-- the own entries once a further update was refused: the first n of them stand
pub first-refused : (old mid new : Caller) (feed_no : ℕ) (ops : List (RouterId × Op)) (n : ℕ) → SawMore old mid → n < length ops →
    own_of old.number mid.seen ≡ own_of old.number old.seen ++ entries_by feed_no (take n ops) → own_of mid.number new.seen ≡ own_of mid.number mid.seen →
    TookFirst old.number feed_no old.seen new.seen ops
first-refused old mid new feed_no ops n saw below before same = record {
  n = n;
  few = omega (arith, below);
  grows = subst (λ (k : ℕ). own_of k new.seen ≡ own_of k mid.seen) (saw-number old mid saw) same ∙ before;
}

-- what holds in any case holds where a call was refused
pub on-err : {A E : Type 0} (result : Result A E) (P : Type 0) → P → OnErr result P
on-err (Ok o) P p = tt
on-err (Err e) P p = p

-- an answer that is refused promises nothing of what it would have given
pub none-ok : {A E : Type 0} (result : Result A E) (P : Type 0) → IsErr result → OnOk result P
none-ok (Ok o) P is = absurd (cc (is))
none-ok (Err e) P is = tt
