-- What reading a file whole leaves in the world's calls, and what bytes it gives.
use Rattle.std.proofs.Common.{◌≡◌, ℕ, ◌+◌, ◌≤◌, List, [], ◌∷◌, ◌++◌, Option, None, Some, Result, Ok, Err, IfOk, OnOk, IfSome, IsSome, IsSomeAnd, length, take, refl, ap, sym, ◌∙◌, inl, inr, arith, subst, true, false, not, ◌==◌}
use Rattle.std.proofs.lemmas.Bool.Decides.{nat_tests}
use Rattle.std.proofs.lemmas.List.{append-nil, take_all}
use Rattle.std.proofs.Math.Seq.{take-append_seam}
use Rattle.std.proofs.lemmas.Grind.{common_steps}
use Rattle.dn_io.specs.Told.{with_front}
use Rattle.dn_io.specs.Calls.{Call, CallState, Refused, Back, call_of, with_out, with_state, back_with, state_is_out}
use Rattle.dn_io.specs.Files.{Files, bytes_of}
use Rattle.dn_io.specs.Faults.{Rose}
use Rattle.dn_run.specs.Opened.{WasRead, ComesFrom, IsReadTo, IsReadFront, LeavesFront, FailsAt, WasFault, MayCallOne}
use Rattle.dn_run.proofs.CallsLemmas.{with_state-with_out}

-- the calls once the source of a name was given back
pub given_back : (old mid new : List Call) (name : List ℕ) (place : ℕ) (state : CallState) → mid ≡ with_out old name → place ≡ length old → new ≡ with_state mid place state → new ≡ old ++ call_of name state ∷ []
given_back old mid new name place state m p n = n ∙ rw (m, p) (with_state-with_out old name state)

-- a front of all that there is, which is all of it or as long as the limit and one
front_read : (limit : ℕ) (front : List ℕ) (left : Option (List ℕ)) (all : Option (List ℕ)) → IsSome all → with_front front left ≡ all → IsReadTo limit front left → length front ≤ limit + 1 →
    IsSomeAnd all (λ bytes. (Some bytes ≡ with_front front left) × (front ≡ take (limit + 1) bytes))
front_read limit front left None is same end within = grind (arith, common_steps, is)
front_read limit front None (Some bytes) is same end within = absurd (cc)
front_read limit front (Some rest) (Some bytes) is same (inl none) within =
    let whole : front ++ rest ≡ bytes = cc in
    let same_bytes : front ≡ bytes = sym (append-nil front) ∙ ap (λ r. front ++ r) (sym none) ∙ whole in
    (sym same, same_bytes ∙ sym (take_all (limit + 1) bytes (subst (λ (bs : List ℕ). length bs ≤ limit + 1) same_bytes within)))
front_read limit front (Some rest) (Some bytes) is same (inr past) within =
    let whole : front ++ rest ≡ bytes = cc in
    (sym same, sym (take-append_seam front rest) ∙ ap (λ n. take n (front ++ rest)) past ∙ ap (take (limit + 1)) whole)

comes_from : (files : Option Files) (name : List ℕ) (limit : ℕ) (bytes : List ℕ) (before after : Option (List ℕ)) → IfSome files (λ fs. IsSome (bytes_of fs name)) → IfSome files (λ fs. before ≡ bytes_of fs name) →
    with_front bytes after ≡ before → IsReadTo limit bytes after → length bytes ≤ limit + 1 → ComesFrom files name limit bytes after
comes_from None name limit bytes before after has is front end within = within
comes_from (Some fs) name limit bytes before after has is front end within = front_read limit bytes after (bytes_of fs name) has (front ∙ is) end within

pub was_read : {X E : Type 0} (items : X → List ℕ) (r : Result X E) (files : Option Files) (limit : ℕ) (old new : List Call) (name : List ℕ) (count count' : ℕ) (before after : Option (List ℕ)) →
    new ≡ old ++ call_of name (back_with count' after) ∷ [] → count ≡ 0 → OnOk r (count' ≡ count) →
    IfSome files (λ fs. IsSome (bytes_of fs name)) → IfSome files (λ fs. before ≡ bytes_of fs name) →
    IfOk r (λ v. with_front (items v) after ≡ before) → IfOk r (λ v. IsReadTo limit (items v) after) → IfOk r (λ v. length (items v) ≤ limit + 1) →
    IfOk r (λ v. WasRead files limit old name new (items v))
was_read items (Err e) files limit old new name count count' before after n z same has is front end within = tt
was_read items (Ok x) files limit old new name count count' before after n z same has is front end within =
    (after, n ∙ rw (same, z) refl, comes_from files name limit (items x) before after has is front end within)

-- a count that rose from 0 isn't 0
pub rose_from_zero : (before after : ℕ) → before ≡ 0 → Rose before after → not (after == 0) ≡ true
rose_from_zero before after z (inl lt) = grind (arith, nat_tests, lt)
rose_from_zero before after z (inr last) = rw last refl

read_front : (limit : ℕ) (all before after : Option (List ℕ)) → IsSome all → before ≡ all → LeavesFront limit before after → IsSomeAnd all (λ bytes. IsReadFront bytes limit after)
read_front limit None before after is same leaves = grind (arith, common_steps, is)
read_front limit (Some bytes) before after is same leaves = (leaves.0, leaves.1, sym same ∙ leaves.2)

fails_at : (files : Option Files) (name : List ℕ) (limit count : ℕ) (before after : Option (List ℕ)) → IfSome files (λ fs. IsSome (bytes_of fs name)) → IfSome files (λ fs. before ≡ bytes_of fs name) →
    not (count == 0) ≡ true → LeavesFront limit before after → IfSome files (λ fs. FailsAt fs name limit (back_with count after))
fails_at None name limit count before after has is failed leaves = tt
fails_at (Some fs) name limit count before after has is failed leaves =
    subst (λ b. FailsAt fs name limit (Back b after)) (sym failed) (read_front limit (bytes_of fs name) before after has is leaves)

pub was_fault : {P : Type 0} (files : Option Files) (limit : ℕ) (old new : List Call) (name : List ℕ) (count count' : ℕ) (before after : Option (List ℕ)) →
    new ≡ old ++ call_of name (back_with count' after) ∷ [] → count ≡ 0 → (P → Rose count count') → (P → LeavesFront limit before after) →
    IfSome files (λ fs. IsSome (bytes_of fs name)) → IfSome files (λ fs. before ≡ bytes_of fs name) → P → WasFault files limit old name new
was_fault files limit old new name count count' before after n z rose leaves has is p =
    let failed = rose_from_zero count count' z (rose p) in
    (back_with count' after, n, failed, refl, fails_at files name limit count' before after has is failed (leaves p))

pub called_one : (old new : List Call) (name : List ℕ) (state : CallState) → new ≡ old ++ call_of name state ∷ [] → state_is_out state ≡ false → MayCallOne old name new
called_one old new name state n back = inr (state, n, back)

-- a source that was not opened is a fault
pub was_refused : (files : Option Files) (limit : ℕ) (old new : List Call) (name : List ℕ) → new ≡ old ++ call_of name Refused ∷ [] → WasFault files limit old name new
was_refused None limit old new name n = (Refused, n, refl, refl, tt)
was_refused (Some fs) limit old new name n = (Refused, n, refl, refl, tt)
