-- What is written after a further piece of a text.
use Rattle.std.proofs.Common.{◌≡◌, ℕ, ◌+◌, ◌-◌, List, ◌++◌, length, length-append, take, drop, Option, None, Some, Result, Ok, Err, [], ap, sym, subst, append-nil, ◌∙◌, append_assoc, arith, refl}
use Rattle.std.proofs.Math.Seq.{take-add, take-append-add}
use Rattle.std.proofs.lemmas.List.{take_rest, take-append-le}
use Rattle.std.specs.Prelude.{OnErr, OnOk}
use Rattle.dn_io.specs.Told.{with_end}
use Rattle.run_report.specs.Written.{HasFront}

with_end_piece : (told : Option (List ℕ)) (i n : ℕ) (text : List ℕ) → with_end (with_end told (take i text)) (take n (drop i text)) ≡ with_end told (take (i + n) text)
with_end_piece None i n text = refl
with_end_piece (Some bytes) i n text = ap (λ (all : List ℕ). Some all) (append_assoc bytes (take i text) (take n (drop i text)) ∙ ap (λ (rest : List ℕ). bytes ++ rest) (sym (take-add i n text)))

-- after the first i bytes of a text, the first n of the rest
pub with_end_further : (told before after : Option (List ℕ)) (i n : ℕ) (text : List ℕ) → before ≡ with_end told (take i text)
    → after ≡ with_end before (take n (take (length text - i) (drop i text))) → after ≡ with_end told (take (i + n) text)
with_end_further told before after i n text is_before is_after =
    is_after ∙ ap (λ (b : Option (List ℕ)). with_end b (take n (take (length text - i) (drop i text)))) is_before
    ∙ ap (λ (rest : List ℕ). with_end (with_end told (take i text)) (take n rest)) (take_rest text i) ∙ with_end_piece told i n text

-- ---- a text of several parts

-- a part and one behind it
pub with_end-two : (told : Option (List ℕ)) (a b : List ℕ) → with_end (with_end told a) b ≡ with_end told (a ++ b)
with_end-two None a b = refl
with_end-two (Some bytes) a b = ap (λ (all : List ℕ). Some all) (append_assoc bytes a b)

-- a front of the first part is one of all
pub front-first : (before after : Option (List ℕ)) (a b : List ℕ) → HasFront before after a → HasFront before after (a ++ b)
front-first before after a b front = (
  front.0,
  omega (arith, front.1, length-append a b),
  front.2 ∙ ap (λ (t : List ℕ). with_end before t) (sym (take-append-le front.0 a b front.1)),
)

-- the first part, and a front of what is behind it
pub front-second : (before mid after : Option (List ℕ)) (a b : List ℕ) → mid ≡ with_end before a → HasFront mid after b → HasFront before after (a ++ b)
front-second before mid after a b is front = (
  length a + front.0,
  omega (arith, front.1, length-append a b),
  front.2 ∙ ap (λ (m : Option (List ℕ)). with_end m (take front.0 b)) is ∙ with_end-two before a (take front.0 b)
      ∙ ap (λ (t : List ℕ). with_end before t) (sym (take-append-add a b front.0)),
)

-- what holds, holds after an error
pub on-error : {T E : Type 0} (result : Result T E) (P : Type 0) → P → OnErr result P
on-error (Ok x) P holds = tt
on-error (Err e) P holds = holds

-- the whole of a text of two parts was written, where the second was
pub wrote-two : {T E : Type 0} (result : Result T E) (before mid after : Option (List ℕ)) (a b whole : List ℕ) → mid ≡ with_end before a → a ++ b ≡ whole →
    OnOk result (after ≡ with_end mid b) → OnOk result (after ≡ with_end before whole)
wrote-two (Err e) before mid after a b whole is all wrote = tt
wrote-two (Ok x) before mid after a b whole is all wrote =
    wrote ∙ ap (λ (m : Option (List ℕ)). with_end m b) is ∙ with_end-two before a b ∙ ap (λ (t : List ℕ). with_end before t) all

-- and else a front of it
pub front-two : {T E : Type 0} (result : Result T E) (before mid after : Option (List ℕ)) (a b whole : List ℕ) → mid ≡ with_end before a → a ++ b ≡ whole →
    OnErr result (HasFront mid after b) → OnErr result (HasFront before after whole)
front-two (Ok x) before mid after a b whole is all front = tt
front-two (Err e) before mid after a b whole is all front = subst (λ (t : List ℕ). HasFront before after t) all (front-second before mid after a b is front)

-- nothing more was written
pub with_end_nothing : (told : Option (List ℕ)) → told ≡ with_end told []
with_end_nothing None = refl
with_end_nothing (Some bytes) = ap (λ (all : List ℕ). Some all) (sym (append-nil bytes))
