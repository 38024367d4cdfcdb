-- The generated network and script, as the code makes them.
use Rattle.std.proofs.Common.{◌≡◌, ℕ, ◌+◌, ◌<◌, ◌++◌, ◌∷◌, List, [], IsTrue, true, map, refl, arith, append_assoc, decimal, sym, ◌∙◌}
use Rattle.std.proofs.lemmas.Bool.Decides.{nat_tests}
use Rattle.std.proofs.lemmas.Grind.{common_steps}
use Rattle.std.specs.List.{range_with_len}
use Rattle.std.proofs.lemmas.List.FromFn.{map-range_with_len_more}
use Rattle.dn_formats.proofs.Decimals.{decimal_of_one}
use Rattle.base.specs.Name.{is_byte_of_name, is_name_text}
use Rattle.dn_model.specs.Topology.{is_sound_topology}
use Rattle.dn_run.specs.Made.{made_network, numbered}

pub row_none : {X : Type 0} (f : ℕ → X) → map f (range_with_len 0 0) ≡ []
row_none f = refl

pub row_more : {X : Type 0} (f : ℕ → X) (i : ℕ) → map f (range_with_len 0 (i + 1)) ≡ map f (range_with_len 0 i) ++ f i ∷ []
row_more f i = map-range_with_len_more f 0 i i (omega arith)

pub ruleset rows = (common_steps, row_none, row_more)

digit_byte : (d : ℕ) → d < 10 → is_byte_of_name (48 + d) ≡ true
digit_byte d lt = grind (arith, nat_tests, lt)

pub digit_name : (letter d : ℕ) → IsTrue (is_byte_of_name letter) → d < 10 → IsTrue (is_name_text (letter ∷ (48 + d) ∷ []))
digit_name letter d is lt = rw (is, digit_byte d lt) refl

pub digit_text : (letter d : ℕ) → d < 10 → letter ∷ (48 + d) ∷ [] ≡ numbered (letter ∷ []) d
digit_text letter d lt = decimal_of_one d (letter ∷ []) lt

digit-is : (d : ℕ) → d < 10 → decimal d ≡ (48 + d) ∷ []
digit-is d lt = sym (decimal_of_one d [] lt)

pub ring_sound : IsTrue (is_sound_topology made_network)
ring_sound =
    rw (
      digit-is 0 (omega arith),
      digit-is 1 (omega arith),
      digit-is 2 (omega arith),
      digit-is 3 (omega arith),
      digit-is 4 (omega arith),
      digit-is 5 (omega arith),
      digit-is 6 (omega arith),
      digit-is 7 (omega arith),
    ) refl

-- what was added piece by piece
pub seven_pieces : (a b c d e f g : List ℕ) → (((((([] ++ a) ++ b) ++ c) ++ d) ++ e) ++ f) ++ g ≡ a ++ (b ++ (c ++ (d ++ (e ++ (f ++ g)))))
seven_pieces a b c d e f g =
    append_assoc ((((a ++ b) ++ c) ++ d) ++ e) f g ∙ append_assoc (((a ++ b) ++ c) ++ d) e (f ++ g) ∙ append_assoc ((a ++ b) ++ c) d (e ++ (f ++ g))
    ∙ append_assoc (a ++ b) c (d ++ (e ++ (f ++ g))) ∙ append_assoc a b (c ++ (d ++ (e ++ (f ++ g))))
