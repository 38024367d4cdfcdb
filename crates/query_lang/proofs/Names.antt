-- Names parted by commas are the first name, and each other after a comma.
use Rattle.std.proofs.Common.{◌≡◌, ℕ, List, [], ◌∷◌, ◌++◌, codes, ap, sym, ◌∙◌, append_assoc, arith}
use Rattle.std.proofs.lemmas.Grind.{common_steps}
use Rattle.std.specs.List.{flat_map, join_with_byte}

names_as_commas : (n : List ℕ) (ms : List (List ℕ)) → join_with_byte 44 (n ∷ ms) ≡ n ++ flat_map (λ m. codes "," ++ m) ms
names_as_commas n [] = grind (arith, common_steps)
names_as_commas n (m ∷ ms) = ap (λ rest. n ++ (codes "," ++ rest)) (names_as_commas m ms)

-- the first name is added, and then each other after a comma
pub names_added : (before between after first n : List ℕ) (ms : List (List ℕ)) → first ≡ n → between ≡ before ++ first
    → after ≡ between ++ flat_map (λ m. codes "," ++ m) ms → after ≡ before ++ join_with_byte 44 (n ∷ ms)
names_added before between after first n ms is_first one others =
    others ∙ ap (λ (x : List ℕ). x ++ flat_map (λ m. codes "," ++ m) ms) (one ∙ ap (λ (x : List ℕ). before ++ x) is_first)
    ∙ append_assoc before n (flat_map (λ m. codes "," ++ m) ms) ∙ ap (λ (x : List ℕ). before ++ x) (sym (names_as_commas n ms))
