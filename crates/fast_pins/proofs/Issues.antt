-- The last issue of a log, and the lists of a line.
use Rattle.std.proofs.Common.{◌≡◌, ◌≢◌, ℕ, ◌<◌, Bool, true, false, List, [], ◌∷◌, ◌++◌, length, map, filter, Option, Some, None, refl, ap, sym, ◌∙◌, subst, arith, append_assoc}
use Rattle.std.specs.Prelude.{◌==◌}
use Rattle.std.proofs.lemmas.List.{map-append}
use Rattle.std.proofs.lemmas.List.Elements.{filter-append}
use Rattle.std.proofs.lemmas.List.Sums.{fold-append}
use Rattle.std.proofs.lemmas.Bool.Decides.{nat_tests}
use mathlib.Core.List.{IsPrefix}
use Rattle.dn_model.specs.declared.entry.Posted.{Posted}
use Rattle.dn_model.specs.declared.topology.Topology.{Topology}
use Rattle.fast_pins.specs.declared.issue.Issue.{Issue}
use Rattle.fast_pins.specs.Law.{line_in, topology_in, list_in, lists_of}
use Rattle.fast_pins.proofs.Prefixes.{prefix_more}

pub line_last : (log : List Issue) (a : Issue) → line_in (log ++ a ∷ []) ≡ a.line
line_last log a = fold-append (λ (n : ℕ) (x : Issue). x.line) 0 log (a ∷ [])

pub topology_last : (log : List Issue) (a : Issue) → topology_in (log ++ a ∷ []) ≡ Some a.topology
topology_last log a = fold-append (λ (n : Option Topology) (x : Issue). Some x.topology) None log (a ∷ [])

pub list_last : (log : List Issue) (a : Issue) → list_in (log ++ a ∷ []) ≡ a.list
list_last log a = fold-append (λ (n : List Posted) (x : Issue). x.list) [] log (a ∷ [])

pub lists_append : (line : ℕ) (xs ys : List Issue) → lists_of line (xs ++ ys) ≡ lists_of line xs ++ lists_of line ys
lists_append line xs ys =
    let is : Issue → Bool = λ x. x.line == line in
    ap (map (λ (x : Issue). x.list)) (filter-append is xs ys) ∙ map-append (λ (x : Issue). x.list) (filter is xs) (filter is ys)

one_more : (a : Issue) (rest : List Issue) (b : Bool) (line : ℕ) → (a.line == line) ≡ b → b ≡ true → lists_of line (a ∷ rest) ≡ a.list ∷ lists_of line rest
one_more a rest true line is so = rw is refl
one_more a rest false line is so = absurd (cc (so))

pub lists_one : (a : Issue) → lists_of a.line (a ∷ []) ≡ a.list ∷ []
lists_one a = one_more a [] (a.line == a.line) a.line refl (grind (arith, nat_tests))

none_more : (a : Issue) (rest : List Issue) (b : Bool) (line : ℕ) → (a.line == line) ≡ b → b ≡ false → lists_of line (a ∷ rest) ≡ lists_of line rest
none_more a rest false line is so = rw is refl
none_more a rest true line is so = absurd (cc (so))

-- an issue of another line adds no list to this one
pub lists_other : (a : Issue) (rest : List Issue) (line : ℕ) → a.line ≢ line → lists_of line (a ∷ rest) ≡ lists_of line rest
lists_other a rest line apart = none_more a rest (a.line == line) line refl (grind (arith, nat_tests))

-- what a beginning of a log tells of a line is a beginning
pub lists_prefix : (line : ℕ) (xs ys : List Issue) → IsPrefix xs ys → IsPrefix (lists_of line xs) (lists_of line ys)
lists_prefix line xs ys p = (lists_of line p.0, sym (lists_append line xs p.0) ∙ ap (lists_of line) p.1)

-- with its last issue a line has one list more
pub lists_last : (line : ℕ) (log : List Issue) (a : Issue) → a.line ≡ line → lists_of line (log ++ a ∷ []) ≡ lists_of line log ++ a.list ∷ []
lists_last line log a is = lists_append line log (a ∷ []) ∙ ap (λ (l : List (List Posted)). lists_of line log ++ l) (subst (λ (n : ℕ). lists_of n (a ∷ []) ≡ a.list ∷ []) is (lists_one a))

-- a line has no list in the rest of a log where no beginning that goes into the rest ends with an issue of it
pub none_of : (line : ℕ) (front rest : List Issue) → ((zs : List Issue) → IsPrefix zs rest → 0 < length zs → line_in (front ++ zs) ≢ line) → lists_of line rest ≡ []
none_of line front [] apart = refl
none_of line front (e ∷ rest) apart =
    let here : e.line ≢ line = subst (λ (n : ℕ). n ≢ line) (line_last front e) (apart (e ∷ []) (prefix_more (e ∷ []) rest) (omega arith)) in
    lists_other e rest line here ∙ none_of line (front ++ e ∷ []) rest
    (λ zs p some. subst (λ (l : List Issue). line_in l ≢ line) (sym (append_assoc front (e ∷ []) zs)) (apart (e ∷ zs) (p.0, ap (λ (l : List Issue). e ∷ l) p.1) (omega arith)))
