-- The lines of a history's entries, part by part.
use Rattle.std.proofs.Common.{◌≡◌, ℕ, ◌+◌, ◌-◌, ◌++◌, ◌∙◌, List, [], ◌∷◌, ◌≤◌, length, take, drop, ap, sym, arith, length-append, length-take-le, take-add}
use Rattle.std.proofs.lemmas.List.{append_assoc, drop-drop, length-drop, take-append-drop}
use Rattle.dn_model.specs.Entry.{entries}
use Rattle.dn_model.specs.declared.entry.Posted.{Posted}
use Rattle.dn_model.specs.declared.topology.Topology.{Topology}
use Rattle.dn_formats.specs.Report.{entry_line, entry_lines}

-- the lines of some entries and of those behind them
lines-joined : (t : Topology) (i : ℕ) (xs ys : List Posted) → entry_lines t i (entries (xs ++ ys)) ≡ entry_lines t i (entries xs) ++ entry_lines t (i + length xs) (entries ys)
lines-joined t i [] ys =
    let same : i ≡ i + 0 = omega arith in
    ap (λ n. entry_lines t n (entries ys)) same
lines-joined t i (x ∷ xs) ys =
    let next : (i + 1) + length xs ≡ i + length (x ∷ xs) = omega arith in
    ap (λ l. entry_line t i x.entry ++ l) (lines-joined t (i + 1) xs ys)
    ∙ ap (λ n. entry_line t i x.entry ++ (entry_lines t (i + 1) (entries xs) ++ entry_lines t n (entries ys))) next
    ∙ sym (append_assoc (entry_line t i x.entry) (entry_lines t (i + 1) (entries xs)) (entry_lines t (i + length (x ∷ xs)) (entries ys)))

-- a page of entries, and what follows them
page-first : (history run : List Posted) (done : ℕ) → take (length run) (drop done history) ≡ run → drop done history ≡ run ++ drop (done + length run) history
page-first history run done page =
    sym (take-append-drop (length run) (drop done history))
    ∙ ap (λ xs. xs ++ drop (length run) (drop done history)) page
    ∙ ap (λ ys. run ++ ys) (drop-drop (length run) done history)

-- and it ends within the list
pub page-within : (history run : List Posted) (done : ℕ) → done ≤ length history → take (length run) (drop done history) ≡ run → done + length run ≤ length history
page-within history run done inside page =
    let rest = drop (done + length run) history in
    omega (arith, inside, ap length (page-first history run done page), length-drop done history, length-append run rest)

-- the lines of the first entries of a list, and of further ones
pub lines-further : (t : Topology) (i d k : ℕ) (xs : List Posted) → d ≤ length xs →
    entry_lines t i (entries (take (d + k) xs)) ≡ entry_lines t i (entries (take d xs)) ++ entry_lines t (i + d) (entries (take k (drop d xs)))
lines-further t i d k xs within =
    ap (λ ys. entry_lines t i (entries ys)) (take-add d k xs)
    ∙ lines-joined t i (take d xs) (take k (drop d xs))
    ∙ ap (λ n. entry_lines t i (entries (take d xs)) ++ entry_lines t (i + n) (entries (take k (drop d xs)))) (length-take-le d xs within)

-- the lines of a run of entries are added to those from a place to where it begins
pub run-added : (t : Topology) (history run : List Posted) (from upto : ℕ) (first out more : List ℕ) → from ≤ upto → upto ≤ length history →
    take (length run) (drop upto history) ≡ run → out ≡ first ++ entry_lines t (from + 1) (entries (take (upto - from) (drop from history))) →
    more ≡ out ++ entry_lines t (upto + 1) (entries run) →
    more ≡ first ++ entry_lines t (from + 1) (entries (take (upto + length run - from) (drop from history)))
run-added t history run from upto first out more begun within is so added =
    let place : from + (upto - from) ≡ upto = omega (arith, begun) in
    let number : from + 1 + (upto - from) ≡ upto + 1 = omega (arith, begun) in
    let count : upto - from + length run ≡ upto + length run - from = omega (arith, begun) in
    let here : drop (upto - from) (drop from history) ≡ drop upto history = drop-drop (upto - from) from history ∙ ap (λ n. drop n history) place in
    let inside : upto - from ≤ length (drop from history) = omega (arith, within, length-drop from history) in
    added
    ∙ ap (λ o. o ++ entry_lines t (upto + 1) (entries run)) so
    ∙ append_assoc first (entry_lines t (from + 1) (entries (take (upto - from) (drop from history)))) (entry_lines t (upto + 1) (entries run))
    ∙ ap (λ xs. first ++ (entry_lines t (from + 1) (entries (take (upto - from) (drop from history))) ++ entry_lines t (upto + 1) (entries xs)))
    (sym (ap (take (length run)) here ∙ is))
    ∙ ap (λ n. first ++ (entry_lines t (from + 1) (entries (take (upto - from) (drop from history))) ++ entry_lines t n (entries (take (length run) (drop (upto - from) (drop from history)))))) (sym number)
    ∙ ap (λ ls. first ++ ls) (sym (lines-further t (from + 1) (upto - from) (length run) (drop from history) inside))
    ∙ ap (λ n. first ++ entry_lines t (from + 1) (entries (take n (drop from history)))) count

-- the lines of the entries before a place, and of some from there on
pub lines-upto : (t : Topology) (history : List Posted) (done count : ℕ) → done ≤ length history →
    entry_lines t 1 (entries (take done history)) ++ entry_lines t (done + 1) (entries (take count (drop done history))) ≡ entry_lines t 1 (entries (take (done + count) history))
lines-upto t history done count within =
    let number : done + 1 ≡ 1 + done = omega arith in
    ap (λ n. entry_lines t 1 (entries (take done history)) ++ entry_lines t n (entries (take count (drop done history)))) number
    ∙ sym (lines-further t 1 done count history within)

-- the lines of all entries: of those before a place, of some from there on, and of the rest
pub lines-split : (t : Topology) (history : List Posted) (done count : ℕ) → done ≤ length history →
    entry_lines t 1 (entries history) ≡ (entry_lines t 1 (entries (take done history)) ++ entry_lines t (done + 1) (entries (take count (drop done history))))
    ++ entry_lines t (1 + length (take (done + count) history)) (entries (drop (done + count) history))
lines-split t history done count within =
    ap (λ xs. entry_lines t 1 (entries xs)) (sym (take-append-drop (done + count) history))
    ∙ lines-joined t 1 (take (done + count) history) (drop (done + count) history)
    ∙ ap (λ ls. ls ++ entry_lines t (1 + length (take (done + count) history)) (entries (drop (done + count) history)))
    (sym (lines-upto t history done count within))
