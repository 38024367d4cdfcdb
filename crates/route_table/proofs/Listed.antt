-- The routes of slots listed, one page after another.
use Rattle.std.proofs.Common.{◌≡◌, ◌<◌, ◌≤◌, ◌+◌, ◌-◌, ◌∙◌, ℕ, List, [], ◌∷◌, ◌++◌, get_or, length, map, min, take, drop, ap, sym, append_assoc, take-add, arith}
use Rattle.std.proofs.lemmas.List.{append-nil, length-drop, length-take, map-append, take_more}
use Rattle.std.proofs.lemmas.Grind.{flat_map-append}
use Rattle.base.specs.Cidr.{Cidr}
use Rattle.dn_model.specs.declared.entry.Route.{Route}
use Rattle.route_table.specs.Targets.{route_at}
use Rattle.route_table.specs.declared.metric_way.MetricWay.{MetricWay}
use Rattle.route_table.specs.Rows.{slot_in, slots_in}
use Rattle.route_table.specs.declared.rows.PrefixRow.{PrefixRow}
use Rattle.route_table.proofs.SideBySide.{inside, stands}
use Rattle.route_table.specs.Slots.{PrefixRoutes, routes_at, routes_of}

pub run-inside : {T : Type 0} (slots run : List T) (place : ℕ) → take (length run) (drop place slots) ≡ run → place ≤ length slots → place + length run ≤ length slots
run-inside {T} slots run place is l =
    let e : length (take (length run) (drop place slots)) ≡ length run = ap (λ (xs : List T). length xs) is in
    let m : length (take (length run) (drop place slots)) ≡ min (length run) (length (drop place slots)) = length-take (length run) (drop place slots) in
    let n : length (drop place slots) ≡ length slots - place = length-drop place slots in
    omega arith

-- the routes of one more page
pub run-more : (slots run : List PrefixRoutes) (n place : ℕ) (first now new : List Route) → n ≡ length run → take (length run) (drop place slots) ≡ run → now ≡ first ++ routes_of (take place slots) → new ≡ now ++ routes_of run → new ≡ first ++ routes_of (take (place + n) slots)
run-more slots run n place first now new many is so more =
    let all : take (place + n) slots ≡ take place slots ++ run = ap (λ k. take (place + k) slots) many ∙ take-add place (length run) slots ∙ ap (λ xs. take place slots ++ xs) is in
    more
    ∙ ap (λ rs. rs ++ routes_of run) so
    ∙ append_assoc first (routes_of (take place slots)) (routes_of run)
    ∙ ap (λ rs. first ++ rs) (sym (ap routes_of all ∙ flat_map-append routes_at (take place slots) run))

-- and of one more row
pub slot-more : (lane : ℕ) (rows : List PrefixRow) (i : ℕ) (r : PrefixRow) (first now new : List Route) → i < length rows → r ≡ get_or rows i r → now ≡ first ++ routes_of (take i (slots_in lane rows)) → new ≡ now ++ routes_at (slot_in lane r) → new ≡ first ++ routes_of (take (i + 1) (slots_in lane rows))
slot-more lane rows i r first now new l is so more =
    let slots : List PrefixRoutes = slots_in lane rows in
    let here : slot_in lane r ≡ get_or slots i (slot_in lane r) = stands lane rows i r (slot_in lane r) l is in
    let all : take (i + 1) slots ≡ take i slots ++ slot_in lane r ∷ [] = take_more slots i (slot_in lane r) (inside lane rows i l) ∙ ap (λ (s : PrefixRoutes). take i slots ++ s ∷ []) (sym here) in
    let one : routes_of (slot_in lane r ∷ []) ≡ routes_at (slot_in lane r) = append-nil (routes_at (slot_in lane r)) in
    more
    ∙ ap (λ rs. rs ++ routes_at (slot_in lane r)) so
    ∙ append_assoc first (routes_of (take i slots)) (routes_at (slot_in lane r))
    ∙ ap (λ rs. first ++ rs) (ap (λ rs. routes_of (take i slots) ++ rs) (sym one) ∙ sym (ap routes_of all ∙ flat_map-append routes_at (take i slots) (slot_in lane r ∷ [])))

-- and of one more page of one prefix's routes
pub ways-more : (p : Cidr) (ways run : List MetricWay) (place : ℕ) (first now new : List Route) → take (length run) (drop place ways) ≡ run → now ≡ first ++ map (route_at p) (take place ways) → new ≡ now ++ map (route_at p) run → new ≡ first ++ map (route_at p) (take (place + length run) ways)
ways-more p ways run place first now new is so more =
    let all : take (place + length run) ways ≡ take place ways ++ run = take-add place (length run) ways ∙ ap (λ xs. take place ways ++ xs) is in
    more
    ∙ ap (λ rs. rs ++ map (route_at p) run) so
    ∙ append_assoc first (map (route_at p) (take place ways)) (map (route_at p) run)
    ∙ ap (λ rs. first ++ rs) (sym (ap (map (route_at p)) all ∙ map-append (route_at p) (take place ways) run))
