-- Tests of addresses: where each router does the same with two addresses, both pass or neither does.
use Rattle.std.proofs.Common.{◌≡◌, ℕ, nat_lt, ◌-◌, ◌<◌, ◌≤◌, ◌∙◌, Bool, false, ◌&&◌, List, [], ◌∷◌, refl, ap, sym}
use Rattle.std.specs.List.{list_any, list_all}
use Rattle.base.specs.Cycles.{goes_to, go_round, is_cycle}
use Rattle.base.specs.Holes.{ends_by}
use Rattle.base.specs.Reach.{is_router, comes_before, is_over}
use Rattle.base.specs.RunsFrom.{DoAlike}
use Rattle.dn_model.specs.Test.{passes}
use Rattle.base.specs.Lists.{all_differ}
use Rattle.base.specs.Walk.{at_address, on_far, walk_end, walk_last}
use Rattle.base.specs.declared.path_end.PathEnd.{PathEnd}
use Rattle.base.specs.declared.ids.RouterId.{RouterId}
use Rattle.dn_model.specs.declared.plain_test.Test.{Test}
use Rattle.dn_model.specs.declared.plain_test.Test.TheVariants.{Reaches, Misses, GoesOver, Falls, GoesRound}
use Rattle.base.specs.declared.target.Target.{Target}
use Rattle.base.proofs.Walks.{walk-same, walk_end-same}
use Rattle.base.proofs.WalkLast.{walk_last-same}

goes_to-same : (f g : RouterId → Target) → ((r : RouterId) → f r ≡ g r) → (r s : RouterId) → goes_to f r s ≡ goes_to g r s
goes_to-same f g h r s = ap (λ t. on_far t false (is_router s)) (h r)

go_round-same : (f g : RouterId → Target) → ((r : RouterId) → f r ≡ g r) → (first : RouterId) (rs : List RouterId) → go_round f first rs ≡ go_round g first rs
go_round-same f g h first [] = refl
go_round-same f g h first (r ∷ []) = goes_to-same f g h r first
go_round-same f g h first (r ∷ s ∷ rest) =
    ap (λ b. b && go_round f first (s ∷ rest)) (goes_to-same f g h r s) ∙ ap (λ b. goes_to g r s && b) (go_round-same f g h first (s ∷ rest))

pub is_cycle-same : (f g : RouterId → Target) → ((r : RouterId) → f r ≡ g r) → (rs : List RouterId) → is_cycle f rs ≡ is_cycle g rs
is_cycle-same f g h [] = refl
is_cycle-same f g h (r ∷ rest) = ap (λ b. (list_all (λ s. nat_lt r.0 s.0) rest && all_differ is_router (r ∷ rest)) && b) (go_round-same f g h r (r ∷ rest))

pub passes-same : (n : ℕ) (does : RouterId → ℕ → Target) (test : Test) (a b : ℕ) → ((r : RouterId) → does r a ≡ does r b) → passes n does test a ≡ passes n does test b
passes-same n does (Reaches first to) a b h = ap (λ rs. list_any (is_router to) rs) (walk-same (at_address does a) (at_address does b) h n first)
passes-same n does (Misses first to through) a b h = ap (λ rs. comes_before to through rs) (walk-same (at_address does a) (at_address does b) h n first)
passes-same n does (GoesOver r l) a b h = ap (λ t. is_over l t) (h r)
passes-same n does (Falls first last cause) a b h =
    ap (λ (x : RouterId). is_router last x && ends_by cause (walk_end (at_address does a) n first)) (walk_last-same (at_address does a) (at_address does b) h n first)
    ∙ ap (λ (e : PathEnd). is_router last (walk_last (at_address does b) n first) && ends_by cause e) (walk_end-same (at_address does a) (at_address does b) h n first)
passes-same n does (GoesRound cycle) a b h = is_cycle-same (at_address does a) (at_address does b) h cycle

-- on an interval on which each router does the same with all addresses, all pass a test or none does
pub passes-alike : (n : ℕ) (does : RouterId → ℕ → Target) (test : Test) (low past : ℕ) (answer : Bool) → DoAlike does low past → answer ≡ passes n does test (past - 1) → (a : ℕ) → low ≤ a → a < past → passes n does test a ≡ answer
passes-alike n does test low past answer h e a from to = passes-same n does test a (past - 1) (λ r. h r a from to) ∙ sym e
