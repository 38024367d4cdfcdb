-- Routers that go round, from one to the next.
use Rattle.std.proofs.Common.{◌≡◌, ℕ, ◌+◌, ◌<◌, ◌≤◌, ◌∙◌, Bool, true, false, ◌&&◌, List, ◌∷◌, length, get_or, drop, ap, sym}
use Rattle.std.proofs.lemmas.List.{drop_more, drop_all}
use Rattle.base.specs.Cycles.{go_round}
use Rattle.base.specs.Reach.{is_router}
use Rattle.base.specs.Walk.{on_far}
use Rattle.base.specs.declared.ids.RouterId.{RouterId}
use Rattle.base.specs.declared.target.Target.{Target}

-- one router more goes on to the next, or doesn't
hop : (f : RouterId → Target) (first last : RouterId) (others : List RouterId) (i : ℕ) (d : RouterId) (target : Target) (b : Bool) → i < length others → target ≡ f last → on_far target false (is_router (get_or others i d)) ≡ b → go_round f first (last ∷ drop i others) ≡ (b && go_round f first (get_or others i d ∷ drop (i + 1) others))
hop f first last others i d target b l e g =
    ap (λ (rs : List RouterId). go_round f first (last ∷ rs)) (drop_more others i d l)
    ∙ ap (λ x. x && go_round f first (get_or others i d ∷ drop (i + 1) others)) (ap (λ (x : Target). on_far x false (is_router (get_or others i d))) (sym e) ∙ g)

pub hop-on : (f : RouterId → Target) (first last : RouterId) (others : List RouterId) (i : ℕ) (d : RouterId) (target : Target) (all : Bool) → i < length others → target ≡ f last → on_far target false (is_router (get_or others i d)) ≡ true → go_round f first (last ∷ drop i others) ≡ all → go_round f first (get_or others i d ∷ drop (i + 1) others) ≡ all
hop-on f first last others i d target all l e g h = sym (hop f first last others i d target true l e g) ∙ h

pub hop-off : (f : RouterId → Target) (first last : RouterId) (others : List RouterId) (i : ℕ) (d : RouterId) (target : Target) (all : Bool) → i < length others → target ≡ f last → on_far target false (is_router (get_or others i d)) ≡ false → go_round f first (last ∷ drop i others) ≡ all → false ≡ all
hop-off f first last others i d target all l e g h = sym (hop f first last others i d target false l e g) ∙ h

pub hop-back : (f : RouterId → Target) (first last : RouterId) (others : List RouterId) (i : ℕ) (target : Target) (all : Bool) → length others ≤ i → target ≡ f last → go_round f first (last ∷ drop i others) ≡ all → on_far target false (is_router first) ≡ all
hop-back f first last others i target all l e h =
    ap (λ (x : Target). on_far x false (is_router first)) e
    ∙ ap (λ (rs : List RouterId). go_round f first (last ∷ rs)) (sym (drop_all i others l)) ∙ h
