-- What is kept before any update.
use Rattle.std.proofs.Common.{◌≡◌, ℕ, ◌<◌, ◌≤◌, ◌^◌, ◌∙◌, ◌||◌, ⊎_elim, false, Some, List, [], ◌∷◌, length, get_or, replicate, refl, ap, sym, subst, arith, eqb}
use Rattle.std.proofs.lemmas.Bool.{cases_eq, cases_lt, eq-eqb, ne_eqb}
use Rattle.std.proofs.lemmas.List.{get_or-replicate, get_or_past, length-replicate}
use Rattle.base.specs.Rows.{CoverFrom}
use Rattle.dn_model.specs.Rules.{OwnersOf}
use Rattle.net_engine.specs.Version.{Kept, KeptStandsFor, atom_at, first_of, past_of, rules_at, rules_in, target_at, target_in_atom}
use Rattle.dn_model.specs.declared.entry.Route.{Route}
use Rattle.base.specs.declared.ids.RouterId.{RouterId}
use Rattle.dn_model.specs.declared.rule.Rule.{Rule}
use Rattle.base.specs.declared.target.Target.TheVariants.{NoRoute}
use Rattle.dn_model.specs.declared.topology.Topology.{Topology}
use Rattle.base.proofs.Elements.{contains-none}
use Rattle.base.proofs.Covers.{holder-first, within-yes}
use Rattle.dn_model.proofs.SameRoutes.{SameRoutes}
use Rattle.net_engine.specs.Net.{AreWide, first_atom}
use Rattle.net_engine.specs.Whole.{Agrees, IsWhole}
use Rattle.net_engine.proofs.StandingFor.{stands}

-- of as many equal elements each place has one, and past them the default
all-same : {X : Type 0} (n i : ℕ) (x : X) → get_or (replicate n x) i x ≡ x
all-same n i x = ⊎_elim
    (λ (l : i < n). get_or-replicate n i x x l)
    (λ (l : n ≤ i). get_or_past (replicate n x) i x (rw length-replicate l))
    (cases_lt i n)

-- one atom of all addresses
abbrev pub first_kept : Topology → Kept
first_kept t = record { topology = t; atoms = first_atom (length t.routers) ∷ []; routes = replicate (length t.routers) []; objects = []; down = [] }

module _ (n : ℕ) where
  first-at : (a : ℕ) → a < 2 ^ 32 → atom_at (first_atom n ∷ []) a ≡ Some (first_atom n)
  first-at a l = holder-first first_of past_of (first_atom n) [] a (within-yes 0 (2 ^ 32) a (omega arith) l)

  first-rules : (r : RouterId) (a : ℕ) → a < 2 ^ 32 → rules_at (first_atom n ∷ []) r a ≡ []
  first-rules r a l = ap (λ o. rules_in o r) (first-at a l) ∙ all-same n r.0 []

  first-target : (r : RouterId) (a : ℕ) → a < 2 ^ 32 → target_at (first_atom n ∷ []) r a ≡ NoRoute
  first-target r a l = ap (λ o. target_in_atom o r) (first-at a l) ∙ all-same n r.0 NoRoute

  pub first-cover : CoverFrom first_of past_of 0 (first_atom n ∷ [])
  first-cover = (refl, let l : 0 < 2 ^ 32 = omega arith in l, refl)

  pub first-wide : AreWide n (first_atom n ∷ [])
  first-wide = (record { targets = length-replicate n NoRoute; owners = length-replicate n [] }, tt)

none-owned : (a : ℕ) → OwnersOf [] [] a
none-owned a = record {
  from = λ r h. absurd (contains-none r h);
  all = λ x h c. absurd (contains-none x h);
}

none-agree : (t : Topology) (r : RouterId) → Agrees t (first_atom (length t.routers) ∷ []) r []
none-agree t r = record {
  table = record { keys = refl; prefixes = λ x h. absurd (contains-none x h) };
  ways = λ x h. absurd (contains-none x h);
  ends = λ x h. absurd (contains-none x h);
  owners = λ a l. let P : List Rule → Type 0 = λ rs. OwnersOf rs [] a in subst P (sym (first-rules (length t.routers) r a l)) (none-owned a);
  does = λ a l. first-target (length t.routers) r a l;
}

pub first-whole : (t : Topology) → length t.routers ≤ 1024 → IsWhole (first_kept t)
first-whole t few = record {
  few = few;
  cover = first-cover (length t.routers);
  wide = first-wide (length t.routers);
  tables = length-replicate (length t.routers) [];
  objects = refl;
  agree = λ r l.
      let P : List Route → Type 0 = λ xs. Agrees t (first_atom (length t.routers) ∷ []) r xs in
      subst P (sym (all-same (length t.routers) r.0 [])) (none-agree t r);
}

first-begins : (a : ℕ) → (eqb 0 a || false) ≡ (eqb a 0 || false)
first-begins a = ap (λ b. b || false) (⊎_elim
    (λ (e : 0 ≡ a). eq-eqb 0 a e ∙ sym (eq-eqb a 0 (sym e)))
    (λ (n : 0 ≡ a → ⊥). ne_eqb 0 a n ∙ sym (ne_eqb a 0 (λ e. n (sym e))))
    (cases_eq 0 a))

-- it stands for the empty history
pub first-stands : (t : Topology) → length t.routers ≤ 1024 → KeptStandsFor (first_kept t) []
first-stands t few = stands (first_kept t) (first-whole t few) []
    (λ r.
    let P : List Route → Type 0 = λ xs. SameRoutes xs [] in
    subst P (sym (all-same (length t.routers) r.0 [])) (record { there = λ x h. h; back = λ x h. h }))
    (λ r id. refl) (λ l. refl) (λ a l. first-begins a)
