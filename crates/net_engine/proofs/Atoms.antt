-- Atoms of which one is cut, or has another one put in its place.
use Rattle.std.proofs.Common.{◌≡◌, ℕ, ◌<◌, ◌≤◌, ◌^◌, ◌∙◌, ◌⊎◌, ◌&&◌, ◌||◌, not, ⊎_elim, Bool, true, false, cond, Option, Some, List, [], ◌∷◌, refl, ap, sym, subst, arith, eqb, inl, inr}
use Rattle.std.proofs.lemmas.Bool.{and_from, and_left, and_right, cases_Bool, cases_eq, cases_lt, eq-eqb, ne_eqb, not_from_false, not_from_true}
use Rattle.base.specs.Rows.{is_within, CoverFrom}
use Rattle.net_engine.specs.Version.{Atom, atom_at, begins_at, first_of, past_of, rules_at, rules_in, target_at, target_in_atom}
use Rattle.base.specs.declared.ids.RouterId.{RouterId}
use Rattle.base.proofs.Covers.{holder-first, holder-rest, within-above, within-below, within-yes}
use Rattle.net_engine.specs.Net.{AreWide, IsWide, between, cut_atoms}
use Rattle.net_engine.proofs.Held.{within-high, within-low}

-- ---- a cut

-- the cut is in the first atom, or after it
pub cut-inside : (x : Atom) (xs : List Atom) (at : ℕ) → first_of x < at → at < past_of x → cut_atoms (x ∷ xs) at ≡ between (first_of x) at x ∷ between at (past_of x) x ∷ xs
cut-inside x xs at l m =
    let t : (is_within (first_of x) (past_of x) at && not (eqb (first_of x) at)) ≡ true = and_from (is_within (first_of x) (past_of x) at) (not (eqb (first_of x) at)) (within-yes (first_of x) (past_of x) at (omega arith) m) (not_from_false (eqb (first_of x) at) (ne_eqb (first_of x) at (λ e. omega arith))) in
    ap (λ b. cond b (between (first_of x) at x ∷ between at (past_of x) x ∷ xs) (x ∷ cut_atoms xs at)) t

cut-else : (x : Atom) (xs : List Atom) (at : ℕ) → (is_within (first_of x) (past_of x) at && not (eqb (first_of x) at)) ≡ false → cut_atoms (x ∷ xs) at ≡ x ∷ cut_atoms xs at
cut-else x xs at f = ap (λ b. cond b (between (first_of x) at x ∷ between at (past_of x) x ∷ xs) (x ∷ cut_atoms xs at)) f

pub cut-outside : (x : Atom) (xs : List Atom) (at : ℕ) → is_within (first_of x) (past_of x) at ≡ false → cut_atoms (x ∷ xs) at ≡ x ∷ cut_atoms xs at
cut-outside x xs at f = cut-else x xs at (and_left (is_within (first_of x) (past_of x) at) (not (eqb (first_of x) at)) f)

pub cut-on : (x : Atom) (xs : List Atom) (at : ℕ) → first_of x ≡ at → cut_atoms (x ∷ xs) at ≡ x ∷ cut_atoms xs at
cut-on x xs at e = cut-else x xs at (and_right (is_within (first_of x) (past_of x) at) (not (eqb (first_of x) at)) (not_from_true (eqb (first_of x) at) (eq-eqb (first_of x) at e)))

-- whether the first atom is cut
pub record Cuts (x : Atom) (at : ℕ) : Type 0 where
  pub above : first_of x < at
  pub below : at < past_of x

cut-or_else : (x : Atom) (xs : List Atom) (at : ℕ) → Cuts x at ⊎ (cut_atoms (x ∷ xs) at ≡ x ∷ cut_atoms xs at)
cut-or_else x xs at = ⊎_elim
    (λ (t : is_within (first_of x) (past_of x) at ≡ true). ⊎_elim
    (λ (e : first_of x ≡ at). inr (cut-on x xs at e))
    (λ (n : first_of x ≡ at → ⊥).
    let from : first_of x ≤ at = within-low (first_of x) (past_of x) at t in
    let c : Cuts x at = record { above = omega arith; below = within-high (first_of x) (past_of x) at t } in
    inl c)
    (cases_eq (first_of x) at))
    (λ (f : is_within (first_of x) (past_of x) at ≡ false). inr (cut-outside x xs at f))
    (cases_Bool (is_within (first_of x) (past_of x) at))

-- both parts have what the whole has
module _ {Z : Type 0} (f : Option Atom → Z) (same : (lo hi : ℕ) (x : Atom) → f (Some (between lo hi x)) ≡ f (Some x)) where
  parts-keep : (x : Atom) (xs : List Atom) (at a : ℕ) → Cuts x at → f (atom_at (between (first_of x) at x ∷ between at (past_of x) x ∷ xs) a) ≡ f (atom_at (x ∷ xs) a)
  parts-keep x xs at a c =
      let lower : Atom = between (first_of x) at x in
      let upper : Atom = between at (past_of x) x in
      let above : first_of x < at = c.above in
      let below : at < past_of x = c.below in
      ⊎_elim
      (λ (l : a < first_of x).
      ap f (holder-rest first_of past_of lower (upper ∷ xs) a (within-below (first_of x) at a l)
      ∙ holder-rest first_of past_of upper xs a (within-below at (past_of x) a (omega arith))
      ∙ sym (holder-rest first_of past_of x xs a (within-below (first_of x) (past_of x) a l))))
      (λ (l : first_of x ≤ a). ⊎_elim
      (λ (m : a < at).
      ap f (holder-first first_of past_of lower (upper ∷ xs) a (within-yes (first_of x) at a l m))
      ∙ same (first_of x) at x
      ∙ ap f (sym (holder-first first_of past_of x xs a (within-yes (first_of x) (past_of x) a l (omega arith)))))
      (λ (m : at ≤ a). ⊎_elim
      (λ (n : a < past_of x).
      ap f (holder-rest first_of past_of lower (upper ∷ xs) a (within-above (first_of x) at a m)
      ∙ holder-first first_of past_of upper xs a (within-yes at (past_of x) a m n))
      ∙ same at (past_of x) x
      ∙ ap f (sym (holder-first first_of past_of x xs a (within-yes (first_of x) (past_of x) a l n))))
      (λ (n : past_of x ≤ a).
      ap f (holder-rest first_of past_of lower (upper ∷ xs) a (within-above (first_of x) at a m)
      ∙ holder-rest first_of past_of upper xs a (within-above at (past_of x) a n)
      ∙ sym (holder-rest first_of past_of x xs a (within-above (first_of x) (past_of x) a n))))
      (cases_lt a (past_of x)))
      (cases_lt a at))
      (cases_lt a (first_of x))

  rest-keeps : (x : Atom) (xs ys : List Atom) (a : ℕ) → f (atom_at ys a) ≡ f (atom_at xs a) → f (atom_at (x ∷ ys) a) ≡ f (atom_at (x ∷ xs) a)
  rest-keeps x xs ys a rest = ⊎_elim
      (λ (t : is_within (first_of x) (past_of x) a ≡ true). ap f (holder-first first_of past_of x ys a t ∙ sym (holder-first first_of past_of x xs a t)))
      (λ (n : is_within (first_of x) (past_of x) a ≡ false). ap f (holder-rest first_of past_of x ys a n) ∙ rest ∙ ap f (sym (holder-rest first_of past_of x xs a n)))
      (cases_Bool (is_within (first_of x) (past_of x) a))

  pub cut-keeps : (xs : List Atom) (at a : ℕ) → f (atom_at (cut_atoms xs at) a) ≡ f (atom_at xs a)
  cut-keeps [] at a = refl
  cut-keeps (x ∷ xs) at a = ⊎_elim
      (λ (c : Cuts x at). ap (λ ys. f (atom_at ys a)) (cut-inside x xs at c.above c.below) ∙ parts-keep x xs at a c)
      (λ (e : cut_atoms (x ∷ xs) at ≡ x ∷ cut_atoms xs at). ap (λ ys. f (atom_at ys a)) e ∙ rest-keeps x xs (cut_atoms xs at) a (cut-keeps xs at a))
      (cut-or_else x xs at)

-- a cut keeps each router's rules and targets
pub cut-rules : (atoms : List Atom) (at : ℕ) (r : RouterId) (a : ℕ) → rules_at (cut_atoms atoms at) r a ≡ rules_at atoms r a
cut-rules atoms at r a = cut-keeps (λ o. rules_in o r) (λ lo hi x. refl) atoms at a

pub cut-target : (atoms : List Atom) (at : ℕ) (r : RouterId) (a : ℕ) → target_at (cut_atoms atoms at) r a ≡ target_at atoms r a
cut-target atoms at r a = cut-keeps (λ o. target_in_atom o r) (λ lo hi x. refl) atoms at a

-- and that the atoms cover the addresses once, and have all routers
pub cut-cover : (start : ℕ) (atoms : List Atom) (at : ℕ) → CoverFrom first_of past_of start atoms → CoverFrom first_of past_of start (cut_atoms atoms at)
cut-cover start [] at h = h
cut-cover start (x ∷ xs) at h =
    let P : List Atom → Type 0 = λ ys. CoverFrom first_of past_of start ys in
    ⊎_elim
    (λ (c : Cuts x at). subst P (sym (cut-inside x xs at c.above c.below)) (h.0, c.above, (refl, c.below, h.2)))
    (λ (e : cut_atoms (x ∷ xs) at ≡ x ∷ cut_atoms xs at). subst P (sym e) (h.0, h.1, cut-cover (past_of x) xs at h.2))
    (cut-or_else x xs at)

pub cut-wide : (routers : ℕ) (atoms : List Atom) (at : ℕ) → AreWide routers atoms → AreWide routers (cut_atoms atoms at)
cut-wide routers [] at h = tt
cut-wide routers (x ∷ xs) at h =
    let P : List Atom → Type 0 = λ ys. AreWide routers ys in
    let part : (lo hi : ℕ) → IsWide routers (between lo hi x) = λ lo hi. record { targets = h.0.targets; owners = h.0.owners } in
    ⊎_elim
    (λ (c : Cuts x at). subst P (sym (cut-inside x xs at c.above c.below)) (part (first_of x) at, (part at (past_of x), h.1)))
    (λ (e : cut_atoms (x ∷ xs) at ≡ x ∷ cut_atoms xs at). subst P (sym e) (h.0, cut-wide routers xs at h.1))
    (cut-or_else x xs at)

-- the address is one more boundary
uncut : (start : ℕ) (xs : List Atom) (at : ℕ) → CoverFrom first_of past_of start xs → at < start → cut_atoms xs at ≡ xs
uncut start [] at h l = refl
uncut start (x ∷ xs) at h l =
    let first : first_of x ≡ start = h.0 in
    let order : first_of x < past_of x = h.1 in
    cut-outside x xs at (within-below (first_of x) (past_of x) at (omega arith)) ∙ ap (λ ys. x ∷ ys) (uncut (past_of x) xs at h.2 (omega arith))

or-turned : (p q r : Bool) → (p || (q || r)) ≡ ((p || r) || q)
or-turned true q r = refl
or-turned false true true = refl
or-turned false true false = refl
or-turned false false true = refl
or-turned false false false = refl

or-last : (p q r : Bool) → (p || (q || r)) ≡ ((p || q) || r)
or-last true q r = refl
or-last false q r = refl

or-again : (p q : Bool) → (p || q) ≡ ((p || q) || p)
or-again true q = refl
or-again false true = refl
or-again false false = refl

pub eqb-turned : (m n : ℕ) → eqb m n ≡ eqb n m
eqb-turned m n = ⊎_elim
    (λ (e : m ≡ n). eq-eqb m n e ∙ sym (eq-eqb n m (sym e)))
    (λ (e : m ≡ n → ⊥). ne_eqb m n e ∙ sym (ne_eqb n m (λ f. e (sym f))))
    (cases_eq m n)

pub cut-begins : (start : ℕ) (atoms : List Atom) (at b : ℕ) → CoverFrom first_of past_of start atoms → start ≤ at → at < 2 ^ 32 → begins_at (cut_atoms atoms at) b ≡ (begins_at atoms b || eqb b at)
cut-begins start [] at b h l m = let e : start ≡ 2 ^ 32 = h in absurd (omega arith)
cut-begins start (x ∷ xs) at b h l m =
    let first : first_of x ≡ start = h.0 in
    let order : first_of x < past_of x = h.1 in
    ⊎_elim
    (λ (u : at < past_of x). ⊎_elim
    (λ (e : first_of x ≡ at).
    ap (λ ys. begins_at ys b) (cut-on x xs at e)
    ∙ ap (λ ys. eqb (first_of x) b || begins_at ys b) (uncut (past_of x) xs at h.2 u)
    ∙ or-again (eqb (first_of x) b) (begins_at xs b)
    ∙ ap (λ c. (eqb (first_of x) b || begins_at xs b) || c) (ap (λ n. eqb n b) e ∙ eqb-turned at b))
    (λ (n : first_of x ≡ at → ⊥).
    ap (λ ys. begins_at ys b) (cut-inside x xs at (omega arith) u)
    ∙ or-turned (eqb (first_of x) b) (eqb at b) (begins_at xs b)
    ∙ ap (λ c. (eqb (first_of x) b || begins_at xs b) || c) (eqb-turned at b))
    (cases_eq (first_of x) at))
    (λ (u : past_of x ≤ at).
    ap (λ ys. begins_at ys b) (cut-outside x xs at (within-above (first_of x) (past_of x) at u))
    ∙ ap (λ c. eqb (first_of x) b || c) (cut-begins (past_of x) xs at b h.2 u m)
    ∙ or-last (eqb (first_of x) b) (begins_at xs b) (eqb b at))
    (cases_lt at (past_of x))
