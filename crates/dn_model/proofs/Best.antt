-- The route of an address: what it is, and that the order of the table doesn't matter.
use Rattle.std.proofs.Common.{◌≡◌, ℕ, ◌&&◌, ◌||◌, Bool, true, false, Option, Some, None, List, [], ◌∷◌, filter, fold, refl, sym, subst, ⊎_elim, arith, eqb, ltb}
use Rattle.std.specs.List.{Contains}
use Rattle.std.proofs.lemmas.Bool.{false_from_ne_true, cond_both}
use Rattle.std.proofs.lemmas.Bool.Decides.{nat_tests}
use Rattle.base.specs.Cidr.{covers}
use Rattle.dn_model.specs.declared.entry.Route.{Route}
use Rattle.dn_model.specs.Table.{goes_before, better, best, IsBest}
use Rattle.base.proofs.Elements.{contains-here, contains-there, contains-cases, contains-none, contains-filter, filter-contains}

-- ---- the one that goes before all others

abbrev before : ℕ → ℕ → ℕ → ℕ → Bool
before l m k n = ltb k l || (eqb l k && ltb m n)

before-itself : (l m : ℕ) → before l m l m ≡ false
before-itself l m = grind (arith, nat_tests)

before-turned : (l m k n : ℕ) → before l m k n ≡ true → before k n l m ≡ false
before-turned l m k n h = grind (arith, nat_tests)

before-chain : (l m k n i j : ℕ) → before l m k n ≡ false → before k n i j ≡ false → before l m i j ≡ false
before-chain l m k n i j h g = grind (arith, nat_tests)

-- of these routes this is the one
record Leads (x : Route) (xs : List Route) (o : Option Route) : Type 0 where
  first : Route
  is : o ≡ Some first
  from : Contains (x ∷ xs) first
  leads : (r : Route) → Contains (x ∷ xs) r → goes_before r first ≡ false

chain : (x y z : Route) → goes_before x y ≡ false → goes_before y z ≡ false → goes_before x z ≡ false
chain x y z h g = before-chain x.prefix.len x.metric y.prefix.len y.metric z.prefix.len z.metric h g

leads-alone : (x : Route) → Leads x [] (Some x)
leads-alone x = record {
  first = x;
  is = refl;
  from = contains-here x [];
  leads = λ r h. ⊎_elim
      (λ (same : x ≡ r). let P : Route → Type 0 = λ y. goes_before y x ≡ false in subst P same (before-itself x.prefix.len x.metric))
      (λ (rest : Contains [] r). absurd (contains-none r rest))
      (contains-cases x r [] h);
}

-- one more route, which goes before the first so far, or doesn't
leads-before : (x y : Route) (ys : List Route) (o : Option Route) → goes_before y x ≡ true → Leads y ys o → Leads x (y ∷ ys) o
leads-before x y ys o h k = record {
  first = k.first;
  is = k.is;
  from = contains-there x k.first (y ∷ ys) k.from;
  leads = λ r i. ⊎_elim
      (λ (same : x ≡ r).
      let P : Route → Type 0 = λ z. goes_before z k.first ≡ false in
      subst P same (chain x y k.first (before-turned y.prefix.len y.metric x.prefix.len x.metric h) (k.leads y (contains-here y ys))))
      (λ (rest : Contains (y ∷ ys) r). k.leads r rest)
      (contains-cases x r (y ∷ ys) i);
}

leads-after : (x y : Route) (ys : List Route) (o : Option Route) → goes_before y x ≡ false → Leads x ys o → Leads x (y ∷ ys) o
leads-after x y ys o h k =
    let at_x : goes_before x k.first ≡ false = k.leads x (contains-here x ys) in
    let at_y : goes_before y k.first ≡ false = chain y x k.first h at_x in
    record {
      first = k.first;
      is = k.is;
      from = ⊎_elim
          (λ (same : x ≡ k.first). let P : Route → Type 0 = λ z. Contains (x ∷ y ∷ ys) z in subst P same (contains-here x (y ∷ ys)))
          (λ (rest : Contains ys k.first). contains-there x k.first (y ∷ ys) (contains-there y k.first ys rest))
          (contains-cases x k.first ys k.from);
      leads = λ r i. ⊎_elim
          (λ (same : x ≡ r). let P : Route → Type 0 = λ z. goes_before z k.first ≡ false in subst P same at_x)
          (λ (rest : Contains (y ∷ ys) r). ⊎_elim
          (λ (same : y ≡ r). let P : Route → Type 0 = λ z. goes_before z k.first ≡ false in subst P same at_y)
          (λ (more : Contains ys r). k.leads r (contains-there x r ys more))
          (contains-cases y r ys rest))
          (contains-cases x r (y ∷ ys) i);
    }

fold-leads : (x : Route) (xs : List Route) → Leads x xs (fold better (Some x) xs)
fold-leads x [] = leads-alone x
fold-leads x (y ∷ ys) =
    let P : Option Route → Type 0 = λ o. Leads x (y ∷ ys) (fold better o ys) in
    cond_both (goes_before y x) (Some y) (Some x) P
    (λ t. leads-before x y ys (fold better (Some y) ys) t (fold-leads y ys))
    (λ f. leads-after x y ys (fold better (Some x) ys) f (fold-leads x ys))

best-among : (routes : List Route) (a : ℕ) (cs : List Route) → ((r : Route) → Contains cs r → Contains routes r × (covers r.prefix a ≡ true)) → ((r : Route) → Contains routes r → covers r.prefix a ≡ true → Contains cs r) → IsBest routes a (fold better None cs)
best-among routes a [] from to = λ r h. false_from_ne_true (covers r.prefix a) (λ c. contains-none r (to r h c))
best-among routes a (x ∷ xs) from to =
    let k : Leads x xs (fold better (Some x) xs) = fold-leads x xs in
    let P : Option Route → Type 0 = λ o. IsBest routes a o in
    subst P (sym k.is) ((from k.first k.from).0, (from k.first k.from).1, λ r h c. k.leads r (to r h c))

-- what the route of an address is
pub best-is : (routes : List Route) (a : ℕ) → IsBest routes a (best routes a)
best-is routes a = best-among routes a (filter (λ (r : Route). covers r.prefix a) routes)
    (λ r h. filter-contains (λ (x : Route). covers x.prefix a) r routes h)
    (λ r h c. contains-filter (λ (x : Route). covers x.prefix a) r routes h c)
