-- The names of a query that the topology has.
use Rattle.std.proofs.Common.{◌≡◌, ℕ, suc, ◌+◌, ◌<◌, ◌^◌, ◌∙◌, true, false, cond, Option, Some, None, List, [], ◌∷◌, ◌++◌, length, refl, ap, sym, subst, ⊎_elim, arith, IsSome}
use Rattle.std.specs.List.{Contains}
use Rattle.std.proofs.lemmas.Bool.{cases_Bool}
use Rattle.std.proofs.lemmas.List.{length-append}
use Rattle.std.proofs.lemmas.Option.{none-some}
use Rattle.dn_model.specs.Lookup.{router_of, link_of}
use Rattle.dn_model.specs.Query.{Question, IsQuestion, NameAsked, RouterName, LinkName, names_asked, link_names, is_known, unknown_at, first_unknown, unknown_of}
use Rattle.dn_model.specs.declared.query.Ask.{Ask}
use Rattle.dn_model.specs.declared.query.Unknown.{Unknown}
use Rattle.dn_model.specs.declared.topology.Topology.{Topology}
use Rattle.base.proofs.Elements.{contains-cases, contains-none}

-- the first of two, where it is there, else the second
abbrev pub or_first : Option Unknown → Option Unknown → Option Unknown
or_first (Some u) other = Some u
or_first None other = other

-- the first unknown name of two lists is that of the first, or of the second, whose places go on
pub first-append : (t : Topology) (place : ℕ) (xs ys : List NameAsked) → first_unknown t place (xs ++ ys) ≡ or_first (first_unknown t place xs) (first_unknown t (place + length xs) ys)
first-append t place [] ys = let e : place ≡ place + 0 = omega arith in ap (λ n. first_unknown t n ys) e
first-append t place (x ∷ xs) ys =
    let e : place + 1 + length xs ≡ place + length (x ∷ xs) = omega arith in
    ⊎_elim
    (λ (y : is_known t x ≡ true). rw y (first-append t (place + 1) xs ys ∙ ap (λ n. or_first (first_unknown t (place + 1) xs) (first_unknown t n ys)) e))
    (λ (n : is_known t x ≡ false). rw n refl)
    (cases_Bool (is_known t x))

length-links : (names : List (List ℕ)) → length (link_names names) ≡ length names
length-links [] = refl
length-links (n ∷ ns) = ap (λ k. suc k) (length-links ns)

-- the first unknown name is among the links of `without`, or in what is asked
pub unknown-parts : (t : Topology) (q : Question) → unknown_of t q ≡ or_first (first_unknown t 1 (link_names q.without)) (first_unknown t (length q.without + 1) (names_asked q.ask))
unknown-parts t q =
    let m : length (link_names q.without) ≡ length q.without = length-links q.without in
    let e : 1 + length (link_names q.without) ≡ length q.without + 1 = omega arith in
    first-append t 1 (link_names q.without) (names_asked q.ask)
    ∙ ap (λ n. or_first (first_unknown t 1 (link_names q.without)) (first_unknown t n (names_asked q.ask))) e

-- where none is unknown, each is known
pub each-known : (t : Topology) (place : ℕ) (names : List NameAsked) (n : NameAsked) → first_unknown t place names ≡ None → Contains names n → is_known t n ≡ true
each-known t place [] n h i = absurd (contains-none n i)
each-known t place (x ∷ xs) n h i = ⊎_elim
    (λ (y : is_known t x ≡ true).
    let rest : first_unknown t (place + 1) xs ≡ None = sym (ap (λ b. cond b (first_unknown t (place + 1) xs) (Some (unknown_at x place))) y) ∙ h in
    ⊎_elim
    (λ (same : x ≡ n). subst (λ m. is_known t m ≡ true) same y)
    (λ (more : Contains xs n). each-known t (place + 1) xs n rest more)
    (contains-cases x n xs i))
    (λ (no : is_known t x ≡ false).
    absurd (none-some (unknown_at x place) (sym h ∙ ap (λ b. cond b (first_unknown t (place + 1) xs) (Some (unknown_at x place))) no)))
    (cases_Bool (is_known t x))

none-asked : (a b : Option Unknown) → or_first a b ≡ None → b ≡ None
none-asked None b h = h
none-asked (Some u) b h = absurd (none-some u (sym h))

pub asked-known : (t : Topology) (q : Question) (ask : Ask) (n : NameAsked) → unknown_of t q ≡ None → q.ask ≡ ask → Contains (names_asked ask) n → is_known t n ≡ true
asked-known t q ask n h e i =
    let none : first_unknown t (length q.without + 1) (names_asked q.ask) ≡ None = none-asked (first_unknown t 1 (link_names q.without)) (first_unknown t (length q.without + 1) (names_asked q.ask)) (sym (unknown-parts t q) ∙ h) in
    let P : Ask → Type 0 = λ x. first_unknown t (length q.without + 1) (names_asked x) ≡ None in
    each-known t (length q.without + 1) (names_asked ask) n (subst P e none) i

-- the routers and links that a query without an unknown name asks about are there
pub router-known : (t : Topology) (q : Question) (ask : Ask) (n : List ℕ) → unknown_of t q ≡ None → q.ask ≡ ask → Contains (names_asked ask) (RouterName n) → IsSome (router_of t n)
router-known t q ask n h e i = asked-known t q ask (RouterName n) h e i

pub link-known : (t : Topology) (q : Question) (ask : Ask) (n : List ℕ) → unknown_of t q ≡ None → q.ask ≡ ask → Contains (names_asked ask) (LinkName n) → IsSome (link_of t n)
link-known t q ask n h e i = asked-known t q ask (LinkName n) h e i

-- the same of one of the names in what is asked
pub known-of : (t : Topology) (ask asked : Ask) (n : NameAsked) → ((m : NameAsked) → Contains (names_asked ask) m → is_known t m ≡ true) → ask ≡ asked → Contains (names_asked asked) n → is_known t n ≡ true
known-of t ask asked n h e i = h n (subst (λ x. Contains (names_asked x) n) (sym e) i)

-- how many names a query has
pub few-names : (q : Question) → IsQuestion q → length q.without + length (names_asked q.ask) < 2 ^ 32
few-names q h =
    let m : length (link_names q.without) ≡ length q.without = length-links q.without in
    let a : length (link_names q.without ++ names_asked q.ask) ≡ length (link_names q.without) + length (names_asked q.ask) = length-append (link_names q.without) (names_asked q.ask) in
    let f : length (link_names q.without ++ names_asked q.ask) < 2 ^ 32 = h.few in
    omega arith

-- the first unknown name, by the two parts
pub first-unknown : (t : Topology) (q : Question) (a b : Option Unknown) → a ≡ first_unknown t 1 (link_names q.without) → b ≡ first_unknown t (length q.without + 1) (names_asked q.ask) → or_first a b ≡ unknown_of t q
first-unknown t q a b e f =
    ap (λ x. or_first x b) e ∙ ap (λ x. or_first (first_unknown t 1 (link_names q.without)) x) f ∙ sym (unknown-parts t q)
