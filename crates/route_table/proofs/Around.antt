-- The prefix of one length around an address.
use Rattle.std.proofs.Common.{◌≡◌, ℕ, ◌<◌, ◌≤◌, ◌+◌, ◌∙◌, true, false, List, Option, Some, None, ap, sym, subst, arith, eqb}
use Rattle.std.specs.List.{Contains}
use Rattle.std.specs.Option.{IfNone, IfSome}
use Rattle.std.proofs.lemmas.Bool.{and_from, both_ways, eq-eqb, false_from_ne_true}
use Rattle.base.specs.Cidr.{Cidr, IsCidr, covers}
use Rattle.dn_model.specs.Routes.{IsTable}
use Rattle.dn_model.specs.Table.{is_of_prefix, best}
use Rattle.dn_model.specs.declared.entry.Route.{Route}
use Rattle.dn_model.proofs.Keys.{base-once}
use Rattle.dn_model.proofs.SameRoutes.{only-best, longest-is-best}

-- a route whose prefix covers the address and has this length has this prefix
pub around-once : (routes : List Route) (p : Cidr) (a : ℕ) (r : Route) → IsTable routes → IsCidr p → covers p a ≡ true → Contains routes r → r.prefix.len ≡ p.len → covers r.prefix a ≡ true → is_of_prefix p r ≡ true
around-once routes p a r sound cidr here inside len there =
    let base : r.prefix.base ≡ p.base = base-once r.prefix p a (sound.prefixes r inside) cidr len there here in
    and_from (eqb r.prefix.base p.base) (eqb r.prefix.len p.len) (eq-eqb r.prefix.base p.base base) (eq-eqb r.prefix.len p.len len)

-- ---- of one length

none-of-length : (routes : List Route) (p : Cidr) (a len : ℕ) → IsTable routes → IsCidr p → covers p a ≡ true → p.len ≡ len → ((r : Route) → Contains routes r → is_of_prefix p r ≡ false) → (r : Route) → Contains routes r → covers r.prefix a ≡ true → r.prefix.len ≡ len → ⊥
none-of-length routes p a len sound cidr here is none r inside there same =
    both_ways (is_of_prefix p r) (none r inside) (around-once routes p a r sound cidr here inside (same ∙ sym is) there)

pub length-none : (routes : List Route) (p : Cidr) (a len : ℕ) (o : Option Route) → IsTable routes → IsCidr p → covers p a ≡ true → p.len ≡ len → IfNone o ((r : Route) → Contains routes r → is_of_prefix p r ≡ false) → IfNone o ((r : Route) → Contains routes r → covers r.prefix a ≡ true → r.prefix.len ≡ len → ⊥)
length-none routes p a len None sound cidr here is h = none-of-length routes p a len sound cidr here is h
length-none routes p a len (Some b) sound cidr here is h = tt

-- b is one of the routes, of this prefix, and none of the prefix has a lesser metric
abbrev pub IsLeastOf : List Route → Cidr → Route → Type 0
IsLeastOf routes p b = Contains routes b × (b.prefix ≡ p) × ((r : Route) → Contains routes r → is_of_prefix p r ≡ true → b.metric ≤ r.metric)

-- the same of those of this length that cover the address
abbrev pub IsLeastAround : List Route → ℕ → ℕ → Route → Type 0
IsLeastAround routes a len b = Contains routes b × (covers b.prefix a ≡ true) × (b.prefix.len ≡ len) × ((r : Route) → Contains routes r → covers r.prefix a ≡ true → r.prefix.len ≡ len → b.metric ≤ r.metric)

least-around : (routes : List Route) (p : Cidr) (a len : ℕ) (b : Route) → IsTable routes → IsCidr p → covers p a ≡ true → p.len ≡ len → IsLeastOf routes p b → IsLeastAround routes a len b
least-around routes p a len b sound cidr here is h =
    let P : Cidr → Type 0 = λ q. covers q a ≡ true in
    (h.0, subst P (sym h.1) here, ap (λ (q : Cidr). q.len) h.1 ∙ is, λ r inside there same. h.2 r inside (around-once routes p a r sound cidr here inside (same ∙ sym is) there))

pub length-some : (routes : List Route) (p : Cidr) (a len : ℕ) (o : Option Route) → IsTable routes → IsCidr p → covers p a ≡ true → p.len ≡ len → IfSome o (IsLeastOf routes p) → IfSome o (IsLeastAround routes a len)
length-some routes p a len None sound cidr here is h = tt
length-some routes p a len (Some b) sound cidr here is h = least-around routes p a len b sound cidr here is h

-- ---- from the longest length down

-- no route that covers the address is of this length or of a greater one
abbrev pub NoneFrom : List Route → ℕ → ℕ → Type 0
NoneFrom routes a len = (r : Route) → Contains routes r → covers r.prefix a ≡ true → len ≤ r.prefix.len → ⊥

pub none-past : (routes : List Route) (a len : ℕ) → IsTable routes → 32 < len → NoneFrom routes a len
none-past routes a len sound past r inside there from = let short : r.prefix.len ≤ 32 = (sound.prefixes r inside).len in omega arith

pub best-at-length : (routes : List Route) (a next len : ℕ) (b : Route) → next ≡ len + 1 → IsTable routes → NoneFrom routes a next → IsLeastAround routes a len b → Some b ≡ best routes a
best-at-length routes a next len b is sound longer least =
    only-best routes a (Some b) sound (longest-is-best routes a b least.0 least.1
    (λ r inside there l. longer r inside there (let of_len : b.prefix.len ≡ len = least.2 in omega arith))
    (λ r inside there same. least.3 r inside there (same ∙ least.2)))

pub best-none : (routes : List Route) (a : ℕ) → IsTable routes → NoneFrom routes a 0 → None ≡ best routes a
best-none routes a sound none = only-best routes a None sound (λ r inside. false_from_ne_true (covers r.prefix a) (λ t. none r inside t (omega arith)))
