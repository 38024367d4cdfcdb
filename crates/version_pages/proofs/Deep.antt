-- The depth of a fork, from those of its children.
use Rattle.std.proofs.Common.{◌≡◌, ℕ, zero, suc, lit<, ◌+◌, ◌*◌, ◌^◌, ◌<◌, ◌≤◌, List, [], ◌∷◌, length, get_or, refl, ap, sym, subst, ◌∙◌, ◌-◌, add-one, arith, length-append}
use Rattle.std.proofs.Math.Nat.{suc-mul, mul-le-mul_right, pow-succ', two-pow-succ}
use Rattle.std.specs.List.{All}
use Rattle.std.proofs.lemmas.List.Elements.{All-head, All-tail}
use Rattle.version_pages.specs.declared.tree.Node.{Node}
use Rattle.version_pages.specs.declared.tree.Node.TheVariants.{Page, Fork}
use Rattle.version_pages.specs.declared.tree.TheConstants.{WIDE}
use Rattle.version_pages.specs.Shape.{Shape, items_of, joined, IsDeep, IsUnder, AreKids}
use Rattle.version_pages.specs.Nodes.{shape_of, IsKept}

many-kids : {T : Type 0} (g p q : ℕ) (kids : List (Shape T)) → p ≡ 2 ^ g → q ≡ 64 * WIDE ^ g → All (IsUnder (g + 1)) kids → (length kids * p ≤ length (joined kids)) × (length (joined kids) ≤ length kids * q)
many-kids g p q [] e f h = (grind arith, grind arith)
many-kids g p q (k ∷ ks) e f h =
    let here : IsUnder (g + 1) k = All-head (IsUnder (g + 1)) k ks h in
    let rest : (length ks * p ≤ length (joined ks)) × (length (joined ks) ≤ length ks * q) = many-kids g p q ks e f (All-tail (IsUnder (g + 1)) k ks h) in
    let level : k.height ≡ g = omega (arith, here.level) in
    let many : p ≤ length (items_of k) = rw e (rw level at here.deep.many) in
    let few : length (items_of k) ≤ q = rw f (rw level at here.deep.few) in
    (omega (arith, suc-mul (length ks) p, length-append (items_of k) (joined ks)), omega (arith, suc-mul (length ks) q, length-append (items_of k) (joined ks)))

deep-kids : {T : Type 0} (g h : ℕ) (kids : List (Shape T)) (room spare : ℕ) → h ≡ g + 1 → AreKids h kids → IsDeep (record { items = joined kids; height = h; room = room; spare = spare })
deep-kids g h kids room spare e kept =
    let under : All (IsUnder (g + 1)) kids = subst (λ n. All (IsUnder n) kids) e kept.under in
    let both : (length kids * 2 ^ g ≤ length (joined kids)) × (length (joined kids) ≤ length kids * (64 * WIDE ^ g)) = many-kids g (2 ^ g) (64 * WIDE ^ g) kids refl refl under in
    let low : 2 * 2 ^ g ≤ length kids * 2 ^ g = mul-le-mul_right (2 ^ g) kept.two in
    let high : length kids * (64 * WIDE ^ g) ≤ WIDE * (64 * WIDE ^ g) = mul-le-mul_right (64 * WIDE ^ g) kept.most in
    let two : 2 ^ (g + 1) ≡ 2 * 2 ^ g = ap (λ n. 2 ^ n) (add-one g) ∙ pow-succ' 2 g in
    let wide : 64 * WIDE ^ (g + 1) ≡ WIDE * (64 * WIDE ^ g) = ap (λ n. 64 * WIDE ^ n) (add-one g) ∙ ap (λ n. 64 * n) (pow-succ' WIDE g) ∙ omega arith in
    record {
      many = rw e (omega (arith, two, low, both.0));
      few = rw e (omega (arith, wide, high, both.1));
    }

-- the top node says how deep its pages stand
pub deep-node : {T : Type 0} (n : Node T) → IsKept n → IsDeep (shape_of n)
deep-node (Page items) h = record { many = omega (arith, h.0); few = omega (arith, h.1) }
deep-node {T} (Fork kids height ends density) h =
    let none : Shape T = record { items = []; height = 0; room = 0; spare = 0 } in
    let first : IsUnder height (get_or kids.items 0 none) = h.0.under 0 none (omega (arith, h.0.two)) in
    deep-kids (get_or kids.items 0 none).height height kids.items (WIDE - length kids.items) (length kids.items - 2) (sym first.level) h.0

-- a number is below the power of two that it stands over
pub below-power : (n : ℕ) → n < 2 ^ n
below-power zero = lit< tt
below-power (suc n) = omega (arith, below-power n, two-pow-succ n)
