use Rattle.std.proofs.Common.{◌≡◌, ◌+◌, ◌<◌, ◌≤◌, ◌^◌, ◌∙◌, ap, sym, subst, length, get_or, take, arith, rules}
use Rattle.version_pages.specs.Nodes.{shape_of, IsKept}
use Rattle.version_pages.specs.Search.{EndsBelow}
use Rattle.version_pages.specs.Shape.{Shape, items_of, joined, AreEnds, AreKids}
use Rattle.version_pages.proofs.Ending.{ends-in, place-few}
use Rattle.version_pages.proofs.Ends.{starts}
use Rattle.version_pages.proofs.Grows.{kid-few, kid-level}
use Rattle.version_pages.proofs.tree.Tree.+count_below.Goals as goal

pub count_below-requires : goal.count_below-requires
count_below-requires g t c κs within =
    let e : joined c.in-Fork.kids.items ≡ c.args.self.now.items = ap items_of (ap shape_of (sym c.in-Fork.is) ∙ c.self.view_is) in
    let high : c.in-Fork.height ≡ c.args.self.now.height = ap (λ (s : Shape _). s.height) (ap shape_of (sym c.in-Fork.is) ∙ c.self.view_is) in
    let kept : AreKids c.in-Fork.height c.in-Fork.kids.items = (subst IsKept c.in-Fork.is c.self.invariant).0 in
    let inside : c.search_kids-k.result < length c.in-Fork.kids.items = c.search_kids-k.ensures.inside in
    let is : c.tree.result.now ≡ get_or c.in-Fork.kids.items c.search_kids-k.result c.tree.result.now = subst (λ (s : Shape _). s ≡ get_or c.in-Fork.kids.items c.search_kids-k.result s) (sym c.tree.ensures) c.index.ensures in
    let level : c.tree.result.now.height + 1 ≡ c.in-Fork.height = kid-level c.in-Fork.height c.search_kids-k.result c.in-Fork.kids.items c.tree.result.now kept inside is in
    let few : length c.tree.result.now.items ≤ length (joined c.in-Fork.kids.items) = kid-few c.in-Fork.kids.items c.search_kids-k.result c.tree.result.now inside is in
    let all : length (joined c.in-Fork.kids.items) < 2 ^ 64 = omega (arith, ap length e, c.requires) in
    (search rules, (search rules, omega arith))

pub overflow_add-result : goal.overflow_add-result
overflow_add-result g t c =
    let e : joined c.in-Fork.kids.items ≡ c.args.self.now.items = ap items_of (ap shape_of (sym c.in-Fork.is) ∙ c.self.view_is) in
    let is : c.tree.result.now ≡ get_or c.in-Fork.kids.items c.search_kids-k.result c.tree.result.now = subst (λ (s : Shape _). s ≡ get_or c.in-Fork.kids.items c.search_kids-k.result s) (sym c.tree.ensures) c.index.ensures in
    let few = place-few c.in-Fork.kids.items c.search_kids-k.result c.tree.result.now c.search_kids-k.ensures.inside is in
    let all : length (joined c.in-Fork.kids.items) < 2 ^ 64 = omega (arith, ap length e, c.requires) in
    let both : AreKids c.in-Fork.height c.in-Fork.kids.items × AreEnds c.in-Fork.ends.items c.in-Fork.kids.items = subst IsKept c.in-Fork.is c.self.invariant in
    let before : c.start.result ≡ length (joined (take c.search_kids-k.result c.in-Fork.kids.items)) = c.start.ensures ∙ starts _ _ _ both.1 (omega (arith, c.search_kids-k.ensures.inside)) in
    omega (arith, few, c.count_below.ensures.inside, before)

pub returns-in-Fork : goal.returns-in-Fork
returns-in-Fork g t c =
    let e : joined c.in-Fork.kids.items ≡ c.args.self.now.items = ap items_of (ap shape_of (sym c.in-Fork.is) ∙ c.self.view_is) in
    let kept : AreKids c.in-Fork.height c.in-Fork.kids.items = (subst IsKept c.in-Fork.is c.self.invariant).0 in
    let is : c.tree.result.now ≡ get_or c.in-Fork.kids.items c.search_kids-k.result c.tree.result.now = subst (λ (s : Shape _). s ≡ get_or c.in-Fork.kids.items c.search_kids-k.result s) (sym c.tree.ensures) c.index.ensures in
    let ends : EndsBelow g.T.Keyed.key_of (items_of (get_or c.in-Fork.kids.items c.search_kids-k.result c.tree.result.now)) c.args.key c.count_below.result = subst (λ (s : Shape _). EndsBelow g.T.Keyed.key_of (items_of s) c.args.key c.count_below.result) is c.count_below.ensures in
    let both : AreKids c.in-Fork.height c.in-Fork.kids.items × AreEnds c.in-Fork.ends.items c.in-Fork.kids.items = subst IsKept c.in-Fork.is c.self.invariant in
    let before : c.start.result ≡ length (joined (take c.search_kids-k.result c.in-Fork.kids.items)) = c.start.ensures ∙ starts _ _ _ both.1 (omega (arith, c.search_kids-k.ensures.inside)) in
    let place : c.start.result + c.count_below.result ≡ length (joined (take c.search_kids-k.result c.in-Fork.kids.items)) + c.count_below.result = ap (λ n. n + c.count_below.result) before in
    subst (λ xs. EndsBelow g.T.Keyed.key_of xs c.args.key (c.start.result + c.count_below.result)) e
    (ends-in g.T.Keyed.key_of c.args.key c.in-Fork.height c.in-Fork.kids.items c.search_kids-k.result c.count_below.result (c.start.result + c.count_below.result) c.tree.result.now kept c.search_kids-k.ensures ends place)
