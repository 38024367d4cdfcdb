use Rattle.std.proofs.Common.{◌≡◌, ◌+◌, ◌++◌, ◌∙◌, ap, sym, subst, length, get_or, take, drop, insert, arith}
use Rattle.std.proofs.lemmas.List.{length-take-le, take_at}
use Rattle.version_pages.specs.Shape.{Shape, items_of, joined, AreEnds, AreKids, AreLonger, IsUnder}
use Rattle.version_pages.proofs.Ending.{front-few}
use Rattle.version_pages.proofs.Hung.{ends-hung, joined-hung, kids-hung, noted-few}
use Rattle.version_pages.proofs.tree.hang.hang.Goals as goal

pub page_kid-requires-clause-few : goal.page_kid-requires-clause-few
page_kid-requires-clause-few g c = omega (arith, ap length c.in_ok-page_of_copies.ensures, length-take-le 64 c.args.items.now c.requires.page)

pub overflow_add-i : goal.overflow_add-i
overflow_add-i g c = omega (arith, c.requires.child.place, front-few c.args.kids.now.items c.args.k, c.requires.few)

pub lengthen-requires-clause-few : goal.lengthen-requires-clause-few
lengthen-requires-clause-few g c =
    let noted : c.deref_mut.result.now ≡ insert c.args.ends.now.items c.args.k (c.args.i + 64) = c.deref_mut.ensures.value ∙ c.put_end.ensures ∙ ap (λ t. insert t c.args.k (c.args.i + 64)) c.reserve.ensures.items in
    let all = front-few c.args.kids.now.items c.args.k in
    λ n d l. omega (arith, ap (λ t. get_or t n d) noted, noted-few c.args.ends.now.items c.args.kids.now.items c.args.k (c.args.i + 64) (length (joined c.args.kids.now.items) + 64) n d c.requires.ends (omega (arith, c.requires.child.child)) (omega (arith, c.requires.child.place, all)) (omega arith) (omega (arith, ap length noted, l)), c.requires.few)

pub returns-clause-items : goal.returns-clause-items
returns-clause-items g c =
    let made : c.put_kid.new.kids.items ≡ insert c.args.kids.now.items c.args.k c.in_ok-page.page = c.put_kid.ensures ∙ ap (λ t. insert t c.args.k c.in_ok-page.page) c.reserve-2.ensures.items in
    let page : items_of c.in_ok-page.page ≡ take 64 c.args.items.now = ap items_of c.in_ok-page.ensures.page ∙ c.in_ok-page_of_copies.ensures in
    ap joined made
    ∙ joined-hung c.args.kids.now.items c.args.i c.args.k c.in_ok-page.page c.requires.child
    ∙ ap (λ t. take c.args.i (joined c.args.kids.now.items) ++ t ++ drop c.args.i (joined c.args.kids.now.items)) page

pub returns-clause-kids : goal.returns-clause-kids
returns-clause-kids g c =
    let made : c.put_kid.new.kids.items ≡ insert c.args.kids.now.items c.args.k c.in_ok-page.page = c.put_kid.ensures ∙ ap (λ t. insert t c.args.k c.in_ok-page.page) c.reserve-2.ensures.items in
    let under : IsUnder 1 c.in_ok-page.page = record { level = ap (λ (s : Shape _). s.height + 1) c.in_ok-page.ensures.page; deep = c.in_ok-page.ensures.deep } in
    subst (AreKids 1) (sym made) (kids-hung 1 c.args.k c.args.kids.now.items c.in_ok-page.page c.requires.kids c.requires.room (omega (arith, c.requires.child.child)) under)

pub returns-clause-ends : goal.returns-clause-ends
returns-clause-ends g c =
    let made : c.put_kid.new.kids.items ≡ insert c.args.kids.now.items c.args.k c.in_ok-page.page = c.put_kid.ensures ∙ ap (λ t. insert t c.args.k c.in_ok-page.page) c.reserve-2.ensures.items in
    let noted : c.put_end.new.ends.items ≡ insert c.args.ends.now.items c.args.k (c.args.i + 64) = c.put_end.ensures ∙ ap (λ t. insert t c.args.k (c.args.i + 64)) c.reserve.ensures.items in
    let long : length (items_of c.in_ok-page.page) ≡ 64 = ap length (ap items_of c.in_ok-page.ensures.page ∙ c.in_ok-page_of_copies.ensures) ∙ length-take-le 64 c.args.items.now c.requires.page in
    let more : AreLonger c.put_end.new.ends.items c.lengthen.new.ends (c.args.k + 1) (length c.put_end.new.ends.items) 64 = subst (λ t. AreLonger t c.lengthen.new.ends (c.args.k + 1) (length t) 64) c.deref_mut.ensures.value c.lengthen.ensures in
    let all : take c.put_end.new.ends.len (c.lengthen.new.ends ++ drop (length c.lengthen.new.ends) c.put_end.new.ends.items) ≡ c.lengthen.new.ends = take_at _ _ _ (omega (arith, more.count, ap length c.deref_mut.ensures.value, c.deref_mut.ensures.len)) in
    let ends : AreEnds c.lengthen.new.ends (insert c.args.kids.now.items c.args.k c.in_ok-page.page) = ends-hung c.args.ends.now.items c.lengthen.new.ends c.args.kids.now.items c.args.k (c.args.i + 64) 64 c.in_ok-page.page c.requires.ends (omega (arith, c.requires.child.child)) (subst (λ t. AreLonger t c.lengthen.new.ends (c.args.k + 1) (length t) 64) noted more) (omega (arith, c.requires.child.place)) long in
    subst (λ t. AreEnds t c.put_kid.new.kids.items) (sym all) (subst (AreEnds c.lengthen.new.ends) (sym made) ends)
