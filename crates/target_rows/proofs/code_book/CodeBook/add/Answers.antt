use Rattle.std.proofs.Common.{Some, ◌∷◌, [], ◌++◌, cond, length, ap, sym, ◌∙◌}
use Rattle.std.specs.Arc.{arc_value}
use Rattle.std.specs.BTreeMap.{is_at}
use Rattle.target_rows.specs.Codes.{code_in}
use Rattle.target_rows.specs.contracts.codes.EdgeOrd.TheImpl.{cmp-value}
use Rattle.target_rows.proofs.EdgeOrder.{fresh-inside, indexed-again, indexed-more, unknown}
use Rattle.target_rows.proofs.code_book.CodeBook.add.Goals as goal

pub put_in-requires : goal.put_in-requires
put_in-requires c =
    ap (λ es. code_in es c.args.edge) (ap (λ m. m.entries) c.in-Some.ensures.value ∙ c.unshare.ensures)
    ∙ unknown (arc_value c.self.inside.edges).items c.args.self.now (arc_value c.self.inside.index).entries c.args.edge c.self.invariant c.self.view_is c.requires

pub invariant_of-self-in_err-put_in : goal.invariant_of-self-in_err-put_in
invariant_of-self-in_err-put_in c =
    indexed-again (arc_value c.self.inside.edges).items c.put_in.new.edges.items (arc_value c.self.inside.index).entries c.put_in.new.index.entries c.self.invariant
    (c.in_err-put_in.ensures.same_edges ∙ ap (λ v. v.items) c.in-Some-get_mut.ensures.value ∙ c.unshare_edges.ensures)
    (λ q. c.in_err-put_in.ensures.same_index q ∙ ap (λ es. code_in es q) (ap (λ m. m.entries) c.in-Some.ensures.value ∙ c.unshare.ensures))

pub invariant_of-self-2 : goal.invariant_of-self-2
invariant_of-self-2 c =
    indexed-more (arc_value c.self.inside.edges).items c.put_in.new.edges.items (arc_value c.self.inside.index).entries c.put_in.new.index.entries c.args.edge c.len-code.result c.self.invariant
    (fresh-inside (arc_value c.self.inside.edges).items c.args.self.now c.args.edge c.self.view_is c.requires)
    (c.len-code.ensures ∙ ap length (sym c.self.view_is))
    (c.in_ok-put_in.ensures.edges ∙ ap (λ xs. xs ++ c.args.edge ∷ []) (ap (λ v. v.items) c.in-Some-get_mut.ensures.value ∙ c.unshare_edges.ensures))
    (λ q. c.in_ok-put_in.ensures.index q ∙ ap (λ es. cond (is_at (cmp-value.it c.args.edge) q) (Some c.len-code.result) (code_in es q)) (ap (λ m. m.entries) c.in-Some.ensures.value ∙ c.unshare.ensures))
