use Rattle.std.proofs.Common.{◌≡◌, ℕ, List, ◌++◌, codes, decimal, ap, ◌∙◌, append_assoc}
use Rattle.dn_formats.specs.Texts.{prefix_text}
use Rattle.run_report.proofs.entry.put_set_by.Goals as goal

grouped : (o k l d : List ℕ) → (o ++ k) ++ (l ++ d) ≡ o ++ ((k ++ l) ++ d)
grouped o k l d = simp append_assoc

pub returns-clause-text : goal.returns-clause-text
returns-clause-text c =
    let key : List ℕ = codes "set " ++ prefix_text c.args.prefix ++ codes " metric " ++ decimal c.args.metric in
    c.put_labelled.ensures.text
    ∙ ap (λ (n : ℕ). c.put_set_key.new.out.items ++ (codes " by object " ++ decimal n)) c.from.ensures
    ∙ ap (λ (x : List ℕ). x ++ (codes " by object " ++ decimal c.args.id)) c.put_set_key.ensures.text
    ∙ grouped c.args.out.now.items key (codes " by object ") (decimal c.args.id)
