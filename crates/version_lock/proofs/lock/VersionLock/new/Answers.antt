use Rattle.std.proofs.Common.{◌≡◌, ◌++◌, ◌∷◌, [], List, sym, ap, ◌∙◌, subst, Some}
use Rattle.std.specs.Prelude.{Option}
use Rattle.atomic_table.specs.Table.{opening}
use Rattle.version_lock.specs.declared.view.Setup.{Setup}
use Rattle.version_lock.specs.Rule.{Kept, first_view, setup_of}
use Rattle.version_lock.proofs.Ends.{opens}
use Rattle.version_lock.proofs.lock.VersionLock.new.Goals as goal

pub new-requires-2 : goal.new-requires-2
new-requires-2 g c =
    let s : Setup = setup_of g.B.Book.basis record { book = c.of.result; seats = c.args.seats } in
    let items : c.push.new.self.items ≡ Some c.args.book ∷ [] =
    c.in_ok-push.ensures.items ∙ ap (λ (l : List (Option g.row.B.Denot)). l ++ Some c.in_ok-shelved.shelved ∷ []) c.new-slots.ensures.items
    ∙ ap (λ (b : g.row.B.Denot). Some b ∷ []) c.in_ok-shelved.ensures in
    subst (λ (l : List (Option g.row.B.Denot)). Kept g.B.Book.history g.B.Book.basis s (opening (0 ∷ 0 ∷ []) l (first_view s))) (sym items)
    (opens g.B.Book.history g.B.Book.basis s c.args.book c.requires.empty (ap g.B.Book.basis (sym c.of.ensures)) c.requires.some_seat)
