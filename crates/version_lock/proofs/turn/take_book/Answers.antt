use Rattle.std.proofs.Common.{rules, ◌≡◌, ◌<◌, ◌∷◌, List, ℕ, Some, refl, sym, ap, subst}
use Rattle.atomic_table.specs.Table.{Me, rest}
use Rattle.std.specs.Prelude.{Option}
use Rattle.version_lock.specs.declared.view.View.{View}
use Rattle.version_lock.specs.Rule.{setup_of}
use Rattle.version_lock.proofs.Keeps.{wins}
use Rattle.version_lock.proofs.turn.take_book.Goals as goal

pub compare_exchange-requires : goal.compare_exchange-requires
compare_exchange-requires g c = (
  search rules,
  search rules,
  wins g.B.Book.history g.B.Book.basis (setup_of g.B.Book.basis c.args.board.now.key) _ _ c.loop.token.me
      (subst (λ (m : Me (Option g.row.B.Denot) View). 0 < m.0.span) (sym c.loop.invariant.1) c.requires.ready.0),
)

pub exchange-requires : goal.exchange-requires
exchange-requires g c =
    let won = c.compare_exchange.ensures.2.0 c.if-compare_exchange-eq0.true in
    let carries = ap (λ (m : Me (Option g.row.B.Denot) View). m.1) won.1 in
    (search rules, (Some won.0, subst (λ (z : List (ℕ × Option g.row.B.Denot)). z ≡ (0, Some won.0) ∷ rest z) (sym carries) refl))
