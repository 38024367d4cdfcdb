use Rattle.std.proofs.Common.{rules, arith, ap, sym, ◌++◌, ◌∷◌, [], ◌∙◌}
use Rattle.std.specs.Prelude.{Option}
use Rattle.atomic_table.specs.Table.{Me}
use Rattle.dn_model.specs.declared.entry.Posted.{Posted}
use Rattle.version_lock.specs.declared.view.View.{View}
use Rattle.version_lock.specs.Rule.{setup_of}
use Rattle.version_lock.specs.Steps.{without_turn, having_seen}
use Rattle.version_lock.proofs.Carried.{carries}
use Rattle.version_lock.proofs.Keeps.{applies}
use Rattle.version_lock.proofs.turn.settle_applied.Goals as goal

pub fetch_add-requires : goal.fetch_add-requires
fetch_add-requires g c =
    let is = carries c.args.token.now.me c.exchange.new.seat.me c.args.book c.exchange.ensures.3 c.requires.turn.1 in
    let posted = c.requires.posted in (
      search rules,
      search rules,
      applies g.B.Book.history g.B.Book.basis (setup_of g.B.Book.basis c.args.board.now.key) _ _ c.exchange.new.seat.me c.args.book posted.0
          (ap (λ (m : Me (Option g.row.B.Denot) View). m.1) is)
          (ap (λ (m : Me (Option g.row.B.Denot) View). m.0.turn) is ∙ c.requires.turn.0)
          (posted.1 ∙ ap (λ (m : Me (Option g.row.B.Denot) View). let p : Posted = record { seat = m.0.first; entry = posted.0 } in m.0.seen ++ p ∷ []) (sym is))
          (omega arith),
    )

pub set_free-requires-clause-turn : goal.set_free-requires-clause-turn
set_free-requires-clause-turn g c =
    let is = carries c.args.token.now.me c.exchange.new.seat.me c.args.book c.exchange.ensures.3 c.requires.turn.1 in
    let then = c.fetch_add.ensures.2 c.args.book (ap (λ (m : Me (Option g.row.B.Denot) View). m.1) is)
    ∙ ap (λ (m : Me (Option g.row.B.Denot) View). let after : Me (Option g.row.B.Denot) View = (having_seen (g.B.Book.history c.args.book) m.0, m.1) in after) is in
    λ _ _. ap (λ (m : Me (Option g.row.B.Denot) View). m.0.turn) then ∙ c.requires.turn.0

pub set_free-requires-clause-book : goal.set_free-requires-clause-book
set_free-requires-clause-book g c =
    let is = carries c.args.token.now.me c.exchange.new.seat.me c.args.book c.exchange.ensures.3 c.requires.turn.1 in
    let then = c.fetch_add.ensures.2 c.args.book (ap (λ (m : Me (Option g.row.B.Denot) View). m.1) is)
    ∙ ap (λ (m : Me (Option g.row.B.Denot) View). let after : Me (Option g.row.B.Denot) View = (having_seen (g.B.Book.history c.args.book) m.0, m.1) in after) is in
    λ _ _. (
      c.args.book,
      ap (λ (m : Me (Option g.row.B.Denot) View). m.1) then,
      sym (ap (λ (m : Me (Option g.row.B.Denot) View). m.0.seen) then),
      c.requires.basis,
    )

pub returns-clause-applied : goal.returns-clause-applied
returns-clause-applied g c =
    let is = carries c.args.token.now.me c.exchange.new.seat.me c.args.book c.exchange.ensures.3 c.requires.turn.1 in
    let then = c.fetch_add.ensures.2 c.args.book (ap (λ (m : Me (Option g.row.B.Denot) View). m.1) is)
    ∙ ap (λ (m : Me (Option g.row.B.Denot) View). let after : Me (Option g.row.B.Denot) View = (having_seen (g.B.Book.history c.args.book) m.0, m.1) in after) is in
    c.set_free.ensures.freed ∙ ap (λ (m : Me (Option g.row.B.Denot) View). let after : Me (Option g.row.B.Denot) View = (without_turn m.0, []) in after) then
