use Rattle.std.proofs.Common.{rules, ap, sym, ◌∙◌, []}
use Rattle.std.specs.Prelude.{Option}
use Rattle.atomic_table.specs.Table.{Me}
use Rattle.version_lock.specs.declared.view.View.{View}
use Rattle.version_lock.specs.Rule.{setup_of}
use Rattle.version_lock.specs.Steps.{without_turn}
use Rattle.version_lock.proofs.Carried.{carries}
use Rattle.version_lock.proofs.Keeps.{counts}
use Rattle.version_lock.proofs.turn.settle.Goals as goal

pub load-requires : goal.load-requires
load-requires g c = let is = carries c.args.token.now.me c.exchange.new.seat.me c.args.book c.exchange.ensures.3 c.requires.turn.1 in (
  search rules,
  search rules,
  counts g.B.Book.history g.B.Book.basis (setup_of g.B.Book.basis c.args.board.now.key) _ _ c.exchange.new.seat.me
      (ap (λ (m : Me (Option g.row.B.Denot) View). m.0.turn) is ∙ c.requires.turn.0),
)

pub set_free-requires-clause-turn : goal.set_free-requires-clause-turn
set_free-requires-clause-turn g c =
    let is = c.load.ensures.2.0 ∙ carries c.args.token.now.me c.exchange.new.seat.me c.args.book c.exchange.ensures.3 c.requires.turn.1 in
    λ _ _. ap (λ (m : Me (Option g.row.B.Denot) View). m.0.turn) is ∙ c.requires.turn.0

pub set_free-requires-clause-book : goal.set_free-requires-clause-book
set_free-requires-clause-book g c =
    let is = c.load.ensures.2.0 ∙ carries c.args.token.now.me c.exchange.new.seat.me c.args.book c.exchange.ensures.3 c.requires.turn.1 in
    λ _ _. (
      c.args.book,
      ap (λ (m : Me (Option g.row.B.Denot) View). m.1) is,
      c.requires.same ∙ sym (ap (λ (m : Me (Option g.row.B.Denot) View). m.0.seen) is),
      c.requires.basis,
    )

pub returns-clause-freed : goal.returns-clause-freed
returns-clause-freed g c =
    let is = c.load.ensures.2.0 ∙ carries c.args.token.now.me c.exchange.new.seat.me c.args.book c.exchange.ensures.3 c.requires.turn.1 in
    c.set_free.ensures.freed ∙ ap (λ (m : Me (Option g.row.B.Denot) View). let after : Me (Option g.row.B.Denot) View = (without_turn m.0, []) in after) is
