use Rattle.std.proofs.Common.{rules, ◌≡◌, ◌<◌, ℕ, [], ◌∷◌, sym, subst}
use Rattle.std.specs.Prelude.{Option, All}
use Rattle.std.proofs.lemmas.List.Elements.{All-head}
use Rattle.atomic_table.specs.Table.{Me}
use Rattle.version_lock.specs.declared.view.View.{View}
use Rattle.version_lock.specs.History.{posted_by}
use Rattle.version_lock.specs.Rule.{setup_of, upper_of, Remembers}
use Rattle.version_lock.proofs.Keeps.{recalls}
use Rattle.version_lock.proofs.Numbers.{first_of}
use Rattle.version_lock.proofs.PartsKeep.{splits}
use Rattle.version_lock.proofs.parts.give.Goals as goal

pub split_seat-given-requires : goal.split_seat-given-requires
split_seat-given-requires g c = (
  search rules,
  search rules,
  splits g.B.Book.history g.B.Book.basis (setup_of g.B.Book.basis c.args.board.now.key) g.C.Share.count _ c.args.token.now.me.0 c.requires.free.0
      (subst (λ (k : ℕ). 0 < k) c.requires.count c.requires.some_number)
      (subst (λ (k : ℕ). k < c.args.token.now.me.0.span) c.requires.count c.requires.fewer),
)

pub load-requires : goal.load-requires
load-requires g c = (
  search rules,
  search rules,
  recalls g.B.Book.history g.B.Book.basis (setup_of g.B.Book.basis c.args.board.now.key) _ _ c.split_seat-given.result.me,
)

pub returns-clause-own : goal.returns-clause-own
returns-clause-own g c =
    let v : View = c.args.token.now.me.0 in
    let low : ℕ = upper_of g.C.Share.count v in
    let all = subst (λ (m : Me (Option g.row.B.Denot) View). All (Remembers m.0.seen) m.0.olds) c.split_seat-given.ensures.4 c.load.ensures.2.1 in
    let past = All-head (Remembers v.seen) (record { seen = []; numbers = low ∷ [] }) [] all in
    subst (λ (k : ℕ). posted_by (upper_of k v) v.seen ≡ []) (sym c.requires.count) (past.1 low (first_of low []))
