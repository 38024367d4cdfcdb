use Rattle.std.proofs.Common.{sym, ap, ◌∙◌, ◌≡◌, subst}
use Rattle.std.specs.Prelude.{All, Contains}
use Rattle.version_lock.specs.Callers.{Lock}
use Rattle.version_lock.specs.Rule.{setup_of}
use Rattle.version_lock.proofs.Ends.{closes_by}
use Rattle.version_lock.proofs.lock.VersionLock.close.Goals as goal

pub unreachable-requires : goal.unreachable-requires
unreachable-requires g c =
    let s = setup_of g.B.Book.basis c.self.inside.desk.shared.key in
    let end = closes_by g.B.Book.history g.B.Book.basis s c.args.self.setup c.seat.inside c.args.seat _ _ _ _ c.take-slot.result (ap (λ (l : Lock). l.setup) c.self.view_is)
    c.seat.invariant c.seat.view_is c.into_seat-token.ensures.2 c.close_with-closed.ensures.values.2 c.requires.whole c.take-slot.ensures.value in
    let both = sym c.in-None.is ∙ end.1 in absurd (cc (both))

pub returns-clause-basis : goal.returns-clause-basis
returns-clause-basis g c =
    let s = setup_of g.B.Book.basis c.self.inside.desk.shared.key in
    let end = closes_by g.B.Book.history g.B.Book.basis s c.args.self.setup c.seat.inside c.args.seat _ _ _ _ c.take-slot.result (ap (λ (l : Lock). l.setup) c.self.view_is)
    c.seat.invariant c.seat.view_is c.into_seat-token.ensures.2 c.close_with-closed.ensures.values.2 c.requires.whole c.take-slot.ensures.value in
    let both = sym c.in-Some.is ∙ end.1 in
    let held : c.in-Some.book ≡ end.0 = cc (both) in
    let same : c.into_book.result ≡ end.0 = c.into_book.ensures ∙ held in ap g.B.Book.basis same ∙ end.3

pub returns-clause-history : goal.returns-clause-history
returns-clause-history g c =
    let s = setup_of g.B.Book.basis c.self.inside.desk.shared.key in
    let end = closes_by g.B.Book.history g.B.Book.basis s c.args.self.setup c.seat.inside c.args.seat _ _ _ _ c.take-slot.result (ap (λ (l : Lock). l.setup) c.self.view_is)
    c.seat.invariant c.seat.view_is c.into_seat-token.ensures.2 c.close_with-closed.ensures.values.2 c.requires.whole c.take-slot.ensures.value in
    let both = sym c.in-Some.is ∙ end.1 in
    let held : c.in-Some.book ≡ end.0 = cc (both) in
    let same : c.into_book.result ≡ end.0 = c.into_book.ensures ∙ held in ap g.B.Book.history same ∙ end.2

pub returns-clause-own : goal.returns-clause-own
returns-clause-own g c =
    let s = setup_of g.B.Book.basis c.self.inside.desk.shared.key in
    let end = closes_by g.B.Book.history g.B.Book.basis s c.args.self.setup c.seat.inside c.args.seat _ _ _ _ c.take-slot.result (ap (λ (l : Lock). l.setup) c.self.view_is)
    c.seat.invariant c.seat.view_is c.into_seat-token.ensures.2 c.close_with-closed.ensures.values.2 c.requires.whole c.take-slot.ensures.value in
    let both = sym c.in-Some.is ∙ end.1 in
    let held : c.in-Some.book ≡ end.0 = cc (both) in
    let same : c.into_book.result ≡ end.0 = c.into_book.ensures ∙ held in
    subst (λ (b : g.row.B.Denot). All (λ p. Contains c.args.seat.used p.seat) (g.B.Book.history b)) (sym same) end.4
