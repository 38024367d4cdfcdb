use Rattle.std.proofs.Common.{◌≡◌, ◌<◌, ◌≤◌, List, length, ap, sym, subst, arith, Option, IfSome}
use mathlib.Core.List.{IsPrefix}
use Rattle.fast_pins.specs.declared.issue.Issue.{Issue}
use Rattle.fast_pins.specs.Known.{Known, published}
use Rattle.fast_pins.proofs.Editions.{renews, stays}
use Rattle.fast_pins.proofs.edition.Edition.renew.Goals as goal

pub returns-then-number-clause-topology : goal.returns-then-number-clause-topology
returns-then-number-clause-topology g c =
    let self = c.args.self.now in
    let origin = subst (λ (o : Option Known). IfSome o (λ k. k.origin ≡ self.origin)) c.in-Some.is c.requires.origin in
    let pre = subst (λ (l : List Issue). IsPrefix l c.learn.new.self.log) (ap (λ s. s.log) c.again-both.ensures) c.learn.ensures.2 in
    let less : length (published self) < length (published c.in-Some.other) = omega (arith, c.if-number.true, c.number.ensures, c.number-2.ensures) in
    (renews self c.in-Some.other _ _ _ _ _ _ _ _ _ c.self.view_is c.self.invariant c.other.view_is c.other.invariant origin pre c.learn.ensures.3 c.learn.ensures.4 less).0

pub returns-then-number-clause-known : goal.returns-then-number-clause-known
returns-then-number-clause-known g c =
    let self = c.args.self.now in
    let origin = subst (λ (o : Option Known). IfSome o (λ k. k.origin ≡ self.origin)) c.in-Some.is c.requires.origin in
    let pre = subst (λ (l : List Issue). IsPrefix l c.learn.new.self.log) (ap (λ s. s.log) c.again-both.ensures) c.learn.ensures.2 in
    let less : length (published self) < length (published c.in-Some.other) = omega (arith, c.if-number.true, c.number.ensures, c.number-2.ensures) in
    let known = (renews self c.in-Some.other _ _ _ _ _ _ _ _ _ c.self.view_is c.self.invariant c.other.view_is c.other.invariant origin pre c.learn.ensures.3 c.learn.ensures.4 less).1 in
    subst (λ (k : Known). IsPrefix self.lists k.lists) (sym c.other.view_is) known

pub returns-then-number-clause-mine : goal.returns-then-number-clause-mine
returns-then-number-clause-mine g c =
    let self = c.args.self.now in
    let origin = subst (λ (o : Option Known). IfSome o (λ k. k.origin ≡ self.origin)) c.in-Some.is c.requires.origin in
    let pre = subst (λ (l : List Issue). IsPrefix l c.learn.new.self.log) (ap (λ s. s.log) c.again-both.ensures) c.learn.ensures.2 in
    let less : length (published self) < length (published c.in-Some.other) = omega (arith, c.if-number.true, c.number.ensures, c.number-2.ensures) in
    let mine = (renews self c.in-Some.other _ _ _ _ _ _ _ _ _ c.self.view_is c.self.invariant c.other.view_is c.other.invariant origin pre c.learn.ensures.3 c.learn.ensures.4 less).2 in
    subst (λ (k : Known). IsPrefix (published self) (published k)) (sym c.other.view_is) mine

pub returns-else-number-clause-theirs : goal.returns-else-number-clause-theirs
returns-else-number-clause-theirs g c =
    let self = c.args.self.now in
    let origin = subst (λ (o : Option Known). IfSome o (λ k. k.origin ≡ self.origin)) c.in-Some.is c.requires.origin in
    let pre = subst (λ (l : List Issue). IsPrefix l c.learn.new.self.log) (ap (λ s. s.log) c.again-both.ensures) c.learn.ensures.2 in
    let le : length (published c.in-Some.other) ≤ length (published self) = omega (arith, c.if-number.false, c.number.ensures, c.number-2.ensures) in
    let theirs = stays self c.in-Some.other _ _ _ _ _ _ _ _ _ c.self.view_is c.self.invariant c.other.view_is c.other.invariant origin pre c.learn.ensures.3 c.learn.ensures.4 le in
    rw c.in-Some.is theirs
