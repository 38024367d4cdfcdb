use Rattle.std.proofs.Common.{◌∙◌, ℕ, ap}
use Rattle.dn_formats.specs.QueryWords.{AddressThen, Asks, Operands, operands_of, read_as}
use Rattle.dn_formats.specs.ScriptText.{words_of}
use Rattle.dn_formats.specs.declared.ask_kind.AskKind.{AskKind}
use Rattle.dn_model.specs.declared.query.Ask.TheVariants.{Path}
use Rattle.query_lang.proofs.Questions.{address-read, address-unread, router-read, unread-again}
use Rattle.query_lang.proofs.query_line.Words.operands.Goals as goal

pub returns-in_err-address-in-Path-clause-err : goal.returns-in_err-address-in-Path-clause-err
returns-in_err-address-in-Path-clause-err c =
    let next : ℕ → Operands = λ a. Asks (Path c.in_ok-name-in-Path.field-0 a) in
    let words = words_of c.args.self.now.rest.now in
    let rest = words_of c.name.new.self.rest.now in
    unread-again _ c.in_err-address-in-Path.field-0.0 _ (read_as (AddressThen next) rest)
    (ap (λ (kind : AskKind). read_as (operands_of kind) words) c.in-Path.is
    ∙ router-read (λ r. AddressThen (λ a. Asks (Path r a))) words rest _ c.in_ok-name-in-Path.ensures.ok)
    c.from_residual-in_err-address-in-Path.ensures.1
    (address-unread next rest c.in_err-address-in-Path.field-0.0 c.in_err-address-in-Path.ensures.err)

pub returns-in_ok-address-in-Path-clause-ok : goal.returns-in_ok-address-in-Path-clause-ok
returns-in_ok-address-in-Path-clause-ok c =
    let rest = words_of c.name.new.self.rest.now in
    rw c.in-Path.is
    (router-read (λ r. AddressThen (λ a. Asks (Path r a))) (words_of c.args.self.now.rest.now) rest _ c.in_ok-name-in-Path.ensures.ok
    ∙ address-read (λ a. Asks (Path c.in_ok-name-in-Path.field-0 a)) rest (words_of c.address.new.self.rest.now) _ c.in_ok-address-in-Path.ensures.ok)
