use Rattle.std.proofs.Common.{◌≡◌, ◌∙◌, List, ap, sym, subst}
use Rattle.std.proofs.lemmas.Result.{IfOk-weaker}
use Rattle.dn_model.specs.Answer.{IsAnswerTo, links_of}
use Rattle.dn_model.specs.Network.{IsNetwork, does_in}
use Rattle.base.specs.declared.ids.LinkId.{LinkId}
use Rattle.dn_model.specs.declared.query.Ask.{Ask}
use Rattle.dn_model.proofs.Known.{asked-known}
use Rattle.dn_model.proofs.Moments.{network-closed, network-does}
use Rattle.dn_model.proofs.SameAnswers.{answer-over}
use Rattle.dn_model.proofs.plain.plain_answer.Goals as goal

pub answer_in-requires : goal.answer_in-requires
answer_in-requires c = record {
  count = c.in_ok-net.ensures.routers.count;
  closed = network-closed c.args.t.now c.args.entries.now c.as_slice.result.now c.in_ok-net.net c.requires.entries c.in_ok-net.ensures;
  known = λ n i. asked-known c.args.t.now c.args.query.now c.ask-ask.result.now n c.requires.names (sym c.ask-ask.ensures.value) i;
  other = c.in_default.not-Delta;
}

pub returns : goal.returns
returns c =
    let t = c.args.t.now in
    let history = c.args.entries.now in
    let links : List LinkId = links_of t c.args.query.now.without in
    let named : c.as_slice.result.now ≡ links = c.as_slice.ensures.value ∙ c.in_ok-down.ensures ∙ ap (links_of t) c.without.ensures.value in
    let net : IsNetwork t history links c.in_ok-net.net = subst (λ ls. IsNetwork t history ls c.in_ok-net.net) named c.in_ok-net.ensures in
    IfOk-weaker c.answer_in.result _ _ (λ answer is.
    subst (λ (ask : Ask). IsAnswerTo t history links ask answer) c.ask-ask.ensures.value
    (answer-over t (does_in c.in_ok-net.net) history links c.ask-ask.result.now answer
    (λ r a. network-does t history links c.in_ok-net.net r a c.requires.entries net) is)) c.answer_in.ensures
