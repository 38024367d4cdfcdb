use Rattle.std.proofs.Common.{◌≡◌, ◌+◌, ◌<◌, ◌^◌, ◌∙◌, ap, sym, refl, List, Some, None, length, arith, ℕ}
use Rattle.dn_model.specs.Query.{first_unknown, link_names, names_asked}
use Rattle.dn_model.specs.declared.query.Ask.{Ask}
use Rattle.dn_model.proofs.Known.{few-names, first-unknown}
use Rattle.dn_model.proofs.query.Query.unknown.Goals as goal

pub unknown_link-requires : goal.unknown_link-requires
unknown_link-requires c =
    let few : length c.args.self.now.without + length (names_asked c.args.self.now.ask) < 2 ^ 32 = few-names c.args.self.now c.ask-ask.ensures.form in
    let same : length c.without-without.result.now ≡ length c.args.self.now.without = ap (λ (ns : List (List ℕ)). length ns) c.without-without.ensures.value in
    omega arith

pub returns-in-Some : goal.returns-in-Some
returns-in-Some c =
    first-unknown c.args.topology.now c.args.self.now (Some c.in-Some.unknown) (first_unknown c.args.topology.now (length c.args.self.now.without + 1) (names_asked c.args.self.now.ask))
    (sym c.in-Some.is ∙ c.unknown_link.ensures ∙ ap (λ (ns : List (List ℕ)). first_unknown c.args.topology.now 1 (link_names ns)) c.without-without.ensures.value) refl

pub unknown_asked-requires : goal.unknown_asked-requires
unknown_asked-requires c =
    let few : length c.args.self.now.without + length (names_asked c.args.self.now.ask) < 2 ^ 32 = few-names c.args.self.now c.ask-ask.ensures.form in
    let same : length c.without-without.result.now ≡ length c.args.self.now.without = ap (λ (ns : List (List ℕ)). length ns) c.without-without.ensures.value in
    let asked : length (names_asked c.ask-ask.result.now) ≡ length (names_asked c.args.self.now.ask) = ap (λ (x : Ask). length (names_asked x)) c.ask-ask.ensures.value in
    omega arith

pub returns-in-None : goal.returns-in-None
returns-in-None c =
    first-unknown c.args.topology.now c.args.self.now None c.unknown_asked.result
    (sym c.in-None.is ∙ c.unknown_link.ensures ∙ ap (λ (ns : List (List ℕ)). first_unknown c.args.topology.now 1 (link_names ns)) c.without-without.ensures.value)
    (c.unknown_asked.ensures ∙ ap (λ (ns : List (List ℕ)). first_unknown c.args.topology.now (length ns + 1) (names_asked c.ask-ask.result.now)) c.without-without.ensures.value
    ∙ ap (λ (x : Ask). first_unknown c.args.topology.now (length c.args.self.now.without + 1) (names_asked x)) c.ask-ask.ensures.value)
