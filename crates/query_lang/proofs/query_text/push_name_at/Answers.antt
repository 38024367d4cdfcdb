use Rattle.std.proofs.Common.{◌≡◌, ◌-◌, ℕ, List, length, Some, ap, refl, sym, ◌∙◌, arith}
use Rattle.std.specs.List.{slice_get}
use Rattle.std.proofs.lemmas.Option.{slice_get_read}
use Rattle.query_lang.proofs.QueryTexts.{name_at-link, name_at-asked, same-added}
use Rattle.query_lang.proofs.query_text.push_name_at.Goals as goal

pub returns-then-at-without : goal.returns-then-at-without
returns-then-at-without c =
    let found : slice_get c.without-without.result.now c.saturating_sub-at.result ≡ Some c.index-without-at.result = slice_get_read _ _ _ _ refl c.if-at-without.true c.index-without-at.is in
    same-added _ _ _ _ c.in_ok-push_bytes.ensures (name_at-link c.args.query.now c.args.place c.as_bytes.result.now (cc))

pub returns : goal.returns
returns c =
    let links : length c.without-without.result.now ≡ length c.args.query.now.without = ap (λ (xs : List (List ℕ)). length xs) c.without-without.ensures.value in
    same-added _ _ _ _ c.in_ok-push_bytes-2.ensures
    (name_at-asked c.args.query.now c.ask.result.now c.args.place (c.saturating_sub-at.result - length c.without-without.result.now) (omega arith) (omega arith) c.ask.ensures.value
    ∙ sym c.text_in.ensures)
