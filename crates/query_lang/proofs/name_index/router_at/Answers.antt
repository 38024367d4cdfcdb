use Rattle.std.proofs.Common.{◌∙◌}
use Rattle.query_lang.specs.NameIndex.{router_in}
use Rattle.query_lang.proofs.name_index.router_at.Goals as goal

pub returns : goal.returns
unfolding router_in
returns c = c.copied.ensures ∙ c.get.ensures.value
