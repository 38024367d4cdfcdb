use Rattle.std.proofs.Common.{◌≡◌, drop}
use Rattle.std.specs.Prelude.{find}
use Rattle.std.specs.Str.{bytes_eq}
use Rattle.dn_formats.specs.QueryWords.{kind_named, verb_of, ask_kinds}
use Rattle.dn_formats.proofs.ask_kind.AskKind.named.Given as goal

-- the kinds so far have another verb
abbrev pub invariant-loop-kind : goal.invariant-loop-kind
invariant-loop-kind l = find (λ kind. bytes_eq l.verb (verb_of kind)) (drop l.kind-index ask_kinds) ≡ kind_named l.verb
