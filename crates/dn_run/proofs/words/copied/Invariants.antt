use Rattle.std.proofs.Common.{◌≡◌, ◌++◌, drop, map}
use Rattle.std.specs.String.{string_bytes}
use Rattle.dn_run.proofs.words.copied.Given as goal

-- what was copied, and what is left, are all
abbrev pub invariant-loop-text : goal.invariant-loop-text
invariant-loop-text l = map string_bytes l.copies.items ++ map (λ text. text.now) (drop l.text-index l.texts) ≡ map (λ text. text.now) l.texts
