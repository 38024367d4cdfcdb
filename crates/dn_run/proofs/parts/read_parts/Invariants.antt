use Rattle.std.proofs.Common.{◌≡◌, ◌≤◌, drop, length, map}
use Rattle.std.specs.String.{string_bytes}
use Rattle.dn_formats.specs.Words.{parts_of}
use Rattle.dn_run.specs.PartsRead.{parts_texts}
use Rattle.dn_run.proofs.PartsLemmas.{with_parts}
use Rattle.dn_run.proofs.parts.read_parts.Given as goal

-- what was read, and the parts that are left, mean what all mean
abbrev pub invariant-loop-part : goal.invariant-loop-part
invariant-loop-part l =
    (with_parts (parts_texts l.said) (drop l.part-index (map string_bytes l.parts)) ≡ parts_of (map string_bytes l.parts))
    × (length l.said.feeds.items ≤ 64) × (length l.said.scripts.items ≤ 64)
