-- The meaning of lines, line by line.
use Rattle.std.proofs.Common.{◌≡◌, ◌≤◌, ℕ, Bool, true, false, nat_lt, List, ◌++◌, Option, Result, Ok, Err, arith, refl, ap, sym, ◌∙◌}
use Rattle.std.specs.Prelude.{if◌then◌else◌}
use Rattle.std.specs.Option.{option_to_list}
use Rattle.std.proofs.lemmas.Bool.Decides.{nat_tests}
use Rattle.std.proofs.lemmas.List.{append_assoc}
use Rattle.dn_formats.specs.declared.script.Line.{Line}
use Rattle.dn_formats.specs.ScriptCauses.{too_many_lines}
use Rattle.dn_formats.specs.ScriptText.{ScriptFault, numbered, with_line}
use Rattle.query_lang.specs.ScriptRefused.{added}

-- the lines so far before what the others mean
abbrev pub after_lines : List Line → Result (List Line) ScriptFault → Result (List Line) ScriptFault
after_lines front (Err f) = Err f
after_lines front (Ok ls) = Ok (front ++ ls)

-- a line that was added stands before what the others mean
pub line-added : (old new : List Line) (line : Result (Option Line) ScriptFault) (rest : Result (List Line) ScriptFault)
    → added old line ≡ Ok new → after_lines old (with_line line rest) ≡ after_lines new rest
line-added old new (Err f) rest e = absurd (cc)
line-added old new (Ok l) (Err f) e = refl
line-added old new (Ok l) (Ok ls) e =
    let same : old ++ option_to_list l ≡ new = cc in
    ap Ok (sym (append_assoc old (option_to_list l) ls) ∙ ap (λ xs. xs ++ ls) same)

-- a line that is one of the first 65,536 is added as it is without its number
pub numbered-added : (old new : List Line) (n : ℕ) (meaning : Result (Option Line) ℕ) → n ≤ 65536 → added old meaning ≡ Ok new → added old (numbered n meaning) ≡ Ok new
numbered-added old new n (Err c) low is = absurd (cc)
numbered-added old new n (Ok l) low is = by-number (nat_lt 65536 n) refl
  where
    by-number : (b : Bool) → nat_lt 65536 n ≡ b → added {E = ScriptFault} old (if b then Err (record { line = n; cause = too_many_lines }) else Ok l) ≡ Ok new
    by-number true over = absurd (grind (arith, nat_tests, over, low))
    by-number false within = (let same : old ++ option_to_list l ≡ new = cc in ap Ok same)
