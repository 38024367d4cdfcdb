-- When the reader of scripts refuses.
use Rattle.std.specs.Prelude.{◌≡◌, ◌++◌, ℕ, List, Option, Result, Ok, Err}
use Rattle.std.specs.Option.{option_to_list}
use Rattle.dn_formats.specs.ScriptText.{ScriptFault}
use Rattle.dn_formats.specs.declared.script.Line.{Line}
use Rattle.query_lang.specs.declared.script_text.ScriptRefused.{ScriptRefused}
use Rattle.query_lang.specs.declared.script_text.ScriptRefused.TheVariants as script
use Rattle.query_lang.specs.declared.script_line.LineRefused.{LineRefused}
use Rattle.query_lang.specs.declared.script_line.LineRefused.TheVariants as line

-- a fault is the first one of the text; want of memory says nothing of it
abbrev pub IsRefused : {A : Type 0} → ScriptRefused → Result A ScriptFault → Type 0
IsRefused (script.Fault l c) meaning = meaning ≡ Err (record { line = l; cause = c })
IsRefused script.OutOfMemory meaning = Unit {0}

-- the same of one line
abbrev pub IsRefusedLine : LineRefused → Result (Option Line) ℕ → Type 0
IsRefusedLine (line.Cause c) meaning = meaning ≡ Err c
IsRefusedLine line.OutOfMemory meaning = Unit {0}

-- the lines so far with what a line means behind them; nothing where it is refused
abbrev pub added : {E : Type 0} → List Line → Result (Option Line) E → Result (List Line) E
added lines (Err e) = Err e
added lines (Ok l) = Ok (lines ++ option_to_list l)
