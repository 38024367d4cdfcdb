-- Runs of addresses, and more of them after the last.
use Rattle.std.specs.Prelude.{List, [], ◌∷◌}
use Rattle.base.specs.RunsFrom.{with_run}
use Rattle.base.specs.declared.run.Run.{Run}

-- runs, and more after them: where the last one touches the first of these, the two are one
abbrev pub joined : List Run → List Run → List Run
joined [] ys = ys
joined (x ∷ []) ys = with_run x ys
joined (x ∷ y ∷ rest) ys = x ∷ joined (y ∷ rest) ys
