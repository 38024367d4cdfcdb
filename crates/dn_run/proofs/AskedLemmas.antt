-- Which names were asked for.
use Rattle.std.proofs.Common.{◌≡◌, ℕ, true, List, [], ◌∷◌, Option, refl, ap, sym, ◌∙◌, subst}
use Rattle.std.proofs.lemmas.List.{append-nil}
use Rattle.dn_formats.specs.declared.error_line.ErrorLine.{ErrorLine}
use Rattle.dn_run.specs.Ending.{Ending, Ruled, Stopped}
use Rattle.dn_run.specs.Exit.{Exit, ByVerdict, ByWriteFault, ByMemory}
use Rattle.dn_run.specs.Run.{IsFinished, IsLine}
use Rattle.dn_run.specs.Stage.{AreAsked, AsksFor, IsFrontOf, WereAsked, may_end_early}
use Rattle.dn_run.specs.declared.status.Verdict.{Verdict}
use Rattle.dn_run.specs.declared.status.Verdict.TheVariants.{Done, Refusals, BadWords, BadTopology, BadScript, ReadFault}

front-cons : (name : List ℕ) (asked names : List (List ℕ)) → IsFrontOf asked names → IsFrontOf (name ∷ asked) (name ∷ names)
front-cons name asked names is = (is.0, ap (λ ns. name ∷ ns) is.1)

-- one more name before the others
pub asked-cons : (v : Verdict) (name : List ℕ) (asked names : List (List ℕ)) → WereAsked v asked names → WereAsked v (name ∷ asked) (name ∷ names)
asked-cons Done name asked names is = ap (λ ns. name ∷ ns) is
asked-cons Refusals name asked names is = ap (λ ns. name ∷ ns) is
asked-cons BadWords name asked names is = front-cons name asked names is
asked-cons BadTopology name asked names is = front-cons name asked names is
asked-cons BadScript name asked names is = front-cons name asked names is
asked-cons ReadFault name asked names is = front-cons name asked names is

front-all : (names : List (List ℕ)) → IsFrontOf names names
front-all names = ([], sym (append-nil names))

pub asked-all : (v : Verdict) (names : List (List ℕ)) → WereAsked v names names
asked-all Done names = refl
asked-all Refusals names = refl
asked-all BadWords names = front-all names
asked-all BadTopology names = front-all names
asked-all BadScript names = front-all names
asked-all ReadFault names = front-all names

-- where a run may end early the first names suffice
pub asked-front : (v : Verdict) (asked names : List (List ℕ)) → may_end_early v ≡ true → IsFrontOf asked names → WereAsked v asked names
asked-front Done asked names early is = cc
asked-front Refusals asked names early is = cc
asked-front BadWords asked names early is = is
asked-front BadTopology asked names early is = is
asked-front BadScript asked names early is = is
asked-front ReadFault asked names early is = is

-- the same of an ending
pub are-cons : (ending : Ending) (name : List ℕ) (asked names : List (List ℕ)) → AreAsked ending asked names → AreAsked ending (name ∷ asked) (name ∷ names)
are-cons (Ruled v t) name asked names is = asked-cons v name asked names is
are-cons Stopped name asked names is = front-cons name asked names is

pub are-all : (ending : Ending) (names : List (List ℕ)) → AreAsked ending names names
are-all (Ruled v t) names = asked-all v names
are-all Stopped names = front-all names

pub are-early : (ending : Ending) (verdict : Verdict) (error : ErrorLine) (asked names : List (List ℕ)) → may_end_early verdict ≡ true → IsLine ending verdict error → IsFrontOf asked names →
    AreAsked ending asked names
are-early (Ruled v t) verdict error asked names early line is = asked-front v asked names (ap may_end_early line.0 ∙ early) is
are-early Stopped verdict error asked names early line is = is

front-same : (asked names : List (List ℕ)) → asked ≡ names → IsFrontOf asked names
front-same asked names is = subst (λ (ns : List (List ℕ)). IsFrontOf asked ns) is (front-all asked)

pub front-asked : (v : Verdict) (asked names : List (List ℕ)) → WereAsked v asked names → IsFrontOf asked names
front-asked Done asked names is = front-same asked names is
front-asked Refusals asked names is = front-same asked names is
front-asked BadWords asked names is = is
front-asked BadTopology asked names is = is
front-asked BadScript asked names is = is
front-asked ReadFault asked names is = is

-- what the verdict says of the names, the program's end says
pub asks-for : (v : Verdict) (text : List ℕ) (exit : Exit) (old new : Option (List ℕ)) (asked names : List (List ℕ)) → IsFinished v text exit old new → WereAsked v asked names → AsksFor exit asked names
asks-for v text (ByVerdict due) old new asked names done is = subst (λ (w : Verdict). WereAsked w asked names) done.0 is
asks-for v text ByWriteFault old new asked names done is = front-asked v asked names is
asks-for v text ByMemory old new asked names done is = absurd done
