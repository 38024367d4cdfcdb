-- The report, as a text made of what is told: feeds, history, jobs; and the line that stands in its place.
use Rattle.std.specs.Prelude.{ℕ, List, [], ◌∷◌, ◌++◌, Option, None, Some, length, codes, decimal, ◌+◌}
use Rattle.std.specs.List.{flat_map}
use Rattle.dn_model.specs.declared.topology.Topology.{Topology}
use Rattle.dn_model.specs.declared.entry.Op.{Op}
use Rattle.dn_model.specs.declared.entry.Op.TheVariants.{Set, SetBy, Clear, Object, NoObject}
use Rattle.dn_model.specs.declared.entry.Entry.{Entry}
use Rattle.dn_model.specs.declared.entry.Entry.TheVariants.{Route, Link}
use Rattle.dn_formats.specs.AnswerText.{told_lines}
use Rattle.feed_model.specs.Causes.{name_of_cause}
use Rattle.feed_model.specs.FrameCauses.{cause_text}
use Rattle.dn_formats.specs.ScriptCauses.{script_causes}
use Rattle.dn_formats.specs.TopologyCauses.{topology_causes}
use Rattle.dn_formats.specs.Texts.{line, link_state_text, prefix_text, target_text, name_of_router, name_of_link}
use Rattle.feed_model.specs.declared.feed_told.RefusedFrame.{RefusedFrame}
use Rattle.feed_model.specs.declared.feed_told.FeedEnd.{FeedEnd}
use Rattle.feed_model.specs.declared.feed_told.FeedEnd.TheVariants.{End, CutShort, Lost, TooLong, Full, Faulted}
use Rattle.feed_model.specs.declared.feed_told.FeedTold.{FeedTold}
use Rattle.dn_formats.specs.declared.told.JobTold.{JobTold}
use Rattle.dn_formats.specs.declared.topology_fault.TopoFault.{TopoFault}
use Rattle.dn_formats.specs.declared.topology_fault.TopoPart.{TopoPart}
use Rattle.dn_formats.specs.declared.topology_fault.TopoPart.TheVariants as parts
use Rattle.dn_formats.specs.declared.error_line.ErrorLine.{ErrorLine}
use Rattle.dn_formats.specs.declared.error_line.ErrorLine.TheVariants as errors

abbrev pub op_text : Topology → Op → List ℕ
op_text t (Set p m target) =
    codes "set " ++ prefix_text p ++ codes " metric " ++ decimal m ++ codes " " ++ target_text t target
op_text t (Clear p (Some m)) = codes "clear " ++ prefix_text p ++ codes " metric " ++ decimal m
op_text t (Clear p None) = codes "clear " ++ prefix_text p
op_text t (SetBy p m id) =
    codes "set " ++ prefix_text p ++ codes " metric " ++ decimal m ++ codes " by object " ++ decimal id
op_text t (Object id target) = codes "object " ++ decimal id ++ codes " " ++ target_text t target
op_text t (NoObject id) = codes "noobject " ++ decimal id

abbrev pub end_text : Option FeedEnd → List ℕ
end_text None = []
end_text (Some End) = codes "end"
end_text (Some (CutShort o)) = codes "cutshort " ++ decimal o
end_text (Some (Lost o cause)) = codes "lost " ++ decimal o ++ codes " " ++ cause_text cause
end_text (Some TooLong) = codes "toolong"
end_text (Some Full) = codes "full"
end_text (Some Faulted) = codes "readfault"

abbrev pub refused_line : RefusedFrame → List ℕ
refused_line f =
    line (codes "refused offset " ++ decimal f.offset ++ codes " message " ++ decimal f.at ++ codes " cause "
    ++ decimal f.cause ++ codes " " ++ cause_text f.cause)

abbrev pub feed_line : Topology → FeedTold → List ℕ
feed_line t f =
    line (codes "feed " ++ decimal f.feed_no ++ codes " " ++ name_of_router t f.router ++ codes " updates "
    ++ decimal f.updates
    ++ codes " skipped " ++ decimal f.skipped ++ codes " refused " ++ decimal (length f.refused) ++ codes " "
    ++ end_text f.end)

-- a feed's line, and one for each of its refused frames
abbrev pub feed_lines : Topology → FeedTold → List ℕ
feed_lines t f = feed_line t f ++ flat_map refused_line f.refused

-- an entry: which feed's update of which router it is, or which job's line of which link
abbrev pub entry_text : Topology → Entry → List ℕ
entry_text t (Route r feed op) =
    codes " feed " ++ decimal feed ++ codes " " ++ name_of_router t r ++ codes " " ++ op_text t op
entry_text t (Link job l down) = codes " job " ++ decimal job ++ codes " " ++ link_state_text down ++ name_of_link t l

abbrev pub entry_line : Topology → ℕ → Entry → List ℕ
entry_line t i e = line (decimal i ++ entry_text t e)

-- the entries, the first of which is at position i
abbrev pub entry_lines : Topology → ℕ → List Entry → List ℕ
entry_lines t i [] = []
entry_lines t i (e ∷ es) = entry_line t i e ++ entry_lines t (i + 1) es

-- how many entries, and then each
abbrev pub history_lines : Topology → List Entry → List ℕ
history_lines t h = line (codes "history " ++ decimal (length h)) ++ entry_lines t 1 h

abbrev pub job_lines : Topology → JobTold → List ℕ
job_lines t j = line (codes "job " ++ decimal j.number) ++ flat_map (told_lines t) j.told

-- the whole report
abbrev pub report : Topology → List FeedTold → List Entry → List JobTold → List ℕ
report t feeds history jobs =
    flat_map (feed_lines t) feeds ++ history_lines t history ++ flat_map (job_lines t) jobs ++ line (codes "done")

abbrev pub topology_part_text : TopoPart → List ℕ
topology_part_text parts.Top = codes "top"
topology_part_text parts.Routers = codes "routers"
topology_part_text parts.Vrf = codes "vrf"
topology_part_text parts.Link = codes "link"
topology_part_text parts.Edge = codes "edge"
topology_part_text parts.Router = codes "router"

-- a number and its cause's name
abbrev pub cause_words : List (ℕ × List ℕ) → ℕ → List ℕ
cause_words names cause = decimal cause ++ codes " " ++ name_of_cause names cause

-- where a topology is refused, and why
abbrev pub topology_fault_words : TopoFault → List ℕ
topology_fault_words f =
    codes "topology " ++ topology_part_text f.part ++ codes " " ++ decimal f.entry ++ codes " "
    ++ cause_words topology_causes f.cause

-- where a script is refused, and why
abbrev pub script_fault_words : ℕ → ℕ → ℕ → List ℕ
script_fault_words i l cause =
    codes "script " ++ decimal i ++ codes " line " ++ decimal l ++ codes " " ++ cause_words script_causes cause

abbrev pub part_words : ℕ → List ℕ → List ℕ
part_words i why = codes "part " ++ decimal i ++ codes " " ++ why

-- an error line's words: what was wrong, where, and the cause
abbrev pub error_words : ErrorLine → List ℕ
error_words errors.Words = codes "words"
error_words (errors.BadPart i) = part_words i (codes "BadPart")
error_words (errors.TooManyParts i) = part_words i (codes "TooMany")
error_words (errors.UnknownRouter i) = part_words i (codes "UnknownRouter")
error_words (errors.RouterTwice i) = part_words i (codes "RouterTwice")
error_words errors.TooManyJobs = codes "jobs TooMany"
error_words (errors.Topology fault) = topology_fault_words fault
error_words (errors.Script i l cause) = script_fault_words i l cause
error_words errors.ReadTopology = codes "read topology"
error_words (errors.ReadPart i) = codes "read part " ++ decimal i

-- the one line that stands in place of a report
abbrev pub error_text : ErrorLine → List ℕ
error_text e = line (codes "error " ++ error_words e)
