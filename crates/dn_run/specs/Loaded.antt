-- What became of a topology or a script that was to be read from a file.
use Rattle.std.specs.Prelude.{◌≡◌, ℕ, List, [], ◌∷◌, ◌++◌, Option, Ok, Err, false}
use Rattle.dn_io.specs.Calls.{Call, Back, call_of}
use Rattle.dn_io.specs.Files.{Files}
use Rattle.dn_formats.specs.TopologyText.{topology_of}
use Rattle.dn_model.specs.Tables.{parts}
use Rattle.dn_formats.specs.ScriptText.{ScriptFault, script_of}
use Rattle.base.specs.declared.ids.RouterId.{RouterId}
use Rattle.dn_formats.specs.declared.script.Script.{Script}
use Rattle.dn_formats.specs.declared.error_line.ErrorLine.TheVariants as errors
use Rattle.dn_model.specs.declared.topology.Topology.{Topology}
use Rattle.dn_formats.specs.declared.topology_fault.TopoFault.{TopoFault}
use Rattle.dn_run.specs.Opened.{text_limit, OnBytes, WasFault}
use Rattle.dn_run.specs.declared.load.Loaded.{Loaded}
use Rattle.dn_run.specs.declared.load.Loaded.TheVariants.{Read, Refused, Failed}

-- what a text says of a topology; a text is read, or refused for its first fault
abbrev pub SaysTopology : List ℕ → Loaded Topology → Type 0
SaysTopology bytes (Read t) = topology_of bytes ≡ Ok (parts t)
SaysTopology bytes (Refused line) =
    (fault : TopoFault) × (topology_of bytes ≡ Err fault) × (line ≡ errors.Topology fault)
SaysTopology bytes Failed = ⊥

-- the same of a script, which this part names, where these routers have feeds and earlier scripts take those
abbrev pub SaysScript : Topology → List RouterId → List RouterId → ℕ → List ℕ → Loaded Script → Type 0
SaysScript t routers taken part bytes (Read script) = script_of t.routers routers taken bytes ≡ Ok script.lines
SaysScript t routers taken part bytes (Refused line) =
    (fault : ScriptFault) × (script_of t.routers routers taken bytes ≡ Err fault)
    × (line ≡ errors.Script part fault.line fault.cause)
SaysScript t routers taken part bytes Failed = ⊥

-- the file of this name was read and given back, and this is said of its bytes
abbrev pub LoadsBytes : Option Files → List Call → List ℕ → List Call → (List ℕ → Type 0) → Type 0
LoadsBytes files old name new good =
    (left : Option (List ℕ)) × (new ≡ old ++ call_of name (Back false left) ∷ []) × OnBytes files name left good

-- what a file came to: its text says so, or it failed
abbrev pub Loads : {T : Type 0} → (List ℕ → Loaded T → Type 0) → Option Files → List Call → List ℕ → List Call →
    Loaded T → Type 0
Loads says files old name new (Read x) = LoadsBytes files old name new (λ bytes. says bytes (Read x))
Loads says files old name new (Refused line) = LoadsBytes files old name new (λ bytes. says bytes (Refused line))
Loads says files old name new Failed = WasFault files text_limit old name new

abbrev pub LoadsTopology : Option Files → List Call → List ℕ → List Call → Loaded Topology → Type 0
LoadsTopology = Loads SaysTopology

abbrev pub LoadsScript : Topology → List RouterId → List RouterId → ℕ → Option Files → List Call → List ℕ → List Call →
    Loaded Script → Type 0
LoadsScript t routers taken part = Loads (SaysScript t routers taken part)
