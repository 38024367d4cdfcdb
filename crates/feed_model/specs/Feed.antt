-- What a device's feed says: its frames one by one, and how it ends. A feed is a stream of frames of FRR's forwarding
-- plane manager (fpm/fpm.h), and a frame of kind 1 holds messages of rtnetlink(7).
use Rattle.std.specs.Prelude.{◌≡◌, ◌≢◌, ◌⊎◌, ℕ, ◌+◌, ◌==◌, Bool, nat_lt, List, [], ◌∷◌, ◌++◌, length, take, map, filter, Option, None, Some, unwrap_or, Result, Ok, Err, if◌then◌else◌}
use Rattle.feed_model.specs.Frames.{Frame, Frames, FrameRest, NoRest, CutFrame, BadVersion, BadFrameLength, frame_text, frames_text, rest_kind}
use Rattle.feed_model.specs.Message.{op_of, object_of}
use Rattle.feed_model.specs.Payload.{IsPayload}
use Rattle.feed_model.specs.Steps.{FrameStep, Accepted, Refused}
use Rattle.base.specs.declared.ids.RouterId.{RouterId}
use Rattle.dn_model.specs.declared.entry.Op.{Op}
use Rattle.feed_model.specs.declared.payload.Item.{Item}
use Rattle.feed_model.specs.declared.payload.ItemKind.{ItemKind}
use Rattle.feed_model.specs.declared.payload.ItemKind.TheVariants.{Route, Object, Skipped}
use Rattle.feed_model.specs.declared.payload.Payload.{Payload}
use Rattle.feed_model.specs.declared.payload.Refused.{Refused as Refusal}
use Rattle.feed_model.specs.FrameCauses.{unknown_interface, frame_type, bad_version, bad_frame_length}
use Rattle.dn_model.specs.Tables.{device_of, vrf_of}
use Rattle.dn_model.specs.declared.topology.Topology.{Topology}
use Rattle.feed_model.specs.declared.feed_told.FeedEnd.{FeedEnd}
use Rattle.feed_model.specs.declared.feed_told.FeedEnd.TheVariants.{End, CutShort, Lost, TooLong}

-- ---- what the messages of a payload are to the device whose feed they are in

-- The numbers of a device's tables: its main one, and those of its VRFs.
abbrev pub tables_of : Topology → RouterId → List ℕ
tables_of t device = map (λ table. table.number) (filter (λ table. table.device.0 == device.0) t.tables)

-- The router that a route in a device's feed belongs to, by its table's number: the VRF that has the table, or else the
-- device. Routes of a table that it doesn't have are not read.
abbrev pub router_by : Topology → RouterId → ℕ → RouterId
router_by t device table = unwrap_or (vrf_of t device table) device

-- an update of the table of a device, or of one of its VRFs
abbrev pub IsToTableOf : Topology → RouterId → RouterId × Op → Type 0
IsToTableOf t device u = device_of t u.0 ≡ device_of t device

-- What the messages of a frame that were looked at came to: their updates, in order, each with the router whose table
-- it changes, and how many were passed over.
pub record Gathered : Type 0 where
  pub ops : List (RouterId × Op)
  pub skipped : ℕ

abbrev pub nothing_gathered : Gathered
nothing_gathered = record { ops = []; skipped = 0 }

-- A message at this place whose update this is, to the table of this router, joins them. Without an update it is
-- refused: its interface isn't the device's.
abbrev pub with_update : Gathered → ℕ → RouterId → Option Op → Result Gathered Refusal
with_update g at router None = Err (record { at = at; cause = unknown_interface })
with_update g at router (Some op) = Ok (record { ops = g.ops ++ (router, op) ∷ []; skipped = g.skipped })

-- One more message, at this place. The interface of a route is looked for among all of the device's, whichever table
-- the route is in. Objects are the device's own.
abbrev pub with_message : Topology → RouterId → Gathered → ℕ → ItemKind → Result Gathered Refusal
with_message t r g at (Route raw) = with_update g at (router_by t r raw.table) (op_of t r raw)
with_message t r g at (Object raw) = with_update g at r (object_of t r raw)
with_message t r g at (Skipped skip) = Ok (record { ops = g.ops; skipped = g.skipped + 1 })

-- what follows a message, unless that is refused
abbrev pub unless_refused : Result Gathered Refusal → (Gathered → Result Gathered Refusal) → Result Gathered Refusal
unless_refused (Ok g) next = next g
unless_refused (Err refused) next = Err refused

-- What messages come to one after another, with what was gathered before: refused by the first of them that is, or else
-- by the refusal that broke them off.
abbrev pub gathered : Topology → RouterId → Gathered → List Item → Option Refusal → Result Gathered Refusal
gathered t r g [] None = Ok g
gathered t r g [] (Some refused) = Err refused
gathered t r g (item ∷ items) broke_off =
    unless_refused (with_message t r g item.at item.what) (λ more. gathered t r more items broke_off)

-- ---- what a frame comes to

-- a frame at this offset whose messages come to this: it is accepted whole, or refused whole
abbrev pub step_by : ℕ → Result Gathered Refusal → FrameStep
step_by offset (Ok g) = Accepted g.ops g.skipped
step_by offset (Err first) = Refused (record { offset = offset; at = first.at; cause = first.cause })

abbrev pub step_of : Topology → RouterId → ℕ → Payload → FrameStep
step_of t r offset p = step_by offset (gathered t r nothing_gathered p.items p.refused)

-- a netlink frame comes to what its payload says, of whose routes those of these tables and the main one are read
pub record IsNetlinkStep (tables : List ℕ) (t : Topology) (r : RouterId) (offset : ℕ) (frame : Frame)
    (step : FrameStep) : Type 0 where
  pub netlink : frame.kind ≡ 1
  pub payload : Payload
  pub says : IsPayload tables frame.payload payload
  pub comes_to : step ≡ step_of t r offset payload

-- a frame of another kind is refused, whatever it holds
pub record IsOtherStep (offset : ℕ) (frame : Frame) (step : FrameStep) : Type 0 where
  pub other : frame.kind ≢ 1
  pub refused : step ≡ Refused (record { offset = offset; at = 0; cause = frame_type })

-- what the frame at this offset of this device's feed comes to, where the routes of these tables and the main one are
-- read
abbrev pub IsStepBy : List ℕ → Topology → RouterId → ℕ → Frame → FrameStep → Type 0
IsStepBy tables t r offset frame step = IsNetlinkStep tables t r offset frame step ⊎ IsOtherStep offset frame step

-- the same with all tables of the device
abbrev pub IsStep : Topology → RouterId → ℕ → Frame → FrameStep → Type 0
IsStep t r offset frame step = IsStepBy (tables_of t r) t r offset frame step

-- what these frames come to, one after another, where the first begins at this offset
abbrev pub AreSteps : Topology → RouterId → ℕ → List Frame → List FrameStep → Type 0
AreSteps t r offset [] [] = Unit {0}
AreSteps t r offset [] (s ∷ ss) = ⊥
AreSteps t r offset (f ∷ fs) [] = ⊥
AreSteps t r offset (f ∷ fs) (s ∷ ss) = IsStep t r offset f s × AreSteps t r (offset + length (frame_text f)) fs ss

-- How a feed ends whose rest, at this offset, is of this kind. One that goes on past its limit is too long, unless
-- the framing was lost before.
abbrev pub ending : FrameRest → ℕ → Bool → FeedEnd
ending BadVersion offset is_longer = Lost offset bad_version
ending BadFrameLength offset is_longer = Lost offset bad_frame_length
ending NoRest offset is_longer = if is_longer then TooLong else End
ending CutFrame offset is_longer = if is_longer then TooLong else CutShort offset

-- a rest that keeps the framing
abbrev pub IsKept : FrameRest → Type 0
IsKept NoRest = Unit {0}
IsKept CutFrame = Unit {0}
IsKept BadVersion = ⊥
IsKept BadFrameLength = ⊥

-- a feed of these bytes, of which at most `limit` are looked at: what its frames come to, and how it ends
pub record IsReading (t : Topology) (r : RouterId) (bytes : List ℕ) (limit : ℕ) (steps : List FrameStep) (end : FeedEnd) : Type 0 where
  pub frames : List Frame
  pub rest : List ℕ
  pub cut : Frames (take limit bytes) frames rest
  pub come_to : AreSteps t r 0 frames steps
  pub ends : end ≡ ending (rest_kind rest) (length (frames_text frames)) (nat_lt limit (length bytes))

-- a feed that failed after these bytes: what its whole frames come to; the framing wasn't lost before
pub record IsFaultedReading (t : Topology) (r : RouterId) (bytes : List ℕ) (steps : List FrameStep) : Type 0 where
  pub frames : List Frame
  pub rest : List ℕ
  pub cut : Frames bytes frames rest
  pub come_to : AreSteps t r 0 frames steps
  pub kept : IsKept (rest_kind rest)
