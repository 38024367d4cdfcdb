-- What is known of a message while it is read.
use Rattle.std.specs.Prelude.{◌≡◌, ℕ, ◌<◌, ◌≤◌, ◌-◌, ◌++◌, not, List, [], length, Some}
use Rattle.feed_model.specs.Payload.{message_length, is_set, said_after, before, nothing_more, IsSayable}
use Rattle.feed_model.specs.declared.payload.Item.{Item}
use Rattle.feed_model.specs.declared.payload.Payload.{Payload}
use Rattle.rt_netlink.specs.declared.message.Header.{Header}
use Rattle.rt_netlink.specs.declared.message.MessageKind.{MessageKind}
use Rattle.rt_netlink.specs.declared.message.MessageKind.TheVariants.{Route}
use Rattle.rt_netlink.specs.declared.read.NextMessage.{NextMessage}
use Rattle.rt_netlink.specs.declared.read.NextMessage.TheVariants as next

-- a message of this length stands at the front and is all there
pub record IsWhole (bytes : List ℕ) (len : ℕ) : Type 0 where
  pub length_is : len ≡ message_length bytes
  pub header_there : 16 ≤ length bytes
  pub message_there : len ≤ length bytes

-- the message is of this kind, by its type
abbrev pub HasKind : List ℕ → MessageKind → Type 0
HasKind bytes (Route del) = is_set bytes ≡ not del

-- the header of a message that is all there
abbrev pub IsHeader : List ℕ → Header → Type 0
IsHeader bytes header = IsWhole bytes header.length × HasKind bytes header.kind

-- what is said after these items
abbrev pub with_items : List Item → Payload → Payload
with_items items more = record { items = items ++ more.items; refused = more.refused }

-- what is said from a place on, where these bytes are left of so many
abbrev pub said_from : List ℕ → ℕ → List ℕ → Payload
said_from tables all rest = said_after tables (all - length rest) 0 rest

-- What is said from here on, where these bytes are left of a payload of so many: the next message, and then what is
-- said after it; or the refusal of the next message alone; or nothing.
abbrev pub TellsNext : List ℕ → ℕ → List ℕ → NextMessage → Type 0
TellsNext tables all left (next.Says what rest) =
    (said_from tables all left
    ≡ before (record { at = all - length left; what = what }) (said_from tables all rest.now))
    × (length rest.now < length left) × IsSayable what
TellsNext tables all left (next.Refused cause) =
    said_from tables all left ≡ record { items = []; refused = Some (record { at = all - length left; cause = cause }) }
TellsNext tables all left next.End = said_from tables all left ≡ nothing_more
