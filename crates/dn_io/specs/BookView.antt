-- How a book of calls shows what it keeps.
use Rattle.std.specs.Prelude.{ℕ, List, Option, string_bytes}
use Rattle.dn_io.specs.Calls.{Call, CallState, call_of, Out as WasOut, Refused as WasRefused, Back as CameBack}
use Rattle.dn_io.specs.declared.call_book.Entry.{Entry}
use Rattle.dn_io.specs.declared.call_book.NameState.{NameState}
use Rattle.dn_io.specs.declared.call_book.NameState.TheVariants.{Out, Refused, Back}

-- the state that a kept one stands for
abbrev pub shown_state : NameState → CallState
shown_state Out = WasOut
shown_state Refused = WasRefused
shown_state (Back failed left) = CameBack failed left

-- the call that a kept entry stands for
abbrev pub shown_entry : Entry → Call
shown_entry entry = call_of (string_bytes entry.name) (shown_state entry.state)
