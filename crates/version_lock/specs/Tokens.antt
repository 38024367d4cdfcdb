-- A seat at the table while a call works with it.
use Rattle.std.specs.Prelude.{◌≡◌, ◌<◌, true, false, [], ◌∷◌, Option, None}
use Rattle.atomic_table.specs.Seated.{TableId}
use Rattle.atomic_table.specs.declared.shared.Seat.{Seat}
use Rattle.version_lock.specs.declared.view.View.{View}

-- the seat is of this table, which has two words and one slot
abbrev pub IsTokenOf : {B : Type 0} → TableId → Seat (Option B) View → Type 0
IsTokenOf z token = (token.table_id ≡ z) × (z.words ≡ 2) × (z.slots ≡ 1)

-- it is the same seat, whatever it knows
abbrev pub IsSameToken : {B : Type 0} → Seat (Option B) View → Seat (Option B) View → Type 0
IsSameToken old new = (new.table_id ≡ old.table_id) × (new.id ≡ old.id)

-- the seat has a number, and no slot
abbrev pub IsReady : {B : Type 0} → Seat (Option B) View → Type 0
IsReady token = (0 < token.me.0.span) × (token.me.1 ≡ [])

-- the seat has the turn, and the slot with nothing in it: the book is with the call
abbrev pub HasTurn : {B : Type 0} → Seat (Option B) View → Type 0
HasTurn token = (token.me.0.turn ≡ true) × (token.me.1 ≡ (0, None) ∷ [])

-- two views of a seat have the same lock and numbers
pub record HasSameNumbers (old new : View) : Type 0 where
  pub setup : new.setup ≡ old.setup
  pub first : new.first ≡ old.first
  pub span : new.span ≡ old.span
  pub used : new.used ≡ old.used

-- the seat has neither the turn nor a slot, and the numbers that it had
abbrev pub IsFreed : {B : Type 0} → Seat (Option B) View → Seat (Option B) View → Type 0
IsFreed old new = (new.me.0.turn ≡ false) × (new.me.1 ≡ []) × HasSameNumbers old.me.0 new.me.0

-- the seat has neither the turn nor a slot
abbrev pub IsFree : {B : Type 0} → Seat (Option B) View → Type 0
IsFree token = (token.me.0.turn ≡ false) × (token.me.1 ≡ [])
