-- How many bytes the updates of a payload take: a route message has a header of 16 bytes and a `struct rtmsg` of 12, and
-- the next message begins at its end or after it.
use Rattle.std.proofs.Common.{◌≡◌, ℕ, zero, suc, ◌+◌, ◌-◌, ◌*◌, ◌≤◌, Bool, true, false, nat_lt, Option, None, Some, List, [], ◌∷◌, ◌++◌, length, length-append, refl, sym, subst, arith, inl, inr}
use Rattle.std.specs.Prelude.{◌||◌, if◌then◌else◌, Result, Ok, Err}
use Rattle.std.proofs.lemmas.Bool.{ltb-false}
use Rattle.feed_model.specs.Attributes.{padded}
use Rattle.feed_model.specs.Feed.{Gathered, nothing_gathered, with_update, unless_refused, gathered, router_by, step_by, IsStepBy}
use Rattle.feed_model.specs.Frames.{Frame}
use Rattle.feed_model.specs.Message.{op_of}
use Rattle.feed_model.specs.Payload.{Ruling, Refuses, Skips, said_by, message_said, item_of, said, said_after, ruling_of, nothing_more, message_length, route_of}
use Rattle.feed_model.specs.Steps.{Accepted}
use Rattle.dn_model.specs.declared.entry.Op.{Op}
use Rattle.base.specs.declared.ids.RouterId.{RouterId}
use Rattle.feed_model.specs.declared.payload.Payload.{Payload}
use Rattle.feed_model.specs.declared.payload.Refused.{Refused as Refusal}
use Rattle.dn_model.specs.declared.topology.Topology.{Topology}

-- where no row holds, the first doesn't
row_false : (b : Bool) (ruling : Ruling) (rest : Option Ruling) → (if b then Some ruling else rest) ≡ None → (b ≡ false) × (rest ≡ None)
row_false true ruling rest e = let no : ⊥ = cc in absurd no
row_false false ruling rest e = (refl, e)

or_last : (a b : Bool) → (a || b) ≡ false → b ≡ false
or_last true b e = let no : ⊥ = cc in absurd no
or_last false b e = e

-- a message that says its route has at least 28 bytes, and they are there
route_room : (tables bytes : List ℕ) → ruling_of tables bytes ≡ None → (28 ≤ message_length bytes) × (message_length bytes ≤ length bytes)
unfolding ruling_of
route_room tables bytes e =
    let first = row_false _ _ _ e in
    let second = row_false _ _ _ first.1 in
    let third = row_false _ _ _ second.1 in
    (ltb-false _ _ third.0, ltb-false _ _ (or_last _ _ first.0))

-- the updates gathered have room in so many bytes
abbrev RoomFor : ℕ → Result Gathered Refusal → Type 0
RoomFor n (Ok g) = 28 * length g.ops ≤ n
RoomFor n (Err refused) = Unit {0}

room_more : (m n : ℕ) (x : Result Gathered Refusal) → m ≤ n → RoomFor m x → RoomFor n x
room_more m n (Ok g) h k = omega arith
room_more m n (Err refused) h k = tt

-- whatever was gathered before, the updates of what a payload says after it have room in so many bytes more
HasRoom : Topology → RouterId → ℕ → Payload → Type 0
HasRoom t r n p = (g : Gathered) → RoomFor (28 * length g.ops + n) (gathered t r g p.items p.refused)

-- a message of m bytes, at the front of n bytes and one more, and the messages after its padding
after_message : (m n more : ℕ) (g : Gathered) (op : RouterId × Op) → 28 ≤ m → m ≤ 1 + n → more ≤ n - (padded m - 1) →
    28 * length (g.ops ++ op ∷ []) + more ≤ 28 * length g.ops + (1 + n)
after_message m n more g op h k r = omega (arith, length-append g.ops (op ∷ []))

update_room : (t : Topology) (r to : RouterId) (at m n more : ℕ) (p : Payload) (g : Gathered) (o : Option Op) → 28 ≤ m → m ≤ 1 + n →
    more ≤ n - (padded m - 1) → HasRoom t r more p →
    RoomFor (28 * length g.ops + (1 + n)) (unless_refused (with_update g at to o) (λ next. gathered t r next p.items p.refused))
unfolding HasRoom
update_room t r to at m n more p g None h k l room = tt
update_room t r to at m n more p g (Some op) h k l room =
    let next : Gathered = record { ops = g.ops ++ (to, op) ∷ []; skipped = g.skipped } in
    room_more _ _ (gathered t r next p.items p.refused) (after_message m n more g (to, op) h k l) (room next)

said_room : (t : Topology) (r : RouterId) (at n : ℕ) (bytes : List ℕ) (o : Option Ruling) (p : Payload) → length bytes ≡ 1 + n →
    (o ≡ None → (28 ≤ message_length bytes) × (message_length bytes ≤ length bytes)) →
    HasRoom t r (n - (padded (message_length bytes) - 1)) p → HasRoom t r (1 + n) (said at (said_by o (item_of bytes)) p)
unfolding HasRoom
said_room t r at n bytes (Some (Refuses cause)) p e h room = λ g. tt
said_room t r at n bytes (Some (Skips skip)) p e h room = λ g.
    let next : Gathered = record { ops = g.ops; skipped = g.skipped + 1 } in
    room_more _ _ (gathered t r next p.items p.refused) (omega arith) (room next)
said_room t r at n bytes None p e h room = λ g.
    let there : (28 ≤ message_length bytes) × (message_length bytes ≤ length bytes) = h refl in
    update_room t r (router_by t r (route_of bytes).table) at (message_length bytes) n (n - (padded (message_length bytes) - 1)) p g (op_of t r (route_of bytes))
    there.0 (subst (λ (x : ℕ). message_length bytes ≤ x) e there.1) (omega arith) room

nothing_room : (t : Topology) (r : RouterId) (n : ℕ) → HasRoom t r n nothing_more
unfolding HasRoom
nothing_room t r n = λ g. (let here : 28 * length g.ops ≤ 28 * length g.ops + n = omega arith in here)

room_either : (t : Topology) (r : RouterId) (b : Bool) (x y : Payload) (n : ℕ) → HasRoom t r n x → HasRoom t r n y → HasRoom t r n (if b then x else y)
room_either t r true x y n h k = h
room_either t r false x y n h k = k

as_many : (t : Topology) (r : RouterId) (p : Payload) (m n : ℕ) → m ≡ n → HasRoom t r m p → HasRoom t r n p
as_many t r p m n e h = subst (λ (x : ℕ). HasRoom t r x p) e h

-- the updates have room in these bytes past the first so many, which are still those of the message before
said_after-room : (t : Topology) (r : RouterId) (tables : List ℕ) (at left : ℕ) (bytes : List ℕ) →
    HasRoom t r (length bytes - left) (said_after tables at left bytes)
unfolding said_after
said_after-room t r tables at left [] = nothing_room t r (length {A = ℕ} [] - left)
said_after-room t r tables at (suc left) (byte ∷ bytes) =
    as_many t r (said_after tables (at + 1) left bytes) (length bytes - left) (length (byte ∷ bytes) - suc left) (omega arith) (said_after-room t r tables (at + 1) left bytes)
said_after-room t r tables at zero (byte ∷ bytes) =
    let skip : ℕ = padded (message_length (byte ∷ bytes)) - 1 in
    let first : Payload = said at (message_said tables (byte ∷ bytes)) (said_after tables (at + 1) skip bytes) in
    as_many t r (if nat_lt (length (byte ∷ bytes)) 4 then nothing_more else first) (1 + length bytes) (length (byte ∷ bytes) - zero) (omega arith)
    (room_either t r (nat_lt (length (byte ∷ bytes)) 4) nothing_more first (1 + length bytes) (nothing_room t r (1 + length bytes))
    (said_room t r at (length bytes) (byte ∷ bytes) (ruling_of tables (byte ∷ bytes)) (said_after tables (at + 1) skip bytes) (omega arith)
    (route_room tables (byte ∷ bytes)) (said_after-room t r tables (at + 1) skip bytes)))

-- the updates of a frame that is accepted are those that its messages came to
accepted_room : (offset n skipped : ℕ) (ops : List (RouterId × Op)) (x : Result Gathered Refusal) → RoomFor n x → Accepted ops skipped ≡ step_by offset x → 28 * length ops ≤ n
accepted_room offset n skipped ops (Ok g) h e = let same : ops ≡ g.ops = cc in subst (λ (xs : List (RouterId × Op)). 28 * length xs ≤ n) (sym same) h
accepted_room offset n skipped ops (Err first) h e = let no : ⊥ = cc in absurd no

-- each update of a frame that is accepted takes at least 28 bytes of its payload, whichever tables are read
pub accepted-room : (tables : List ℕ) (t : Topology) (r : RouterId) (offset : ℕ) (f : Frame) (ops : List (RouterId × Op)) (skipped : ℕ) →
    IsStepBy tables t r offset f (Accepted ops skipped) → 28 * length ops ≤ length f.payload
unfolding HasRoom
accepted-room tables t r offset f ops skipped (inl a) =
    let whole : HasRoom t r (length f.payload) a.payload =
    subst (λ (p : Payload). HasRoom t r (length f.payload) p) (sym a.says)
    (as_many t r (said_after tables 0 0 f.payload) (length f.payload - 0) (length f.payload) (omega arith) (said_after-room t r tables 0 0 f.payload)) in
    let x : Result Gathered Refusal = gathered t r nothing_gathered a.payload.items a.payload.refused in
    accepted_room offset (length f.payload) skipped ops x
    (room_more (28 * length nothing_gathered.ops + length f.payload) (length f.payload) x (omega arith) (whole nothing_gathered)) a.comes_to
accepted-room tables t r offset f ops skipped (inr a) = let no : ⊥ = let e = a.refused in cc in absurd no
