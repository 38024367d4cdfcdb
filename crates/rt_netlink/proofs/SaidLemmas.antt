-- What a payload says from a place on.
use Rattle.std.proofs.Common.{◌≡◌, ℕ, zero, suc, ◌+◌, ◌-◌, ◌<◌, ◌≤◌, Bool, true, false, List, [], ◌∷◌, ◌++◌, length, drop, refl, ap, sym, ◌∙◌, arith, Option, Some, inl, inr}
use Rattle.std.specs.Prelude.{◌||◌, nat_lt, if◌then◌else◌, Ok, Err}
use Rattle.std.proofs.lemmas.Bool.{cases_lt}
use Rattle.std.proofs.lemmas.Bool.Decides.{nat_tests}
use Rattle.std.proofs.lemmas.List.{length-drop, drop_all, append-nil, append_assoc}
use Rattle.feed_model.specs.Attributes.{padded}
use Rattle.feed_model.specs.Payload.{Ruling, Refuses, ruling_of, item_of, said_by, message_said, message_length, said, said_after, before, nothing_more}
use Rattle.feed_model.specs.declared.payload.Item.{Item}
use Rattle.feed_model.specs.declared.payload.ItemKind.{ItemKind}
use Rattle.feed_model.specs.declared.payload.Payload.{Payload}
use Rattle.feed_model.specs.declared.payload.Refused.{Refused}
use Rattle.rt_netlink.specs.Read.{with_items, said_from}

-- a message that isn't refused is all there
abbrev is_cut : List ℕ → Bool
is_cut m = nat_lt (length m) 16 || nat_lt (message_length m) 16 || nat_lt (length m) (message_length m)

unless_cut : (b : Bool) (rest : Option Ruling) (item what : ItemKind) → said_by (if b then Some (Refuses 1) else rest) item ≡ Ok what → b ≡ false
unless_cut true rest item what e = cc
unless_cut false rest item what e = refl

not_cut : (tables m : List ℕ) (what : ItemKind) → message_said tables m ≡ Ok what → is_cut m ≡ false
unfolding ruling_of
not_cut tables m what e = unless_cut (is_cut m) _ (item_of m) what e

pub record IsThere (m : List ℕ) : Type 0 where
  pub long : 16 ≤ message_length m
  pub there : message_length m ≤ length m

is_there : (m : List ℕ) → is_cut m ≡ false → IsThere m
is_there m e = record { long = grind (arith, nat_tests); there = grind (arith, nat_tests) }

pub said_there : (tables m : List ℕ) (what : ItemKind) → message_said tables m ≡ Ok what → IsThere m
said_there tables m what e = is_there m (not_cut tables m what e)

-- what is left of the message before is passed over
said-left : (tables : List ℕ) (at left : ℕ) (s : List ℕ) → said_after tables at left s ≡ said_after tables (at + left) 0 (drop left s)
unfolding said_after
said-left tables at zero s = let e : at + 0 ≡ at = omega arith in rw e refl
said-left tables at (suc left) [] = refl
said-left tables at (suc left) (b ∷ s) = let e : at + 1 + left ≡ at + suc left = omega arith in said-left tables (at + 1) left s ∙ ap (λ n. said_after tables n 0 (drop left s)) e

-- the message at the front, and what is said after it
pub said-step : (tables : List ℕ) (at : ℕ) (s : List ℕ) → 4 ≤ length s → 16 ≤ message_length s →
    said_after tables at 0 s ≡ said at (message_said tables s) (said_after tables (at + padded (message_length s)) 0 (drop (padded (message_length s)) s))
unfolding said_after
said-step tables at [] h l = absurd (omega arith)
said-step tables at (b ∷ s) h l =
    let enough : nat_lt (length (b ∷ s)) 4 ≡ false = grind (arith, nat_tests) in
    let whole : padded (message_length (b ∷ s)) ≡ suc (padded (message_length (b ∷ s)) - 1) = omega arith in
    let place : at + 1 + (padded (message_length (b ∷ s)) - 1) ≡ at + padded (message_length (b ∷ s)) = omega arith in
    let more : said_after tables (at + 1) (padded (message_length (b ∷ s)) - 1) s ≡ said_after tables (at + padded (message_length (b ∷ s))) 0 (drop (padded (message_length (b ∷ s))) (b ∷ s)) =
    said-left tables (at + 1) (padded (message_length (b ∷ s)) - 1) s ∙ ap (λ n. said_after tables n 0 (drop (padded (message_length (b ∷ s)) - 1) s)) place
    ∙ ap (λ t. said_after tables (at + padded (message_length (b ∷ s))) 0 t) (sym (ap {B = List ℕ} (λ m. drop m (b ∷ s)) whole)) in
    rw enough (ap (λ p. said at (message_said tables (b ∷ s)) p) more)

pub said-refused : (tables : List ℕ) (at : ℕ) (s : List ℕ) (cause : ℕ) → 4 ≤ length s → message_said tables s ≡ Err cause →
    said_after tables at 0 s ≡ record { items = []; refused = Some (record { at = at; cause = cause }) }
unfolding said_after
said-refused tables at [] cause h e = absurd (omega arith)
said-refused tables at (b ∷ s) cause h e = let enough : nat_lt (length (b ∷ s)) 4 ≡ false = grind (arith, nat_tests) in rw (enough, e) refl

pub said-end : (tables : List ℕ) (at : ℕ) (s : List ℕ) → length s < 4 → said_after tables at 0 s ≡ nothing_more
unfolding said_after
said-end tables at [] h = refl
said-end tables at (b ∷ s) h = let few : nat_lt (length (b ∷ s)) 4 ≡ true = grind (arith, nat_tests) in rw few refl

-- the place after a message is told by how many bytes are left, where any are
after_place : (tables : List ℕ) (all n : ℕ) (s : List ℕ) → length s ≤ all → said_after tables (all - length s + n) 0 (drop n s) ≡ said_from tables all (drop n s)
after_place tables all n s h = elim (cases_lt (length s) n) [
  | inl past ↦
      let none : drop n s ≡ [] = drop_all n s (omega arith) in
      rw none (said-end tables (all - length s + n) [] (omega arith) ∙ sym (said-end tables (all - 0) [] (omega arith)))
  | inr within ↦
      let e : all - length s + n ≡ all - length (drop n s) = omega (arith, length-drop n s) in
      ap (λ m. said_after tables m 0 (drop n s)) e
]

-- one item more is told
pub message_told : (tables : List ℕ) (all : ℕ) (s rest : List ℕ) (what : ItemKind) → 4 ≤ length s → length s ≤ all → 16 ≤ message_length s → rest ≡ drop (padded (message_length s)) s →
    message_said tables s ≡ Ok what → said_from tables all s ≡ before (record { at = all - length s; what = what }) (said_from tables all rest)
message_told tables all s rest what h within l r says =
    said-step tables (all - length s) s h l ∙ ap (λ p. said (all - length s) (message_said tables s) p) (after_place tables all (padded (message_length s)) s within ∙ ap (said_from tables all) (sym r))
    ∙ ap (λ x. said (all - length s) x (said_from tables all rest)) says

-- what is left after a message is shorter
pub rest_shorter : (s rest : List ℕ) → 4 ≤ length s → 16 ≤ message_length s → rest ≡ drop (padded (message_length s)) s → length rest < length s
rest_shorter s rest h l r =
    let e : length rest ≡ length s - padded (message_length s) = ap length r ∙ length-drop (padded (message_length s)) s in
    omega arith

-- ---- items in a list

-- one item more is in the list
pub item_told : (items : List Item) (item : Item) (more all : Payload) → all ≡ before item more → with_items (items ++ item ∷ []) more ≡ with_items items all
item_told items item more all e =
    ap (λ is. let p : Payload = record { items = is; refused = more.refused } in p) (append_assoc items (item ∷ []) more.items) ∙ sym (ap (with_items items) e)

-- what is said ends, by this refusal or by none
pub end_told : (items : List Item) (refused : Option Refused) (all : Payload) → all ≡ record { items = []; refused = refused } → record { items = items; refused = refused } ≡ with_items items all
end_told items refused all e =
    ap (λ is. let p : Payload = record { items = is; refused = refused } in p) (sym (append-nil items)) ∙ sym (ap (with_items items) e)
