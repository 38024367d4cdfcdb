-- Cells whose right to write is used up stay so.
use Rattle.std.proofs.Common.{ℕ, zero, suc, ◌<◌, true, List, [], ◌∷◌, ◌++◌, length, set, refl, arith}
use Rattle.logbook.specs.Pages.{Cell}
use Rattle.fast_pins.specs.Law.{IsHome}

-- there is such a cell
pub home_there : (cells : List Cell) (key : ℕ) → IsHome cells key → key < length cells
home_there [] key h = absurd (cc (h))
home_there (c ∷ cells) zero h = omega arith
home_there (c ∷ cells) (suc key) h = let less = home_there cells key h in omega arith

pub home_set : (cells : List Cell) (at key n : ℕ) → IsHome cells key → IsHome (set cells at (n, true)) key
home_set [] at key n h = h
home_set (c ∷ cells) zero zero n h = refl
home_set (c ∷ cells) zero (suc key) n h = h
home_set (c ∷ cells) (suc at) zero n h = h
home_set (c ∷ cells) (suc at) (suc key) n h = home_set cells at key n h

pub home_here : (cells : List Cell) (at n : ℕ) → at < length cells → IsHome (set cells at (n, true)) at
home_here [] at n less = absurd (omega arith)
home_here (c ∷ cells) zero n less = refl
home_here (c ∷ cells) (suc at) n less = home_here cells at n (omega arith)

pub home_more : (cells more : List Cell) (key : ℕ) → IsHome cells key → IsHome (cells ++ more) key
home_more [] more key h = absurd (cc (h))
home_more (c ∷ cells) more zero h = h
home_more (c ∷ cells) more (suc key) h = home_more cells more key h
