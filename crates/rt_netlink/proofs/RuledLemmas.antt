-- The table of what is refused and what is skipped, part after part.
use Rattle.std.proofs.Common.{◌≡◌, ℕ, Bool, true, false, List, [], ◌∷◌, ◌++◌, refl, ◌∙◌, Option, None, Some}
use Rattle.std.specs.Prelude.{if◌then◌else◌}
use Rattle.feed_model.specs.Payload.{Row, Ruling, first_ruling, ruling_of, header_rows, route_rows}

-- a row that holds of the first part decides
first-some : (xs ys : List Row) (m : List ℕ) (r : Ruling) → first_ruling xs m ≡ Some r → first_ruling (xs ++ ys) m ≡ Some r
first-some [] ys m r e = cc
first-some (x ∷ xs) ys m r e = either (x.1 m) (first_ruling xs m) (first_ruling (xs ++ ys) m) x.0 r e (first-some xs ys m r)
  where
    either : (b : Bool) (old new : Option Ruling) (here r : Ruling) → (if b then Some here else old) ≡ Some r → (old ≡ Some r → new ≡ Some r) → (if b then Some here else new) ≡ Some r
    either true old new here r e h = e
    either false old new here r e h = h e

-- where none holds of it, the second part does
first-none : (xs ys : List Row) (m : List ℕ) → first_ruling xs m ≡ None → first_ruling (xs ++ ys) m ≡ first_ruling ys m
first-none [] ys m e = refl
first-none (x ∷ xs) ys m e = either (x.1 m) (first_ruling xs m) (first_ruling (xs ++ ys) m) (first_ruling ys m) x.0 e (first-none xs ys m)
  where
    either : (b : Bool) (old new last : Option Ruling) (here : Ruling) → (if b then Some here else old) ≡ None → (old ≡ None → new ≡ last) → (if b then Some here else new) ≡ last
    either true old new last here e h = cc
    either false old new last here e h = h e

-- of the whole table
pub ruled_by_header : (tables m : List ℕ) (r : Ruling) → first_ruling header_rows m ≡ Some r → ruling_of tables m ≡ Some r
unfolding ruling_of
ruled_by_header tables m r e = first-some header_rows (route_rows tables) m r e

pub ruled_by_route : (tables m : List ℕ) (o : Option Ruling) → first_ruling header_rows m ≡ None → first_ruling (route_rows tables) m ≡ o →
    ruling_of tables m ≡ o
unfolding ruling_of
ruled_by_route tables m o none e = first-none header_rows (route_rows tables) m none ∙ e
