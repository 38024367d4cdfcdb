-- What stands below the next number.
use Rattle.std.proofs.Common.{◌≡◌, ℕ, ◌+◌, ◌++◌, ◌∷◌, List, [], suc, arith, ap, refl}
use Rattle.made_input.specs.Network.{texts_below}
use Rattle.made_input.specs.Updates.{feeds_below, frame_for, made_feed}

pub texts_none : (text : ℕ → List ℕ) → texts_below text 0 ≡ []
unfolding texts_below
texts_none text = refl

pub texts_more : (text : ℕ → List ℕ) (i : ℕ) → texts_below text (i + 1) ≡ texts_below text i ++ text i
unfolding texts_below
texts_more text i = let next : i + 1 ≡ suc i = omega arith in ap (λ k. texts_below text k) next

pub feed_none : (router : ℕ) → made_feed router 0 ≡ []
unfolding made_feed
feed_none router = refl

pub feed_more : (router j : ℕ) → made_feed router (j + 1) ≡ made_feed router j ++ frame_for router j
unfolding made_feed
feed_more router j = let next : j + 1 ≡ suc j = omega arith in ap (λ k. made_feed router k) next

pub feeds_none : (n : ℕ) → feeds_below 0 n ≡ []
unfolding feeds_below
feeds_none n = refl

pub feeds_more : (router n : ℕ) → feeds_below (router + 1) n ≡ feeds_below router n ++ made_feed router n ∷ []
unfolding feeds_below
feeds_more router n = let next : router + 1 ≡ suc router = omega arith in ap (λ k. feeds_below k n) next
