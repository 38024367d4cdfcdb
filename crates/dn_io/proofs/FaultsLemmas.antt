-- Laws of counts of faults.
use Rattle.std.proofs.Common.{◌≡◌, ◌≢◌, ℕ, ◌<◌, ◌≤◌, ◌⊎◌, inl, inr, arith}
use Rattle.dn_io.specs.Faults.{Rose}

-- a count that rose isn't 0
pub Rose-not_zero : (old new : ℕ) → Rose old new → new ≢ 0
Rose-not_zero old new rose = grind (arith, rose)

stands : (old new later : ℕ) → old ≤ new → new ≡ 18446744073709551615 → new ≤ later → Rose old later
stands old new later up is more = grind (arith, up, is, more)

-- a count that rose and didn't fall afterwards rose
pub Rose-later : (old new later : ℕ) → old ≤ new → Rose old new → new ≤ later → Rose old later
Rose-later old new later up rose more =
    elim rose [ inl h ↦ inl (omega (arith, h, more)) | inr h ↦ stands old new later up h more ]

-- a count that didn't fall, and rose afterwards, rose
pub Rose-earlier : (old new later : ℕ) → old ≤ new → Rose new later → Rose old later
Rose-earlier old new later up rose = elim rose [ inl h ↦ inl (omega (arith, h, up)) | inr h ↦ inr h ]
