-- When an atom and an interval of addresses share one.
use Rattle.std.proofs.Common.{◌≡◌, ℕ, ◌<◌, ◌≤◌, ⊎_elim, true, ◌&&◌, arith, ltb}
use Rattle.std.proofs.lemmas.Bool.{cases_lt, lt-ltb, ltb-true, and_from, and_parts}
use Rattle.atom_map.specs.Atoms.{meets}
use Rattle.atom_map.specs.declared.atom_row.AtomRow.{AtomRow}

abbrev pub Shares : AtomRow → ℕ → ℕ → Type 0
Shares row lo hi = (a : ℕ) × (row.low ≤ a) × (a < row.past) × (lo ≤ a) × (a < hi)

pub shares-where-meets : (row : AtomRow) (lo hi : ℕ) → row.low < row.past → meets lo hi row ≡ true → Shares row lo hi
shares-where-meets row lo hi o e =
    let p : (ltb lo hi ≡ true) × ((ltb row.low hi && ltb lo row.past) ≡ true) = and_parts (ltb lo hi) (ltb row.low hi && ltb lo row.past) e in
    let q : (ltb row.low hi ≡ true) × (ltb lo row.past ≡ true) = and_parts (ltb row.low hi) (ltb lo row.past) p.1 in
    let x : lo < hi = ltb-true lo hi p.0 in
    let y : row.low < hi = ltb-true row.low hi q.0 in
    let z : lo < row.past = ltb-true lo row.past q.1 in
    ⊎_elim
    (λ (l : row.low < lo). (lo, omega arith, z, omega arith, x))
    (λ (l : lo ≤ row.low). (row.low, omega arith, o, l, y))
    (cases_lt row.low lo)

pub meets-where-shares : (row : AtomRow) (lo hi : ℕ) → Shares row lo hi → meets lo hi row ≡ true
meets-where-shares row lo hi s =
    let p : row.low ≤ s.0 = s.1 in
    let q : s.0 < row.past = s.2 in
    let u : lo ≤ s.0 = s.3 in
    let v : s.0 < hi = s.4 in
    and_from (ltb lo hi) (ltb row.low hi && ltb lo row.past) (lt-ltb lo hi (omega arith))
    (and_from (ltb row.low hi) (ltb lo row.past) (lt-ltb row.low hi (omega arith)) (lt-ltb lo row.past (omega arith)))
