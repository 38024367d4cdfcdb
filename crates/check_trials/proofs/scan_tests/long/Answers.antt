use Rattle.std.proofs.Common.{ℕ, ◌≡◌, ◌+◌, ◌*◌, ◌<◌, List, [], ◌∷◌, ◌++◌, append_assoc, arith, subst}
use Rattle.base.specs.Forwarding.{AreEachForwarding, AreForwarding, IsForwarding, row_low, row_past}
use Rattle.base.specs.Rows.{CoverFrom}
use Rattle.base.specs.declared.forwarding_row.ForwardingRow.{ForwardingRow}
use Rattle.check_trials.proofs.scan_tests.long.Goals as goal

-- a row more, and rows that go on where it ends
next-cover : (rows rest : List ForwardingRow) (row : ForwardingRow) (i : ℕ)
    → ((more : List ForwardingRow) → CoverFrom row_low row_past (i * 10) more → AreEachForwarding 2 more → AreForwarding 2 (rows ++ more))
    → row.low ≡ i * 10 → row.past ≡ i * 10 + 10 → IsForwarding 2 row
    → CoverFrom row_low row_past ((i + 1) * 10) rest → AreEachForwarding 2 rest → AreForwarding 2 ((rows ++ row ∷ []) ++ rest)
next-cover rows rest row i so_far low past form cover each =
    let e : (i + 1) * 10 ≡ row.past = omega arith in
    let C : ℕ → Type 0 = λ n. CoverFrom row_low row_past n rest in
    rw append_assoc (so_far (row ∷ rest) (low, omega arith, subst C e cover) (form, each))

pub loop-i-preserved : goal.loop-i-preserved
loop-i-preserved g c = λ rest cover each.
    let pushed : c.push.new.self ≡ c.loop-i.rows ++ c.row_at.result ∷ [] = rw c.expect.ensures at c.push.ensures.ok in
    rw pushed (next-cover c.loop-i.rows rest c.row_at.result c.loop-i.i c.loop-i.invariant c.row_at.ensures.low c.row_at.ensures.past c.row_at.ensures.form cover each)

pub new-requires : goal.new-requires
new-requires g c =
    let pushed : c.push-2.new.self ≡ c.loop-i.rows ++ c.row_at-2.result ∷ [] = rw c.expect-2.ensures at c.push-2.ensures.ok in
    let row : ForwardingRow = c.row_at-2.result in
    let place : row.low ≡ c.loop-i.i * 10 = omega (arith, c.row_at-2.ensures.low, c.loop-i.auto.i-end, c.loop-i-test.false) in
    let some : row.low < row.past = omega (arith, c.row_at-2.ensures.low, c.row_at-2.ensures.past, c.requires) in
    rw pushed (c.loop-i.invariant (row ∷ []) (place, some, c.row_at-2.ensures.past) (c.row_at-2.ensures.form, tt))
