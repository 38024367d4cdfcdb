-- A version's rows are those of its atoms, with the links that are down.
use Rattle.std.proofs.Common.{◌≡◌, ◌∙◌, ◌<◌, ℕ, suc, zero, List, [], ◌∷◌, length, get_or, map, refl, ap, sym, subst, arith}
use Rattle.std.proofs.lemmas.List.{length-map}
use Rattle.base.specs.Forwarding.{AreForwarding, target_of}
use Rattle.base.specs.Links.{without}
use Rattle.net_engine.specs.Version.{Atom, Kept, forwarding_of}
use Rattle.base.specs.declared.forwarding_row.ForwardingRow.{ForwardingRow}
use Rattle.base.specs.declared.ids.LinkId.{LinkId}
use Rattle.base.specs.declared.ids.RouterId.{RouterId}
use Rattle.base.specs.declared.target.Target.{Target}
use Rattle.what_if.specs.Restricted.{row_without}
use Rattle.net_engine.specs.Whole.{IsWhole}
use Rattle.net_engine.proofs.StandingFor.{are-forwarding, target-down}

-- an atom of a row
abbrev pub atom_with : ForwardingRow → Atom
atom_with row = record { row = row; owners = [] }

row-of_place : (down : List LinkId) (atoms : List Atom) (i : ℕ) (d : ForwardingRow) → i < length atoms → get_or (map (λ (x : Atom). row_without down x.row) atoms) i d ≡ row_without down (get_or atoms i (atom_with d)).row
row-of_place down [] i d l = absurd (omega arith)
row-of_place down (x ∷ xs) zero d l = refl
row-of_place down (x ∷ xs) (suc i) d l = row-of_place down xs i d (omega arith)

-- there are as many rows as atoms
pub place-in : (kept now : Kept) (i : ℕ) → kept ≡ now → i < length (forwarding_of now) → i < length kept.atoms
place-in kept now i view l =
    let P : Kept → Type 0 = λ k. i < length (forwarding_of k) in
    subst (λ n. i < n) (length-map kept.atoms (λ (x : Atom). row_without kept.down x.row)) (subst P (sym view) l)

-- what is said of an atom with the links that are down is said of its row
pub row-at : (P : ForwardingRow → Type 0) (kept now : Kept) (i : ℕ) (d : ForwardingRow) → kept ≡ now → i < length kept.atoms → P (row_without kept.down (get_or kept.atoms i (atom_with d)).row) → P (get_or (forwarding_of now) i d)
row-at P kept now i d view l h =
    subst (λ (k : Kept). P (get_or (forwarding_of k) i d)) view (subst P (sym (row-of_place kept.down kept.atoms i d l)) h)

-- a target that was read of an atom, with the links that are down, is that of its row
pub target-read : (kept now : Kept) (i : ℕ) (r : RouterId) (t shown : Target) → kept ≡ now → i < length kept.atoms → ((d : Atom) → t ≡ target_of (get_or kept.atoms i d).row r) → shown ≡ without kept.down t → (d : ForwardingRow) → shown ≡ target_of (get_or (forwarding_of now) i d) r
target-read kept now i r t shown view l is put d =
    row-at (λ (row : ForwardingRow). shown ≡ target_of row r) kept now i d view l
    (put ∙ ap (without kept.down) (is (atom_with d)) ∙ sym (target-down kept (get_or kept.atoms i (atom_with d)).row.targets r.0))

-- and so are all of them
pub targets-read : (kept now : Kept) (i : ℕ) (read shown : List Target) → kept ≡ now → i < length kept.atoms → ((d : Atom) → read ≡ (get_or kept.atoms i d).row.targets) → shown ≡ map (without kept.down) read → (d : ForwardingRow) → shown ≡ (get_or (forwarding_of now) i d).targets
targets-read kept now i read shown view l is put d =
    row-at (λ (row : ForwardingRow). shown ≡ row.targets) kept now i d view l
    (put ∙ ap (map (without kept.down)) (is (atom_with d)))

pub are-forwarding-now : (kept now : Kept) → kept ≡ now → IsWhole kept → AreForwarding (length now.topology.routers) (forwarding_of now)
are-forwarding-now kept now view h = subst (λ (k : Kept). AreForwarding (length k.topology.routers) (forwarding_of k)) view (are-forwarding kept h)
