-- Bits of lists of chunks.
use Rattle.std.proofs.Common.{◌≡◌, ◌≢◌, ℕ, zero, suc, ◌+◌, ◌*◌, ◌/◌, ◌%◌, ◌<◌, ◌≤◌, ◌&&◌, not, eqb, ltb, Bool, true, false, List, [], ◌∷◌, ◌++◌, length, replicate, get_or, set, refl, ap, sym, ◌∙◌, arith, get_or-set_other, get_or-set_same}
use Rattle.std.specs.Int.{bit_at}
use Rattle.std.specs.Fn.{FnOnceReturnsAtMut}
use Rattle.std.proofs.lemmas.Bool.Decides.{nat_tests}
use Rattle.std.proofs.lemmas.List.{get_or_append_left, get_or_past, get_or_push, length_push}
use Rattle.std.proofs.lemmas.Nat.Bits.{bit_at-zero}
use Rattle.version_pages.specs.Changes.{Changes}
use Rattle.edge_labels.specs.declared.chunk.Chunk.{Chunk}
use Rattle.edge_labels.specs.declared.chunk.Operation.{Operation}
use Rattle.edge_labels.specs.declared.chunk.Operation.TheVariants.{Union, Intersection, Difference}
use Rattle.edge_labels.specs.Bits.{chunk_bit, empty_chunk, has_bit, holds}
use denote.Param.Members.{Once}
use denote.Ref.{MutBor}

push-default : {X : Type 0} (xs : List X) (e : X) (i : ℕ) → get_or (xs ++ e ∷ []) i e ≡ get_or xs i e
push-default [] e zero = refl
push-default [] e (suc i) = refl
push-default (x ∷ xs) e zero = refl
push-default (x ∷ xs) e (suc i) = push-default xs e i

pub bits-longer : (chunks : List Chunk) (a : ℕ) → has_bit (chunks ++ empty_chunk ∷ []) a ≡ has_bit chunks a
unfolding has_bit
bits-longer chunks a = ap (λ c. chunk_bit c (a % 512)) (push-default chunks empty_chunk (a / 512))

zeros : (n i z : ℕ) → get_or (replicate n z) i z ≡ z
zeros zero i z = refl
zeros (suc n) zero z = refl
zeros (suc n) (suc i) z = zeros n i z

pub empty-bit : (k : ℕ) → chunk_bit empty_chunk k ≡ false
unfolding chunk_bit
empty-bit k = ap (λ w. eqb (bit_at w (k % 64)) 1) (zeros 8 (k / 64) 0) ∙ ap (λ x. eqb x 1) (bit_at-zero (k % 64))

pub bit-past : (chunks : List Chunk) (a : ℕ) → length chunks ≤ a / 512 → has_bit chunks a ≡ false
unfolding has_bit
bit-past chunks a past = ap (λ c. chunk_bit c (a % 512)) (get_or_past chunks (a / 512) empty_chunk past) ∙ empty-bit (a % 512)

apart : (j k : ℕ) → (j ≡ k → ⊥) → eqb j k ≡ false
apart j k h = grind (arith, nat_tests)

itself : (j k : ℕ) → j ≡ k → eqb j k ≡ true
itself j k h = grind (arith, nat_tests)

low-same : (a b : ℕ) → b / 512 ≡ a / 512 → eqb (b % 512) (a % 512) ≡ eqb b a
low-same a b high = by (eqb (b % 512) (a % 512)) refl
  where
    by : (t : Bool) → eqb (b % 512) (a % 512) ≡ t → eqb (b % 512) (a % 512) ≡ eqb b a
    by true e = let low : b % 512 ≡ a % 512 = grind (arith, nat_tests) in let same : b ≡ a = omega arith in e ∙ sym (itself b a same)
    by false e = let low : b % 512 ≡ a % 512 → ⊥ = grind (arith, nat_tests) in e ∙ sym (apart b a (λ s. low (ap (λ x. x % 512) s)))

-- a chunk in which one bit became something else stands in the place of the one that has the bit
pub bit-changed : (f : Bool → Bool → Bool) → ((old : Bool) → f false old ≡ old) → (old new : List Chunk) (value : Chunk) (a : ℕ) → a / 512 < length old → new ≡ set old (a / 512) value → ((k : ℕ) → chunk_bit value k ≡ f (eqb k (a % 512)) (chunk_bit (get_or old (a / 512) empty_chunk) k)) → (b : ℕ) → has_bit new b ≡ f (eqb b a) (has_bit old b)
unfolding has_bit
bit-changed f elsewhere old new value a inside is each b = ap (λ cs. chunk_bit (get_or cs (b / 512) empty_chunk) (b % 512)) is ∙ by (eqb (b / 512) (a / 512)) refl
  where
    by : (t : Bool) → eqb (b / 512) (a / 512) ≡ t → chunk_bit (get_or (set old (a / 512) value) (b / 512) empty_chunk) (b % 512) ≡ f (eqb b a) (has_bit old b)
    by true e =
        let high : b / 512 ≡ a / 512 = grind (arith, nat_tests) in
        ap (λ i. chunk_bit (get_or (set old (a / 512) value) i empty_chunk) (b % 512)) high
        ∙ ap (λ c. chunk_bit c (b % 512)) (get_or-set_same old (a / 512) value empty_chunk inside)
        ∙ each (b % 512)
        ∙ ap (λ t. f t (chunk_bit (get_or old (a / 512) empty_chunk) (b % 512))) (low-same a b high)
        ∙ ap (λ i. f (eqb b a) (chunk_bit (get_or old i empty_chunk) (b % 512))) (sym high)
    by false e =
        let ne : b / 512 ≢ a / 512 = grind (arith, nat_tests) in
        ap (λ c. chunk_bit c (b % 512)) (get_or-set_other old (a / 512) (b / 512) value empty_chunk ne)
        ∙ sym (elsewhere (has_bit old b))
        ∙ ap (λ t. f t (has_bit old b)) (sym (apart b a (λ s. ne (ap (λ x. x / 512) s))))

-- what a call that changes a chunk leaves
pub changed-bits : {F R : Type 0} (g : Once F (MutBor Chunk × Unit {0}) (R × (MutBor Chunk × Unit {0}))) (h : F) (old new : List Chunk) (a : ℕ) (r : R) (f : Bool → Bool → Bool) → ((b : Bool) → f false b ≡ b) → a / 512 < length old → Changes g h old new (a / 512) r → ((x y : Chunk) → FnOnceReturnsAtMut g h x r y → (k : ℕ) → chunk_bit y k ≡ f (eqb k (a % 512)) (chunk_bit x k)) → (b : ℕ) → has_bit new b ≡ f (eqb b a) (has_bit old b)
changed-bits g h old new a r f elsewhere inside made says =
    bit-changed f elsewhere old new made.value a inside made.list (says (get_or old (a / 512) empty_chunk) made.value (made.called empty_chunk))

pub holds-none : (o : Operation) → holds o false false ≡ false
holds-none Union = refl
holds-none Intersection = refl
holds-none Difference = refl

-- the bits of the first chunks are what an operation makes of two lists
abbrev pub AreCombined : Operation → List Chunk → List Chunk → List Chunk → ℕ → Type 0
AreCombined o first second made i = (a : ℕ) → a < 512 * i → has_bit made a ≡ holds o (has_bit first a) (has_bit second a)

pub combined-more : (o : Operation) (first second made new : List Chunk) (i : ℕ) (c : Chunk) → length made ≡ i → new ≡ made ++ c ∷ [] → ((k : ℕ) → chunk_bit c k ≡ holds o (chunk_bit (get_or first i empty_chunk) k) (chunk_bit (get_or second i empty_chunk) k)) → AreCombined o first second made i → AreCombined o first second new (i + 1)
unfolding has_bit
combined-more o first second made new i c len is each before a lt = ap (λ cs. chunk_bit (get_or cs (a / 512) empty_chunk) (a % 512)) is ∙ by (ltb (a / 512) i) refl
  where
    by : (t : Bool) → ltb (a / 512) i ≡ t → chunk_bit (get_or (made ++ c ∷ []) (a / 512) empty_chunk) (a % 512) ≡ holds o (has_bit first a) (has_bit second a)
    by true e =
        let low : a / 512 < i = grind (arith, nat_tests) in
        ap (λ x. chunk_bit x (a % 512)) (get_or_append_left made (c ∷ []) empty_chunk (a / 512) (omega arith)) ∙ before a (omega arith)
    by false e =
        let high : i ≤ a / 512 = grind (arith, nat_tests) in
        let at : a / 512 ≡ i = omega arith in
        ap (λ x. chunk_bit x (a % 512)) (get_or_push made c empty_chunk (a / 512) (omega arith))
        ∙ each (a % 512)
        ∙ ap (λ n. holds o (chunk_bit (get_or first n empty_chunk) (a % 512)) (chunk_bit (get_or second n empty_chunk) (a % 512))) (sym at)

pub combined-all : (o : Operation) (first second made : List Chunk) (i : ℕ) → length made ≡ i → length first ≤ i → length second ≤ i → AreCombined o first second made i → (a : ℕ) → has_bit made a ≡ holds o (has_bit first a) (has_bit second a)
combined-all o first second made i len lf ls all a = by (ltb a (512 * i)) refl
  where
    by : (t : Bool) → ltb a (512 * i) ≡ t → has_bit made a ≡ holds o (has_bit first a) (has_bit second a)
    by true e = all a (let lt : a < 512 * i = grind (arith, nat_tests) in lt)
    by false e =
        let past : i ≤ a / 512 = (let le : 512 * i ≤ a = grind (arith, nat_tests) in omega arith) in
        bit-past made a (omega arith)
        ∙ sym (holds-none o)
        ∙ ap (λ b. holds o b false) (sym (bit-past first a (omega arith)))
        ∙ ap (λ b. holds o (has_bit first a) b) (sym (bit-past second a (omega arith)))

pub cleared-past : (chunks : List Chunk) (a : ℕ) → length chunks ≤ a / 512 → (b : ℕ) → has_bit chunks b ≡ (not (eqb b a) && has_bit chunks b)
cleared-past chunks a past b = by (eqb b a) refl
  where
    by : (t : Bool) → eqb b a ≡ t → has_bit chunks b ≡ (not (eqb b a) && has_bit chunks b)
    by true e = let same : b ≡ a = grind (arith, nat_tests) in ap (λ n. has_bit chunks n) same ∙ bit-past chunks a past ∙ sym (ap (λ t. not t && has_bit chunks b) e)
    by false e = sym (ap (λ t. not t && has_bit chunks b) e)

pub pushed-length : {X : Type 0} (old new : List X) (x : X) → new ≡ old ++ x ∷ [] → length new ≡ length old + 1
pushed-length old new x is = ap length is ∙ length_push old x

pub longer : (old new : List Chunk) (c : Chunk) → c ≡ empty_chunk → new ≡ old ++ c ∷ [] → ((a : ℕ) → has_bit new a ≡ has_bit old a) × (length new ≡ length old + 1)
longer old new c is push = (λ a. ap (λ cs. has_bit cs a) (push ∙ ap (λ x. old ++ x ∷ []) is) ∙ bits-longer old a, pushed-length old new c push)
