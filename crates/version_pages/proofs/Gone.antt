-- Elements taken out of one child of a fork, or none of them.
use Rattle.std.proofs.Common.{◌≡◌, IfOk, OnErr, ℕ, zero, suc, ◌+◌, ◌<◌, ◌≤◌, List, [], ◌++◌, length, get_or, set, take, drop, refl, ap, sym, ◌∙◌, arith, length-append, length-drop}
use Rattle.std.specs.declared.result.Result.{Result}
use Rattle.std.specs.declared.result.Result.TheVariants.{Ok, Err}
use Rattle.std.proofs.lemmas.List.{append-nil, length-take-le}
use Rattle.version_pages.specs.Keys.{first_key}
use Rattle.version_pages.specs.Shape.{Shape, items_of, joined}
use Rattle.version_pages.proofs.Ending.{joined-last}
use Rattle.version_pages.proofs.Inserted.{put-in, put-key}
use Rattle.version_pages.proofs.Joined.{joined-set, same-in}

-- the key of the first element stays where those that are gone stand behind it
pub gone-key : {T : Type 0} (f : T → ℕ) (old new : List T) (i m left key : ℕ) → key ≡ first_key f old → i ≤ length old → (0 < left → new ≡ take i old ++ drop m old) → (left ≡ 0 → new ≡ old) → 0 < i → key ≡ first_key f new
gone-key f old new i m zero key noted l gone none p = noted ∙ sym (ap (first_key f) (none refl))
gone-key f old new i m (suc left) key noted l gone none p = put-key f old new [] (drop m old) i key noted l (gone (omega arith) ∙ ap (λ t. t ++ drop m old) (sym (append-nil (take i old)))) p

-- there are no more elements than before
pub gone-long : {X E : Type 0} (old new : List X) (i m : ℕ) (res : Result ℕ E) → i ≤ m → m ≤ length old → IfOk res (λ left. 0 < left → new ≡ take i old ++ drop m old) → IfOk res (λ left. left ≡ 0 → new ≡ old) → OnErr res (new ≡ old) → length new ≤ length old
gone-long old new i m (Ok zero) a b gone none same = omega (arith, ap length (none refl))
gone-long old new i m (Ok (suc left)) a b gone none same = omega (arith, ap length (gone (omega arith)), length-append (take i old) (drop m old), length-take-le i old (omega arith), length-drop m old)
gone-long old new i m (Err e) a b gone none same = omega (arith, ap length same)

pub set-few : {T : Type 0} (kids : List (Shape T)) (k : ℕ) (kid x : Shape T) → k < length kids → kid ≡ get_or kids k kid → length (items_of x) ≤ length (items_of kid) → length (joined (set kids k x)) ≤ length (joined kids)
set-few kids k kid x l is few = omega (arith, few, ap length (joined-set kids k x l), length-append (joined (take k kids)) (items_of x ++ joined (drop (k + 1) kids)), length-append (items_of x) (joined (drop (k + 1) kids)), joined-last kids k kid l, ap (λ (s : Shape _). length (items_of s)) is)

-- what a child lost the fork lost
pub gone-in : {T E : Type 0} (kids : List (Shape T)) (all : List T) (i k j count : ℕ) (kid x : Shape T) (res : Result ℕ E) → joined kids ≡ all → k < length kids → kid ≡ get_or kids k kid → i ≡ length (joined (take k kids)) + j → j + count ≤ length (items_of kid) → IfOk res (λ left. 0 < left → items_of x ≡ take j (items_of kid) ++ drop (j + count) (items_of kid)) → IfOk res (λ left. 0 < left → joined (set kids k x) ≡ take i all ++ drop (i + count) all)
gone-in kids all i k j count kid x (Ok left) e child is place l gone = λ p.
    put-in kids all i k j kid e child is place [] (i + count) (j + count) x (omega (arith, place)) (omega (arith, l)) l (gone p ∙ ap (λ t. t ++ drop (j + count) (items_of kid)) (sym (append-nil (take j (items_of kid)))))
    ∙ ap (λ t. t ++ drop (i + count) all) (append-nil (take i all))
gone-in kids all i k j count kid x (Err r) e child is place l gone = tt

-- and where it lost none the fork is as before
pub none-in : {T E : Type 0} (kids : List (Shape T)) (all : List T) (k : ℕ) (kid x : Shape T) (res : Result ℕ E) → joined kids ≡ all → k < length kids → kid ≡ get_or kids k kid → IfOk res (λ left. left ≡ 0 → items_of x ≡ items_of kid) → IfOk res (λ left. left ≡ 0 → joined (set kids k x) ≡ all)
none-in kids all k kid x (Ok left) e l is none = λ z. same-in kids k kid x l (none z ∙ ap items_of is) ∙ e
none-in kids all k kid x (Err r) e l is none = tt
