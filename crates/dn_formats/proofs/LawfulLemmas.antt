-- Where no history was full the law speaks of all that a feed gave.
use Rattle.std.proofs.Common.{◌≡◌, ℕ, ◌+◌, List, [], ◌++◌, length, drop, Option, None, Some, refl, ap, sym, ◌∙◌, arith, length-append}
use Rattle.std.proofs.lemmas.Grind.{flat_map-append}
use Rattle.std.proofs.lemmas.List.{append-nil, take_all, take-append-drop}
use Rattle.dn_formats.specs.Lawful.{IsWhole, IsKept, IsKeptAt, front_of, taken, kept_by}
use Rattle.feed_model.specs.Steps.{FrameStep, FeedRead, ops_of, updates, kept_of}
use Rattle.dn_model.specs.declared.entry.Entry.{Entry}
use Rattle.dn_formats.specs.declared.script.Line.{Line}
use Rattle.feed_model.specs.declared.feed_told.FeedEnd.{FeedEnd}
use Rattle.feed_model.specs.declared.feed_told.FeedEnd.TheVariants as ends

-- ---- what is kept

whole-at : (end : FeedEnd) (limit : ℕ) (h : List Entry) (f : FeedRead) → (end ≡ ends.Full → ⊥) → IsKeptAt end limit h f → IsWhole f
whole-at ends.End limit h f other is = is
whole-at (ends.CutShort o) limit h f other is = is
whole-at (ends.Lost o cause) limit h f other is = is
whole-at ends.TooLong limit h f other is = is
whole-at ends.Full limit h f other is = absurd (other refl)
whole-at ends.Faulted limit h f other is = is

-- a feed with another end than that of a full history is kept whole
pub whole : (limit : ℕ) (h : List Entry) (f : FeedRead) → (f.end ≡ ends.Full → ⊥) → IsKept limit h f → IsWhole f
whole limit h f other is = whole-at f.end limit h f other is

kept-at : (end : FeedEnd) (limit : ℕ) (h : List Entry) (f : FeedRead) → (end ≡ ends.Full → ⊥) → IsWhole f → IsKeptAt end limit h f
kept-at ends.End limit h f other is = is
kept-at (ends.CutShort o) limit h f other is = is
kept-at (ends.Lost o cause) limit h f other is = is
kept-at ends.TooLong limit h f other is = is
kept-at ends.Full limit h f other is = absurd (other refl)
kept-at ends.Faulted limit h f other is = is

pub kept : (limit : ℕ) (h : List Entry) (f : FeedRead) → (f.end ≡ ends.Full → ⊥) → IsWhole f → IsKept limit h f
kept limit h f other is = kept-at f.end limit h f other is

-- of a feed that is kept whole each front is
pub kept-front : (f : FeedRead) (front back : List FrameStep) → IsWhole f → f.steps ≡ front ++ back → kept_of f front ≡ updates front
kept-front f front back all parts =
    let both : length (updates f.steps) ≡ length (updates front) + length (updates back) =
    ap (λ ss. length (updates ss)) parts ∙ ap length (flat_map-append ops_of front back) ∙ length-append (updates front) (updates back) in
    take_all f.kept (updates front) (omega (arith, all, both))

pub kept-all : (f : FeedRead) → IsWhole f → kept_of f f.steps ≡ updates f.steps
kept-all f all = kept-front f f.steps [] all (sym (append-nil f.steps))

abbrev back_of : Option ℕ → List FrameStep → List FrameStep
back_of None steps = []
back_of (Some n) steps = drop n steps

front-back : (c : Option ℕ) (steps : List FrameStep) → steps ≡ front_of c steps ++ back_of c steps
front-back None steps = sym (append-nil steps)
front-back (Some n) steps = sym (take-append-drop n steps)

-- all updates of the frames that lines take of it are kept
pub kept-taken : (f : FeedRead) (lines : List Line) → IsWhole f → kept_by lines f ≡ updates (taken lines f)
kept-taken f lines all = kept-front f (taken lines f) (back_of _ f.steps) all (front-back _ f.steps)
