-- Events one after another add up.
use Rattle.std.proofs.Common.{◌≡◌, ℕ, ◌<◌, ◌∷◌, ◌++◌, [], List, length, get_or, take, drop, suc, sym, ◌∙◌, ap, subst}
use Rattle.std.proofs.lemmas.List.{append_assoc, append-nil, take-append-drop}
use Rattle.std.proofs.lemmas.List.Elements.{filter_map-append}
use Rattle.std.proofs.Math.Seq.{drop-cons}
use Rattle.dn_model.specs.declared.entry.Posted.{Posted}
use Rattle.version_lock.specs.declared.book.Basis.{Basis}
use Rattle.version_lock.specs.declared.book.PostRefused.{PostRefused}
use Rattle.version_store.specs.Events.{IsRefusedEvent, IsRefusedPlay, pins, post_of, posts}
use Rattle.version_store.specs.Kept.{Ledger, Past, more, past_of}
use Rattle.version_store.specs.declared.play.Event.{Event}
use Rattle.version_store.specs.declared.play.Event.TheVariants.{Apply, Pin}

-- a store of the same basis, with this history
abbrev pub with_history : Ledger → List Posted → Ledger
with_history s h = record { basis = s.basis; history = h }

-- the snapshots of events are those of the first ones, and those of the others after them
pub pins-append : (s : Ledger) (seat : ℕ) (xs ys : List Event) → pins s seat (xs ++ ys) ≡ pins s seat xs ++ pins (more s (posts seat xs)) seat ys
pins-append s seat [] ys = ap (λ (h : List Posted). pins (with_history s h) seat ys) (sym (append-nil s.history))
pins-append s seat (Apply e ∷ xs) ys =
    let p : Posted = record { seat = seat; entry = e } in
    pins-append (more s (p ∷ [])) seat xs ys
    ∙ ap (λ (h : List Posted). pins (more s (p ∷ [])) seat xs ++ pins (with_history s h) seat ys) (append_assoc s.history (p ∷ []) (posts seat xs))
pins-append s seat (Pin ∷ xs) ys = ap (λ (ps : List Past). past_of s ∷ ps) (pins-append s seat xs ys)

-- one event more
pub history-more : (old h new : List Posted) (seat : ℕ) (xs ys : List Event) (x : Event) → ys ≡ xs ++ x ∷ [] → h ≡ old ++ posts seat xs → new ≡ h ++ posts seat (x ∷ []) → new ≡ old ++ posts seat ys
history-more old h new seat xs ys x longer so made =
    made ∙ ap (λ (ps : List Posted). ps ++ posts seat (x ∷ [])) so ∙ append_assoc old (posts seat xs) (posts seat (x ∷ []))
    ∙ ap (λ (ps : List Posted). old ++ ps) (sym (filter_map-append (post_of seat) xs (x ∷ [])) ∙ ap (λ (es : List Event). posts seat es) (sym longer))

-- a store of the same basis and history is the same
pub ledger-same : (old s : Ledger) → s.basis ≡ old.basis → s.history ≡ old.history → s ≡ old
ledger-same old s basis history = ap (λ (b : Basis). record { basis = b; history = s.history }) basis ∙ ap (λ (h : List Posted). with_history old h) history

-- a store of the same basis whose history is that of the old one with these entries more
pub ledger-more : (old s : Ledger) (ps : List Posted) → s.basis ≡ old.basis → s.history ≡ old.history ++ ps → s ≡ more old ps
ledger-more old s ps basis history = ledger-same (more old ps) s basis history

pub pins-more : (old s : Ledger) (seat : ℕ) (xs ys : List Event) (x : Event) (ps qs : List Past) → ys ≡ xs ++ x ∷ [] → s ≡ more old (posts seat xs) →
    ps ≡ pins old seat xs → qs ≡ ps ++ pins s seat (x ∷ []) → qs ≡ pins old seat ys
pins-more old s seat xs ys x ps qs longer so are made =
    made ∙ ap (λ (rs : List Past). rs ++ pins s seat (x ∷ [])) are
    ∙ ap (λ (r : Ledger). pins old seat xs ++ pins r seat (x ∷ [])) so
    ∙ sym (pins-append old seat xs (x ∷ [])) ∙ ap (λ (es : List Event). pins old seat es) (sym longer)

-- an event that is refused ends them
pub refused-at : (old s new : Ledger) (seat : ℕ) (events : List Event) (i : ℕ) (x : Event) (refused : PostRefused) → i < length events → x ≡ get_or events i x → s ≡ more old (posts seat (take i events)) →
    new ≡ s → IsRefusedEvent s x refused → IsRefusedPlay old new seat events refused
refused-at old s new seat events i x refused inside is so same cause = record {
  done = take i events;
  event = x;
  rest = drop (suc i) events;
  parts = sym (take-append-drop i events) ∙ ap (λ (es : List Event). take i events ++ es) (drop-cons events i x inside ∙ ap (λ (e : Event). e ∷ drop (suc i) events) (sym is));
  history = same ∙ so;
  cause = subst (λ (r : Ledger). IsRefusedEvent r x refused) (sym same) cause;
}
