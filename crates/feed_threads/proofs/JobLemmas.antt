-- Jobs before they begin.
use Rattle.std.proofs.Common.{◌≡◌, List, [], ◌∷◌, map, refl, ap, sym, ◌∙◌}
use Rattle.route_feed.specs.FeedReader.{Reader}
use Rattle.feed_threads.specs.Feeds.{Feed}
use Rattle.feed_threads.specs.Jobs.{back_of, unread}

readers-again : {S : Type 0} (readers : List (Reader S)) → map (λ (f : Feed S). f.reader) (map unread readers) ≡ readers
readers-again [] = refl
readers-again (r ∷ rs) = ap (λ xs. r ∷ xs) (readers-again rs)

-- feeds that nothing was read of are those of their readers
pub readers-of : {S : Type 0} (feeds : List (Feed S)) (readers : List (Reader S)) → feeds ≡ map unread readers → map (λ (f : Feed S). f.reader) feeds ≡ readers
readers-of feeds readers is = ap (λ (xs : List (Feed _)). map (λ (f : Feed _). f.reader) xs) is ∙ readers-again readers

unread-again : {S : Type 0} (readers : List (Reader S)) → map unread readers ≡ map (λ (f : Feed S). unread f.reader) (map unread readers)
unread-again [] = refl
unread-again (r ∷ rs) = ap (λ xs. unread r ∷ xs) (unread-again rs)

pub unread-all : {S : Type 0} (feeds : List (Feed S)) (readers : List (Reader S)) → feeds ≡ map unread readers → feeds ≡ map (λ (f : Feed S). unread f.reader) feeds
unread-all feeds readers is = is ∙ unread-again readers ∙ ap (λ (xs : List (Feed _)). map (λ (f : Feed _). unread f.reader) xs) (sym is)

backs-again : {S : Type 0} (feeds : List (Feed S)) → map back_of (map (λ (f : Feed S). unread f.reader) feeds) ≡ map (λ r. (r.source, r.told)) (map (λ (f : Feed S). f.reader) feeds)
backs-again [] = refl
backs-again (f ∷ fs) = ap (λ xs. (f.reader.source, f.reader.told) ∷ xs) (backs-again fs)

-- feeds that nothing was read of give back what their readers have
pub unread-backs : {S : Type 0} (feeds : List (Feed S)) (readers : List (Reader S)) → feeds ≡ map (λ (f : Feed S). unread f.reader) feeds → map (λ (f : Feed S). f.reader) feeds ≡ readers → map back_of feeds ≡ map (λ r. (r.source, r.told)) readers
unread-backs feeds readers same are = ap (map back_of) same ∙ backs-again feeds ∙ ap (map (λ (r : Reader _). (r.source, r.told))) are
