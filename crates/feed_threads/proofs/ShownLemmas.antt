-- What goes on being shown.
use Rattle.std.proofs.Common.{◌≡◌, List, [], ◌∷◌, ◌++◌, Option, None, Some, Result, Ok, Err, IfOk, OnOk, OnErr, refl, ap, sym, ◌∙◌, subst}
use Rattle.std.proofs.lemmas.List.Sums.{fold-append}
use mathlib.Core.List.{IsPrefix}
use Rattle.dn_model.specs.declared.entry.Posted.{Posted}
use Rattle.dn_model.specs.declared.topology.Topology.{Topology}
use Rattle.fast_pins.specs.Known.{Known, published}
use Rattle.fast_pins.specs.declared.issue.Origin.{Origin}
use Rattle.version_lock.proofs.Histories.{prefix_self, prefix_trans}
use Rattle.feed_threads.specs.Shown.{IsShown, IsShownOf, ShowsOn, origin_of}

pub shown-of-later : (t : Topology) (old new : List Posted) (known : Known) → IsPrefix old new → IsShownOf t old known → IsShownOf t new known
shown-of-later t old new known p is = record { topology = is.topology; begins = prefix_trans (published known) old new is.begins p }

-- what is shown is shown where more is seen
pub shown-later : (t : Topology) (old new : List Posted) (shown : Option Known) → IsPrefix old new → IsShown t old shown → IsShown t new shown
shown-later t old new None p is = tt
shown-later t old new (Some known) p is = shown-of-later t old new known p is

pub shows-still : (t : Topology) (old new : List Posted) (shown : Option Known) → IsPrefix old new → IsShown t old shown → ShowsOn t new shown shown
shows-still t old new shown p is = record { shown = shown-later t old new shown p is; same = refl }

pub shows-none : (t : Topology) (seen : List Posted) (shown : Option Known) → IsShown t seen shown → ShowsOn t seen shown shown
shows-none t seen shown is = record { shown = is; same = refl }

-- and then another list, or more
pub shows-more : (t : Topology) (mid new : List Posted) (a b c : Option Known) → ShowsOn t mid a b → ShowsOn t new b c → ShowsOn t new a c
shows-more t mid new a b c x y = record { shown = y.shown; same = y.same ∙ x.same }

-- and then more is seen
pub shows-later : (t : Topology) (mid new : List Posted) (a b : Option Known) → IsPrefix mid new → ShowsOn t mid a b → ShowsOn t new a b
shows-later t mid new a b p x = record { shown = shown-later t mid new b p x.shown; same = x.same }

-- the list that was published last
pub published-push : (known new : Known) (list : List Posted) → new ≡ record known { lists = known.lists ++ list ∷ [] } → published new ≡ list
published-push known new list is =
    ap published is ∙ fold-append (λ (last : List Posted) (next : List Posted). next) [] known.lists (list ∷ [])

-- what a publication leaves: the new list, or, where memory was wanting, what was shown before
pub shows-published : {A E : Type 0} (result : Result A E) (t : Topology) (seen list : List Posted) (old new : Known) (before after : Option Known) → before ≡ Some old → after ≡ Some new → list ≡ seen →
    IsShownOf t seen old → OnOk result (new ≡ record old { lists = old.lists ++ list ∷ [] }) → OnErr result (new ≡ old) → ShowsOn t seen before after
shows-published (Ok a) t seen list old new before after was is-now list-is shown ok err = record {
  shown = subst (IsShown t seen) (sym is-now)
      (record {
        topology = ap (λ (k : Known). k.topology) ok ∙ shown.topology;
        begins = subst (λ (l : List Posted). IsPrefix l seen) (sym (published-push old new list ok ∙ list-is)) (prefix_self seen);
      });
  same = ap origin_of is-now ∙ ap (λ (k : Known). Some k.origin) ok ∙ sym (ap origin_of was);
}
shows-published (Err e) t seen list old new before after was is-now list-is shown ok err = record {
  shown = subst (IsShown t seen) (sym is-now) (subst (IsShownOf t seen) (sym err) shown);
  same = ap origin_of is-now ∙ ap (λ (k : Known). Some k.origin) err ∙ sym (ap origin_of was);
}

-- what holds of all that is Ok, by what else holds of it
pub if-ok-all : {A E : Type 0} (result : Result A E) (P Q R W : A → Type 0) → ((a : A) → P a → Q a → R a → W a) → IfOk result P → IfOk result Q → IfOk result R → IfOk result W
if-ok-all (Ok a) P Q R W f p q r = f a p q r
if-ok-all (Err e) P Q R W f p q r = tt

-- ---- the publisher that is left

abbrev pub origin-or : Origin → Option Origin → Origin
origin-or given None = given
origin-or given (Some origin) = origin

-- a publisher that was there is there
pub shown-stays : (t : Topology) (seen : List Posted) (known : Known) (after : Option Known) → after ≡ None → ShowsOn t seen (Some known) after → ⊥
shown-stays t seen known after is shows = let e : None ≡ Some known.origin = sym (ap origin_of is) ∙ shows.same in absurd (cc (e))

-- it is the same one
pub shown-same : (t : Topology) (seen : List Posted) (known new : Known) (after : Option Known) → after ≡ Some new → ShowsOn t seen (Some known) after → new.origin ≡ known.origin
shown-same t seen known new after is shows = ap (origin-or known.origin) (sym (ap origin_of is) ∙ shows.same)

-- and shows last a beginning of the history
pub shown-begins : (t : Topology) (seen : List Posted) (known new : Known) (after : Option Known) → after ≡ Some new → ShowsOn t seen (Some known) after → IsPrefix (published new) seen
shown-begins t seen known new after is shows = (subst (IsShown t seen) is shows.shown).begins
