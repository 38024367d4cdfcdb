-- One of a job's feeds gave frames.
use Rattle.std.proofs.Common.{◌≡◌, ℕ, suc, ◌<◌, Result, Ok, Err, OnOk, OnErr, List, [], ◌∷◌, ◌++◌, length, get_or, set, take, drop, Option, ap, sym, ◌∙◌, subst, arith}
use Rattle.std.specs.List.{AllZip}
use Rattle.std.proofs.lemmas.List.{set-get_or, set_split, length-take-le}
use Rattle.dn_model.specs.declared.entry.Posted.{Posted}
use Rattle.dn_model.specs.declared.topology.Topology.{Topology}
use Rattle.feed_threads.specs.Feeds.{Feed, ReadsOn}
use Rattle.feed_threads.specs.Takes.{GivesFirst, TakesSome}
use Rattle.feed_threads.specs.Places.{ReadOn, ChangesAt, TakesFrom, FailsFrom}
use Rattle.feed_threads.proofs.StepLemmas.{reads-none}

-- a relation of each thing to itself goes along a list
zip-self : {X : Type 0} (R : X → X → Type 0) → ((x : X) → R x x) → (xs : List X) → AllZip R xs xs
zip-self R same [] = tt
zip-self R same (x ∷ xs) = (same x, zip-self R same xs)

zip-mid : {X : Type 0} (R : X → X → Type 0) → ((x : X) → R x x) → (front : List X) (old new : X) (back : List X) → R old new → AllZip R (front ++ old ∷ back) (front ++ new ∷ back)
zip-mid R same [] old new back r = (r, zip-self R same back)
zip-mid R same (x ∷ front) old new back r = (same x, zip-mid R same front old new back r)

-- the parts before and after a place
front-is : {X : Type 0} (xs : List X) (at : ℕ) (v : X) → at < length xs → v ≡ get_or xs at v → xs ≡ take at xs ++ v ∷ drop (suc at) xs
front-is xs at v less value =
    sym (set-get_or xs at v) ∙ set_split xs at (get_or xs at v) less ∙ ap (λ x. take at xs ++ x ∷ drop (suc at) xs) (sym value)

changed-at : {S : Type 0} (Step : Feed S → Feed S → Type 0) (feeds : List (Feed S)) (at : ℕ) (v new : Feed S) → at < length feeds → v ≡ get_or feeds at v → Step v new →
    ChangesAt Step at feeds (set feeds at new)
changed-at Step feeds at v new less value step = record {
  front = take at feeds;
  old = v;
  new = new;
  back = drop (suc at) feeds;
  olds_are = front-is feeds at v less value;
  news_are = set_split feeds at new less;
  at_place = length-take-le at feeds (omega (arith, less));
  step = step;
}

module _ {S : Type 0} (t : Topology) (left : S → Option (List ℕ)) (faults place : S → ℕ) (limit : ℕ) where
  pub took-at : {A E : Type 0} (number : ℕ) (result : Result A E) (at : ℕ) (count : Option ℕ) (feeds : List (Feed S)) (v new : Feed S) (a b : List Posted) → at < length feeds → v ≡ get_or feeds at v →
      OnOk result (TakesSome t left faults place limit number count v new a b) → OnOk result (TakesFrom t left faults place limit number at count feeds (set feeds at new) a b)
  took-at number (Err e) at count feeds v new a b less value took = tt
  took-at number (Ok o) at count feeds v new a b less value took =
      changed-at (λ x y. TakesSome t left faults place limit number count x y a b) feeds at v new less value took

  pub failed-at : {A E : Type 0} (number : ℕ) (result : Result A E) (at : ℕ) (count : Option ℕ) (feeds : List (Feed S)) (v new : Feed S) (a b : List Posted) → at < length feeds → v ≡ get_or feeds at v →
      OnErr result (GivesFirst t left faults place limit number count v new a b) → OnErr result (FailsFrom t left faults place limit number at count feeds (set feeds at new) a b)
  failed-at number (Ok o) at count feeds v new a b less value first = tt
  failed-at number (Err e) at count feeds v new a b less value first =
      changed-at (λ x y. GivesFirst t left faults place limit number count x y a b) feeds at v new less value first

  pub read-none : (feeds : List (Feed S)) → ReadOn t left faults place feeds feeds
  read-none feeds = zip-self (λ x y. ReadsOn t left faults place x.reader y.reader) (λ f. reads-none t left faults place f.reader) feeds

  pub read-at : (feeds : List (Feed S)) (at : ℕ) (v new : Feed S) → at < length feeds → v ≡ get_or feeds at v → ReadsOn t left faults place v.reader new.reader →
      ReadOn t left faults place feeds (set feeds at new)
  read-at feeds at v new less value on =
      let mid : ReadOn t left faults place (take at feeds ++ v ∷ drop (suc at) feeds) (take at feeds ++ new ∷ drop (suc at) feeds) =
      zip-mid (λ x y. ReadsOn t left faults place x.reader y.reader) (λ f. reads-none t left faults place f.reader) (take at feeds) v new (drop (suc at) feeds) on in
      subst (λ (news : List (Feed S)). ReadOn t left faults place feeds news) (sym (set_split feeds at new less))
      (subst (λ (olds : List (Feed S)). ReadOn t left faults place olds (take at feeds ++ new ∷ drop (suc at) feeds)) (sym (front-is feeds at v less value)) mid)
