-- What holds of all feeds of a job stays true when one of them gives more.
use Rattle.std.proofs.Common.{◌≡◌, ℕ, zero, suc, ◌+◌, ◌==◌, get_or, List, [], ◌∷◌, ◌++◌, length, take, map, All, Option, None, Some, refl, ap, sym, ◌∙◌, subst, arith, length-append, append_assoc}
use Rattle.std.specs.List.{AllZip}
use Rattle.std.proofs.lemmas.List.{append-nil, length-map, map-append}
use Rattle.std.proofs.lemmas.List.Elements.{All-nil, All-cons}
use mathlib.Core.List.{IsPrefix}
use Rattle.feed_model.specs.Steps.{FrameStep, FeedRead, updates, entries_by, kept_of}
use Rattle.dn_model.specs.declared.entry.Entry.{Entry}
use Rattle.dn_model.specs.declared.entry.Entry.TheVariants.{Route}
use Rattle.dn_model.specs.declared.entry.Op.{Op}
use Rattle.dn_model.specs.declared.entry.Posted.{Posted}
use Rattle.base.specs.declared.ids.RouterId.{RouterId}
use Rattle.dn_model.specs.declared.topology.Topology.{Topology}
use Rattle.feed_model.specs.declared.feed_told.FeedEnd.{FeedEnd}
use Rattle.feed_model.specs.declared.feed_told.FeedEnd.TheVariants as ends
use Rattle.route_feed.specs.FeedReader.{Reader}
use Rattle.feed_threads.specs.Feeds.{Feed, end_with, end_of_feed, Stands, TookOf}
use Rattle.feed_threads.specs.Takes.{IsLater, Gives, Passes, TakesSome}
use Rattle.feed_threads.specs.Places.{TakesFrom}
use Rattle.feed_threads.specs.Tracks.{Strand, GoesOn, IsApartFrom, AllApart, Woven, taken_of_all}
use Rattle.feed_threads.proofs.GiveLemmas.{updates-append, later-more, passes-more, stands-later}
use Rattle.feed_threads.proofs.ListLemmas.{Parts, all-parts, all-joined}

-- ---- the strand of a feed

abbrev pub nows : {S : Type 0} → List (Strand S) → List (Feed S)
nows ss = map (λ s. s.now) ss

pub record Split {S : Type 0} (ss : List (Strand S)) (a : List (Feed S)) (r : Feed S) (b : List (Feed S)) : Type 0 where
  pub front : List (Strand S)
  pub mid : Strand S
  pub back : List (Strand S)
  pub whole : ss ≡ front ++ mid ∷ back
  pub front_is : nows front ≡ a
  pub mid_is : mid.now ≡ r
  pub back_is : nows back ≡ b

front-of : {S : Type 0} (s : Strand S) (front : List (Strand S)) (a : List (Feed S)) (x : Feed S) → s.now ≡ x → nows front ≡ a → nows (s ∷ front) ≡ x ∷ a
front-of s front a x head is = ap (λ xs. s.now ∷ xs) is ∙ ap (λ y. y ∷ a) head

pushed : {S : Type 0} (s : Strand S) (ss ts : List (Strand S)) → ss ≡ ts → s ∷ ss ≡ s ∷ ts
pushed s ss ts is = ap (λ xs. s ∷ xs) is

pub split-at : {S : Type 0} (ss : List (Strand S)) (a : List (Feed S)) (r : Feed S) (b : List (Feed S)) → nows ss ≡ a ++ r ∷ b → Split ss a r b
split-at [] [] r b e = cc
split-at [] (x ∷ a) r b e = cc
split-at (s ∷ ss) [] r b e = record { front = []; mid = s; back = ss; whole = refl; front_is = refl; mid_is = cc; back_is = cc }
split-at (s ∷ ss) (x ∷ a) r b e =
    let head : s.now ≡ x = cc in
    let tail : nows ss ≡ a ++ r ∷ b = cc in
    let rest : Split ss a r b = split-at ss a r b tail in
    record {
      front = s ∷ rest.front;
      mid = rest.mid;
      back = rest.back;
      whole = pushed s ss (rest.front ++ rest.mid ∷ rest.back) rest.whole;
      front_is = front-of s rest.front a x head rest.front_is;
      mid_is = rest.mid_is;
      back_is = rest.back_is;
    }

-- a strand whose feed gave some frames more
abbrev pub grown : {S : Type 0} → Strand S → Feed S → List FrameStep → List (RouterId × Op) → Strand S
grown s new more ops = record { start = s.start; now = new; steps = s.steps ++ more; ops = s.ops ++ ops }

-- ---- feeds apart

apart-back : {S : Type 0} (x y : Strand S) → IsApartFrom x y → IsApartFrom y x
apart-back x y a = record { router = a.back; back = a.router }

pub record Others {S : Type 0} (front : List (Strand S)) (mid : Strand S) (back : List (Strand S)) : Type 0 where
  pub in_front : All (IsApartFrom mid) front
  pub in_back : All (IsApartFrom mid) back

pub apart-others : {S : Type 0} (front : List (Strand S)) (mid : Strand S) (back : List (Strand S)) → AllApart (front ++ mid ∷ back) → Others front mid back
apart-others [] mid back a = record { in_front = All-nil (IsApartFrom mid); in_back = a.0 }
apart-others (x ∷ front) mid back a =
    let here : Parts (IsApartFrom x) front mid back = all-parts (IsApartFrom x) front mid back a.0 in
    let rest : Others front mid back = apart-others front mid back a.1 in
    record { in_front = All-cons (IsApartFrom mid) x front (apart-back x mid here.mid_is) rest.in_front; in_back = rest.in_back }

-- the same router is apart from others
apart-left : {S : Type 0} (x x' y : Strand S) → x'.now.reader.told.router ≡ x.now.reader.told.router → IsApartFrom x y → IsApartFrom x' y
apart-left x x' y r a = record {
  router = ap (λ q. q.0 == y.now.reader.told.router.0) r ∙ a.router;
  back = ap (λ q. y.now.reader.told.router.0 == q.0) r ∙ a.back;
}

pub apart-kept : {S : Type 0} (front : List (Strand S)) (mid mid' : Strand S) (back : List (Strand S)) → mid'.now.reader.told.router ≡ mid.now.reader.told.router →
    AllApart (front ++ mid ∷ back) → AllApart (front ++ mid' ∷ back)
apart-kept [] mid mid' back r a = (λ k d l. apart-left mid mid' _ r (a.0 k d l), a.1)
apart-kept (x ∷ front) mid mid' back r a =
    let here : Parts (IsApartFrom x) front mid back = all-parts (IsApartFrom x) front mid back a.0 in (
      all-joined (IsApartFrom x) front mid' back here.front_all (apart-back mid' x (apart-left mid mid' x r (apart-back x mid here.mid_is))) here.back_all,
      apart-kept front mid mid' back r a.1,
    )

-- ---- how many updates were taken

taken-at : {S : Type 0} (front : List (Strand S)) (s s' : Strand S) (back : List (Strand S)) (n : ℕ) → length s'.ops ≡ length s.ops + n →
    taken_of_all (front ++ s' ∷ back) ≡ taken_of_all (front ++ s ∷ back) + n
taken-at [] s s' back n is = omega (arith, is)
taken-at (x ∷ front) s s' back n is =
    let rest : taken_of_all (front ++ s' ∷ back) ≡ taken_of_all (front ++ s ∷ back) + n = taken-at front s s' back n is in
    omega (arith, rest)

-- the job's own entries grow by as many as the updates that were taken of one feed
pub count-grown : {S : Type 0} (front : List (Strand S)) (s s' : Strand S) (back : List (Strand S)) (own own' start : List Entry) (n : ℕ) (ops : List (RouterId × Op)) (links : ℕ) →
    s'.ops ≡ s.ops ++ ops → own' ≡ own ++ entries_by n ops → length own ≡ length start + (taken_of_all (front ++ s ∷ back) + links) →
    length own' ≡ length start + (taken_of_all (front ++ s' ∷ back) + links)
count-grown front s s' back own own' start n ops links is grows count =
    let more : length s'.ops ≡ length s.ops + length ops = ap length is ∙ length-append s.ops ops in
    let all : taken_of_all (front ++ s' ∷ back) ≡ taken_of_all (front ++ s ∷ back) + length ops = taken-at front s s' back (length ops) more in
    let len : length own' ≡ length own + length ops =
    ap length grows ∙ length-append own (entries_by n ops) ∙ ap (λ (k : ℕ). length own + k) (length-map ops (λ (u : RouterId × Op). Route u.0 n u.1)) in
    omega (arith, all, len, count)

-- ---- what the history kept

-- a take that reaches past a front has all of the front
take-front : (k : ℕ) (xs ys zs : List (RouterId × Op)) → take k (xs ++ ys) ≡ xs ++ zs → take k xs ≡ xs
take-front zero [] ys zs e = refl
take-front zero (x ∷ xs) ys zs e = cc
take-front (suc k) [] ys zs e = refl
take-front (suc k) (x ∷ xs) ys zs e =
    let rest : take k (xs ++ ys) ≡ xs ++ zs = cc in
    ap (λ l. x ∷ l) (take-front k xs ys zs rest)

-- what the history took of a feed's frames so far, where the frames after them are known too
kept-back : (limit : ℕ) (seen : List Posted) (kept : Option ℕ) (f : FeedRead) (steps more : List FrameStep) (ops more-ops : List (RouterId × Op)) → TookOf limit seen kept steps ops →
    ((n : ℕ) → kept ≡ Some n → (more ≡ []) × (more-ops ≡ [])) → kept_of f (steps ++ more) ≡ ops ++ more-ops → kept_of f steps ≡ ops
kept-back limit seen None f steps more ops more-ops took ended is =
    let e : take f.kept (updates steps ++ updates more) ≡ updates steps ++ more-ops = ap (take f.kept) (sym (updates-append steps more)) ∙ is ∙ ap (λ z. z ++ more-ops) took in
    take-front f.kept (updates steps) (updates more) more-ops e ∙ sym took
kept-back limit seen (Some n) f steps more ops more-ops took ended is =
    let none : (more ≡ []) × (more-ops ≡ []) = ended n refl in
    ap (λ z. kept_of f z) (sym (append-nil steps)) ∙ ap (λ z. kept_of f (steps ++ z)) (sym none.0) ∙ is ∙ ap (λ z. ops ++ z) none.1 ∙ append-nil ops

module _ {S : Type 0} (t : Topology) (left : S → Option (List ℕ)) (faults place : S → ℕ) (limit : ℕ) where
  -- a feed that a full history broke off gives nothing more
  none-given : (number : ℕ) (s : Strand S) (new : Feed S) (a b : List Posted) (more : List FrameStep) (x : Gives t left faults place limit number s.now new a b more) →
      (n : ℕ) → s.now.kept ≡ Some n → (more ≡ []) × (x.ops ≡ [])
  none-given number s new a b more x n is =
      let full : end_of_feed s.now ≡ Some ends.Full = ap (λ (k : Option ℕ). end_with k s.now.reader.told.end) is in
      (subst (λ (o : Option FeedEnd). IsLater o more) full x.later, (x.ended ends.Full full).1)

  -- ---- one feed gives more

  pub woven-took : (number : ℕ) (olds : List (Reader S)) (news news' : List (Feed S)) (a b : List Posted) (front : List (Strand S)) (mid : Strand S) (back : List (Strand S)) (new : Feed S) (more : List FrameStep) →
      IsPrefix a b → news' ≡ nows front ++ new ∷ nows back → (x : Gives t left faults place limit number mid.now new a b more) →
      Woven t left faults place limit olds news a (front ++ mid ∷ back) → Woven t left faults place limit olds news' b (front ++ grown mid new more x.ops ∷ back)
  woven-took number olds news news' a b front mid back new more begins news-are x w =
      let P : List Posted → Strand S → Type 0 = λ seen s. Stands t left faults place limit seen s.start s.now s.steps s.ops in
      let parts : Parts (P a) front mid back = all-parts (P a) front mid back w.each in
      let passed : Parts (λ (s : Strand S). Passes s.start s.now.reader s.steps) front mid back = all-parts (λ (s : Strand S). Passes s.start s.now.reader s.steps) front mid back w.passes in
      record {
        starts = map-append (λ s. s.start) front (grown mid new more x.ops ∷ back) ∙ sym (map-append (λ s. s.start) front (mid ∷ back)) ∙ w.starts;
        nows = map-append (λ s. s.now) front (grown mid new more x.ops ∷ back) ∙ sym news-are;
        each = all-joined (P b) front (grown mid new more x.ops) back
            (λ k d l. stands-later t left faults place limit a b (get_or front k d).start (get_or front k d).now (get_or front k d).steps (get_or front k d).ops begins (parts.front_all k d l))
            (x.stands mid.start mid.steps mid.ops parts.mid_is)
            (λ k d l. stands-later t left faults place limit a b (get_or back k d).start (get_or back k d).now (get_or back k d).steps (get_or back k d).ops begins (parts.back_all k d l));
        passes = all-joined (λ s. Passes s.start s.now.reader s.steps) front (grown mid new more x.ops) back passed.front_all
            (passes-more mid.start mid.now.reader new.reader mid.steps more passed.mid_is x.passes) passed.back_all;
        apart = apart-kept front mid (grown mid new more x.ops) back x.router w.apart;
      }

  -- ---- whatever the feeds come to

  pub goes-back : (number : ℕ) (s : Strand S) (new : Feed S) (a b : List Posted) (more : List FrameStep) (f : FeedRead) (x : Gives t left faults place limit number s.now new a b more) →
      Stands t left faults place limit a s.start s.now s.steps s.ops → GoesOn (grown s new more x.ops) f → GoesOn s f
  goes-back number s new a b more f x st g = record {
    feed_no = g.feed_no ∙ x.feed_no;
    router = g.router ∙ x.router;
    later = more ++ g.later;
    steps = g.steps ∙ append_assoc s.steps more g.later;
    kept = kept-back limit a s.now.kept f s.steps more s.ops x.ops st.took (none-given number s new a b more x) g.kept;
    none_after_end = later-more (end_of_feed s.now) (end_of_feed new) more g.later x.later (λ e is. ap end_of_feed (x.ended e is).0 ∙ is) g.none_after_end;
  }

  pub go-back : (number : ℕ) (front : List (Strand S)) (s : Strand S) (back : List (Strand S)) (new : Feed S) (a b : List Posted) (more : List FrameStep) (fs : List FeedRead) (x : Gives t left faults place limit number s.now new a b more) →
      Stands t left faults place limit a s.start s.now s.steps s.ops → AllZip GoesOn (front ++ grown s new more x.ops ∷ back) fs → AllZip GoesOn (front ++ s ∷ back) fs
  go-back number [] s back new a b more [] x st zip = absurd zip
  go-back number [] s back new a b more (f ∷ fs) x st zip = (goes-back number s new a b more f x st zip.0, zip.1)
  go-back number (y ∷ front) s back new a b more [] x st zip = absurd zip
  go-back number (y ∷ front) s back new a b more (f ∷ fs) x st zip = (zip.0, go-back number front s back new a b more fs x st zip.1)

  -- ---- the strand that a call grew

  pub record Grows (number at : ℕ) (count : Option ℕ) (ss : List (Strand S)) (news' : List (Feed S)) (a b : List Posted) : Type 0 where
    pub front : List (Strand S)
    pub mid : Strand S
    pub back : List (Strand S)
    pub new : Feed S
    pub whole : ss ≡ front ++ mid ∷ back
    pub news_are : news' ≡ nows front ++ new ∷ nows back
    pub place_is : length front ≡ at
    pub step : TakesSome t left faults place limit number count mid.now new a b

  pub grows : (number at : ℕ) (count : Option ℕ) (ss : List (Strand S)) (news news' : List (Feed S)) (a b : List Posted) →
      nows ss ≡ news → TakesFrom t left faults place limit number at count news news' a b → Grows number at count ss news' a b
  grows number at count ss news news' a b is x =
      let sp : Split ss x.front x.old x.back = split-at ss x.front x.old x.back (is ∙ x.olds_are) in
      record {
        front = sp.front;
        mid = sp.mid;
        back = sp.back;
        new = x.new;
        whole = sp.whole;
        news_are = x.news_are ∙ ap (λ f. f ++ x.new ∷ x.back) (sym sp.front_is) ∙ ap (λ b. nows sp.front ++ x.new ∷ b) (sym sp.back_is);
        place_is = sym (length-map sp.front (λ s. s.now)) ∙ ap length sp.front_is ∙ x.at_place;
        step = subst (λ (r : Feed S). TakesSome t left faults place limit number count r x.new a b) (sym sp.mid_is) x.step;
      }
