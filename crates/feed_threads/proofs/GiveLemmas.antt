-- What frames that a feed gives add to what it gave, and to the job's own entries.
use Rattle.std.proofs.Common.{◌≡◌, ℕ, ◌+◌, ◌<◌, ◌≤◌, List, [], ◌∷◌, ◌++◌, length, take, Option, None, Some, refl, ap, sym, ◌∙◌, subst, arith, length-append, append_assoc}
use Rattle.std.proofs.lemmas.Grind.{flat_map-append}
use Rattle.std.proofs.lemmas.List.{append-nil, map-append}
use Rattle.std.proofs.Math.Seq.{take-append-add}
use mathlib.Core.List.{IsPrefix}
use Rattle.feed_model.specs.Steps.{FrameStep, Accepted, updates, ops_of, entries_by}
use Rattle.dn_model.specs.declared.entry.Entry.TheVariants.{Route}
use Rattle.dn_model.specs.declared.entry.Op.{Op}
use Rattle.dn_model.specs.declared.entry.Posted.{Posted}
use Rattle.base.specs.declared.ids.RouterId.{RouterId}
use Rattle.dn_model.specs.declared.topology.Topology.{Topology}
use Rattle.feed_model.specs.declared.feed_told.FeedEnd.{FeedEnd}
use Rattle.feed_model.specs.declared.feed_told.FeedEnd.TheVariants as ends
use Rattle.feed_model.specs.declared.feed_told.FeedTold.{FeedTold}
use Rattle.route_feed.specs.FeedReader.{Reader, end_of, Advances}
use Rattle.route_feed.specs.declared.feed_step.FeedStep.{FeedStep}
use Rattle.route_feed.specs.declared.feed_step.FeedStep.TheVariants as answers
use Rattle.feed_threads.specs.Feeds.{Feed, end_with, end_of_feed, handed_out, HandsOut, TookOf, Stands}
use Rattle.feed_threads.specs.Seats.{own_of}
use Rattle.feed_threads.specs.Takes.{IsLater, Passes, Gives}
use Rattle.feed_threads.proofs.StepLemmas.{none-handed}

-- ---- lists

pub prefix-length : {A : Type 0} (xs ys : List A) → IsPrefix xs ys → length xs ≤ length ys
prefix-length xs ys p = omega (arith, length-append xs p.0, ap length p.1)

pub entries_by-append : (n : ℕ) (xs ys : List (RouterId × Op)) → entries_by n (xs ++ ys) ≡ entries_by n xs ++ entries_by n ys
entries_by-append n xs ys = map-append (λ (u : RouterId × Op). Route u.0 n u.1) xs ys

pub updates-append : (xs ys : List FrameStep) → updates (xs ++ ys) ≡ updates xs ++ updates ys
updates-append xs ys = flat_map-append ops_of xs ys

-- ---- no frame after an end

pub later-nil : (end : Option FeedEnd) → IsLater end []
later-nil None = tt
later-nil (Some e) = refl

pub later-more : (end mid : Option FeedEnd) (xs ys : List FrameStep) → IsLater end xs → ((e : FeedEnd) → end ≡ Some e → mid ≡ Some e) → IsLater mid ys → IsLater end (xs ++ ys)
later-more None mid xs ys a same b = tt
later-more (Some e) mid xs ys a same b =
    let none : ys ≡ [] = subst (λ (o : Option FeedEnd). IsLater o ys) (same e refl) b in
    rw (a, none) refl

later-handed : (end : Option FeedEnd) (step : FeedStep) → ((e : FeedEnd) → end ≡ Some e → end_of step ≡ Some e) → IsLater end (handed_out step)
later-handed None step ended = tt
later-handed (Some e) step ended = none-handed step e (ended e refl)

-- ---- the bytes that updates take

pub passes-step : {S : Type 0} (step : FeedStep) (old new : Reader S) → Advances step old new → new.limit ≡ old.limit → Passes old new (handed_out step)
passes-step (answers.Ops ops skipped) old new a limit =
    let same : length (ops ++ []) ≡ length ops = ap length (append-nil ops) in
    record { fits = omega (arith, a.2, same); within = λ w. a.1 }
passes-step (answers.Refused o m c) old new a limit = record { fits = omega (arith, a.0); within = λ w. a.1 }
passes-step answers.End old new a limit = record { fits = omega (arith, a); within = λ w. omega (arith, a, limit, w) }
passes-step (answers.CutShort o) old new a limit = record { fits = omega (arith, a); within = λ w. omega (arith, a, limit, w) }
passes-step (answers.Lost o c) old new a limit = record { fits = omega (arith, a); within = λ w. omega (arith, a, limit, w) }
passes-step answers.TooLong old new a limit = record { fits = omega (arith, a); within = λ w. omega (arith, a, limit, w) }
passes-step answers.Faulted old new a limit = record { fits = omega (arith, a); within = λ w. omega (arith, a, limit, w) }

pub passes-none : {S : Type 0} (reader : Reader S) → Passes reader reader []
passes-none reader = record { fits = omega arith; within = λ w. w }

pub passes-more : {S : Type 0} (old mid new : Reader S) (xs ys : List FrameStep) → Passes old mid xs → Passes mid new ys → Passes old new (xs ++ ys)
passes-more old mid new xs ys a b =
    let both : length (updates (xs ++ ys)) ≡ length (updates xs) + length (updates ys) = ap length (updates-append xs ys) ∙ length-append (updates xs) (updates ys) in
    record { fits = omega (arith, both, a.fits, b.fits); within = λ w. b.within (a.within w) }

-- where a history had taken all, as it was seen, it had taken all as it is seen later; and so where it was full
pub took-later : (limit : ℕ) (seen later : List Posted) (kept : Option ℕ) (steps : List FrameStep) (ops : List (RouterId × Op)) → IsPrefix seen later → TookOf limit seen kept steps ops → TookOf limit later kept steps ops
took-later limit seen later None steps ops begins took = took
took-later limit seen later (Some n) steps ops begins took =
    let more : length seen ≤ length later = prefix-length seen later begins in
    let full : limit ≤ length seen = took.1.full in
    (took.0, record { before = took.1.before; last = took.1.last; steps_are = took.1.steps_are; at_least = took.1.at_least; fewer = took.1.fewer; full = omega arith })

-- ---- the end of a feed that was not broken off

pub kept-end : (kept : Option ℕ) (end : Option FeedEnd) → kept ≡ None → end_with kept end ≡ end
kept-end kept end none = ap (λ (k : Option ℕ). end_with k end) none

module _ {S : Type 0} (t : Topology) (left : S → Option (List ℕ)) (faults place : S → ℕ) (limit : ℕ) where
  pub stands-later : (seen later : List Posted) (start : Reader S) (feed : Feed S) (steps : List FrameStep) (ops : List (RouterId × Op)) → IsPrefix seen later →
      Stands t left faults place limit seen start feed steps ops → Stands t left faults place limit later start feed steps ops
  stands-later seen later start feed steps ops begins st = record { reads = st.reads; took = took-later limit seen later feed.kept steps ops begins st.took; unended = st.unended }

  -- nothing is given
  pub gives-none : (number : ℕ) (feed : Feed S) (seen : List Posted) → Gives t left faults place limit number feed feed seen seen []
  gives-none number feed seen = record {
    ops = [];
    stands = λ start steps ops-before st.
        subst (λ (xs : List FrameStep). Stands t left faults place limit seen start feed xs (ops-before ++ [])) (sym (append-nil steps))
        (subst (λ (xs : List (RouterId × Op)). Stands t left faults place limit seen start feed steps xs) (sym (append-nil ops-before)) st);
    grows = sym (append-nil (own_of number seen));
    whole = λ none. refl;
    passes = passes-none feed.reader;
    later = later-nil (end_of_feed feed);
    ended = λ end is. (refl, refl);
    feed_no = refl;
    router = refl;
  }

  -- nor where more is seen, with nothing of the job's own
  pub gives-still : (number : ℕ) (feed : Feed S) (a b : List Posted) → IsPrefix a b → own_of number b ≡ own_of number a → Gives t left faults place limit number feed feed a b []
  gives-still number feed a b p same = record {
    ops = [];
    stands = λ start steps ops-before st.
        subst (λ (xs : List FrameStep). Stands t left faults place limit b start feed xs (ops-before ++ [])) (sym (append-nil steps))
        (subst (λ (xs : List (RouterId × Op)). Stands t left faults place limit b start feed steps xs) (sym (append-nil ops-before)) (stands-later a b start feed steps ops-before p st));
    grows = same ∙ sym (append-nil (own_of number a));
    whole = λ none. refl;
    passes = passes-none feed.reader;
    later = later-nil (end_of_feed feed);
    ended = λ end is. (refl, refl);
    feed_no = refl;
    router = refl;
  }

  -- a feed that wasn't broken off by now never was
  pub unbroken : (number : ℕ) (old new : Feed S) (a b : List Posted) (xs : List FrameStep) → Gives t left faults place limit number old new a b xs → new.kept ≡ None → old.kept ≡ None
  unbroken number old new a b xs x none = by-kept old.kept refl
    where
      by-kept : (k : Option ℕ) → old.kept ≡ k → old.kept ≡ None
      by-kept None is = is
      by-kept (Some n) is =
          let full : end_of_feed old ≡ Some ends.Full = ap (λ (o : Option ℕ). end_with o old.reader.told.end) is in
          sym (ap (λ (f : Feed S). f.kept) (x.ended ends.Full full).0) ∙ none

  -- and then some more
  pub gives-more : (number : ℕ) (old mid new : Feed S) (a b c : List Posted) (xs ys : List FrameStep) →
      Gives t left faults place limit number old mid a b xs → Gives t left faults place limit number mid new b c ys → Gives t left faults place limit number old new a c (xs ++ ys)
  gives-more number old mid new a b c xs ys x y = record {
    ops = x.ops ++ y.ops;
    stands = λ start steps ops-before st.
        subst (λ (zs : List FrameStep). Stands t left faults place limit c start new zs (ops-before ++ (x.ops ++ y.ops))) (append_assoc steps xs ys)
        (subst (λ (zs : List (RouterId × Op)). Stands t left faults place limit c start new ((steps ++ xs) ++ ys) zs) (append_assoc ops-before x.ops y.ops)
        (y.stands start (steps ++ xs) (ops-before ++ x.ops) (x.stands start steps ops-before st)));
    grows = y.grows ∙ ap (λ n. own_of number b ++ entries_by n y.ops) x.feed_no ∙ ap (λ z. z ++ entries_by old.reader.told.feed_no y.ops) x.grows
        ∙ append_assoc (own_of number a) (entries_by old.reader.told.feed_no x.ops) (entries_by old.reader.told.feed_no y.ops)
        ∙ ap (λ z. own_of number a ++ z) (sym (entries_by-append old.reader.told.feed_no x.ops y.ops));
    whole = λ none.
        let all : y.ops ≡ updates ys = y.whole none in
        let before : x.ops ≡ updates xs = x.whole (unbroken number mid new b c ys y none) in
        ap (λ z. z ++ y.ops) before ∙ ap (λ z. updates xs ++ z) all ∙ sym (updates-append xs ys);
    passes = passes-more old.reader mid.reader new.reader xs ys x.passes y.passes;
    later = later-more (end_of_feed old) (end_of_feed mid) xs ys x.later (λ e is. ap end_of_feed (x.ended e is).0 ∙ is) y.later;
    ended = λ e is.
        let first : (mid ≡ old) × (x.ops ≡ []) = x.ended e is in
        let second : (new ≡ mid) × (y.ops ≡ []) = y.ended e (ap end_of_feed first.0 ∙ is) in
        (second.0 ∙ first.0, ap (λ z. z ++ y.ops) first.1 ∙ second.1);
    feed_no = y.feed_no ∙ x.feed_no;
    router = y.router ∙ x.router;
  }

  -- ---- one frame

  -- where the history took all that a reader's answer hands out
  pub gives-whole : (number : ℕ) (old new : Feed S) (seen-before seen : List Posted) (step : FeedStep) → IsPrefix seen-before seen → old.kept ≡ None → new.kept ≡ None →
      ((start : Reader S) (steps : List FrameStep) → HandsOut t left faults place start old.reader steps → HandsOut t left faults place start new.reader (steps ++ handed_out step)) →
      ((end : FeedEnd) → old.reader.told.end ≡ Some end → (new.reader ≡ old.reader) × (end_of step ≡ Some end)) →
      new.reader.told.feed_no ≡ old.reader.told.feed_no → new.reader.told.router ≡ old.reader.told.router →
      own_of number seen ≡ own_of number seen-before ++ entries_by old.reader.told.feed_no (updates (handed_out step)) →
      Passes old.reader new.reader (handed_out step) →
      Gives t left faults place limit number old new seen-before seen (handed_out step)
  gives-whole number old new seen-before seen step begins kept kept' handed again feed_no router grows passes =
      let going : end_of_feed old ≡ old.reader.told.end = kept-end old.kept old.reader.told.end kept in
      record {
        ops = updates (handed_out step);
        stands = λ start steps ops-before st. record {
          reads = handed start steps st.reads;
          took = subst (λ (k : Option ℕ). TookOf limit seen k (steps ++ handed_out step) (ops-before ++ updates (handed_out step))) (sym kept')
              (ap (λ z. z ++ updates (handed_out step)) (subst (λ (k : Option ℕ). TookOf limit seen-before k steps ops-before) kept st.took) ∙ sym (updates-append steps (handed_out step)));
          unended = λ n is. absurd (cc (sym kept' ∙ is));
        };
        grows = grows;
        whole = λ none. refl;
        passes = passes;
        later = later-handed (end_of_feed old) step (λ e is. (again e (sym going ∙ is)).1);
        ended = λ e is. (
          same-feed old new kept kept' (again e (sym going ∙ is)).0,
          ap updates (none-handed step e (again e (sym going ∙ is)).1),
        );
        feed_no = feed_no;
        router = router;
      }
    where
      same-feed : (x y : Feed S) → x.kept ≡ None → y.kept ≡ None → y.reader ≡ x.reader → y ≡ x
      same-feed x y k l r = ap (λ (o : Option ℕ). record { reader = y.reader; kept = o }) (l ∙ sym k) ∙ ap (λ (q : Reader S). record { reader = q; kept = x.kept }) r

  -- where it was full after the first n of a frame's updates
  pub gives-broken : (number : ℕ) (old new : Feed S) (seen-before seen : List Posted) (ops : List (RouterId × Op)) (skipped n : ℕ) → old.kept ≡ None → old.reader.told.end ≡ None →
      new.kept ≡ Some (old.reader.told.updates + n) → n < length ops → limit ≤ length seen →
      ((start : Reader S) (steps : List FrameStep) → HandsOut t left faults place start old.reader steps → HandsOut t left faults place start new.reader (steps ++ Accepted ops skipped ∷ [])) →
      new.reader.told.feed_no ≡ old.reader.told.feed_no → new.reader.told.router ≡ old.reader.told.router →
      own_of number seen ≡ own_of number seen-before ++ entries_by old.reader.told.feed_no (take n ops) →
      new.reader.told.end ≡ None → Passes old.reader new.reader (Accepted ops skipped ∷ []) →
      Gives t left faults place limit number old new seen-before seen (Accepted ops skipped ∷ [])
  gives-broken number old new seen-before seen ops skipped n kept going kept' fewer full handed feed_no router grows unended passes =
      let none : end_of_feed old ≡ None = kept-end old.kept old.reader.told.end kept ∙ going in
      record {
        ops = take n ops;
        stands = λ start steps ops-before st.
            let before : ops-before ≡ updates steps = subst (λ (k : Option ℕ). TookOf limit seen-before k steps ops-before) kept st.took in
            let count : old.reader.told.updates ≡ length (updates steps) = ap (λ (x : FeedTold). x.updates) st.reads.told in
            let all : updates (steps ++ Accepted ops skipped ∷ []) ≡ updates steps ++ ops = updates-append steps (Accepted ops skipped ∷ []) ∙ ap (λ z. updates steps ++ z) (append-nil ops) in
            let both : length (updates (steps ++ Accepted ops skipped ∷ [])) ≡ length (updates steps) + length ops = ap length all ∙ length-append (updates steps) ops in
            record {
              reads = handed start steps st.reads;
              took = subst (λ (k : Option ℕ). TookOf limit seen k (steps ++ Accepted ops skipped ∷ []) (ops-before ++ take n ops)) (sym kept') (
                ap (λ z. z ++ take n ops) before ∙ sym (take-append-add (updates steps) ops n) ∙ ap (λ z. take (length (updates steps) + n) z) (sym all)
                    ∙ ap (λ z. take (z + n) (updates (steps ++ Accepted ops skipped ∷ []))) (sym count),
                record {
                  before = steps;
                  last = Accepted ops skipped;
                  steps_are = refl;
                  at_least = omega arith;
                  fewer = omega arith;
                  full = full;
                },
              );
              unended = λ m is. unended;
            };
        grows = grows;
        whole = λ none. absurd (cc (sym kept' ∙ none));
        passes = passes;
        later = subst (λ (o : Option FeedEnd). IsLater o (Accepted ops skipped ∷ [])) (sym none) tt;
        ended = λ e is. absurd (cc (sym none ∙ is));
        feed_no = feed_no;
        router = router;
      }
