-- What a call that takes frames of a feed comes to.
use Rattle.std.proofs.Common.{◌≡◌, ℕ, ◌+◌, ◌-◌, ◌<◌, ◌≤◌, Bool, true, false, is_none, is_some, List, [], ◌∷◌, ◌++◌, length, take, Option, None, Some, Result, Ok, Err, IfOk, OnOk, OnErr, IsErr, refl, ap, sym, ◌∙◌, subst, arith, length-append, append_assoc}
use Rattle.std.proofs.lemmas.List.{append-nil}
use Rattle.std.proofs.Math.Seq.{take-append-add}
use mathlib.Core.List.{IsPrefix}
use Rattle.version_lock.proofs.Histories.{prefix_self}
use Rattle.feed_model.specs.Steps.{FrameStep, Accepted, updates, entries_by}
use Rattle.dn_formats.specs.Lawful.{both_counts}
use Rattle.dn_model.specs.declared.entry.Op.{Op}
use Rattle.dn_model.specs.declared.entry.Posted.{Posted}
use Rattle.base.specs.declared.ids.RouterId.{RouterId}
use Rattle.base.specs.declared.memory.OutOfMemory.{OutOfMemory}
use Rattle.dn_model.specs.declared.topology.Topology.{Topology}
use Rattle.feed_model.specs.declared.feed_told.FeedEnd.{FeedEnd}
use Rattle.feed_model.specs.declared.feed_told.FeedTold.{FeedTold}
use Rattle.route_feed.specs.FeedReader.{Reader, end_of, Advances}
use Rattle.route_feed.specs.declared.feed_step.FeedStep.{FeedStep}
use Rattle.route_feed.specs.declared.feed_step.FeedStep.TheVariants as answers
use Rattle.feed_threads.specs.Feeds.{Feed, end_with, end_of_feed, handed_out, HandsOut, TookOf, Stands, ReadsOn}
use Rattle.version_lock.specs.Callers.{Caller, Lock}
use Rattle.feed_threads.specs.Seats.{own_of, LooksOn, SawMore}
use Rattle.feed_threads.specs.Takes.{IsLater, IsCount, IsWithin, HasTaken, TookFirst, Passes, Gives, GivesFirst, TakesSome, TakesAny, Takes}
use Rattle.feed_threads.proofs.GiveLemmas.{entries_by-append, updates-append, later-nil, later-more, passes-step, kept-end, gives-none, gives-still, unbroken, gives-more, gives-whole, gives-broken}
use Rattle.feed_threads.proofs.SeatLemmas.{none-ok, saw-none, saw-more, saw-number}
use Rattle.feed_threads.proofs.StepLemmas.{reads-none}

-- ---- counts

count-ended : (c d : Option ℕ) (len : ℕ) (end : FeedEnd) → IsCount c len (Some end) → IsCount (both_counts c d) len (Some end)
count-ended None d len end is = tt
count-ended (Some n) None len end is = tt
count-ended (Some n) (Some m) len end is = omega (arith, is)

count-going : (c d : Option ℕ) (len more : ℕ) (end : Option FeedEnd) → IsCount c len None → IsCount d more end → IsCount (both_counts c d) (len + more) end
count-going None d len more end is also = absurd is
count-going (Some n) None len more None is also = also
count-going (Some n) None len more (Some e) is also = tt
count-going (Some n) (Some m) len more None is also = omega (arith, is, also)
count-going (Some n) (Some m) len more (Some e) is also = omega (arith, is, also)

-- where a feed had ended nothing more was taken
pub count-more : (c d : Option ℕ) (xs ys : List FrameStep) (before after : Option FeedEnd) → IsCount c (length xs) before → IsCount d (length ys) after → IsLater before ys →
    ((e : FeedEnd) → before ≡ Some e → after ≡ Some e) → IsCount (both_counts c d) (length (xs ++ ys)) after
count-more c d xs ys None after is also late same =
    subst (λ (n : ℕ). IsCount (both_counts c d) n after) (sym (length-append xs ys)) (count-going c d (length xs) (length ys) after is also)
count-more c d xs ys (Some e) after is also late same =
    let here : xs ++ ys ≡ xs = ap (λ zs. xs ++ zs) late ∙ append-nil xs in
    subst (λ (o : Option FeedEnd). IsCount (both_counts c d) (length (xs ++ ys)) o) (sym (same e refl))
    (subst (λ (zs : List FrameStep). IsCount (both_counts c d) (length zs) (Some e)) (sym here) (count-ended c d (length xs) e is))

-- a feed that has ended has no more than that many
count-fewer : (n m len : ℕ) (end : Option FeedEnd) → is_none end ≡ false → n ≤ m → IsCount (Some n) len end → IsCount (Some m) len end
count-fewer n m len None ended less is = cc
count-fewer n m len (Some e) ended less is = omega (arith, less, is)

count-any : (len : ℕ) (end : Option FeedEnd) → is_none end ≡ false → IsCount None len end
count-any len None ended = cc
count-any len (Some e) ended = tt

counted-step : (step : FeedStep) → IsCount (Some 1) (length (handed_out step)) (end_of step)
counted-step (answers.Ops ops skipped) = refl
counted-step (answers.Refused o m c) = refl
counted-step answers.End = omega arith
counted-step (answers.CutShort o) = omega arith
counted-step (answers.Lost o c) = omega arith
counted-step answers.TooLong = omega arith
counted-step answers.Faulted = omega arith

-- so many frames are no more
pub count-within : (n len : ℕ) (end : Option FeedEnd) → IsCount (Some n) len end → len ≤ n
count-within n len None is = omega (arith, is)
count-within n len (Some e) is = is

module _ {S : Type 0} (t : Topology) (left : S → Option (List ℕ)) (faults place : S → ℕ) (limit : ℕ) where
  -- ---- one frame, as its call says it

  pub took-none : (number : ℕ) (feed : Feed S) (seen : List Posted) → is_none (end_of_feed feed) ≡ false → TakesSome t left faults place limit number (Some 1) feed feed seen seen
  took-none number feed seen ended = record { more = []; adds = gives-none t left faults place limit number feed seen; counted = count-fewer 0 1 0 (end_of_feed feed) ended (omega arith) (zero-count (end_of_feed feed)) }
    where
      zero-count : (end : Option FeedEnd) → IsCount (Some 0) 0 end
      zero-count None = refl
      zero-count (Some e) = omega arith

  -- an answer of a reader of which the history took all
  pub took-step : (number : ℕ) (old new : Feed S) (seen-before seen : List Posted) (step : FeedStep) → new.kept ≡ None → new.reader.told.end ≡ end_of step →
      Gives t left faults place limit number old new seen-before seen (handed_out step) → TakesSome t left faults place limit number (Some 1) old new seen-before seen
  took-step number old new seen-before seen step kept end gives = record {
    more = handed_out step;
    adds = gives;
    counted = subst (λ (o : Option FeedEnd). IsCount (Some 1) (length (handed_out step)) o) (sym (kept-end new.kept new.reader.told.end kept ∙ end)) (counted-step step);
  }

  -- an accepted frame, of which the history took all or only some updates
  pub took-ops : (number : ℕ) (old new : Feed S) (seen-before seen : List Posted) (ops : List (RouterId × Op)) (skipped : ℕ) (mid : Reader S) (result : Result Bool OutOfMemory) →
      IsPrefix seen-before seen → old.kept ≡ None → old.reader.told.end ≡ None → new.reader ≡ mid → mid.told.end ≡ None → mid.told.updates ≡ old.reader.told.updates + length (updates (Accepted ops skipped ∷ [])) →
      ((start : Reader S) (steps : List FrameStep) → HandsOut t left faults place start old.reader steps → HandsOut t left faults place start mid (steps ++ Accepted ops skipped ∷ [])) →
      mid.told.feed_no ≡ old.reader.told.feed_no → mid.told.router ≡ old.reader.told.router → Passes old.reader mid (Accepted ops skipped ∷ []) →
      IfOk result (λ more. HasTaken limit number more new.kept mid.told seen-before seen ops) →
      OnOk result (TakesSome t left faults place limit number (Some 1) old new seen-before seen)
  took-ops number old new seen-before seen ops skipped mid (Err e) begins kept going reader end count handed feed_no router passes took = tt
  took-ops number old new seen-before seen ops skipped mid (Ok true) begins kept going reader end count handed feed_no router passes took =
      took-step number old new seen-before seen (answers.Ops ops skipped) took.0 (ap (λ (r : Reader S). r.told.end) reader ∙ end)
      (gives-whole t left faults place limit number old new seen-before seen (answers.Ops ops skipped) begins kept took.0
      (λ start steps h. subst (λ (r : Reader S). HandsOut t left faults place start r (steps ++ Accepted ops skipped ∷ [])) (sym reader) (handed start steps h))
      (λ e is. absurd (cc (sym going ∙ is)))
      (ap (λ (r : Reader S). r.told.feed_no) reader ∙ feed_no) (ap (λ (r : Reader S). r.told.router) reader ∙ router)
      (took.1 ∙ ap (λ z. own_of number seen-before ++ entries_by z ops) feed_no
      ∙ ap (λ z. own_of number seen-before ++ entries_by old.reader.told.feed_no z) (sym (append-nil ops)))
      (subst (λ (r : Reader S). Passes old.reader r (Accepted ops skipped ∷ [])) (sym reader) passes))
  took-ops number old new seen-before seen ops skipped mid (Ok false) begins kept going reader end count handed feed_no router passes took =
      let n : ℕ = took.0 in
      let fewer : n < length ops = took.1 in
      let same : length (ops ++ []) ≡ length ops = ap length (append-nil ops) in
      let sum : mid.told.updates - (length ops - n) ≡ old.reader.told.updates + n = omega (arith, count, fewer, same) in
      let kept' : new.kept ≡ Some (old.reader.told.updates + n) = took.2 ∙ ap Some sum in
      record {
        more = Accepted ops skipped ∷ [];
        adds = gives-broken t left faults place limit number old new seen-before seen ops skipped n kept going kept' fewer took.3
            (λ start steps h. subst (λ (r : Reader S). HandsOut t left faults place start r (steps ++ Accepted ops skipped ∷ [])) (sym reader) (handed start steps h))
            (ap (λ (r : Reader S). r.told.feed_no) reader ∙ feed_no) (ap (λ (r : Reader S). r.told.router) reader ∙ router)
            (took.4 ∙ ap (λ z. own_of number seen-before ++ entries_by z (take n ops)) feed_no)
            (ap (λ (r : Reader S). r.told.end) reader ∙ end) (subst (λ (r : Reader S). Passes old.reader r (Accepted ops skipped ∷ [])) (sym reader) passes);
        counted = subst (λ (k : Option ℕ). IsCount (Some 1) 1 (end_with k new.reader.told.end)) (sym kept') (omega arith);
      }

  pub more-ops : (number : ℕ) (new : Feed S) (mid : FeedTold) (seen-before seen : List Posted) (ops : List (RouterId × Op)) (result : Result Bool OutOfMemory) → new.reader.told.end ≡ None →
      IfOk result (λ more. HasTaken limit number more new.kept mid seen-before seen ops) → IfOk result (λ more. more ≡ is_none (end_of_feed new))
  more-ops number new mid seen-before seen ops (Err e) going took = tt
  more-ops number new mid seen-before seen ops (Ok true) going took = sym (ap is_none (kept-end new.kept new.reader.told.end took.0 ∙ going))
  more-ops number new mid seen-before seen ops (Ok false) going took = sym (ap (λ (k : Option ℕ). is_none (end_with k new.reader.told.end)) took.2)

  -- ---- several frames

  pub took-more : (number : ℕ) (n m : ℕ) (old mid new : Feed S) (a b c : List Posted) → TakesSome t left faults place limit number (Some n) old mid a b → TakesSome t left faults place limit number (Some m) mid new b c →
      TakesSome t left faults place limit number (Some (n + m)) old new a c
  took-more number n m old mid new a b c x y = record {
    more = x.more ++ y.more;
    adds = gives-more t left faults place limit number old mid new a b c x.more y.more x.adds y.adds;
    counted = count-more (Some n) (Some m) x.more y.more (end_of_feed mid) (end_of_feed new) x.counted y.counted y.adds.later (λ e is. ap end_of_feed (y.adds.ended e is).0 ∙ is);
  }

  -- a feed that has ended has given no more than that many
  pub took-fewer : (number : ℕ) (n m : ℕ) (old new : Feed S) (a b : List Posted) → is_none (end_of_feed new) ≡ false → n ≤ m → TakesSome t left faults place limit number (Some n) old new a b →
      TakesSome t left faults place limit number (Some m) old new a b
  took-fewer number n m old new a b ended less x = record { more = x.more; adds = x.adds; counted = count-fewer n m (length x.more) (end_of_feed new) ended less x.counted }

  pub took-start : (number : ℕ) (feed : Feed S) (seen : List Posted) → TakesSome t left faults place limit number (Some 0) feed feed seen seen
  took-start number feed seen = record { more = []; adds = gives-none t left faults place limit number feed seen; counted = zero-count (end_of_feed feed) }
    where
      zero-count : (end : Option FeedEnd) → IsCount (Some 0) 0 end
      zero-count None = refl
      zero-count (Some e) = omega arith

  pub took-still : (number : ℕ) (feed : Feed S) (a b : List Posted) → IsPrefix a b → own_of number b ≡ own_of number a → TakesSome t left faults place limit number (Some 0) feed feed a b
  took-still number feed a b p same = record { more = []; adds = gives-still t left faults place limit number feed a b p same; counted = none-counted (end_of_feed feed) }
    where
      none-counted : (end : Option FeedEnd) → IsCount (Some 0) 0 end
      none-counted None = refl
      none-counted (Some e) = omega arith

  -- what an answer comes to where more was seen before it
  pub took-after : {A E : Type 0} (result : Result A E) (number m : ℕ) (old new : Feed S) (a b c : List Posted) → m ≡ number → IsPrefix a b → own_of number b ≡ own_of number a →
      OnOk result (TakesSome t left faults place limit m (Some 1) old new b c) → OnOk result (TakesSome t left faults place limit number (Some 1) old new a c)
  took-after (Ok x) number m old new a b c is p same took =
      took-more number 0 1 old old new a b c (took-still number old a b p same) (subst (λ (n : ℕ). TakesSome t left faults place limit n (Some 1) old new b c) is took)
  took-after (Err e) number m old new a b c is p same took = tt

  pub any-start : (number : ℕ) (feed : Feed S) (seen : List Posted) → TakesAny t left faults place limit number feed feed seen seen
  any-start number feed seen = record { more = []; adds = gives-none t left faults place limit number feed seen }

  pub any-more : (number : ℕ) (count : Option ℕ) (old mid new : Feed S) (a b c : List Posted) → TakesAny t left faults place limit number old mid a b → TakesSome t left faults place limit number count mid new b c →
      TakesAny t left faults place limit number old new a c
  any-more number count old mid new a b c x y = record { more = x.more ++ y.more; adds = gives-more t left faults place limit number old mid new a b c x.more y.more x.adds y.adds }

  pub any-all : (number : ℕ) (old new : Feed S) (a b : List Posted) → is_none (end_of_feed new) ≡ false → TakesAny t left faults place limit number old new a b → TakesSome t left faults place limit number None old new a b
  any-all number old new a b ended x = record { more = x.more; adds = x.adds; counted = count-any (length x.more) (end_of_feed new) ended }

  -- ---- one frame, as the calls of its function say it

  pub none-of : (kept : Option ℕ) → is_some kept ≡ false → kept ≡ None
  none-of None e = refl
  none-of (Some n) e = cc

  full-end : (kept : Option ℕ) (end : Option FeedEnd) → is_some kept ≡ true → is_none (end_with kept end) ≡ false
  full-end None end e = cc
  full-end (Some n) end e = refl

  going-of : (P : Type 0) (end : Option FeedEnd) (step : FeedStep) → end_of step ≡ None → ((e : FeedEnd) → end ≡ Some e → P × (end_of step ≡ Some e)) → end ≡ None
  going-of P None step none again = refl
  going-of P (Some e) step none again = absurd (cc (sym none ∙ (again e refl).1))

  -- a feed that a full history broke off
  pub took-full : (number : ℕ) (old : Feed S) (r : Reader S) (k : Option ℕ) (seen : List Posted) → record { reader = r; kept = k } ≡ old → is_some k ≡ true →
      TakesSome t left faults place limit number (Some 1) old old seen seen
  took-full number old r k seen is full =
      took-none number old seen (subst (λ (f : Feed S). is_none (end_of_feed f) ≡ false) is (full-end k r.told.end full))

  -- an answer without an update
  pub took-arm : (number : ℕ) (old : Feed S) (r : Reader S) (k : Option ℕ) (r' : Reader S) (seen : List Posted) (step : FeedStep) → record { reader = r; kept = k } ≡ old → k ≡ None → updates (handed_out step) ≡ [] →
      ((start : Reader S) (steps : List FrameStep) → HandsOut t left faults place start r steps → HandsOut t left faults place start r' (steps ++ handed_out step)) →
      ((end : FeedEnd) → r.told.end ≡ Some end → (r' ≡ r) × (end_of step ≡ Some end)) → r'.told.end ≡ end_of step →
      r'.told.feed_no ≡ r.told.feed_no → r'.told.router ≡ r.told.router → Passes r r' (handed_out step) →
      TakesSome t left faults place limit number (Some 1) old (record { reader = r'; kept = k }) seen seen
  took-arm number old r k r' seen step is none no-update handed again end feed_no router passes =
      let f : Feed S = record { reader = r; kept = k } in
      subst (λ (x : Feed S). TakesSome t left faults place limit number (Some 1) x (record { reader = r'; kept = k }) seen seen) is
      (took-step number f (record { reader = r'; kept = k }) seen seen step none end
      (gives-whole t left faults place limit number f (record { reader = r'; kept = k }) seen seen step (prefix_self seen) none none handed again feed_no router
      (sym (ap (λ (xs : List (RouterId × Op)). own_of number seen ++ entries_by r.told.feed_no xs) no-update ∙ append-nil (own_of number seen))) passes))

  -- an accepted frame
  pub took-accepted : (number : ℕ) (old : Feed S) (r : Reader S) (k : Option ℕ) (r' : Reader S) (new : Feed S) (seen-before seen : List Posted) (step : FeedStep) (ops : List (RouterId × Op)) (skipped : ℕ) (result : Result Bool OutOfMemory) →
      record { reader = r; kept = k } ≡ old → k ≡ None → step ≡ answers.Ops ops skipped → IsPrefix seen-before seen →
      ((start : Reader S) (steps : List FrameStep) → HandsOut t left faults place start r steps → HandsOut t left faults place start r' (steps ++ handed_out step)) →
      ((end : FeedEnd) → r.told.end ≡ Some end → (r' ≡ r) × (end_of step ≡ Some end)) → r'.told.end ≡ end_of step →
      r'.told.updates ≡ r.told.updates + length (updates (handed_out step)) →
      r'.told.feed_no ≡ r.told.feed_no → r'.told.router ≡ r.told.router → new.reader ≡ r' → Passes r r' (handed_out step) →
      IfOk result (λ more. HasTaken limit number more new.kept r'.told seen-before seen ops) →
      OnOk result (TakesSome t left faults place limit number (Some 1) old new seen-before seen)
  took-accepted number old r k r' new seen-before seen step ops skipped result is none step-is begins handed again end count feed_no router reader passes took =
      let f : Feed S = record { reader = r; kept = k } in
      let no-end : end_of step ≡ None = ap end_of step-is in
      subst (λ (x : Feed S). OnOk result (TakesSome t left faults place limit number (Some 1) x new seen-before seen)) is
      (took-ops number f new seen-before seen ops skipped r' result begins none (going-of (r' ≡ r) r.told.end step no-end again) reader (end ∙ no-end)
      (count ∙ ap (λ (s : FeedStep). r.told.updates + length (updates (handed_out s))) step-is)
      (λ start steps h. subst (λ (s : FeedStep). HandsOut t left faults place start r' (steps ++ handed_out s)) step-is (handed start steps h))
      feed_no router (subst (λ (s : FeedStep). Passes r r' (handed_out s)) step-is passes) took)

  pub reads-arm : (old : Feed S) (r : Reader S) (k : Option ℕ) (r' new : Reader S) (step : FeedStep) → record { reader = r; kept = k } ≡ old → new ≡ r' →
      ((start : Reader S) (steps : List FrameStep) → HandsOut t left faults place start r steps → HandsOut t left faults place start r' (steps ++ handed_out step)) →
      r'.told.router ≡ r.told.router → ReadsOn t left faults place old.reader new
  reads-arm old r k r' new step is same handed router =
      subst (λ (x : Feed S). ReadsOn t left faults place x.reader new) is
      (subst (λ (x : Reader S). ReadsOn t left faults place r x) (sym same) (record { more = handed_out step; on = handed; router = router }))

  -- the reader's answer was wanting
  pub reads-wait : (old : Feed S) (r : Reader S) (k : Option ℕ) (r' : Reader S) → record { reader = r; kept = k } ≡ old →
      ((start : Reader S) (steps : List FrameStep) → HandsOut t left faults place start r steps → HandsOut t left faults place start r' steps) →
      r'.told.router ≡ r.told.router → ReadsOn t left faults place old.reader r'
  reads-wait old r k r' is waits router =
      subst (λ (x : Feed S). ReadsOn t left faults place x.reader r') is (record {
        more = [];
        on = λ start steps h. subst (λ (xs : List FrameStep). HandsOut t left faults place start r' xs) (sym (append-nil steps)) (waits start steps h);
        router = router;
      })

  -- ---- where memory was wanting

  -- the reader's answer was wanting
  pub first-none : (number : ℕ) (old : Feed S) (r : Reader S) (k : Option ℕ) (r' : Reader S) (seen : List Posted) → record { reader = r; kept = k } ≡ old → k ≡ None →
      ((start : Reader S) (steps : List FrameStep) → HandsOut t left faults place start r steps → HandsOut t left faults place start r' steps) →
      ((end : FeedEnd) → r.told.end ≡ Some end → r' ≡ r) →
      GivesFirst t left faults place limit number (Some 1) old (record { reader = r'; kept = k }) seen seen
  first-none number old r k r' seen is none waits same =
      let f : Feed S = record { reader = r; kept = k } in
      subst (λ (x : Feed S). GivesFirst t left faults place limit number (Some 1) x (record { reader = r'; kept = k }) seen seen) is (record {
        kept = none;
        unbroken = none;
        more = [];
        within = omega arith;
        later = later-nil (end_of_feed f);
        ended = λ end e. ap (λ (q : Reader S). record { reader = q; kept = k }) (same end (sym (kept-end k r.told.end none) ∙ e));
        reads = λ start steps h. subst (λ (xs : List FrameStep). HandsOut t left faults place start r' xs) (sym (append-nil steps)) (waits start steps h);
        took = record { n = 0; few = omega arith; grows = sym (append-nil (own_of number seen)) };
      })

  -- one of a frame's updates was refused
  pub first-ops : (number : ℕ) (old : Feed S) (r : Reader S) (k : Option ℕ) (r' : Reader S) (new : Feed S) (seen-before seen : List Posted) (step : FeedStep) (ops : List (RouterId × Op)) (skipped : ℕ) (result : Result Bool OutOfMemory) →
      record { reader = r; kept = k } ≡ old → k ≡ None → step ≡ answers.Ops ops skipped →
      ((start : Reader S) (steps : List FrameStep) → HandsOut t left faults place start r steps → HandsOut t left faults place start r' (steps ++ handed_out step)) →
      ((end : FeedEnd) → r.told.end ≡ Some end → (r' ≡ r) × (end_of step ≡ Some end)) →
      r'.told.feed_no ≡ r.told.feed_no → new.reader ≡ r' → OnErr result (new.kept ≡ None) →
      OnErr result (TookFirst number r'.told.feed_no seen-before seen ops) →
      OnErr result (GivesFirst t left faults place limit number (Some 1) old new seen-before seen)
  first-ops number old r k r' new seen-before seen step ops skipped (Ok b) is none step-is handed again feed_no reader going took = tt
  first-ops number old r k r' new seen-before seen step ops skipped (Err e) is none step-is handed again feed_no reader going took =
      let f : Feed S = record { reader = r; kept = k } in
      let no-end : end_of_feed f ≡ None = kept-end k r.told.end none ∙ going-of (r' ≡ r) r.told.end step (ap end_of step-is) again in
      let same : ops ++ [] ≡ ops = append-nil ops in
      let first : TookFirst number r.told.feed_no seen-before seen ops = subst (λ (m : ℕ). TookFirst number m seen-before seen ops) feed_no took in
      subst (λ (x : Feed S). GivesFirst t left faults place limit number (Some 1) x new seen-before seen) is (record {
        kept = none;
        unbroken = going;
        more = Accepted ops skipped ∷ [];
        within = omega arith;
        later = subst (λ (o : Option FeedEnd). IsLater o (Accepted ops skipped ∷ [])) (sym no-end) tt;
        ended = λ end e. absurd (cc (sym no-end ∙ e));
        reads = λ start steps h.
            subst (λ (q : Reader S). HandsOut t left faults place start q (steps ++ Accepted ops skipped ∷ [])) (sym reader)
            (subst (λ (s : FeedStep). HandsOut t left faults place start r' (steps ++ handed_out s)) step-is (handed start steps h));
        took = subst (λ (xs : List (RouterId × Op)). TookFirst number r.told.feed_no seen-before seen xs) (sym same) first;
      })

  -- frames before that were taken whole
  pub first-more : (number : ℕ) (count all-count : Option ℕ) (old mid new : Feed S) (a b c : List Posted) (xs : List FrameStep) → Gives t left faults place limit number old mid a b xs →
      (y : GivesFirst t left faults place limit number count mid new b c) → IsWithin all-count (length xs + length y.more) → GivesFirst t left faults place limit number all-count old new a c
  first-more number count all-count old mid new a b c xs x y within =
      let n : ℕ = y.took.n in
      let unbroken-before : old.kept ≡ None = unbroken t left faults place limit number old mid a b xs x y.kept in
      let all : x.ops ≡ updates xs = x.whole y.kept in
      let parts : updates (xs ++ y.more) ≡ updates xs ++ updates y.more = updates-append xs y.more in
      let len : length (updates (xs ++ y.more)) ≡ length (updates xs) + length (updates y.more) = ap length parts ∙ length-append (updates xs) (updates y.more) in
      let front : take (length (updates xs) + n) (updates (xs ++ y.more)) ≡ updates xs ++ take n (updates y.more) =
      ap (λ z. take (length (updates xs) + n) z) parts ∙ take-append-add (updates xs) (updates y.more) n in
      let few : n ≤ length (updates y.more) = y.took.few in
      record {
        kept = unbroken-before;
        unbroken = y.unbroken;
        more = xs ++ y.more;
        within = subst (λ (n : ℕ). IsWithin all-count n) (sym (length-append xs y.more)) within;
        later = later-more (end_of_feed old) (end_of_feed mid) xs y.more x.later (λ e is. ap end_of_feed (x.ended e is).0 ∙ is) y.later;
        ended = λ e is. y.ended e (ap end_of_feed (x.ended e is).0 ∙ is) ∙ (x.ended e is).0;
        reads = λ start steps h.
            let st : Stands t left faults place limit a start old steps (updates steps) = record {
              reads = h;
              took = subst (λ (o : Option ℕ). TookOf limit a o steps (updates steps)) (sym unbroken-before) refl;
              unended = λ m is. absurd (cc (sym unbroken-before ∙ is));
            } in
            subst (λ (zs : List FrameStep). HandsOut t left faults place start new.reader zs) (append_assoc steps xs y.more)
            (y.reads start (steps ++ xs) (x.stands start steps (updates steps) st).reads);
        took = record {
          n = length (updates xs) + n;
          few = omega (arith, len, few);
          grows = y.took.grows ∙ ap (λ m. own_of number b ++ entries_by m (take n (updates y.more))) x.feed_no
              ∙ ap (λ z. z ++ entries_by old.reader.told.feed_no (take n (updates y.more))) (x.grows ∙ ap (λ z. own_of number a ++ entries_by old.reader.told.feed_no z) all)
              ∙ append_assoc (own_of number a) (entries_by old.reader.told.feed_no (updates xs)) (entries_by old.reader.told.feed_no (take n (updates y.more)))
              ∙ ap (λ z. own_of number a ++ z) (sym (entries_by-append old.reader.told.feed_no (updates xs) (take n (updates y.more))) ∙ ap (λ z. entries_by old.reader.told.feed_no z) (sym front));
        };
      }

  -- and where memory was wanting after more was seen
  pub first-still : {A E : Type 0} (result : Result A E) (number : ℕ) (feed : Feed S) (a b : List Posted) → feed.kept ≡ None → own_of number b ≡ own_of number a →
      OnErr result (GivesFirst t left faults place limit number (Some 1) feed feed a b)
  first-still (Ok x) number feed a b none same = tt
  first-still (Err e) number feed a b none same = record {
    kept = none;
    unbroken = none;
    more = [];
    within = omega arith;
    later = later-nil (end_of_feed feed);
    ended = λ end is. refl;
    reads = λ start steps handed. subst (λ (xs : List FrameStep). HandsOut t left faults place start feed.reader xs) (sym (append-nil steps)) handed;
    took = record { n = 0; few = omega arith; grows = same ∙ sym (append-nil (own_of number a)) };
  }

  pub first-after : {A E : Type 0} (result : Result A E) (number m : ℕ) (old new : Feed S) (a b c : List Posted) → m ≡ number → IsPrefix a b → own_of number b ≡ own_of number a →
      OnErr result (GivesFirst t left faults place limit m (Some 1) old new b c) → OnErr result (GivesFirst t left faults place limit number (Some 1) old new a c)
  first-after (Ok x) number m old new a b c is p same first = tt
  first-after (Err e) number m old new a b c is p same first =
      let here : GivesFirst t left faults place limit number (Some 1) old new b c = subst (λ (n : ℕ). GivesFirst t left faults place limit n (Some 1) old new b c) is first in
      let one : length here.more ≤ 1 = here.within in
      first-more number (Some 1) (Some 1) old old new a b c [] (gives-still t left faults place limit number old a b p same) here (omega (arith, one))

-- ---- one call, as its function says it

abbrev pub answered : Bool → Result Bool OutOfMemory
answered more = Ok more

module _ {S : Type 0} (lock : Lock) (left : S → Option (List ℕ)) (faults place : S → ℕ) where
  -- a call that was refused
  pub takes-broke : {A E : Type 0} (result : Result A E) (count : Option ℕ) (old new : Caller) (feed feed' : Feed S) → IsErr result → SawMore old new → ReadsOn lock.setup.basis.topology left faults place feed.reader feed'.reader →
      GivesFirst lock.setup.basis.topology left faults place lock.setup.basis.limit old.number count feed feed' old.seen new.seen → Takes lock left faults place result count old new feed feed'
  takes-broke (Ok o) count old new feed feed' is saw reads first = absurd (cc (is))
  takes-broke (Err e) count old new feed feed' is saw reads first = record { saw = saw; reads = reads; taken = tt; first = first }

  -- an answer without an update
  pub takes-arm : (more : Bool) (seat : Caller) (old : Feed S) (r : Reader S) (k : Option ℕ) (r' : Reader S) (step : FeedStep) → record { reader = r; kept = k } ≡ old → is_some k ≡ false → updates (handed_out step) ≡ [] →
      ((start : Reader S) (steps : List FrameStep) → HandsOut lock.setup.basis.topology left faults place start r steps → HandsOut lock.setup.basis.topology left faults place start r' (steps ++ handed_out step)) →
      ((end : FeedEnd) → r.told.end ≡ Some end → (r' ≡ r) × (end_of step ≡ Some end)) → r'.told.end ≡ end_of step →
      r'.told.feed_no ≡ r.told.feed_no → r'.told.router ≡ r.told.router → Advances step r r' → r'.limit ≡ r.limit →
      Takes lock left faults place (answered more) (Some 1) seat seat old (record { reader = r'; kept = k })
  takes-arm more seat old r k r' step is none no-update handed again end feed_no router advances limit = record {
    saw = saw-none seat;
    reads = reads-arm lock.setup.basis.topology left faults place lock.setup.basis.limit old r k r' r' step is refl handed router;
    taken = took-arm lock.setup.basis.topology left faults place lock.setup.basis.limit seat.number old r k r' seat.seen step is
        (none-of lock.setup.basis.topology left faults place lock.setup.basis.limit k none) no-update handed again end feed_no router (passes-step step r r' advances limit);
    first = tt;
  }

  -- a call after which more was seen
  pub takes-after : {A E : Type 0} (result : Result A E) (old mid new : Caller) (feed feed' : Feed S) → LooksOn old mid → Takes lock left faults place result (Some 1) mid new feed feed' → Takes lock left faults place result (Some 1) old new feed feed'
  takes-after result old mid new feed feed' looks takes = record {
    saw = saw-more old mid new looks.saw takes.saw;
    reads = takes.reads;
    taken = took-after lock.setup.basis.topology left faults place lock.setup.basis.limit result old.number mid.number feed feed' old.seen mid.seen new.seen (saw-number old mid looks.saw) looks.saw.seen looks.own takes.taken;
    first = first-after lock.setup.basis.topology left faults place lock.setup.basis.limit result old.number mid.number feed feed' old.seen mid.seen new.seen (saw-number old mid looks.saw) looks.saw.seen looks.own takes.first;
  }

  -- memory was wanting before a frame was asked for
  pub takes-still : {A E : Type 0} (result : Result A E) (old new : Caller) (feed : Feed S) → IsErr result → feed.kept ≡ None → LooksOn old new → Takes lock left faults place result (Some 1) old new feed feed
  takes-still result old new feed is none looks = record {
    saw = looks.saw;
    reads = reads-none lock.setup.basis.topology left faults place feed.reader;
    taken = none-ok result _ is;
    first = first-still lock.setup.basis.topology left faults place lock.setup.basis.limit result old.number feed old.seen new.seen none looks.own;
  }
