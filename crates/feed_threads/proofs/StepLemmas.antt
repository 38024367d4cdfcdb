-- What a reader's answer adds to what it has handed out.
use Rattle.std.proofs.Common.{◌≡◌, ℕ, ◌+◌, ◌<◌, ⊎_elim, List, [], ◌∷◌, ◌++◌, length, map, sum, Option, None, Some, Result, Ok, Err, IfOk, OnErr, refl, ap, sym, ◌∙◌, subst, arith, length-append, append_assoc, add-zero}
use Rattle.std.proofs.lemmas.Grind.{flat_map-append}
use Rattle.std.proofs.lemmas.List.{append-nil}
use Rattle.std.proofs.lemmas.List.Sums.{sum-map, sum_by-append}
use Rattle.std.specs.List.{All}
use Rattle.std.specs.Prelude.{IsOkAnd}
use Rattle.std.proofs.lemmas.List.Elements.{All-append, All-nil}
use Rattle.feed_model.specs.Feed.{IsToTableOf}
use Rattle.dn_io.specs.Faults.{Rose}
use Rattle.feed_model.specs.Steps.{FrameStep, Accepted, Refused, updates, refusals, skipped_of, ops_of, refused_of}
use Rattle.dn_model.specs.declared.entry.Op.{Op}
use Rattle.base.specs.declared.ids.RouterId.{RouterId}
use Rattle.base.specs.declared.memory.OutOfMemory.{OutOfMemory}
use Rattle.dn_model.specs.declared.topology.Topology.{Topology}
use Rattle.feed_model.specs.declared.feed_told.FeedEnd.{FeedEnd}
use Rattle.feed_model.specs.declared.feed_told.FeedTold.{FeedTold}
use Rattle.feed_model.specs.declared.feed_told.RefusedFrame.{RefusedFrame}
use Rattle.route_feed.specs.FeedReader.{AreOwnOps, Reader, IsAt, IsAnswered, IsOutcome, FaultsAtStep, FaultsAt, told_so_far, told_after, told_then, end_of}
use Rattle.route_feed.specs.declared.feed_step.FeedStep.{FeedStep}
use Rattle.route_feed.specs.declared.feed_step.FeedStep.TheVariants as answers
use Rattle.feed_threads.specs.Feeds.{handed_out, told_upto, StandsBy, CountsBy, HandsOut, ReadsOn}

-- ---- what is told

sum_push : (steps : List FrameStep) (s : FrameStep) → sum (map skipped_of (steps ++ s ∷ [])) ≡ sum (map skipped_of steps) + skipped_of s
sum_push steps s =
    omega (arith, sum-map skipped_of (steps ++ s ∷ []), sum_by-append skipped_of steps (s ∷ []), sum-map skipped_of steps, sum-map skipped_of (s ∷ []))

told_ops : (n : ℕ) (r : RouterId) (steps : List FrameStep) (ops : List (RouterId × Op)) (skipped : ℕ) →
    told_after (told_so_far n r steps) (answers.Ops ops skipped) ≡ told_so_far n r (steps ++ Accepted ops skipped ∷ [])
told_ops n r steps ops skipped =
    let u : length (updates (steps ++ Accepted ops skipped ∷ [])) ≡ length (updates steps) + length ops =
    ap length (flat_map-append ops_of steps (Accepted ops skipped ∷ [])) ∙ length-append (updates steps) (ops ++ []) ∙ ap (λ xs. length (updates steps) + length xs) (append-nil ops) in
    let k : sum (map skipped_of (steps ++ Accepted ops skipped ∷ [])) ≡ sum (map skipped_of steps) + skipped = sum_push steps (Accepted ops skipped) in
    let q : refusals (steps ++ Accepted ops skipped ∷ []) ≡ refusals steps =
    flat_map-append refused_of steps (Accepted ops skipped ∷ []) ∙ append-nil (refusals steps) in
    rw (u, k, q) refl

told_refused : (n : ℕ) (r : RouterId) (steps : List FrameStep) (o m c : ℕ) →
    let refused : RefusedFrame = record { offset = o; at = m; cause = c } in
    told_after (told_so_far n r steps) (answers.Refused o m c) ≡ told_so_far n r (steps ++ Refused refused ∷ [])
told_refused n r steps o m c =
    let refused : RefusedFrame = record { offset = o; at = m; cause = c } in
    let u : length (updates (steps ++ Refused refused ∷ [])) ≡ length (updates steps) =
    ap length (flat_map-append ops_of steps (Refused refused ∷ []) ∙ append-nil (updates steps)) in
    let k : sum (map skipped_of (steps ++ Refused refused ∷ [])) ≡ sum (map skipped_of steps) + 0 = sum_push steps (Refused refused) in
    let q : refusals (steps ++ Refused refused ∷ []) ≡ refusals steps ++ refused ∷ [] = flat_map-append refused_of steps (Refused refused ∷ []) in
    rw (u, k, q, add-zero) refl

told-on : (n : ℕ) (r : RouterId) (steps : List FrameStep) (step : FeedStep) →
    told_after (told_so_far n r steps) step ≡ told_upto n r (steps ++ handed_out step) (end_of step)
told-on n r steps (answers.Ops ops skipped) = told_ops n r steps ops skipped
told-on n r steps (answers.Refused o m c) = told_refused n r steps o m c
told-on n r steps answers.End = rw (append-nil steps) refl
told-on n r steps (answers.CutShort o) = rw (append-nil steps) refl
told-on n r steps (answers.Lost o c) = rw (append-nil steps) refl
told-on n r steps answers.TooLong = rw (append-nil steps) refl
told-on n r steps answers.Faulted = rw (append-nil steps) refl

-- ---- counts and bytes

rose : (m : ℕ) → Rose 0 m → 0 < m
rose m r = ⊎_elim (λ l. l) (λ e. omega (arith, e)) r

counts-on : (step : FeedStep) (before after : ℕ) → before ≡ 0 → FaultsAtStep step before after → CountsBy (end_of step) after
counts-on (answers.Ops ops skipped) before after none f = f ∙ none
counts-on (answers.Refused o m c) before after none f = f ∙ none
counts-on answers.End before after none f = f ∙ none
counts-on (answers.CutShort o) before after none f = f ∙ none
counts-on (answers.Lost o c) before after none f = f ∙ none
counts-on answers.TooLong before after none f = f ∙ none
counts-on answers.Faulted before after none f = rose after (subst (λ (n : ℕ). Rose n after) none f)

stands-on : {S : Type 0} (t : Topology) (step : FeedStep) (new : Reader S) (left : Option (List ℕ)) (bytes : List ℕ) (steps : List FrameStep) →
    IsAnswered t step new left bytes steps → StandsBy (end_of step) t new left bytes (steps ++ handed_out step)
stands-on t (answers.Ops ops skipped) new left bytes steps is = is
stands-on t (answers.Refused o m c) new left bytes steps is = is
stands-on t answers.End new left bytes steps is = rw (append-nil steps) is
stands-on t (answers.CutShort o) new left bytes steps is = rw (append-nil steps) is
stands-on t (answers.Lost o c) new left bytes steps is = rw (append-nil steps) is
stands-on t answers.TooLong new left bytes steps is = rw (append-nil steps) is
stands-on t answers.Faulted new left bytes steps is = rw (append-nil steps) is

-- an end hands nothing out
pub none-handed : (step : FeedStep) (end : FeedEnd) → end_of step ≡ Some end → handed_out step ≡ []
none-handed (answers.Ops ops skipped) end is = cc
none-handed (answers.Refused o m c) end is = cc
none-handed answers.End end is = refl
none-handed (answers.CutShort o) end is = refl
none-handed (answers.Lost o c) end is = refl
none-handed answers.TooLong end is = refl
none-handed answers.Faulted end is = refl

updates-after : (told : FeedTold) (step : FeedStep) → (told_after told step).updates ≡ told.updates + length (updates (handed_out step))
updates-after told (answers.Ops ops skipped) = ap (λ (xs : List (RouterId × Op)). told.updates + length xs) (sym (append-nil ops))
updates-after told (answers.Refused o m c) = sym (add-zero told.updates)
updates-after told answers.End = sym (add-zero told.updates)
updates-after told (answers.CutShort o) = sym (add-zero told.updates)
updates-after told (answers.Lost o c) = sym (add-zero told.updates)
updates-after told answers.TooLong = sym (add-zero told.updates)
updates-after told answers.Faulted = sym (add-zero told.updates)

end-after : (told : FeedTold) (step : FeedStep) → told.end ≡ None → (told_after told step).end ≡ end_of step
end-after told (answers.Ops ops skipped) none = none
end-after told (answers.Refused o m c) none = none
end-after told answers.End none = refl
end-after told (answers.CutShort o) none = refl
end-after told (answers.Lost o c) none = refl
end-after told answers.TooLong none = refl
end-after told answers.Faulted none = refl

-- ---- whose tables updates change

own-of-step : (t : Topology) (r : RouterId) (step : FeedStep) → AreOwnOps t r step → All (IsToTableOf t r) (updates (handed_out step))
own-of-step t r (answers.Ops ops skipped) own = subst (All (IsToTableOf t r)) (sym (append-nil ops)) own
own-of-step t r (answers.Refused o m c) own = All-nil (IsToTableOf t r)
own-of-step t r answers.End own = All-nil (IsToTableOf t r)
own-of-step t r (answers.CutShort o) own = All-nil (IsToTableOf t r)
own-of-step t r (answers.Lost o c) own = All-nil (IsToTableOf t r)
own-of-step t r answers.TooLong own = All-nil (IsToTableOf t r)
own-of-step t r answers.Faulted own = All-nil (IsToTableOf t r)

-- one step more of a device's feed changes its tables alone
own-on : (t : Topology) (r : RouterId) (steps : List FrameStep) (step : FeedStep) → All (IsToTableOf t r) (updates steps) → AreOwnOps t r step →
    All (IsToTableOf t r) (updates (steps ++ handed_out step))
own-on t r steps step before own =
    subst (All (IsToTableOf t r)) (sym (flat_map-append ops_of steps (handed_out step)))
    (All-append (IsToTableOf t r) (updates steps) (updates (handed_out step)) before (own-of-step t r step own))

-- ---- a call of the reader

module _ {S : Type 0} (t : Topology) (left : S → Option (List ℕ)) (faults place : S → ℕ) where
  -- what a reader's call says
  pub record Answers (old new : Reader S) (result : Result FeedStep OutOfMemory) : Type 0 where
    pub outcome : (bytes : List ℕ) (steps : List FrameStep) → IsAt t old (left old.source) bytes steps → IsOutcome t result new (left new.source) bytes steps
    pub again : (end : FeedEnd) → old.told.end ≡ Some end → (new ≡ old) × IsOkAnd result (λ step. end_of step ≡ Some end)
    pub told : old.told.end ≡ None → new.told ≡ told_then old.told result
    pub counts : old.told.end ≡ None → FaultsAt result (faults old.source) (faults new.source)
    pub limit : new.limit ≡ old.limit
    pub router : new.told.router ≡ old.told.router
    pub feed_no : new.told.feed_no ≡ old.told.feed_no
    pub stays : place new.source ≡ place old.source
    pub own : IfOk result (AreOwnOps t old.told.router)

  handed-going : (old new : Reader S) (step : FeedStep) → Answers old new (Ok step) → old.told.end ≡ None → (start : Reader S) (steps : List FrameStep) →
      HandsOut t left faults place start old steps → HandsOut t left faults place start new (steps ++ handed_out step)
  handed-going old new step a going start steps h =
      let told : new.told ≡ told_upto old.told.feed_no old.told.router (steps ++ handed_out step) (end_of step) =
      a.told going ∙ ap (λ (x : FeedTold). told_after x step) (h.told ∙ ap (λ (e : Option FeedEnd). told_upto old.told.feed_no old.told.router steps e) going)
      ∙ told-on old.told.feed_no old.told.router steps step in
      let end : new.told.end ≡ end_of step = ap (λ (x : FeedTold). x.end) told in
      let none : faults old.source ≡ 0 = subst (λ (e : Option FeedEnd). CountsBy e (faults old.source)) going h.counts in
      record {
        feed_no = a.feed_no ∙ h.feed_no;
        router = a.router ∙ h.router;
        limit = a.limit ∙ h.limit;
        keeps_place = a.stays ∙ h.keeps_place;
        told = told
            ∙ ap (λ (n : ℕ). told_upto n old.told.router (steps ++ handed_out step) (end_of step)) (sym a.feed_no)
            ∙ ap (λ (r : RouterId). told_upto new.told.feed_no r (steps ++ handed_out step) (end_of step)) (sym a.router)
            ∙ ap (λ (e : Option FeedEnd). told_upto new.told.feed_no new.told.router (steps ++ handed_out step) e) (sym end);
        counts = subst (λ (e : Option FeedEnd). CountsBy e (faults new.source)) (sym end) (counts-on step (faults old.source) (faults new.source) none (a.counts going));
        own = subst (λ (r : RouterId). All (IsToTableOf t r) (updates (steps ++ handed_out step))) (sym a.router)
            (own-on t old.told.router steps step h.own a.own);
        stands = λ bytes is.
            subst (λ (e : Option FeedEnd). StandsBy e t new (left new.source) bytes (steps ++ handed_out step)) (sym end)
            (stands-on t step new (left new.source) bytes steps
            (a.outcome bytes steps (subst (λ (e : Option FeedEnd). StandsBy e t old (left old.source) bytes steps) going (h.stands bytes is))));
      }

  handed-ended : (old new : Reader S) (step : FeedStep) (end : FeedEnd) → Answers old new (Ok step) → old.told.end ≡ Some end → (start : Reader S) (steps : List FrameStep) →
      HandsOut t left faults place start old steps → HandsOut t left faults place start new (steps ++ handed_out step)
  handed-ended old new step end a is start steps h =
      let none : handed_out step ≡ [] = none-handed step end (a.again end is).1 in
      subst (λ (xs : List FrameStep). HandsOut t left faults place start new (steps ++ xs)) (sym none)
      (subst (λ (xs : List FrameStep). HandsOut t left faults place start new xs) (sym (append-nil steps))
      (subst (λ (r : Reader S). HandsOut t left faults place start r steps) (sym (a.again end is).0) h))

  handed-at : (end : Option FeedEnd) (old new : Reader S) (step : FeedStep) → Answers old new (Ok step) → old.told.end ≡ end → (start : Reader S) (steps : List FrameStep) →
      HandsOut t left faults place start old steps → HandsOut t left faults place start new (steps ++ handed_out step)
  handed-at None old new step a is = handed-going old new step a is
  handed-at (Some end) old new step a is = handed-ended old new step end a is

  pub handed-on : (old new : Reader S) (result : Result FeedStep OutOfMemory) → Answers old new result →
      IfOk result (λ step. (start : Reader S) (steps : List FrameStep) → HandsOut t left faults place start old steps → HandsOut t left faults place start new (steps ++ handed_out step))
  handed-on old new (Ok step) a = handed-at old.told.end old new step a refl
  handed-on old new (Err e) a = tt

  waits-at : (end : Option FeedEnd) (old new : Reader S) (e : OutOfMemory) → Answers old new (Err e) → old.told.end ≡ end → (start : Reader S) (steps : List FrameStep) →
      HandsOut t left faults place start old steps → HandsOut t left faults place start new steps
  waits-at (Some end) old new e a is start steps h = absurd ((a.again end is).1)
  waits-at None old new e a is start steps h =
      let told : new.told ≡ old.told = a.told is in
      record {
        feed_no = a.feed_no ∙ h.feed_no;
        router = a.router ∙ h.router;
        limit = a.limit ∙ h.limit;
        keeps_place = a.stays ∙ h.keeps_place;
        told = subst (λ (x : FeedTold). x ≡ told_upto x.feed_no x.router steps x.end) (sym told) h.told;
        counts = subst (λ (x : FeedTold). CountsBy x.end (faults new.source)) (sym told) (subst (λ (n : ℕ). CountsBy old.told.end n) (sym (a.counts is)) h.counts);
        own = subst (λ (r : RouterId). All (IsToTableOf t r) (updates steps)) (sym a.router) h.own;
        stands = λ bytes at.
            subst (λ (x : FeedTold). StandsBy x.end t new (left new.source) bytes steps) (sym told)
            (subst (λ (x : Option FeedEnd). StandsBy x t new (left new.source) bytes steps) (sym is)
            (a.outcome bytes steps (subst (λ (x : Option FeedEnd). StandsBy x t old (left old.source) bytes steps) is (h.stands bytes at))));
      }

  pub waits-on : (old new : Reader S) (result : Result FeedStep OutOfMemory) → Answers old new result →
      OnErr result ((start : Reader S) (steps : List FrameStep) → HandsOut t left faults place start old steps → HandsOut t left faults place start new steps)
  waits-on old new (Ok step) a = tt
  waits-on old new (Err e) a = waits-at old.told.end old new e a refl

  end-at : (end : Option FeedEnd) (old new : Reader S) (step : FeedStep) → Answers old new (Ok step) → old.told.end ≡ end → new.told.end ≡ end_of step
  end-at None old new step a is = ap (λ (x : FeedTold). x.end) (a.told is) ∙ end-after old.told step is
  end-at (Some end) old new step a is = ap (λ (r : Reader S). r.told.end) (a.again end is).0 ∙ is ∙ sym (a.again end is).1

  pub end-on : (old new : Reader S) (result : Result FeedStep OutOfMemory) → Answers old new result → IfOk result (λ step. new.told.end ≡ end_of step)
  end-on old new (Ok step) a = end-at old.told.end old new step a refl
  end-on old new (Err e) a = tt

  counted-at : (end : Option FeedEnd) (old new : Reader S) (step : FeedStep) → Answers old new (Ok step) → old.told.end ≡ end → new.told.updates ≡ old.told.updates + length (updates (handed_out step))
  counted-at None old new step a is = ap (λ (x : FeedTold). x.updates) (a.told is) ∙ updates-after old.told step
  counted-at (Some end) old new step a is =
      ap (λ (r : Reader S). r.told.updates) (a.again end is).0 ∙ sym (add-zero old.told.updates)
      ∙ ap (λ (xs : List FrameStep). old.told.updates + length (updates xs)) (sym (none-handed step end (a.again end is).1))

  pub counted-on : (old new : Reader S) (result : Result FeedStep OutOfMemory) → Answers old new result → IfOk result (λ step. new.told.updates ≡ old.told.updates + length (updates (handed_out step)))
  counted-on old new (Ok step) a = counted-at old.told.end old new step a refl
  counted-on old new (Err e) a = tt

  pub again-on : (old new : Reader S) (result : Result FeedStep OutOfMemory) → Answers old new result → (end : FeedEnd) → old.told.end ≡ Some end → (new ≡ old) × IfOk result (λ step. end_of step ≡ Some end)
  again-on old new (Ok step) a end is = a.again end is
  again-on old new (Err e) a end is = absurd ((a.again end is).1)

  -- ---- reading on

  pub reads-none : (reader : Reader S) → ReadsOn t left faults place reader reader
  reads-none reader = record {
    more = [];
    on = λ start steps h. subst (λ (xs : List FrameStep). HandsOut t left faults place start reader xs) (sym (append-nil steps)) h;
    router = refl;
  }

  pub reads-more : (old mid new : Reader S) → ReadsOn t left faults place old mid → ReadsOn t left faults place mid new → ReadsOn t left faults place old new
  reads-more old mid new a b = record {
    more = a.more ++ b.more;
    on = λ start steps h. subst (λ (xs : List FrameStep). HandsOut t left faults place start new xs) (append_assoc steps a.more b.more) (b.on start (steps ++ a.more) (a.on start steps h));
    router = b.router ∙ a.router;
  }
