-- Words, files and the states of the calls fix what a run comes to.
use Rattle.std.proofs.Common.{◌≡◌, ℕ, suc, Bool, true, false, IsSomeAnd, MatchOption, List, [], ◌∷◌, ◌++◌, All, Option, None, Some, refl, ap, sym, ◌∙◌, ◌⊎◌, inl, inr, subst, nat_lt, ◌+◌, length, if◌then◌else◌}
use Rattle.std.proofs.lemmas.List.{append_cancel_right}
use Rattle.std.proofs.lemmas.List.Elements.{All-head, All-tail}
use Rattle.dn_io.specs.Calls.{Call, CallState, Out, Refused, Back}
use Rattle.dn_io.specs.Files.{Files, bytes_of}
use Rattle.feed_model.specs.Feed.{IsReading, IsFaultedReading}
use Rattle.feed_model.specs.Frames.{frames_text, rest_kind}
use Rattle.dn_formats.specs.Lawful.{IsWhole, IsKept}
use Rattle.feed_model.specs.Steps.{FeedRead, updates, told_of}
use Rattle.dn_formats.specs.Words.{FeedWords}
use Rattle.feed_model.proofs.FeedLemmas.{reading_once, faulted_once}
use Rattle.dn_formats.proofs.LawfulLemmas.{whole}
use Rattle.dn_model.specs.declared.entry.Entry.{Entry}
use Rattle.base.specs.declared.ids.RouterId.{RouterId}
use Rattle.dn_model.specs.declared.topology.Topology.{Topology}
use Rattle.dn_formats.specs.declared.error_line.ErrorLine.{ErrorLine}
use Rattle.dn_formats.specs.declared.error_line.ErrorLine.TheVariants as errors
use Rattle.dn_formats.specs.declared.script.Line.{Line}
use Rattle.feed_model.specs.declared.feed_told.FeedEnd.TheVariants as ends
use Rattle.feed_model.specs.declared.feed_told.FeedTold.{FeedTold}
use Rattle.dn_run.specs.Alike.{AreAlike, AreRunsOfOne}
use Rattle.dn_run.specs.CommandLine.{CommandWords, Make, Run, command_of}
use Rattle.dn_run.specs.Ending.{Ruled}
use Rattle.dn_run.specs.Limits.{feed_limit, history_limit}
use Rattle.dn_run.specs.Run.{AreReadOf, Fails, Follows, FromCommand, FromFeeds, FromWords, IsErrorLine, IsReadOf, IsReadOfBytes, IsRunOf, IsToldOf, Knows, OnFeed, OnFile, OpenedFeed, Reads, Runs, Steps, all_well, some_faulted, steps_of, verdict_of}
use Rattle.dn_run.specs.Stage.{may_end_early, is_fault}
use Rattle.dn_run.specs.declared.status.Verdict.{Verdict}
use Rattle.dn_run.specs.declared.status.Verdict.TheVariants.{Done, Refusals, BadWords, ReadFault}
use Rattle.dn_run.proofs.MadeOnce.{ending-not-full, made-once, same-topology}

-- ---- a feed has one reading

same-read : (f g : FeedRead) → f.feed_no ≡ g.feed_no → f.router ≡ g.router → IsWhole f → IsWhole g → f.steps ≡ g.steps → f.end ≡ g.end → told_of f ≡ told_of g
same-read f g a b all every c d =
    let kept : f.kept ≡ g.kept = all ∙ ap (λ ss. length (updates ss)) c ∙ sym every in
    rw (a, b, kept, c, d) refl

-- no feed that a run read ends at a full history
bytes-not-full : (t : Topology) (bytes : List ℕ) (state : CallState) (f : FeedRead) → IsReadOfBytes t bytes state f → f.end ≡ ends.Full → ⊥
bytes-not-full t bytes Out f p full = p
bytes-not-full t bytes Refused f p full = p
bytes-not-full t bytes (Back false left) f p full = ending-not-full (rest_kind p.0.rest) (length (frames_text p.0.frames)) (nat_lt feed_limit (length bytes)) (sym p.0.ends ∙ full)
bytes-not-full t bytes (Back true None) f p full = p
bytes-not-full t bytes (Back true (Some left)) f p full = let other : ends.Faulted ≡ ends.Full = sym p.4 ∙ full in cc

not-full : (t : Topology) (file : Option (List ℕ)) (state : CallState) (f : FeedRead) → IsReadOf t file state f → f.end ≡ ends.Full → ⊥
not-full t None state f p full = p.1 full
not-full t (Some bytes) state f p full = bytes-not-full t bytes state f p full

same-feed : (t : Topology) (r : RouterId) (bytes : List ℕ) (state : CallState) (f g : FeedRead) → f.feed_no ≡ g.feed_no → f.router ≡ r → g.router ≡ r → IsWhole f → IsWhole g →
    IsReadOfBytes t bytes state f → IsReadOfBytes t bytes state g → told_of f ≡ told_of g
same-feed t r bytes Out f g number rf rg all every p q = absurd p
same-feed t r bytes Refused f g number rf rg all every p q = absurd p
same-feed t r bytes (Back false left) f g number rf rg all every p q =
    let once = reading_once t r bytes feed_limit f.steps g.steps f.end g.end
    (subst (λ x. IsReading t x bytes feed_limit f.steps f.end) rf p.0) (subst (λ x. IsReading t x bytes feed_limit g.steps g.end) rg q.0) in
    same-read f g number (rf ∙ sym rg) all every once.0 once.1
same-feed t r bytes (Back true None) f g number rf rg all every p q = absurd p
same-feed t r bytes (Back true (Some left)) f g number rf rg all every p q =
    let front : p.0 ≡ q.0 = append_cancel_right p.0 q.0 left (sym p.1 ∙ q.1) in
    let steps = faulted_once t r q.0 f.steps g.steps
    (subst (λ xs. IsFaultedReading t r xs f.steps) front (subst (λ x. IsFaultedReading t x p.0 f.steps) rf p.3)) (subst (λ x. IsFaultedReading t x q.0 g.steps) rg q.3) in
    same-read f g number (rf ∙ sym rg) all every steps (p.4 ∙ sym q.4)

-- feeds whose bytes are told
abbrev AllTold : List OpenedFeed → Type 0
AllTold [] = Unit {0}
AllTold (o ∷ os) = ((bytes : List ℕ) × (o.bytes ≡ Some bytes)) × AllTold os

told-push : (os : List OpenedFeed) (bytes : List ℕ) (state : CallState) → AllTold os → AllTold (os ++ record { bytes = Some bytes; state = state } ∷ [])
told-push [] bytes state told = ((bytes, refl), tt)
told-push (o ∷ os) bytes state told = (told.0, told-push os bytes state told.1)

record First (t : Topology) (h : List Entry) (n : ℕ) (r : RouterId) (rs : List RouterId) (o : OpenedFeed) (os : List OpenedFeed) (tolds : List FeedTold) : Type 0 where
  pub f : FeedRead
  pub fs : List FeedRead
  pub told : FeedTold
  pub rest : List FeedTold
  pub are : tolds ≡ told ∷ rest
  pub number : f.feed_no ≡ n
  pub router : f.router ≡ r
  pub read : IsReadOf t o.bytes o.state f
  pub whole_is : IsWhole f
  pub all_kept : All (IsKept history_limit h) fs
  pub told_is : IsToldOf o.bytes f told
  pub later : AreReadOf t (suc n) rs os fs rest

first-of : (t : Topology) (h : List Entry) (n : ℕ) (r : RouterId) (rs : List RouterId) (o : OpenedFeed) (os : List OpenedFeed) (fs : List FeedRead) (tolds : List FeedTold) →
    AreReadOf t n (r ∷ rs) (o ∷ os) fs tolds → All (IsKept history_limit h) fs → First t h n r rs o os tolds
first-of t h n r rs o os [] [] are kept = absurd are
first-of t h n r rs o os [] (u ∷ us) are kept = absurd are
first-of t h n r rs o os (f ∷ fs) [] are kept = absurd are
first-of t h n r rs o os (f ∷ fs) (u ∷ us) are kept = record {
  f = f;
  fs = fs;
  told = u;
  rest = us;
  are = refl;
  number = are.0;
  router = are.1;
  read = are.2;
  whole_is = whole history_limit h f (not-full t o.bytes o.state f are.2) (All-head (IsKept history_limit h) f fs kept);
  all_kept = All-tail (IsKept history_limit h) f fs kept;
  told_is = are.3;
  later = are.4;
}

none-of : (t : Topology) (n : ℕ) (fs : List FeedRead) (tolds : List FeedTold) → AreReadOf t n [] [] fs tolds → tolds ≡ []
none-of t n [] [] are = refl
none-of t n [] (u ∷ us) are = absurd are
none-of t n (f ∷ fs) [] are = absurd are
none-of t n (f ∷ fs) (u ∷ us) are = absurd are

same-told : (t : Topology) (r : RouterId) (file : Option (List ℕ)) (bytes : List ℕ) (state : CallState) (f g : FeedRead) (u v : FeedTold) → file ≡ Some bytes → f.feed_no ≡ g.feed_no → f.router ≡ r → g.router ≡ r → IsWhole f → IsWhole g →
    IsReadOf t file state f → IsToldOf file f u → IsReadOf t file state g → IsToldOf file g v → u ≡ v
same-told t r None bytes state f g u v is number rf rg all every p pu q qv = absurd (cc)
same-told t r (Some file) bytes state f g u v is number rf rg all every p pu q qv = pu ∙ same-feed t r file state f g number rf rg all every p q ∙ sym qv

same-tolds : (t : Topology) (h j : List Entry) (n : ℕ) (rs : List RouterId) (os : List OpenedFeed) (fs gs : List FeedRead) (us vs : List FeedTold) → AllTold os →
    AreReadOf t n rs os fs us → All (IsKept history_limit h) fs → AreReadOf t n rs os gs vs → All (IsKept history_limit j) gs → us ≡ vs
same-tolds t h j n [] [] fs gs us vs told p kept q also = none-of t n fs us p ∙ sym (none-of t n gs vs q)
same-tolds t h j n [] (o ∷ os) fs gs us vs told p kept q also = absurd p
same-tolds t h j n (r ∷ rs) [] fs gs us vs told p kept q also = absurd p
same-tolds t h j n (r ∷ rs) (o ∷ os) fs gs us vs told p kept q also =
    let a = first-of t h n r rs o os fs us p kept in
    let b = first-of t j n r rs o os gs vs q also in
    let head : a.told ≡ b.told = same-told t r o.bytes told.0.0 o.state a.f b.f a.told b.told told.0.1 (a.number ∙ sym b.number) a.router b.router a.whole_is b.whole_is a.read a.told_is b.read b.told_is in
    let tail : a.rest ≡ b.rest = same-tolds t h j (suc n) rs os a.fs b.fs a.rest b.rest told.1 a.later a.all_kept b.later b.all_kept in
    a.are ∙ ap (λ x. x ∷ a.rest) head ∙ ap (λ xs. b.told ∷ xs) tail ∙ sym b.are

-- ---- two runs step by step

both-lines : (calls : List Call) (due : Verdict) (error : ErrorLine) (v w : Verdict) (x y : List ℕ) → IsErrorLine (Ruled v x) calls due error → IsErrorLine (Ruled w y) calls due error → AreAlike v x w y
both-lines calls due error v w x y p q = (p.1.0 ∙ sym q.1.0, inl (p.1.1 ∙ sym q.1.1))

both-some : {A R : Type 0} (o : Option A) (P Q : A → Type 0) → ((a : A) → P a → Q a → R) → IsSomeAnd o P → IsSomeAnd o Q → R
both-some None P Q f p q = absurd p
both-some (Some a) P Q f p q = f a p q

both-files : {R : Type 0} (fs : Files) (name : List ℕ) (state : CallState) (F G : Type 0) (P Q : List ℕ → Type 0) → (F → G → R) → ((bytes : List ℕ) → P bytes → Q bytes → R) →
    OnFile (Some fs) name state F P → OnFile (Some fs) name state G Q → R
both-files fs name Out F G P Q f g p q = absurd p
both-files fs name Refused F G P Q f g p q = f p q
both-files fs name (Back true left) F G P Q f g p q = f p.0 q.0
both-files fs name (Back false left) F G P Q f g p q = both-some (bytes_of fs name) _ _ (λ bytes a b. g bytes a.1 b.1) p q

both-runs : (t : Topology) (routers : List RouterId) (scripts : List (List Line)) (opened : List OpenedFeed) (v w : Verdict) (x y : List ℕ) → AllTold opened →
    IsRunOf t routers scripts opened v x → IsRunOf t routers scripts opened w y → AreAlike v x w y
both-runs t routers scripts opened v w x y told p q =
    (p.verdict_is ∙ ap verdict_of (same-tolds t p.reported.history q.reported.history 1 routers opened p.feeds q.feeds p.tolds q.tolds told p.read p.reported.lawful.shuffle.kept q.read q.reported.lawful.shuffle.kept) ∙ sym q.verdict_is, inr (t, routers, scripts, opened, p, q))

both-opened : (fs : Files) (part : ℕ) (name : List ℕ) (opened : List OpenedFeed) (state : CallState) (more : List Call) (v w : Verdict) (x y : List ℕ) (P Q : List OpenedFeed → Type 0) →
    ((later : List OpenedFeed) → AllTold later → P later → Q later → AreAlike v x w y) → AllTold opened →
    OnFeed (Some fs) part name opened state more (Ruled v x) P → OnFeed (Some fs) part name opened state more (Ruled w y) Q → AreAlike v x w y
both-opened fs part name opened Out more v w x y P Q next told p q = absurd p
both-opened fs part name opened Refused more v w x y P Q next told p q = both-lines more ReadFault (errors.ReadPart part) v w x y p.1 q.1
both-opened fs part name opened (Back failed left) more v w x y P Q next told p q =
    both-some (bytes_of fs name) _ _ (λ bytes a b. next (opened ++ record { bytes = Some bytes; state = Back failed left } ∷ []) (told-push opened bytes (Back failed left) told) a b) p q

both-feeds : (fs : Files) (t : Topology) (routers : List RouterId) (scripts : List (List Line)) (opened : List OpenedFeed) (feeds : List (ℕ × FeedWords)) (calls : List Call) (v w : Verdict) (x y : List ℕ) → AllTold opened →
    FromFeeds (Some fs) t routers scripts opened feeds calls (Ruled v x) → FromFeeds (Some fs) t routers scripts opened feeds calls (Ruled w y) → AreAlike v x w y
both-feeds fs t routers scripts opened [] calls v w x y told p q = both-runs t routers scripts opened v w x y told p.1 q.1
both-feeds fs t routers scripts opened (feed ∷ feeds) [] v w x y told p q = absurd p
both-feeds fs t routers scripts opened (feed ∷ feeds) (call ∷ more) v w x y told p q =
    both-opened fs feed.0 feed.1.file opened call.state more v w x y (λ later. FromFeeds (Some fs) t routers scripts later feeds more (Ruled v x)) (λ later. FromFeeds (Some fs) t routers scripts later feeds more (Ruled w y))
    (λ later all a b. both-feeds fs t routers scripts later feeds more v w x y all a b) told p.1 q.1

both-steps : (fs : Files) (steps : Steps) (calls : List Call) (v w : Verdict) (x y : List ℕ) →
    Follows (Some fs) steps calls (Ruled v x) → Follows (Some fs) steps calls (Ruled w y) → AreAlike v x w y
both-steps fs (Fails verdict error) calls v w x y p q = both-lines calls verdict error v w x y p q
both-steps fs (Reads name fault next) [] v w x y p q = absurd p
both-steps fs (Reads name fault next) (call ∷ more) v w x y p q =
    both-files fs name call.state _ _ _ _ (both-lines more ReadFault fault v w x y) (λ bytes a b. both-steps fs (next bytes) more v w x y a b) p.1 q.1
both-steps fs (Knows network next) calls v w x y p q =
    both-steps fs (next p.0) calls v w x y p.2 (subst (λ (t : Topology). Follows (Some fs) (next t) calls (Ruled w y)) (same-topology q.0 p.0 (q.1 ∙ sym p.1)) q.2)
both-steps fs (Runs input) calls v w x y p q = both-feeds fs input.t input.routers input.scripts [] input.feeds calls v w x y tt p q

both-commands : (command : Option CommandWords) (fs : Files) (calls : List Call) (v w : Verdict) (x y : List ℕ) (line line' : Type 0) → (line → line' → AreAlike v x w y) →
    MatchOption command line (λ c. FromCommand c (Some fs) calls (Ruled v x)) → MatchOption command line' (λ c. FromCommand c (Some fs) calls (Ruled w y)) → AreAlike v x w y
both-commands None fs calls v w x y line line' f p q = f p q
both-commands (Some (Run command)) fs calls v w x y line line' f p q = both-steps fs (steps_of command) calls v w x y p q
both-commands (Some (Make n)) fs calls v w x y line line' f p q = (p.1.0 ∙ sym q.1.0, inl (made-once n x y p.1.1 q.1.1))

pub runs-alike : (words : List (List ℕ)) (fs : Files) (calls : List Call) (v w : Verdict) (x y : List ℕ) →
    FromWords words (Some fs) calls (Ruled v x) → FromWords words (Some fs) calls (Ruled w y) → AreAlike v x w y
runs-alike words fs calls v w x y p q = both-commands (command_of words) fs calls v w x y _ _ (both-lines calls BadWords errors.Words v w x y) p q

-- ---- where no job ran

no-run-by : (a b : Bool) → may_end_early (if a then ReadFault else (if b then Done else Refusals)) ≡ true → is_fault (if a then ReadFault else (if b then Done else Refusals)) ≡ false → ⊥
no-run-by true b early fine = cc
no-run-by false true early fine = cc
no-run-by false false early fine = cc

no-run : (t : Topology) (routers : List RouterId) (scripts : List (List Line)) (opened : List OpenedFeed) (v : Verdict) (x : List ℕ) → IsRunOf t routers scripts opened v x →
    may_end_early v ≡ true → is_fault v ≡ false → ⊥
no-run t routers scripts opened v x run early fine =
    no-run-by (some_faulted run.tolds) (all_well run.tolds) (ap may_end_early (sym run.verdict_is) ∙ early) (ap is_fault (sym run.verdict_is) ∙ fine)

pub lines-same : (v w : Verdict) (x y : List ℕ) → AreAlike v x w y → may_end_early v ≡ true → is_fault v ≡ false → x ≡ y
lines-same v w x y alike early fine = by alike.1
  where
    by : (x ≡ y) ⊎ AreRunsOfOne v x w y → x ≡ y
    by (inl same) = same
    by (inr run) = absurd (no-run run.0 run.1 run.2 run.3 v x run.4 early fine)
