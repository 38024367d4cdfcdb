-- How the feeds of a run are opened one after another, and given back.
use Rattle.std.proofs.Common.{◌≡◌, ℕ, suc, ◌+◌, ◌<◌, Bool, true, false, ◌==◌, ◌||◌, not, Result, Ok, Err, IfOk, IfSome, IsSome, IsSomeAnd, IsTrue, List, [], ◌∷◌, ◌++◌, length, map, All, Option, None, Some, refl, ap, sym, ◌∙◌, inl, arith, subst, append_assoc}
use Rattle.std.specs.List.{list_any}
use Rattle.std.proofs.lemmas.Grind.{common_steps}
use Rattle.std.proofs.lemmas.List.{append-nil, map-append, length-append, length-map}
use Rattle.std.proofs.lemmas.List.Elements.{All-cons, All-nil, All-head, All-tail, All-push}
use Rattle.dn_io.specs.Calls.{Call, CallState, Out, Refused, call_of, back_with, with_out, with_state, state_at, names_of, some_failed}
use Rattle.dn_io.specs.Files.{Files, bytes_of}
use Rattle.base.specs.Lists.{all_differ}
use Rattle.dn_formats.specs.Words.{FeedWords}
use Rattle.base.specs.declared.ids.RouterId.{RouterId}
use Rattle.dn_formats.specs.declared.script.Line.{Line}
use Rattle.dn_model.specs.declared.topology.Topology.{Topology}
use Rattle.dn_formats.specs.declared.error_line.ErrorLine.TheVariants as errors
use Rattle.dn_run.specs.Ending.{Ending, Ruled, Stopped, IfRuled, OrStops, ending_of}
use Rattle.dn_run.specs.Feeds.{opened, AreLeft, some_rose, sources_of, AreOpen, Opens}
use Rattle.dn_run.specs.Jobs.{AreFewJobs, AreNumbered, IsFresh, routers_of_readers, same_router}
use Rattle.dn_run.specs.Limits.{feed_limit}
use Rattle.dn_run.specs.Run.{FromFeeds, IsLine, IsUnread, IsUntouched, IsRunOf, feed_files}
use Rattle.dn_run.specs.Stage.{is_fault}
use Rattle.base.specs.declared.memory.OutOfMemory.{OutOfMemory}
use Rattle.dn_run.specs.declared.ruling.Ruling.{Ruling}
use Rattle.dn_run.specs.declared.status.Verdict.TheVariants.{ReadFault}
use Rattle.route_feed.specs.FeedReader.{Reader, told_so_far}
use Rattle.dn_run.proofs.AskedLemmas.{are-all, are-cons, are-early}
use Rattle.dn_run.proofs.ProgramLemmas.{or-go, fails-as}

-- ---- calls

pub with_state-middle : (old : List Call) (name : List ℕ) (more : List Call) (state : CallState) →
    with_state (with_out old name ++ more) (length old) state ≡ old ++ call_of name state ∷ more
with_state-middle [] name more state = refl
with_state-middle (call ∷ old) name more state = ap (λ cs. call ∷ cs) (with_state-middle old name more state)

pub state_at-middle : (old : List Call) (name : List ℕ) (more : List Call) → state_at (with_out old name ++ more) (length old) ≡ Some Out
state_at-middle [] name more = refl
state_at-middle (call ∷ old) name more = state_at-middle old name more

pub out-still : (c0 c1 c2 more : List Call) (name : List ℕ) (place : ℕ) → c1 ≡ with_out c0 name → c2 ≡ c1 ++ more → place ≡ length c0 → state_at c2 place ≡ Some Out
out-still c0 c1 c2 more name place out is at = rw (is, out, at) (state_at-middle c0 name more)

-- ---- readers

unread : (file : Option (List ℕ)) (count : ℕ) (rest : Option (List ℕ)) → count ≡ 0 → IfSome file (λ bytes. rest ≡ Some bytes) → IsUnread file (back_with count rest)
unread None count rest none is = rw none refl
unread (Some bytes) count rest none is = rw (none, is) refl

module _ {S : Type 0} where
  any-push : (p : S → Bool) (rs : List S) (r : S) (rest : Bool) → (list_any p (rs ++ r ∷ []) || rest) ≡ (list_any p rs || (p r || rest))
  any-push p [] r rest = or-none (p r) rest
    where
      or-none : (a b : Bool) → ((a || false) || b) ≡ (a || b)
      or-none true b = refl
      or-none false b = refl
  any-push p (q ∷ rs) r rest = or-in (p q) (list_any p (rs ++ r ∷ [])) rest ∙ ap (λ b. p q || b) (any-push p rs r rest) ∙ sym (or-in (p q) (list_any p rs) (p r || rest))
    where
      or-in : (a b c : Bool) → ((a || b) || c) ≡ (a || (b || c))
      or-in true b c = refl
      or-in false b c = refl

  opened-push : (faults : S → ℕ) (left : S → Option (List ℕ)) (files : List (Option (List ℕ))) (sources : List S) (bytes : Option (List ℕ)) (source : S) → length files ≡ length sources →
      opened faults left (files ++ bytes ∷ []) (sources ++ source ∷ []) ≡ opened faults left files sources ++ record { bytes = bytes; state = back_with (faults source) (left source) } ∷ []
  opened-push faults left [] [] bytes source len = refl
  opened-push faults left [] (s ∷ sources) bytes source len = absurd (omega (arith, len))
  opened-push faults left (f ∷ files) [] bytes source len = absurd (omega (arith, len))
  opened-push faults left (f ∷ files) (s ∷ sources) bytes source len =
      ap (λ os. record { bytes = f; state = back_with (faults s) (left s) } ∷ os) (opened-push faults left files sources bytes source (omega (arith, len)))

  left-push : (left : S → Option (List ℕ)) (rs : List (Reader S)) (files : List (Option (List ℕ))) (r : Reader S) (file : Option (List ℕ)) →
      AreLeft left rs files → IfSome file (λ bytes. left r.source ≡ Some bytes) → AreLeft left (rs ++ r ∷ []) (files ++ file ∷ [])
  left-push left [] [] r file are is = (is, tt)
  left-push left [] (f ∷ files) r file are is = absurd are
  left-push left (q ∷ rs) [] r file are is = absurd are
  left-push left (q ∷ rs) (f ∷ files) r file are is = (are.0, left-push left rs files r file are.1 is)

  left-length : (left : S → Option (List ℕ)) (rs : List (Reader S)) (files : List (Option (List ℕ))) → AreLeft left rs files → length files ≡ length rs
  left-length left [] [] are = refl
  left-length left [] (f ∷ files) are = absurd are
  left-length left (r ∷ rs) [] are = absurd are
  left-length left (r ∷ rs) (f ∷ files) are = ap suc (left-length left rs files are.1)

  -- as many sources come back as there are readers
  pub places-length : (place : S → ℕ) (readers : List (Reader S)) (sources : List S) → map place sources ≡ map (λ r. place r.source) readers → length sources ≡ length readers
  places-length place readers sources same = sym (length-map sources place) ∙ ap length same ∙ length-map readers (λ (r : Reader S). place r.source)

  pub places-of : (place : S → ℕ) (readers : List (Reader S)) (sources : List S) → sources ≡ sources_of readers → map place sources ≡ map (λ r. place r.source) readers
  places-of place readers sources is = ap (map place) is ∙ both readers
    where
      both : (readers : List (Reader S)) → map place (sources_of readers) ≡ map (λ r. place r.source) readers
      both [] = refl
      both (r ∷ readers) = ap (λ ps. place r.source ∷ ps) (both readers)

  pub routers-push : (rs : List (Reader S)) (r : Reader S) (routers : List RouterId) → routers_of_readers (rs ++ r ∷ []) ++ routers ≡ routers_of_readers rs ++ r.told.router ∷ routers
  routers-push rs r routers = ap (λ xs. xs ++ routers) (map-append (λ r. r.told.router) rs (r ∷ [])) ∙ append_assoc (routers_of_readers rs) (r.told.router ∷ []) routers

  untouched : (t : Topology) (faults : S → ℕ) (left : S → Option (List ℕ)) (rs : List (Reader S)) (files : List (Option (List ℕ))) → All (IsFresh t faults) rs → AreLeft left rs files → All IsUntouched (opened faults left files (sources_of rs))
  untouched t faults left [] [] fresh are = All-nil IsUntouched
  untouched t faults left [] (f ∷ files) fresh are = absurd are
  untouched t faults left (r ∷ rs) [] fresh are = absurd are
  untouched t faults left (r ∷ rs) (f ∷ files) fresh are =
      let none : faults r.source ≡ 0 = (All-head (IsFresh t faults) r rs fresh).faults_none in
      All-cons IsUntouched _ _ (unread f (faults r.source) (left r.source) none are.0) (untouched t faults left rs files (All-tail (IsFresh t faults) r rs fresh) are.1)

  none-rose : (t : Topology) (faults : S → ℕ) (rs : List (Reader S)) → All (IsFresh t faults) rs → some_rose faults (sources_of rs) ≡ false
  none-rose t faults [] fresh = refl
  none-rose t faults (r ∷ rs) fresh =
      let none : faults r.source ≡ 0 = (All-head (IsFresh t faults) r rs fresh).faults_none in
      rw none (none-rose t faults rs (All-tail (IsFresh t faults) r rs fresh))

  numbered-push : (n : ℕ) (rs : List (Reader S)) (r : Reader S) → AreNumbered n rs → r.told.feed_no ≡ n + length rs → AreNumbered n (rs ++ r ∷ [])
  numbered-push n [] r are is = (omega (arith, is), tt)
  numbered-push n (q ∷ rs) r are is = (are.0, numbered-push (suc n) rs r are.1 (omega (arith, is)))

  -- a reader as it is made
  abbrev pub made : S → ℕ → RouterId → Reader S
  made source number router = record { source = source; limit = feed_limit; passed = 0; held = []; told = told_so_far number router []; tables = [] }

  fresh-made : (t : Topology) (faults : S → ℕ) (source : S) (number : ℕ) (router : RouterId) → router.0 < length t.routers → faults source ≡ 0 → IsFresh t faults (made source number router)
  fresh-made t faults source number router known none = record { told = refl; passed = refl; held = refl; limit = omega arith; router = known; faults_none = none; knows = λ some. absurd (some refl) }

  -- one more feed was opened
  pub open-push : (t : Topology) (faults : S → ℕ) (rs : List (Reader S)) (router : RouterId) (routers : List RouterId) (source : S) →
      AreOpen t faults rs (router ∷ routers) → faults source ≡ 0 → AreOpen t faults (rs ++ made source (length rs + 1) router ∷ []) routers
  open-push t faults rs router routers source are none = record {
    fresh = All-push (IsFresh t faults) rs _ are.fresh (fresh-made t faults source (length rs + 1) router (All-head (λ r. r.0 < length t.routers) router routers are.known) none);
    limits = All-push (λ r. r.limit ≡ feed_limit) rs _ are.limits refl;
    numbered = numbered-push 1 rs (made source (length rs + 1) router) are.numbered (omega arith);
    known = All-tail (λ r. r.0 < length t.routers) router routers are.known;
    apart = subst (λ xs. IsTrue (all_differ same_router xs)) (sym (routers-push rs (made source (length rs + 1) router) routers)) are.apart;
    few = let l = length-append rs (made source (length rs + 1) router ∷ []) in omega (arith, l, are.few);
  }

  -- the jobs stay few where one more feed was opened
  pub few-pushed : (scripts : List (List Line)) (rs pushed : List (Reader S)) (r : Reader S) (router : RouterId) (all routers : List RouterId) →
      AreFewJobs scripts (routers_of_readers rs ++ all) → all ≡ router ∷ routers → pushed ≡ rs ++ r ∷ [] → r.told.router ≡ router → AreFewJobs scripts (routers_of_readers pushed ++ routers)
  few-pushed scripts rs pushed r router all routers few front push is =
      subst (λ xs. AreFewJobs scripts xs)
      (ap (λ xs. routers_of_readers rs ++ xs) front ∙ ap (λ x. routers_of_readers rs ++ x ∷ routers) (sym is) ∙ sym (routers-push rs r routers) ∙ ap (λ xs. routers_of_readers xs ++ routers) (sym push)) few

  -- ---- a feed that is opened, and given back after the rest

  module _ (t : Topology) (faults : S → ℕ) (left : S → Option (List ℕ)) (routers : List RouterId) (scripts : List (List Line)) (readers : List (Reader S)) (sources : List S) (reader : Reader S) (source : S)
      (part : ℕ) (words : FeedWords) (feeds : List (ℕ × FeedWords)) (more : List Call) (ending : Ending) (len : length sources ≡ length readers) where
    -- what is due behind the feeds that are open
    abbrev Later : Option Files → Type 0
    Later files = (bytes : List (Option (List ℕ))) → AreLeft left (readers ++ reader ∷ []) bytes →
        OrStops ending more (FromFeeds files t (routers_of_readers (readers ++ reader ∷ []) ++ routers) scripts (opened faults left bytes (sources ++ source ∷ [])) feeds more ending)

    abbrev With : Option Files → List (Option (List ℕ)) → Option (List ℕ) → Type 0
    With files bytes b = FromFeeds files t (routers_of_readers readers ++ reader.told.router ∷ routers) scripts
        (opened faults left bytes sources ++ record { bytes = b; state = back_with (faults source) (left source) } ∷ []) feeds more ending

    with-bytes : (files : Option Files) (bytes : List (Option (List ℕ))) (b : Option (List ℕ)) → AreLeft left readers bytes → IfSome b (λ file. left reader.source ≡ Some file) → Later files → OrStops ending more (With files bytes b)
    with-bytes files bytes b are same due =
        let lens : length bytes ≡ length sources = left-length left readers bytes are ∙ sym len in
        subst (λ os. OrStops ending more (FromFeeds files t (routers_of_readers readers ++ reader.told.router ∷ routers) scripts os feeds more ending)) (opened-push faults left bytes sources b source lens)
        (subst (λ rs. OrStops ending more (FromFeeds files t rs scripts (opened faults left (bytes ++ b ∷ []) (sources ++ source ∷ [])) feeds more ending)) (routers-push readers reader routers)
        (due (bytes ++ b ∷ []) (left-push left readers bytes reader b are same)))

    on-bytes : (fs : Files) (bytes : List (Option (List ℕ))) → AreLeft left readers bytes → Later (Some fs) → (file : Option (List ℕ)) → IsSome file → left reader.source ≡ file →
        OrStops ending more (IsSomeAnd file (λ b. With (Some fs) bytes (Some b)))
    on-bytes fs bytes are due None has same = grind (arith, common_steps, has)
    on-bytes fs bytes are due (Some b) has same = with-bytes (Some fs) bytes (Some b) are same due

    due-push : (files : Option Files) → IfSome files (λ fs. IsSome (bytes_of fs words.file)) → IfSome files (λ fs. left reader.source ≡ bytes_of fs words.file) → Later files →
        (bytes : List (Option (List ℕ))) → AreLeft left readers bytes →
        FromFeeds files t (routers_of_readers readers ++ reader.told.router ∷ routers) scripts (opened faults left bytes sources) ((part, words) ∷ feeds)
        (call_of words.file (back_with (faults source) (left source)) ∷ more) ending
    due-push None has is due bytes are = (refl, with-bytes None bytes None are tt due)
    due-push (Some fs) has is due bytes are = (refl, on-bytes fs bytes are due (bytes_of fs words.file) has is)

  pub opens-push : (ending : Ending) (t : Topology) (faults : S → ℕ) (left : S → Option (List ℕ)) (place : S → ℕ) (files files' : Option Files)
      (routers : List RouterId) (scripts : List (List Line)) (readers : List (Reader S)) (sources : List S) (reader : Reader S) (source : S) (part : ℕ) (words : FeedWords) (feeds : List (ℕ × FeedWords)) (c0 c1 c2 c3 : List Call) →
      files' ≡ files → c1 ≡ with_out c0 words.file → place source ≡ length c0 → c3 ≡ with_state c2 (place source) (back_with (faults source) (left source)) →
      length sources ≡ length readers → IfSome files (λ fs. IsSome (bytes_of fs words.file)) → IfSome files (λ fs. left reader.source ≡ bytes_of fs words.file) →
      Opens t faults left files' routers scripts (readers ++ reader ∷ []) (sources ++ source ∷ []) feeds c1 c2 ending →
      Opens t faults left files (reader.told.router ∷ routers) scripts readers sources ((part, words) ∷ feeds) c0 c3 ending
  opens-push ending t faults left place files files' routers scripts readers sources reader source part words feeds c0 c1 c2 c3 same out at back len has is inner = record {
    more = call_of words.file (back_with (faults source) (left source)) ∷ inner.more;
    appended = back ∙ rw (inner.appended, out, at) (with_state-middle c0 words.file inner.more (back_with (faults source) (left source)));
    asked = are-cons ending words.file (names_of inner.more) (feed_files feeds) inner.asked;
    given_back = inner.given_back;
    failed = ruled-as ending (some_rose faults (sources ++ source ∷ []) || some_failed inner.more) (some_rose faults sources || (not (faults source == 0) || some_failed inner.more))
        (any-push (λ s. not (faults s == 0)) sources source (some_failed inner.more)) inner.failed;
    due_is = λ bytes are. or-go ending _ _ (
        due-push t faults left routers scripts readers sources reader source part words feeds inner.more ending len files has is
        (subst (λ (f : Option Files). Later t faults left routers scripts readers sources reader source part words feeds inner.more ending len f) same inner.due_is) bytes are
        );
  }
    where
      ruled-as : (e : Ending) (a b : Bool) → a ≡ b → IfRuled e (λ verdict text. a ≡ is_fault verdict) → IfRuled e (λ verdict text. b ≡ is_fault verdict)
      ruled-as (Ruled v x) a b is fault = sym is ∙ fault
      ruled-as Stopped a b is fault = tt

  -- ---- a feed that can't be opened

  pub opens-refused : (ending : Ending) (t : Topology) (faults : S → ℕ) (left : S → Option (List ℕ)) (files : Option Files)
      (router : RouterId) (routers : List RouterId) (scripts : List (List Line)) (readers : List (Reader S)) (part : ℕ) (words : FeedWords) (feeds : List (ℕ × FeedWords)) (c0 c1 : List Call) →
      All (IsFresh t faults) readers → c1 ≡ c0 ++ call_of words.file Refused ∷ [] → IsLine ending ReadFault (errors.ReadPart part) →
      Opens t faults left files (router ∷ routers) scripts readers (sources_of readers) ((part, words) ∷ feeds) c0 c1 ending
  opens-refused ending t faults left files router routers scripts readers part words feeds c0 c1 fresh out line = record {
    more = call_of words.file Refused ∷ [];
    appended = out;
    asked = are-early ending ReadFault (errors.ReadPart part) (words.file ∷ []) (words.file ∷ feed_files feeds) refl line (feed_files feeds, refl);
    given_back = refl;
    failed = fails-as ending ReadFault (errors.ReadPart part) (some_rose faults (sources_of readers) || some_failed (call_of words.file Refused ∷ [])) (rw (none-rose t faults readers fresh) refl) line;
    due_is = λ bytes are. or-go ending _ _ (refl, or-go ending [] _ (untouched t faults left readers bytes fresh are, (refl, line)));
  }

  -- ---- memory is wanted before a further feed is opened

  pub opens-stops : (t : Topology) (faults : S → ℕ) (left : S → Option (List ℕ)) (files : Option Files) (routers : List RouterId) (scripts : List (List Line))
      (readers : List (Reader S)) (sources : List S) (feeds : List (ℕ × FeedWords)) (calls : List Call) → Opens t faults left files routers scripts readers sources feeds calls calls Stopped
  opens-stops t faults left files routers scripts readers sources feeds calls = record {
    more = [];
    appended = sym (append-nil calls);
    asked = (feed_files feeds, refl);
    given_back = refl;
    failed = tt;
    due_is = λ bytes are. inl refl;
  }

  -- ---- all feeds are open

  pub opens-none : (result : Result Ruling OutOfMemory) (t : Topology) (faults : S → ℕ) (left : S → Option (List ℕ)) (files : Option Files)
      (scripts : List (List Line)) (readers : List (Reader S)) (sources : List S) (calls : List Call) →
      IfOk result (λ x. (bytes : List (Option (List ℕ))) → AreLeft left readers bytes → IsRunOf t (routers_of_readers readers) scripts (opened faults left bytes sources) x.verdict x.text) →
      IfOk result (λ x. some_rose faults sources ≡ is_fault x.verdict) →
      Opens t faults left files [] scripts readers sources [] calls calls (ending_of result)
  opens-none (Err e) t faults left files scripts readers sources calls ran rose = opens-stops t faults left files [] scripts readers sources [] calls
  opens-none (Ok x) t faults left files scripts readers sources calls ran rose = record {
    more = [];
    appended = sym (append-nil calls);
    asked = are-all (Ruled x.verdict x.text) [];
    given_back = refl;
    failed = or-false (some_rose faults sources) ∙ rose;
    due_is = λ bytes are.
        (refl, subst (λ rs. IsRunOf t rs scripts (opened faults left bytes sources) x.verdict x.text) (sym (append-nil (routers_of_readers readers))) (ran bytes are));
  }
    where
      or-false : (b : Bool) → (b || false) ≡ b
      or-false true = refl
      or-false false = refl

  -- ---- the same, from what the calls say

  -- a reader that was just made, by its clause
  pub open-pushed : (t : Topology) (faults : S → ℕ) (rs pushed : List (Reader S)) (r : Reader S) (number : ℕ) (source : S) (router : RouterId) (all routers : List RouterId) →
      AreOpen t faults rs all → all ≡ router ∷ routers → pushed ≡ rs ++ r ∷ [] → r ≡ made source number router → number ≡ length rs + 1 → faults source ≡ 0 → AreOpen t faults pushed routers
  open-pushed t faults rs pushed r number source router all routers are front push new at none =
      let whole : pushed ≡ rs ++ made source (length rs + 1) router ∷ [] = push ∙ ap (λ x. rs ++ x ∷ []) (new ∙ ap (λ n. made source n router) at) in
      subst (λ xs. AreOpen t faults xs routers) (sym whole) (open-push t faults rs router routers source (subst (λ rs'. AreOpen t faults rs rs') front are) none)

  -- the source that comes back last has the place of the last reader's, and the others those of the others'
  pub record LastSame (place : S → ℕ) (readers : List (Reader S)) (sources : List S) (reader : Reader S) (source : S) : Type 0 where
    pub last : place source ≡ place reader.source
    pub front : map place sources ≡ map (λ r. place r.source) readers

  last-pushed : (place : S → ℕ) (readers : List (Reader S)) (sources : List S) (reader : Reader S) (source : S) →
      map place (sources ++ source ∷ []) ≡ map (λ r. place r.source) (readers ++ reader ∷ []) → LastSame place readers sources reader source
  last-pushed place [] [] reader source same = record { last = cc; front = refl }
  last-pushed place (r ∷ []) [] reader source same = absurd (cc)
  last-pushed place (r ∷ q ∷ rs) [] reader source same = absurd (cc)
  last-pushed place [] (s ∷ []) reader source same = absurd (cc)
  last-pushed place [] (s ∷ u ∷ ss) reader source same = absurd (cc)
  last-pushed place (r ∷ rs) (s ∷ ss) reader source same =
      let first : place s ≡ place r.source = cc in
      let rest : map place (ss ++ source ∷ []) ≡ map (λ r. place r.source) (rs ++ reader ∷ []) = cc in
      let more = last-pushed place rs ss reader source rest in
      record { last = more.last; front = rw (first, more.front) refl }

  pub last-same : (place : S → ℕ) (pushed readers : List (Reader S)) (all sources : List S) (reader : Reader S) (source : S) →
      map place all ≡ map (λ r. place r.source) pushed → all ≡ sources ++ source ∷ [] → pushed ≡ readers ++ reader ∷ [] → LastSame place readers sources reader source
  last-same place pushed readers all sources reader source same pop push =
      last-pushed place readers sources reader source (ap (map place) (sym pop) ∙ same ∙ ap (map (λ r. place r.source)) push)

  -- of the readers with one more some source comes back
  pub some-back : (place : S → ℕ) (pushed readers : List (Reader S)) (all : List S) (reader : Reader S) →
      map place all ≡ map (λ r. place r.source) pushed → pushed ≡ readers ++ reader ∷ [] → all ≡ [] → ⊥
  some-back place pushed readers all reader same push none =
      let many = places-length place pushed all same in
      let len = ap length push ∙ length-append readers (reader ∷ []) in
      let zero-of = ap length none in
      absurd (omega (arith, many, len, zero-of))

  -- the source that is given back has the place of the one that was opened
  pub place-kept : (place : S → ℕ) (pushed readers : List (Reader S)) (all sources : List S) (reader : Reader S) (back source : S) (number : ℕ) (router : RouterId) (at : ℕ) →
      map place all ≡ map (λ r. place r.source) pushed → all ≡ sources ++ back ∷ [] → pushed ≡ readers ++ reader ∷ [] → reader ≡ made source number router → place source ≡ at → place back ≡ at
  place-kept place pushed readers all sources reader back source number router at same pop push new was =
      let last = last-same place pushed readers all sources reader back same pop push in
      last.last ∙ ap (λ (r : Reader S). place r.source) new ∙ was

  pub opens-given : (ending : Ending) (t : Topology) (faults : S → ℕ) (left : S → Option (List ℕ)) (place : S → ℕ) (files files' : Option Files)
      (every routers : List RouterId) (router : RouterId) (scripts : List (List Line)) (readers pushed : List (Reader S)) (all sources : List S) (reader : Reader S) (source back : S) (number part : ℕ) (words : FeedWords)
      (said feeds : List (ℕ × FeedWords)) (c0 c1 c2 c3 : List Call) (name : List ℕ) →
      said ≡ (part, words) ∷ feeds → every ≡ router ∷ routers → pushed ≡ readers ++ reader ∷ [] → reader ≡ made source number router → all ≡ sources ++ back ∷ [] →
      map place all ≡ map (λ r. place r.source) pushed → name ≡ words.file →
      files' ≡ files → c1 ≡ with_out c0 name → place source ≡ length c0 → c3 ≡ with_state c2 (place back) (back_with (faults back) (left back)) →
      IfSome files (λ fs. IsSome (bytes_of fs name)) → IfSome files (λ fs. left source ≡ bytes_of fs name) →
      Opens t faults left files' routers scripts pushed all feeds c1 c2 ending →
      Opens t faults left files every scripts readers sources said c0 c3 ending
  opens-given ending t faults left place files files' every routers router scripts readers pushed all sources reader source back number part words said feeds c0 c1 c2 c3 name
      front head push made-is pop same named same-files out was returned has told inner =
      let last = last-same place pushed readers all sources reader back same pop push in
      let at : place back ≡ length c0 = place-kept place pushed readers all sources reader back source number router (length c0) same pop push made-is was in
      let result-of = opens-push ending t faults left place files files' routers scripts readers sources reader back part words feeds c0 c1 c2 c3 same-files (out ∙ ap (with_out c0) named) at
      returned (places-length place readers sources last.front)
      (subst (λ n. IfSome files (λ fs. IsSome (bytes_of fs n))) named has)
      (subst (λ (s : S). IfSome files (λ fs. left s ≡ bytes_of fs words.file)) (sym (ap (λ (r : Reader S). r.source) made-is)) (subst (λ n. IfSome files (λ fs. left source ≡ bytes_of fs n)) named told))
      (subst (λ rs. Opens t faults left files' routers scripts rs (sources ++ back ∷ []) feeds c1 c2 ending) push
      (subst (λ ss. Opens t faults left files' routers scripts pushed ss feeds c1 c2 ending) pop inner)) in
      subst (λ es. Opens t faults left files every scripts readers sources es c0 c3 ending) (sym front)
      (subst (λ rs. Opens t faults left files rs scripts readers sources ((part, words) ∷ feeds) c0 c3 ending) (sym head)
      (subst (λ (r : RouterId). Opens t faults left files (r ∷ routers) scripts readers sources ((part, words) ∷ feeds) c0 c3 ending) (ap (λ (r : Reader S). r.told.router) made-is) result-of))
