-- Of two editions of one publisher the one with the longer list was published later.
use Rattle.std.proofs.Common.{◌≡◌, ℕ, ◌<◌, ◌≤◌, List, [], ◌∷◌, ◌++◌, length, fold, refl, ap, sym, ◌∙◌, subst, arith, length-append, Some}
use Rattle.std.proofs.lemmas.List.Sums.{fold-append}
use mathlib.Core.List.{IsPrefix}
use mathlib.Core.Logic.{dite}
use native.Mathlib.Decide.{dec_le}
use Rattle.logbook.specs.Pages.{Book, Cell}
use Rattle.dn_model.specs.declared.entry.Posted.{Posted}
use Rattle.dn_model.specs.declared.topology.Topology.{Topology}
use Rattle.fast_pins.specs.declared.issue.Issue.{Issue}
use Rattle.fast_pins.specs.Known.{Known, published}
use Rattle.fast_pins.specs.Law.{Ends, IsKept, IsOfLine, known_by, line_in, list_in, topology_in, lists_of}
use Rattle.fast_pins.proofs.Prefixes.{prefix_self, prefix_shorter, prefix_whole, prefix_length}
use Rattle.fast_pins.proofs.Issues.{line_last, list_last, topology_last, lists_last, lists_prefix}

module _ (log : List Issue) (topology : Topology) (list : List Posted) (ends : Ends log topology list) where
  pub some_issue : 0 < length log
  some_issue = let l = ap length ends.log_is ∙ length-append ends.before (ends.last ∷ []) in omega arith

  pub list_is : list_in log ≡ list
  list_is = ap list_in ends.log_is ∙ (list_last ends.before ends.last ∙ ends.list_is)

  pub topology_is : topology_in log ≡ Some topology
  topology_is = ap topology_in ends.log_is ∙ (topology_last ends.before ends.last ∙ ap Some ends.topology_is)

  last_line : ends.last.line ≡ line_in log
  last_line = sym (ap line_in ends.log_is ∙ line_last ends.before ends.last)

  -- the last list of its line is the one that it ends with
  pub published_is : (b : Book) (t : Topology) → published (known_by b log t) ≡ list
  published_is b t =
      let lists : lists_of (line_in log) log ≡ lists_of (line_in log) ends.before ++ ends.last.list ∷ [] = ap (lists_of (line_in log)) ends.log_is ∙ lists_last (line_in log) ends.before ends.last last_line in
      ap (λ (l : List (List Posted)). fold (λ (x : List Posted) (y : List Posted). y) [] l) lists
      ∙ (fold-append (λ (x : List Posted) (y : List Posted). y) [] (lists_of (line_in log) ends.before) (ends.last.list ∷ []) ∙ ends.list_is)

some_topology : (a b : Topology) → Some a ≡ Some b → a ≡ b
some_topology a b e = cc (e)

module _ (k k' : Known) (b b' : Book) (log log' both : List Issue) (t t' : Topology) (list list' : List Posted)
    (view : known_by b log t ≡ k) (ends : Ends log t list) (view' : known_by b' log' t' ≡ k') (ends' : Ends log' t' list')
    (origin : k'.origin ≡ k.origin) (pre : IsPrefix log both) (pre' : IsPrefix log' both) (kept : (cs : List Cell) × IsKept cs both) where
  mine : published k ≡ list
  mine = sym (ap published view) ∙ published_is log t list ends b t

  theirs : published k' ≡ list'
  theirs = sym (ap published view') ∙ published_is log' t' list' ends' b' t'

  line : line_in log ≡ line_in log'
  line = ap (λ (x : Known). x.origin.line) view ∙ (sym (ap (λ o. o.line) origin) ∙ sym (ap (λ (x : Known). x.origin.line) view'))

  same_log : log ≡ log' → list ≡ list'
  same_log e = sym (list_is log t list ends) ∙ (ap list_in e ∙ list_is log' t' list' ends')

  -- the longer log goes on with the list
  goes : length log < length log' → IsPrefix log log' × (t ≡ t') × IsPrefix list list'
  goes less =
      let p : IsPrefix log log' = prefix_shorter log log' both pre pre' (omega arith) in
      let f = kept.1.follows log log' p pre' (some_issue log t list ends) less line in (
        p,
        some_topology t t' (sym (topology_is log t list ends) ∙ (f.same ∙ topology_is log' t' list' ends')),
        subst (IsPrefix list) (list_is log' t' list' ends') (subst (λ (l : List Posted). IsPrefix l (list_in log')) (list_is log t list ends) f.begins),
      )

  came : length log' < length log → IsPrefix list' list
  came less =
      let p : IsPrefix log' log = prefix_shorter log' log both pre' pre (omega arith) in
      let f = kept.1.follows log' log p pre (some_issue log' t' list' ends') less (sym line) in
      subst (IsPrefix list') (list_is log t list ends) (subst (λ (l : List Posted). IsPrefix l (list_in log)) (list_is log' t' list' ends') f.begins)

  even : length log' ≤ length log → length log ≤ length log' → list ≡ list'
  even le ge = same_log (prefix_whole log log' (prefix_shorter log log' both pre pre' ge) le)

  pub renews : length (published k) < length (published k') → (t' ≡ k.topology) × IsPrefix k.lists k'.lists × IsPrefix (published k) (published k')
  renews less =
      let shorter : length list < length list' = let a = ap length mine in let b = ap length theirs in omega arith in
      let later : length log < length log' = dite (dec_le (length log') (length log))
      (λ le. absurd (dite (dec_le (length log) (length log'))
      (λ ge. let e = ap length (even le ge) in omega arith)
      (λ far. let l = prefix_length list' list (came (omega arith)) in omega arith)))
      (λ far. omega arith) in
      let g = goes later in
      let lists : IsPrefix (lists_of (line_in log) log) (lists_of (line_in log) log') = lists_prefix (line_in log) log log' g.0 in (
        sym g.1 ∙ ap (λ (x : Known). x.topology) view,
        rw (← view, ← view') (subst (λ (n : ℕ). IsPrefix (lists_of (line_in log) log) (lists_of n log')) line lists),
        rw (mine, theirs) g.2,
      )

  pub stays : length (published k') ≤ length (published k) → IsPrefix (published k') (published k)
  stays le =
      let no_longer : length list' ≤ length list = let a = ap length mine in let b = ap length theirs in omega arith in
      let p : IsPrefix list' list = dite (dec_le (length log') (length log))
      (λ short. dite (dec_le (length log) (length log'))
      (λ ge. subst (λ (l : List Posted). IsPrefix list' l) (sym (even short ge)) (prefix_self list'))
      (λ far. came (omega arith)))
      (λ far. let q = (goes (omega arith)).2 in subst (IsPrefix list') (sym (prefix_whole list list' q no_longer)) (prefix_self list')) in
      rw (mine, theirs) p

-- ---- what was seen of a line ends with a list that begins the line's last one

ends_last : (x : Issue) (xs : List Issue) → (before : List Issue) × (last : Issue) × (x ∷ xs ≡ before ++ last ∷ [])
ends_last x [] = ([], x, refl)
ends_last x (y ∷ ys) = let r = ends_last y ys in (x ∷ r.0, r.1, ap (λ (l : List Issue). x ∷ l) r.2)

abbrev last_of : List (List Posted) → List Posted
last_of lists = fold (λ (x : List Posted) (y : List Posted). y) [] lists

-- the last list of the last issue's line is the last issue's
last_listed : (log : List Issue) → 0 < length log → last_of (lists_of (line_in log) log) ≡ list_in log
last_listed [] some = absurd (omega arith)
last_listed (x ∷ xs) some =
    let l = ends_last x xs in
    let line : l.1.line ≡ line_in (x ∷ xs) = sym (ap line_in l.2 ∙ line_last l.0 l.1) in
    let lists : lists_of (line_in (x ∷ xs)) (x ∷ xs) ≡ lists_of (line_in (x ∷ xs)) l.0 ++ l.1.list ∷ [] = ap (lists_of (line_in (x ∷ xs))) l.2 ∙ lists_last (line_in (x ∷ xs)) l.0 l.1 line in
    ap last_of lists
    ∙ (fold-append (λ (x : List Posted) (y : List Posted). y) [] (lists_of (line_in (x ∷ xs)) l.0) (l.1.list ∷ []) ∙ sym (ap list_in l.2 ∙ list_last l.0 l.1))

pub begins_last : (seen log both : List Issue) → IsPrefix seen both → IsPrefix log both → (cs : List Cell) × IsKept cs both → 0 < length log
    → IsPrefix (lists_of (line_in log) seen) (lists_of (line_in log) log) → IsOfLine seen log → IsPrefix (list_in seen) (list_in log)
begins_last seen log both pre pre' kept some lists is = dite (dec_le (length log) (length seen))
    (λ le.
    let back : IsPrefix (lists_of (line_in log) log) (lists_of (line_in log) seen) = lists_prefix (line_in log) log seen (prefix_shorter log seen both pre' pre le) in
    let same : lists_of (line_in log) seen ≡ lists_of (line_in log) log = prefix_whole (lists_of (line_in log) seen) (lists_of (line_in log) log) lists (prefix_length (lists_of (line_in log) log) (lists_of (line_in log) seen) back) in
    let mine : last_of (lists_of (line_in log) seen) ≡ list_in seen = subst (λ (n : ℕ). last_of (lists_of n seen) ≡ list_in seen) is.same_line (last_listed seen is.some_issue) in
    let it : list_in seen ≡ list_in log = sym mine ∙ (ap last_of same ∙ last_listed log some) in
    subst (IsPrefix (list_in seen)) it (prefix_self (list_in seen)))
    (λ less. (kept.1.follows seen log (prefix_shorter seen log both pre pre' (omega arith)) pre' is.some_issue (omega arith) is.same_line).begins)
