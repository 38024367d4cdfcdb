use denote.Param.{param}
use denote.Exit.{yes, no}
use denote.RattleType.{RattleType}
use denote.Struct.Field.{shr_ref_field}
use denote.Struct.Tuple.{TupleAt}
use mir.Syntax.{named}
use denote.Param.Send.{IsSend, IsSync, sendable, param_send, arg_send, shr_send}
use Rattle.std.proofs.Crossing as heap
use Rattle.std.specs.Prelude.{codes}
use Rattle.std.specs.contracts.alloc.Global as Global
use Rattle.feed_threads.proofs.all_jobs.+fn-run_batch-join+arg2+run_batch.Lts-run_batch.{arg-7-1}
use Rattle.dn_model.specs.contracts.topology.Topology as Topology
use Rattle.version_lock.specs.contracts.lock.VersionLock as VersionLock
use Rattle.version_lock.specs.contracts.seat.Seat as Seat
use Rattle.version_store.specs.contracts.snapshot.Snapshot as Snapshot
use Rattle.version_store.specs.contracts.store.Store as Store
use Rattle.version_store.specs.contracts.store.StoreBook.TheImpl.{ghosts}
use Rattle.feed_threads.specs.contracts.all_jobs.Batch as Batch
use Rattle.std.proofs.Crossing.{crosses}
use Rattle.version_store.proofs.Crossing.{Store-send}
use Rattle.std.proofs.Common.{rules, ◌≡◌, [], length, ℕ, ◌<◌, List, ◌∷◌, arith, refl, subst, sym}
use Rattle.std.proofs.lemmas.List.{nil_from_length}
use Rattle.std.proofs.lemmas.Bool.Decides.{nat_tests}
use Rattle.version_lock.specs.Callers.{IsSeatOf, Lock}
use Rattle.feed_threads.specs.Runs.{AllRun, IsReady}
use Rattle.feed_threads.proofs.AllLemmas.{none-ends, one-ends, popped, push-ends, rest-ready}
use Rattle.dn_model.proofs.topology.Topology.TheSendSync as topology
use Rattle.version_lock.proofs.lock.VersionLock.TheSendSync as lock
use Rattle.version_lock.proofs.seat.Seat.TheSendSync as seat
use Rattle.feed_threads.proofs.all_jobs.Batch.TheSendSync as batch
use Rattle.feed_threads.proofs.all_jobs.+fn-run_batch-join+arg2+run_batch.Goals as goal

pub returns-in_default-clause-all : goal.returns-in_default-clause-all
returns-in_default-clause-all g t c =
    none-ends _ _ _ _ _ _ _ (nil_from_length c.args.batch.jobs.items (let e = c.in_default.ensures.cases.0 in omega (arith, e))) c.requires.batch.room.0 c.requires.batch.jobs.is_seat

pub run_job-seat-requires-clause-job : goal.run_job-seat-requires-clause-job
run_job-seat-requires-clause-job g t c κs within =
    (c.requires.batch.jobs.is_seat, (popped (IsReady c.args.site.now g.S.Source.faults) c.args.batch.jobs.items c.pop.new.self.items c.in-Some.last c.in-Some.ensures.items c.requires.batch.jobs.ready).last_is)

pub returns-then-is_empty-clause-all : goal.returns-then-is_empty-clause-all
returns-then-is_empty-clause-all g t c =
    one-ends _ _ _ _ _ _ c.args.batch.jobs.items c.pop.new.self.items c.in-Some.last _ c.args.batch.room.items c.run_job-seat.result.1
    c.in-Some.ensures.items (nil_from_length c.pop.new.self.items (let e = c.if-is_empty.ensures in grind (arith, nat_tests, e))) c.push_reserved.ensures.items c.requires.batch.room.0
    c.requires.batch.jobs c.number-number.ensures.used c.run_job-seat.ensures

pub split-other-requires-clause-lock : goal.split-other-requires-clause-lock
split-other-requires-clause-lock g t c κs = subst (λ (l : Lock). IsSeatOf l c.args.seat) (sym c.site.view_is) c.requires.batch.jobs.is_seat

pub split-other-requires-send-B : goal.split-other-requires-send-B
split-other-requires-send-B g t c κs = search (Store-send, sendable, crosses) depth 40

lock-syncs : IsSync (VersionLock.the_row Store.the_row Snapshot.the_row ghosts)
lock-syncs = search (lock.the_sync, Store-send, sendable, crosses) depth 40

seat-sends : IsSend Seat.the_row
seat-sends = seat.the_send

topology-syncs : IsSync Topology.the_row
topology-syncs = topology.the_sync

-- what a closure has of seven things may cross where each of them may
closure-sends : (ν : List ℕ) (a b c d e f h : RattleType) → IsSend a → IsSend b → IsSend c → IsSend d → IsSend e → IsSend f → IsSend h → IsSend (TupleAt ν (a ∷ b ∷ c ∷ d ∷ e ∷ f ∷ h ∷ []))
closure-sends ν a b c d e f h sa sb sc sd se sf sh = search sendable depth 40

pub join-before-requires-send-F : goal.join-before-requires-send-F
join-before-requires-send-F g t c κs within =
    let runtime : IsSync (param 2 g.row.R) = search (c.requires.crosses.0, sendable) in
    let gate : IsSync (param 1 g.row.G) = search (c.requires.crosses.1, sendable) in
    let jobs : IsSend (Batch.the_row (param 0 g.row.S) g.S.Source) = search (batch.the_send, sendable, crosses) depth 40 in
    let ref-lock : RattleType = (shr_ref_field (record { mir = named 6; lft = κs.1.1.1.1.1.1.0 }) (VersionLock.the_row Store.the_row Snapshot.the_row ghosts) tt).row in
    let ref-topology : RattleType = (shr_ref_field (record { mir = named 7; lft = κs.1.1.1.1.1.1.1.0 }) Topology.the_row tt).row in
    let ref-gate : RattleType = (shr_ref_field (record { mir = named 8; lft = κs.1.1.1.1.1.1.1.1.0 }) (param 1 g.row.G) tt).row in
    let ref-runtime : RattleType = (shr_ref_field (record { mir = named 9; lft = κs.1.1.1.1.1.1.1.1.1.0 }) (param 2 g.row.R) tt).row in
    let all : IsSend (TupleAt (codes "feed_threads::all_jobs::fn::run_batch::join+arg2+Self") (Global.the_row ∷ ref-lock ∷ ref-topology ∷ ref-gate ∷ ref-runtime ∷ Seat.the_row ∷ Batch.the_row (param 0 g.row.S) g.S.Source ∷ [])) =
    closure-sends _ Global.the_row ref-lock ref-topology ref-gate ref-runtime Seat.the_row (Batch.the_row (param 0 g.row.S) g.S.Source)
    heap.send (shr_send _ _ _ lock-syncs) (shr_send _ _ _ topology-syncs) (shr_send _ _ _ gate) (shr_send _ _ _ runtime) seat-sends jobs in
    param_send 1 (arg-7-1 g.row.S g.row.G g.row.R g.S.laws g.G.laws g.R.laws g.S.Source g.S.Source-dict g.G.Gate g.G.Gate-dict g.R.Threads g.R.Threads-dict g.R.Wait g.R.Wait-dict g.S.Destruct-dict κs) (arg_send _ yes _ all)

pub join-requires-send-B : goal.join-requires-send-B
join-requires-send-B g t c κs = search (Store-send, sendable, crosses) depth 40

pub join-before-requires-after_bounds : goal.join-before-requires-after_bounds
join-before-requires-after_bounds g t c κs within =
    let source : IsSend (param 0 g.row.S) = search sendable depth 10 in
    let less : length c.pop.new.self.items < length c.args.batch.jobs.items = (popped (IsReady c.args.site.now g.S.Source.faults) c.args.batch.jobs.items c.pop.new.self.items c.in-Some.last c.in-Some.ensures.items c.requires.batch.jobs.ready).shorter in
    let may = rest-ready c.args.site.now c.site.inside.lock.now g.S.Source.faults c.args.seat c.split-other.new.seat c.split-other.result c.args.batch (record { jobs = c.pop.new.self; room = c.args.batch.room }) c.in-Some.last
    c.site.view_is c.requires.batch c.in-Some.ensures.items refl c.split-other.ensures.left c.split-other.ensures.given in
    let rest = may.rest in let last = may.last_may in
    let network : c.site.inside.topology.now ≡ c.site.inside.lock.now.setup.basis.topology = c.site.invariant in
    let runtime = c.requires.crosses.0 in let gate = c.requires.crosses.1 in
    ((search rules, (λ a m. m, (λ a m. m, (λ a m. m, ((runtime, gate, network, rest), (source, gate, runtime)))))), ((network, last), (param_send 0 _ (arg_send _ no _ source), search (sendable, gate) depth 10, search (sendable, runtime) depth 10)))

pub returns-clause-all : goal.returns-clause-all
returns-clause-all g t c =
    subst (λ (l : Lock). AllRun l g.S.Source.left g.S.Source.faults g.S.Source.place c.args.seat c.args.batch.jobs.items c.join.new.seat c.push_reserved-2.new.self.items) c.site.view_is
    (push-ends c.site.inside.lock.now _ _ _ c.args.seat c.split-other.new.seat c.split-other.result c.join-before.result.0.0 c.join-before.result.1.0 _ c.args.batch.jobs.items c.pop.new.self.items c.in-Some.last _ c.join-before.result.0.1.items c.join-before.result.1.1
    c.in-Some.ensures.items c.push_reserved-2.ensures.items c.requires.batch.jobs.span c.split-other.ensures.left c.split-other.ensures.given
    c.join-before.ensures.first.0 c.join-before.ensures.second
    (record { both = c.join.ensures.both; mine = c.join.ensures.mine; theirs = c.join.ensures.theirs; own = c.join.ensures.own; brought = c.join.ensures.brought }))
