use denote.Param.{param}
use denote.Exit.{yes, no}
use denote.RattleType.{RattleType}
use denote.Struct.Field.{shr_ref_field}
use denote.Struct.Tuple.{TupleAt}
use mir.Syntax.{named}
use denote.Param.Send.{IsSend, IsSync, sendable, param_send, arg_send, shr_send}
use Rattle.std.proofs.Crossing as heap
use Rattle.std.specs.Prelude.{codes}
use Rattle.std.specs.contracts.alloc.Global as Global
use Rattle.dn_model.specs.contracts.topology.Topology as Topology
use Rattle.dn_model.proofs.topology.Topology.TheSendSync as topology
use Rattle.feed_threads.proofs.reader_jobs.+fn-run_readers-join+arg2+run_readers.Lts-run_readers.{arg-8-1, arg-8-3}
use Rattle.feed_threads.specs.contracts.reader_job.Read as Read
use Rattle.feed_threads.specs.contracts.reader_jobs.Readers as Readers
use Rattle.feed_threads.proofs.Crossing.{read-sends, readers-send}
use Rattle.std.proofs.Common.{rules, ◌≡◌, ◌≤◌, [], length, vec_capacity, ℕ, ◌+◌, ◌∙◌, List, ◌∷◌, ap, sym, arith}
use Rattle.std.proofs.lemmas.List.{length-append, nil_from_length}
use Rattle.std.proofs.lemmas.Bool.{eqb-true}
use Rattle.fast_pins.specs.Known.{Known}
use Rattle.feed_threads.specs.Jobs.{Task}
use Rattle.feed_threads.specs.Reads.{ReadsAlone}
use Rattle.feed_threads.proofs.AllLemmas.{popped}
use Rattle.feed_threads.proofs.ReadLemmas.{all-read-more, all-read-none}
use Rattle.feed_threads.proofs.reader_jobs.+fn-run_readers-join+arg2+run_readers.Goals as goal

pub returns-in_default-clause-read : goal.returns-in_default-clause-read
returns-in_default-clause-read g t c =
    let e = c.in_default.ensures.cases.0 in let count = c.requires.batch.count in
    all-read-none _ _ _ _ (nil_from_length c.args.batch.readers.items (omega (arith, e, count))) (nil_from_length c.args.batch.jobs.items (omega (arith, e))) c.requires.batch.room.0

pub read_job-requires-clause-alone : goal.read_job-requires-clause-alone
read_job-requires-clause-alone g t c κs within =
    (popped (λ (job : Task g.row.S.Denot). ReadsAlone job) c.args.batch.jobs.items c.pop.new.self.items c.in-Some.job c.in-Some.ensures.items c.requires.batch.alone).last_is

pub read_job-requires-clause-topology : goal.read_job-requires-clause-topology
read_job-requires-clause-topology g t c κs within =
    (popped (λ (r : Known). r.topology ≡ c.args.topology.now) c.args.batch.readers.items c.pop-2.new.self.items c.in-Some-pop.reader c.in-Some-pop.ensures.items c.requires.batch.topology).last_is

pub returns-then-is_empty-clause-read : goal.returns-then-is_empty-clause-read
returns-then-is_empty-clause-read g t c =
    let empty : c.pop.new.self.items ≡ [] = nil_from_length c.pop.new.self.items (sym c.pop.new.self.ok.0 ∙ eqb-true c.pop.new.self.len 0 (sym c.if-is_empty.ensures)) in
    let jobs : length c.args.batch.jobs.items ≡ length c.pop.new.self.items + 1 = ap length c.in-Some.ensures.items ∙ length-append c.pop.new.self.items (c.in-Some.job ∷ []) in
    let readers : length c.args.batch.readers.items ≡ length c.pop-2.new.self.items + 1 = ap length c.in-Some-pop.ensures.items ∙ length-append c.pop-2.new.self.items (c.in-Some-pop.reader ∷ []) in
    let none : length c.pop.new.self.items ≡ 0 = ap length empty in let count = c.requires.batch.count in
    all-read-more _ _ c.pop-2.new.self.items _ c.pop.new.self.items _ c.args.batch.room.items c.in-Some-pop.reader c.in-Some.job c.read_job.result
    c.in-Some-pop.ensures.items c.in-Some.ensures.items c.push_reserved.ensures.items c.read_job.ensures.pins c.read_job.ensures.number c.read_job.ensures.ends
    (all-read-none _ _ _ _ (nil_from_length c.pop-2.new.self.items (omega (arith, jobs, readers, none, count))) empty c.requires.batch.room.0)

-- what a closure has of five things may cross where each of them may
closure-sends : (ν : List ℕ) (a b c d e : RattleType) → IsSend a → IsSend b → IsSend c → IsSend d → IsSend e → IsSend (TupleAt ν (a ∷ b ∷ c ∷ d ∷ e ∷ []))
closure-sends ν a b c d e sa sb sc sd se = search sendable depth 40

pub join-before-requires-send-F : goal.join-before-requires-send-F
join-before-requires-send-F g t c κs within =
    let runtime : IsSync (param 2 g.row.R) = search (c.requires.crosses.0, sendable) in
    let gate : IsSync (param 1 g.row.G) = search (c.requires.crosses.1, sendable) in
    let source : IsSend (param 0 g.row.S) = search sendable depth 10 in
    let jobs : IsSend (Readers.the_row (param 0 g.row.S) g.S.Source) = readers-send (param 0 g.row.S) source g.S.Source in
    let ref-runtime : RattleType = (shr_ref_field (record { mir = named 6; lft = κs.1.1.1.1.1.1.0 }) (param 2 g.row.R) tt).row in
    let ref-gate : RattleType = (shr_ref_field (record { mir = named 7; lft = κs.1.1.1.1.1.1.1.0 }) (param 1 g.row.G) tt).row in
    let ref-topology : RattleType = (shr_ref_field (record { mir = named 8; lft = κs.1.1.1.1.1.1.1.1.0 }) Topology.the_row tt).row in
    let all : IsSend (TupleAt (codes "feed_threads::reader_jobs::fn::run_readers::join+arg2+Self") (ref-runtime ∷ Global.the_row ∷ ref-gate ∷ ref-topology ∷ Readers.the_row (param 0 g.row.S) g.S.Source ∷ [])) =
    closure-sends _ ref-runtime Global.the_row ref-gate ref-topology (Readers.the_row (param 0 g.row.S) g.S.Source)
    (shr_send _ _ _ runtime) heap.send (shr_send _ _ _ gate) (shr_send _ _ _ topology.the_sync) jobs in
    param_send 1 (arg-8-1 g.row.S g.row.G g.row.R g.S.laws g.G.laws g.R.laws g.S.Source g.S.Source-dict g.G.Gate g.G.Gate-dict g.R.Threads g.R.Threads-dict g.S.Destruct-dict κs) (arg_send _ yes _ all)

pub join-before-requires-send-A : goal.join-before-requires-send-A
join-before-requires-send-A g t c κs within =
    let source : IsSend (param 0 g.row.S) = search sendable depth 10 in
    let read : IsSend (Read.the_row (param 0 g.row.S)) = read-sends (param 0 g.row.S) source in
    param_send 3 (arg-8-3 g.row.S g.row.G g.row.R g.S.laws g.G.laws g.R.laws g.S.Source g.S.Source-dict g.G.Gate g.G.Gate-dict g.R.Threads g.R.Threads-dict g.S.Destruct-dict κs)
    (arg_send _ no _ (heap.Vec-send (Read.the_row (param 0 g.row.S)) read))

pub join-before-requires-after_bounds : goal.join-before-requires-after_bounds
join-before-requires-after_bounds g t c κs within =
    let a = popped (λ (job : Task g.row.S.Denot). ReadsAlone job) c.args.batch.jobs.items c.pop.new.self.items c.in-Some.job c.in-Some.ensures.items c.requires.batch.alone in
    let r = popped (λ (r : Known). r.topology ≡ c.args.topology.now) c.args.batch.readers.items c.pop-2.new.self.items c.in-Some-pop.reader c.in-Some-pop.ensures.items c.requires.batch.topology in
    let jobs : length c.args.batch.jobs.items ≡ length c.pop.new.self.items + 1 = ap length c.in-Some.ensures.items ∙ length-append c.pop.new.self.items (c.in-Some.job ∷ []) in
    let readers : length c.args.batch.readers.items ≡ length c.pop-2.new.self.items + 1 = ap length c.in-Some-pop.ensures.items ∙ length-append c.pop-2.new.self.items (c.in-Some-pop.reader ∷ []) in
    let given = c.requires.batch.count in
    let count : length c.pop-2.new.self.items ≡ length c.pop.new.self.items = omega (arith, jobs, readers, given) in
    let room : length c.args.batch.jobs.items ≤ vec_capacity c.args.batch.room = c.requires.batch.room.1 in
    let left : length c.pop.new.self.items ≤ vec_capacity c.args.batch.room = omega (arith, jobs, room) in
    let alone = a.rest in let one-alone = a.last_is in let topologies = r.rest in let one-topology = r.last_is in
    let empty = c.requires.batch.room.0 in let runtime = c.requires.crosses.0 in let gate = c.requires.crosses.1 in
    let source : IsSend (param 0 g.row.S) = search sendable depth 10 in
    (search rules, ((one-topology, one-alone), (param_send 0 _ (arg_send _ no _ source), search (sendable, gate) depth 10, search (sendable, runtime) depth 10)))

pub returns-clause-read : goal.returns-clause-read
returns-clause-read g t c =
    all-read-more _ _ c.pop-2.new.self.items _ c.pop.new.self.items _ c.join-before.result.0.items c.in-Some-pop.reader c.in-Some.job c.join-before.result.1
    c.in-Some-pop.ensures.items c.in-Some.ensures.items c.push_reserved-2.ensures.items c.join-before.ensures.second.pins c.join-before.ensures.second.number c.join-before.ensures.second.ends
    c.join-before.ensures.first.0
