use denote.Param.{param}
use denote.Exit.{no}
use denote.RattleType.{RattleType}
use denote.Struct.Field.{shr_ref_field, mut_ref_field}
use denote.Struct.Tuple.{TupleAt}
use mir.Syntax.{named}
use denote.Param.Send.{IsSend, IsSync, sendable, param_send, arg_send, shr_send, mut_send}
use Rattle.std.proofs.Common.{List, [], ◌∷◌, ℕ}
use Rattle.std.proofs.Crossing as heap
use Rattle.std.proofs.option.Option.TheSendSync as option
use Rattle.std.specs.Prelude.{codes}
use Rattle.std.specs.contracts.alloc.Global as Global
use Rattle.std.specs.contracts.option.Option as Option
use Rattle.dn_model.specs.contracts.topology.Topology as Topology
use Rattle.dn_model.proofs.topology.Topology.TheSendSync as topology
use Rattle.feed_threads.specs.contracts.reader_job.Read as Read
use Rattle.feed_threads.specs.contracts.reader_jobs.Readers as Readers
use Rattle.feed_threads.proofs.Crossing.{read-sends, readers-send}
use Rattle.feed_threads.proofs.one_writer.run_both.Lts.{arg-0-1, arg-0-3}
use Rattle.feed_threads.proofs.one_writer.run_both.Goals as goal

-- what a closure has of five things may cross where each of them may
closure-sends : (ν : List ℕ) (a b c d e : RattleType) → IsSend a → IsSend b → IsSend c → IsSend d → IsSend e → IsSend (TupleAt ν (a ∷ b ∷ c ∷ d ∷ e ∷ []))
closure-sends ν a b c d e sa sb sc sd se = search sendable depth 40

pub join_mut-requires-send-F : goal.join_mut-requires-send-F
join_mut-requires-send-F g c κs within =
    let runtime : IsSync (param 2 g.row.R) = search (c.type_bounds.sync-R, sendable) in
    let gate : IsSync (param 1 g.row.G) = search (c.type_bounds.sync-G, sendable) in
    let jobs : IsSend (Option.the_row (Readers.the_row (param 0 g.row.S) g.S.Source)) =
    option.the_send (Readers.the_row (param 0 g.row.S) g.S.Source) (readers-send (param 0 g.row.S) c.type_bounds.send-S g.S.Source) in
    let ref-runtime : RattleType = (shr_ref_field (record { mir = named 8; lft = κs.1.1.1.1.1.1.1.1.0 }) (param 2 g.row.R) tt).row in
    let ref-memory : RattleType = (shr_ref_field (record { mir = named 9; lft = κs.1.1.1.1.1.1.1.1.1.0 }) Global.the_row tt).row in
    let ref-gate : RattleType = (shr_ref_field (record { mir = named 10; lft = κs.1.1.1.1.1.1.1.1.1.1.0 }) (param 1 g.row.G) tt).row in
    let ref-topology : RattleType = (shr_ref_field (record { mir = named 11; lft = κs.1.1.1.1.1.1.1.1.1.1.1.0 }) Topology.the_row tt).row in
    let mut-reading : RattleType = (mut_ref_field (record { mir = named 12; lft = κs.1.1.1.1.1.1.1.1.1.1.1.1.0 }) (Option.the_row (Readers.the_row (param 0 g.row.S) g.S.Source)) tt).row in
    let all : IsSend (TupleAt (codes "feed_threads::one_writer::fn::run_both::join_mut+arg2+Self") (ref-runtime ∷ ref-memory ∷ ref-gate ∷ ref-topology ∷ mut-reading ∷ [])) =
    closure-sends _ ref-runtime ref-memory ref-gate ref-topology mut-reading
    (shr_send _ _ _ runtime) (shr_send _ _ _ heap.sync) (shr_send _ _ _ gate) (shr_send _ _ _ topology.the_sync) (mut_send _ _ _ jobs) in
    param_send 1 (arg-0-1 g.row.S g.row.G g.row.R g.S.laws g.G.laws g.R.laws g.S.Source g.S.Source-dict g.G.Gate g.G.Gate-dict g.R.Threads g.R.Threads-dict g.R.Wait g.R.Wait-dict g.S.Destruct-dict κs) (arg_send _ no _ all)

pub join_mut-requires-send-A : goal.join_mut-requires-send-A
join_mut-requires-send-A g c κs within =
    let read : IsSend (Read.the_row (param 0 g.row.S)) = read-sends (param 0 g.row.S) c.type_bounds.send-S in
    param_send 3 (arg-0-3 g.row.S g.row.G g.row.R g.S.laws g.G.laws g.R.laws g.S.Source g.S.Source-dict g.G.Gate g.G.Gate-dict g.R.Threads g.R.Threads-dict g.R.Wait g.R.Wait-dict g.S.Destruct-dict κs)
    (arg_send _ no _ (heap.Vec-send (Read.the_row (param 0 g.row.S)) read))
