use Rattle.std.proofs.Common.{◌∙◌, refl}
use Rattle.dn_run.proofs.CallsLemmas.{state_at-with_out}
use Rattle.dn_run.proofs.ReadLemmas.{given_back, was_read, was_fault, called_one}
use Rattle.dn_run.proofs.files.read_file.Goals as goal

pub give_back-requires : goal.give_back-requires
give_back-requires g c =
    rw (c.read_to_end-read.ensures.stays, c.in_ok-source.ensures.place, c.in_ok-source.ensures.handed_out) (state_at-with_out (g.W.World.calls c.args.world.now) c.args.name.now)

pub returns-clause-read : goal.returns-clause-read
returns-clause-read g c =
    was_read (λ v. v.items) c.read_to_end-read.result _ _ _ _ _ _ _ _ _
    (given_back _ _ _ _ _ _ c.in_ok-source.ensures.handed_out (c.read_to_end-read.ensures.stays ∙ c.in_ok-source.ensures.place) c.give_back.ensures.back)
    c.in_ok-source.ensures.fresh c.read_to_end-read.ensures.count c.in_ok-source.ensures.has_bytes c.in_ok-source.ensures.left
    c.read_to_end-read.ensures.all c.read_to_end-read.ensures.end c.read_to_end-read.ensures.within

pub returns-clause-failed : goal.returns-clause-failed
returns-clause-failed g c =
    was_fault _ _ _ _ _ _ _ _ _
    (given_back _ _ _ _ _ _ c.in_ok-source.ensures.handed_out (c.read_to_end-read.ensures.stays ∙ c.in_ok-source.ensures.place) c.give_back.ensures.back)
    c.in_ok-source.ensures.fresh c.read_to_end-read.ensures.failed c.read_to_end-read.ensures.front c.in_ok-source.ensures.has_bytes c.in_ok-source.ensures.left

pub returns-clause-memory : goal.returns-clause-memory
returns-clause-memory g c h =
    called_one _ _ _ _ (given_back _ _ _ _ _ _ c.in_ok-source.ensures.handed_out (c.read_to_end-read.ensures.stays ∙ c.in_ok-source.ensures.place) c.give_back.ensures.back) refl
