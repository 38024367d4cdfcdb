use Rattle.atom_map.proofs.Meets.{shares-where-meets, meets-where-shares}
use Rattle.atom_map.proofs.laws.meeting_is_sharing.Goals as goal

pub returns : goal.returns
returns c = λ row lo hi o. (shares-where-meets row lo hi o, meets-where-shares row lo hi)
