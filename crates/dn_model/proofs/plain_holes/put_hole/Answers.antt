use Rattle.std.proofs.Common.{ℕ, ◌≡◌, ◌<◌, ◌≤◌, false, List, IsTrue, length, slice_index_or, sym, subst}
use Rattle.base.specs.HolesFrom.{is_before, IsPutAmong}
use Rattle.base.specs.declared.hole.Hole.{Hole}
use Rattle.base.proofs.HolesFrom.{put-among}
use Rattle.dn_model.proofs.plain_holes.put_hole.Goals as goal

pub returns : goal.returns
returns c =
    let P : List Hole → Type 0 = λ hs. IsPutAmong c.args.hole c.args.holes.now.items hs in
    let L : List Hole → Type 0 = λ hs. c.place_of-place.result ≤ length hs in
    let B : List Hole → Type 0 = λ hs. (k : ℕ) (d : Hole) → k < c.place_of-place.result → IsTrue (is_before (slice_index_or hs k d) c.args.hole) in
    let A : List Hole → Type 0 = λ hs. (d : Hole) → c.place_of-place.result < length hs → is_before (slice_index_or hs c.place_of-place.result d) c.args.hole ≡ false in
    subst P (sym c.in_ok-insert.ensures.items)
    (put-among c.args.hole c.args.holes.now.items c.place_of-place.result c.requires.order c.requires.other
    (subst L c.as_slice.ensures.value c.place_of-place.ensures.within)
    (subst B c.as_slice.ensures.value c.place_of-place.ensures.before)
    (subst A c.as_slice.ensures.value c.place_of-place.ensures.after))
