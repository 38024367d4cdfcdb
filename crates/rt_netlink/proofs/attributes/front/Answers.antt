use Rattle.std.proofs.Common.{arith, length, drop, refl}
use Rattle.std.proofs.lemmas.List.{length-drop}
use Rattle.std.proofs.lemmas.Slice.{between_to_end}
use Rattle.feed_model.specs.Attributes.{padded}
use Rattle.rt_netlink.proofs.AttributesLemmas.{first-good}
use Rattle.rt_netlink.proofs.attributes.front.Goals as goal

-- src/attributes.rt:80:1
pub returns : goal.returns
returns c =
    let s = c.args.bytes.now in (
      first-good s (drop 2 s) _ c.short_at-len.result c.short_at.result c.short_at-len.ensures (omega arith) (omega arith) refl
          (rw (← between_to_end s 2 (length s) (omega arith)) c.short_at.ensures) refl,
      rw (← c.short_at-len.ensures) c.after_padding.ensures,
      rw (c.after_padding.ensures, length-drop (padded c.short_at-len.result) s) (omega arith),
    )
