use Rattle.std.proofs.Common.{◌≡◌, ◌+◌, ◌<◌, ◌^◌, ◌∙◌, ap, arith, sym}
use Rattle.base.specs.Cidr.{size}
use Rattle.net_engine.specs.Net.{cut_atoms}
use Rattle.net_engine.specs.Paired.{atoms_with}
use Rattle.net_engine.proofs.Parting.{parted-once, parted-twice}
use Rattle.net_engine.proofs.Standing.{is-net}
use Rattle.net_engine.proofs.ends.cut_ends.Goals as goal

pub cut-requires-2 : goal.cut-requires-2
cut-requires-2 c = c.in_ok-first.ensures.labelled

pub returns-then-past-eq-END : goal.returns-then-past-eq-END
returns-then-past-eq-END c = record {
  sound = c.past_of-past.ensures.sound;
  paired = c.in_ok-first.ensures.paired;
  parted = λ routers os h.
      parted-once (atoms_with c.args.atoms.now c.args.labels.now os) (atoms_with c.cut.new.atoms c.cut.new.labels os) c.args.prefix (is-net routers c.args.atoms.now c.args.labels.now os h).cover c.past_of-past.ensures.sound
      (sym c.past_of-past.ensures.value ∙ c.if-past-eq-END.true)
      (c.in_ok-first.ensures.atoms routers os h ∙ ap (cut_atoms (atoms_with c.args.atoms.now c.args.labels.now os)) c.base.ensures.value);
}

pub returns : goal.returns
returns c =
    let value : c.past_of-past.result ≡ c.args.prefix.base + size c.args.prefix = c.past_of-past.ensures.value in
    let below : c.args.prefix.base + size c.args.prefix < 2 ^ 32 = omega (arith, c.past_of-past.ensures.end, c.if-past-eq-END.false) in
    record {
      sound = c.past_of-past.ensures.sound;
      paired = λ routers os h. c.in_ok-cut.ensures.paired routers os (c.in_ok-first.ensures.paired routers os h);
      parted = λ routers os h.
          parted-twice (atoms_with c.args.atoms.now c.args.labels.now os) (atoms_with c.cut.new.atoms c.cut.new.labels os) (atoms_with c.cut-2.new.atoms c.cut-2.new.labels os) c.args.prefix
          (is-net routers c.args.atoms.now c.args.labels.now os h).cover (is-net routers c.cut.new.atoms c.cut.new.labels os (c.in_ok-first.ensures.paired routers os h)).cover c.past_of-past.ensures.sound below
          (c.in_ok-first.ensures.atoms routers os h ∙ ap (cut_atoms (atoms_with c.args.atoms.now c.args.labels.now os)) c.base.ensures.value)
          (c.in_ok-cut.ensures.atoms routers os (c.in_ok-first.ensures.paired routers os h) ∙ ap (cut_atoms (atoms_with c.cut.new.atoms c.cut.new.labels os)) value);
    }
