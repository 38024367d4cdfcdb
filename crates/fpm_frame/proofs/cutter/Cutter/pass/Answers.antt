-- The start moves by the frame's length, so what is held begins after the frame.
use Rattle.std.proofs.Common.{◌≡◌, ◌+◌, ℕ, ◌++◌, List, drop, length, length-append, arith, ap, ap₂, sym, ◌∙◌, drop-drop, drop_at}
use Rattle.feed_model.specs.Frames.{frame_text, BeginsFrame}
use Rattle.fpm_frame.specs.Held.{Held, PassesFrame}
use Rattle.fpm_frame.proofs.cutter.Cutter.pass.Goals as goal

-- a frame that is passed is counted, so all together stay the same
counts : (old new : Held) → BeginsFrame old.held → PassesFrame old new → new.offset + length new.held ≡ old.offset + length old.held
counts old new (f, more, ok, begins) passes =
    let after : new ≡ record { offset = old.offset + length (frame_text f); held = more } = passes f more ok begins in
    let offset : new.offset ≡ old.offset + length (frame_text f) = ap (λ (h : Held). h.offset) after in
    let held : new.held ≡ more = ap (λ (h : Held). h.held) after in
    let fewer : length new.held ≡ length more = ap length held in
    let all : length old.held ≡ length (frame_text f ++ more) = ap length begins in
    omega (arith, length-append (frame_text f) more)

pub returns-clause-frame : goal.returns-clause-frame
returns-clause-frame c f more ok begins =
    let items : List ℕ = c.self.inside.buffer.items in
    let start : ℕ = c.self.inside.start in
    let n : ℕ = c.frame_length-length.result in
    let whole : n ≡ length (frame_text f) = c.frame_length-length.ensures f more ok (c.held.ensures ∙ begins) in
    let from : c.self.inside.offset ≡ c.args.self.now.offset = ap (λ (h : Held). h.offset) c.self.view_is in
    let held : drop start items ≡ c.args.self.now.held = ap (λ (h : Held). h.held) c.self.view_is in
    let rest : drop (start + n) items ≡ more = sym (drop-drop n start items) ∙ ap (drop n) (held ∙ begins) ∙ drop_at (frame_text f) more n (sym whole) in
    let make = λ (offset : ℕ) (bytes : List ℕ). let made : Held = record { offset = offset; held = bytes } in made in
    ap₂ make (ap₂ (λ (a b : ℕ). a + b) from whole) rest

pub returns-clause-count : goal.returns-clause-count
returns-clause-count c = counts c.args.self.now _ c.requires (returns-clause-frame c)
