-- Laws of frames: a stream has one reading, and how a reading grows.
use Rattle.std.proofs.Common.{◌≡◌, ℕ, Bool, true, false, if◌then◌else◌, ◌+◌, ◌-◌, ◌*◌, ◌/◌, ◌%◌, ◌<◌, ◌≤◌, ◌^◌, ◌==◌, List, [], ◌∷◌, ◌++◌, length, get_or, take, drop, replicate, Some, None, refl, sym, ◌∙◌, ap, ap₂, append_assoc, arith}
use Rattle.std.specs.List.{All}
use Rattle.std.specs.Int.{w16, to_be_bytes, from_be_bytes}
use Rattle.std.proofs.lemmas.Nat.{from_be_bytes-to_be_bytes_2}
use Rattle.std.proofs.lemmas.Bool.{le-ltb}
use Rattle.std.proofs.lemmas.List.{take_at, drop_at, length-append, append-nil, length-take-le, length-replicate, take-append-drop}
use Rattle.std.proofs.lemmas.List.Elements.{All-append, All-head, All-tail}
use Rattle.feed_model.specs.Frames.{Frame, frame_text, IsFrame, BeginsFrame, IsFrameFront, FrameRest, NoRest, CutFrame, BadVersion, BadFrameLength, rest_after_version, rest_kind, lost_cause, frames_text, Frames}

-- a length fits two bytes, which give it back
length_of_text : (f : Frame) → IsFrame f → from_be_bytes w16 (to_be_bytes w16 (4 + length f.payload)) ≡ 4 + length f.payload
length_of_text f ok = from_be_bytes-to_be_bytes_2 (4 + length f.payload) (let fits : length f.payload ≤ 65531 = ok.length_fits in omega arith)

same_number : (n m : ℕ) → n < 2 ^ 16 → m < 2 ^ 16 → to_be_bytes w16 n ≡ to_be_bytes w16 m → n ≡ m
same_number n m n_fits m_fits e = sym (from_be_bytes-to_be_bytes_2 n n_fits) ∙ ap (from_be_bytes w16) e ∙ from_be_bytes-to_be_bytes_2 m m_fits

-- lists whose first parts are equally long have equal parts
same_parts : (p q xs ys : List ℕ) → length p ≡ length q → p ++ xs ≡ q ++ ys → (p ≡ q) × (xs ≡ ys)
same_parts p q xs ys l e = (
  sym (take_at p xs (length p) refl) ∙ ap (take (length p)) e ∙ take_at q ys (length p) (sym l),
  sym (drop_at p xs (length p) refl) ∙ ap (drop (length p)) e ∙ drop_at q ys (length p) (sym l),
)

same_frame : (f g : Frame) → f.kind ≡ g.kind → f.payload ≡ g.payload → f ≡ g
same_frame f g k p = let frame = λ (kind : ℕ) (payload : List ℕ). let made : Frame = record { kind = kind; payload = payload } in made in ap₂ frame k p

-- the frame at the front of a text is determined, and so is what follows it
pub frame_text-same : (f g : Frame) (xs ys : List ℕ) → IsFrame f → IsFrame g → frame_text f ++ xs ≡ frame_text g ++ ys → (f ≡ g) × (xs ≡ ys)
frame_text-same f g xs ys f_ok g_ok e =
    let f_fits : length f.payload ≤ 65531 = f_ok.length_fits in
    let g_fits : length g.payload ≤ 65531 = g_ok.length_fits in
    let kinds : f.kind ≡ g.kind = cc in
    let numbers : to_be_bytes w16 (4 + length f.payload) ≡ to_be_bytes w16 (4 + length g.payload) = cc in
    let tails : f.payload ++ xs ≡ g.payload ++ ys = cc in
    let lengths : 4 + length f.payload ≡ 4 + length g.payload = same_number (4 + length f.payload) (4 + length g.payload) (omega arith) (omega arith) numbers in
    let parts : (f.payload ≡ g.payload) × (xs ≡ ys) = same_parts f.payload g.payload xs ys (omega arith) tails in
    (same_frame f g kinds parts.0, parts.1)

texts-same : (fs gs : List Frame) (r s : List ℕ) → All IsFrame fs → All IsFrame gs → (BeginsFrame r → ⊥) → (BeginsFrame s → ⊥) →
    frames_text fs ++ r ≡ frames_text gs ++ s → (fs ≡ gs) × (r ≡ s)
texts-same [] [] r s fs_ok gs_ok r_not s_not e = (refl, e)
texts-same [] (g ∷ gs) r s fs_ok gs_ok r_not s_not e =
    absurd (r_not (g, frames_text gs ++ s, All-head IsFrame g gs gs_ok, e ∙ append_assoc (frame_text g) (frames_text gs) s))
texts-same (f ∷ fs) [] r s fs_ok gs_ok r_not s_not e =
    absurd (s_not (f, frames_text fs ++ r, All-head IsFrame f fs fs_ok, sym e ∙ append_assoc (frame_text f) (frames_text fs) r))
texts-same (f ∷ fs) (g ∷ gs) r s fs_ok gs_ok r_not s_not e =
    let apart : frame_text f ++ (frames_text fs ++ r) ≡ frame_text g ++ (frames_text gs ++ s) =
    sym (append_assoc (frame_text f) (frames_text fs) r) ∙ e ∙ append_assoc (frame_text g) (frames_text gs) s in
    let first : (f ≡ g) × (frames_text fs ++ r ≡ frames_text gs ++ s) =
    frame_text-same f g (frames_text fs ++ r) (frames_text gs ++ s) (All-head IsFrame f fs fs_ok) (All-head IsFrame g gs gs_ok) apart in
    let others : (fs ≡ gs) × (r ≡ s) =
    texts-same fs gs r s (All-tail IsFrame f fs fs_ok) (All-tail IsFrame g gs gs_ok) r_not s_not first.1 in
    let heads : f ≡ g = first.0 in
    let tails : fs ≡ gs = others.0 in
    (cc, others.1)

-- a text has one reading
pub Frames-same : (bytes : List ℕ) (fs gs : List Frame) (r s : List ℕ) → Frames bytes fs r → Frames bytes gs s → (fs ≡ gs) × (r ≡ s)
Frames-same bytes fs gs r s a b = texts-same fs gs r s a.each b.each a.left b.left (sym a.whole ∙ b.whole)

pub frames_text-append : (fs gs : List Frame) → frames_text (fs ++ gs) ≡ frames_text fs ++ frames_text gs
frames_text-append [] gs = refl
frames_text-append (f ∷ fs) gs = ap (λ text. frame_text f ++ text) (frames_text-append fs gs) ∙ sym (append_assoc (frame_text f) (frames_text fs) (frames_text gs))

pub frames_text-push : (fs : List Frame) (f : Frame) → frames_text (fs ++ f ∷ []) ≡ frames_text fs ++ frame_text f
frames_text-push fs f = frames_text-append fs (f ∷ []) ∙ ap (λ text. frames_text fs ++ text) (append-nil (frame_text f))

-- the offset of the next frame grows by the frame's text
pub length-frames_text-push : (fs : List Frame) (f : Frame) → length (frames_text (fs ++ f ∷ [])) ≡ length (frames_text fs) + (4 + length f.payload)
length-frames_text-push fs f = rw (frames_text-push fs f) (omega (arith, length-append (frames_text fs) (frame_text f)))

pub length-frame_text : (f : Frame) → length (frame_text f) ≡ 4 + length f.payload
length-frame_text f = omega arith

-- a frame is passed: it goes from what is held to the frames
pub texts-pass : (bytes : List ℕ) (fs : List Frame) (f : Frame) (held more : List ℕ) →
    bytes ≡ frames_text fs ++ held → held ≡ frame_text f ++ more → bytes ≡ frames_text (fs ++ f ∷ []) ++ more
texts-pass bytes fs f held more e h =
    e ∙ ap (λ text. frames_text fs ++ text) h ∙ sym (append_assoc (frames_text fs) (frame_text f) more)
    ∙ ap (λ text. text ++ more) (sym (frames_text-push fs f))

-- a piece is fed: it goes to the end of what is held
pub texts-feed : (bytes : List ℕ) (fs : List Frame) (held piece : List ℕ) →
    bytes ≡ frames_text fs ++ held → bytes ++ piece ≡ frames_text fs ++ (held ++ piece)
texts-feed bytes fs held piece e = ap (λ text. text ++ piece) e ∙ append_assoc (frames_text fs) held piece

-- the frames so far, and then those of what is held, are those of all
pub Frames-append : (bytes : List ℕ) (fs gs : List Frame) (held rest : List ℕ) →
    bytes ≡ frames_text fs ++ held → All IsFrame fs → Frames held gs rest → Frames bytes (fs ++ gs) rest
Frames-append bytes fs gs held rest e fs_ok b = record {
  whole = e ∙ ap (λ text. frames_text fs ++ text) b.whole ∙ sym (append_assoc (frames_text fs) (frames_text gs) rest)
      ∙ ap (λ text. text ++ rest) (sym (frames_text-append fs gs));
  each = All-append IsFrame fs gs fs_ok b.each;
  left = b.left;
}

-- where a whole frame begins, no header is lost
rest_kind-frame : (f : Frame) (more : List ℕ) → IsFrame f → rest_kind (frame_text f ++ more) ≡ CutFrame
rest_kind-frame f more ok =
    let fits : 4 ≤ from_be_bytes w16 (to_be_bytes w16 (4 + length f.payload)) = rw (length_of_text f ok) (omega arith) in
    rw (le-ltb (from_be_bytes w16 (to_be_bytes w16 (4 + length f.payload))) 4 fits) refl

-- a lost header begins no frame
pub lost-not_frame : (bytes : List ℕ) (cause : ℕ) → lost_cause (rest_kind bytes) ≡ Some cause → BeginsFrame bytes → ⊥
lost-not_frame bytes cause lost (f, more, ok, e) =
    let cut : rest_kind bytes ≡ CutFrame = ap rest_kind e ∙ rest_kind-frame f more ok in
    let none : lost_cause (rest_kind bytes) ≡ None = ap lost_cause cut in
    cc

-- before its fourth byte a header is lost by its version alone
lost_by_version : (is_one : Bool) (rest : FrameRest) (cause : ℕ) → lost_cause (if is_one then CutFrame else BadVersion) ≡ Some cause →
    (if is_one then rest else BadVersion) ≡ (if is_one then CutFrame else BadVersion)
lost_by_version true rest cause lost = cc
lost_by_version false rest cause lost = refl

-- whatever comes after a lost header, it stays lost
pub lost-stays : (bytes more : List ℕ) (cause : ℕ) → lost_cause (rest_kind bytes) ≡ Some cause → rest_kind (bytes ++ more) ≡ rest_kind bytes
lost-stays [] more cause lost = cc
lost-stays (version ∷ []) more cause lost = lost_by_version (version == 1) (rest_after_version more) cause lost
lost-stays (version ∷ kind ∷ []) more cause lost = lost_by_version (version == 1) (rest_after_version (kind ∷ more)) cause lost
lost-stays (version ∷ kind ∷ high ∷ []) more cause lost = lost_by_version (version == 1) (rest_after_version (kind ∷ high ∷ more)) cause lost
lost-stays (version ∷ kind ∷ high ∷ low ∷ payload) more cause lost = refl

-- nothing after a lost header is read as a frame
pub Frames-after_lost : (bytes more : List ℕ) (fs : List Frame) (rest : List ℕ) (cause : ℕ) → Frames bytes fs rest →
    lost_cause (rest_kind rest) ≡ Some cause → Frames (bytes ++ more) fs (rest ++ more)
Frames-after_lost bytes more fs rest cause reading lost = record {
  whole = texts-feed bytes fs rest more reading.whole;
  each = reading.each;
  left = lost-not_frame (rest ++ more) cause (ap lost_cause (lost-stays rest more cause lost) ∙ lost);
}

-- the front of a frame begins no whole frame
pub front-not_frame : (bytes : List ℕ) → IsFrameFront bytes → BeginsFrame bytes → ⊥
front-not_frame bytes (f, more, f_ok, some, e) (g, after, g_ok, h) =
    let joined : frame_text g ++ (after ++ more) ≡ frame_text f ++ [] =
    sym (append_assoc (frame_text g) after more) ∙ ap (λ text. text ++ more) (sym h) ∙ e ∙ sym (append-nil (frame_text f)) in
    let parts : (g ≡ f) × (after ++ more ≡ []) = frame_text-same g f (after ++ more) [] g_ok f_ok joined in
    let none : length (after ++ more) ≡ 0 = ap length parts.1 in
    omega (arith, length-append after more)

-- the front of a frame is no lost header
pub front-not_lost : (bytes : List ℕ) → IsFrameFront bytes → lost_cause (rest_kind bytes) ≡ None
front-not_lost bytes (f, more, f_ok, some, e) =
    let whole : rest_kind (bytes ++ more) ≡ CutFrame = ap rest_kind (e ∙ sym (append-nil (frame_text f))) ∙ rest_kind-frame f [] f_ok in
    not_lost_by (rest_kind bytes) (λ cause lost. let stays : rest_kind (bytes ++ more) ≡ rest_kind bytes = lost-stays bytes more cause lost in let none : lost_cause (rest_kind bytes) ≡ None = ap lost_cause (sym stays ∙ whole) in cc)
  where
    not_lost_by : (rest : FrameRest) → ((cause : ℕ) → lost_cause rest ≡ Some cause → ⊥) → lost_cause rest ≡ None
    not_lost_by NoRest h = refl
    not_lost_by CutFrame h = refl
    not_lost_by BadVersion h = absurd (h 15 refl)
    not_lost_by BadFrameLength h = absurd (h 16 refl)

-- the bytes of a number below 2^16 give it back
number_bytes : (high low n : ℕ) → high < 256 → low < 256 → n ≡ from_be_bytes w16 (high ∷ low ∷ []) → to_be_bytes w16 n ≡ high ∷ low ∷ []
number_bytes high low n high_fits low_fits e =
    let number : n ≡ high * 256 + low = e in
    let first : n / 256 % 256 ≡ high = omega arith in
    let second : n % 256 ≡ low = omega arith in
    cc

-- the text of a frame of this kind and payload, whose length these two bytes say
text_by_bytes : (kind high low : ℕ) (payload : List ℕ) → high < 256 → low < 256 → 4 + length payload ≡ from_be_bytes w16 (high ∷ low ∷ []) →
    1 ∷ kind ∷ high ∷ low ∷ payload ≡ frame_text (record { kind = kind; payload = payload })
text_by_bytes kind high low payload high_fits low_fits e =
    ap (λ (bytes : List ℕ). 1 ∷ kind ∷ (bytes ++ payload)) (sym (number_bytes high low (4 + length payload) high_fits low_fits e))

-- a header whose length is there as a whole begins a frame
pub whole_frame : (kind high low : ℕ) (bytes : List ℕ) → kind < 256 → high < 256 → low < 256 →
    4 ≤ from_be_bytes w16 (high ∷ low ∷ []) → from_be_bytes w16 (high ∷ low ∷ []) ≤ 4 + length bytes →
    let f : Frame = record { kind = kind; payload = take (from_be_bytes w16 (high ∷ low ∷ []) - 4) bytes } in
    IsFrame f × (1 ∷ kind ∷ high ∷ low ∷ bytes ≡ frame_text f ++ drop (from_be_bytes w16 (high ∷ low ∷ []) - 4) bytes)
whole_frame kind high low bytes kind_fits high_fits low_fits long held =
    let number : from_be_bytes w16 (high ∷ low ∷ []) ≡ high * 256 + low = refl in
    let size : ℕ = high * 256 + low - 4 in
    let within : size ≤ length bytes = omega arith in
    let sized : length (take size bytes) ≡ size = length-take-le size bytes within in
    let fits : length (take size bytes) ≤ 65531 = omega arith in
    let says : 4 + length (take size bytes) ≡ high * 256 + low = omega arith in (
      record { kind_fits = kind_fits; length_fits = fits },
      ap (λ (text : List ℕ). 1 ∷ kind ∷ high ∷ low ∷ text) (sym (take-append-drop size bytes))
          ∙ ap (λ (text : List ℕ). text ++ drop size bytes) (text_by_bytes kind high low (take size bytes) high_fits low_fits says),
    )

-- a version, a kind and a length that isn't reached are the front of a frame
pub cut_frame : (kind high low : ℕ) (bytes : List ℕ) → kind < 256 → high < 256 → low < 256 →
    4 + length bytes < from_be_bytes w16 (high ∷ low ∷ []) → IsFrameFront (1 ∷ kind ∷ high ∷ low ∷ bytes)
cut_frame kind high low bytes kind_fits high_fits low_fits short =
    let size : ℕ = high * 256 + low - 4 in
    let wanting : List ℕ = replicate (size - length bytes) 0 in
    let wanted : length wanting ≡ size - length bytes = length-replicate (size - length bytes) 0 in
    let sized : length (bytes ++ wanting) ≡ length bytes + length wanting = length-append bytes wanting in
    let says : 4 + length (bytes ++ wanting) ≡ high * 256 + low = omega arith in (
      record { kind = kind; payload = bytes ++ wanting },
      wanting,
      record { kind_fits = kind_fits; length_fits = omega arith },
      omega arith,
      text_by_bytes kind high low (bytes ++ wanting) high_fits low_fits says,
    )

-- where nothing is, a whole frame is wanting
pub nothing-front : IsFrameFront []
nothing-front = (record { kind = 0; payload = [] }, 1 ∷ 0 ∷ 0 ∷ 4 ∷ [], record { kind_fits = omega arith; length_fits = omega arith }, omega arith, refl)

cut_header-1 : IsFrameFront (1 ∷ [])
cut_header-1 = (record { kind = 0; payload = [] }, 0 ∷ 0 ∷ 4 ∷ [], record { kind_fits = omega arith; length_fits = omega arith }, omega arith, refl)

cut_header-2 : (kind : ℕ) → kind < 256 → IsFrameFront (1 ∷ kind ∷ [])
cut_header-2 kind fits = (record { kind = kind; payload = [] }, 0 ∷ 4 ∷ [], record { kind_fits = fits; length_fits = omega arith }, omega arith, refl)

cut_header-3 : (kind high : ℕ) → kind < 256 → high < 256 → IsFrameFront (1 ∷ kind ∷ high ∷ [])
cut_header-3 kind high kind_fits high_fits =
    let zeros : List ℕ = replicate (high * 256) 0 in
    let many : length zeros ≡ high * 256 = length-replicate (high * 256) 0 in
    let says : 4 + length zeros ≡ from_be_bytes w16 (high ∷ 4 ∷ []) = omega arith in (
      record { kind = kind; payload = zeros },
      4 ∷ zeros,
      record { kind_fits = kind_fits; length_fits = omega arith },
      omega arith,
      text_by_bytes kind high 4 zeros high_fits (omega arith) says,
    )

-- a version and fewer than three bytes after it are the front of a frame
pub cut_header : (bytes : List ℕ) → ((place : ℕ) → get_or bytes place 0 < 256) → length bytes < 3 → IsFrameFront (1 ∷ bytes)
cut_header [] fits short = cut_header-1
cut_header (kind ∷ []) fits short = cut_header-2 kind (fits 0)
cut_header (kind ∷ high ∷ []) fits short = cut_header-3 kind high (fits 0) (fits 1)
cut_header (kind ∷ high ∷ low ∷ bytes) fits short = absurd (omega arith)
