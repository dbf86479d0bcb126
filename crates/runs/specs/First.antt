-- The first line of a text, and what its first 29 bytes tell of it: where they are a frame, they are that line, and where
-- they are none, that line is none. And what it means that the first line was answered.
-- Rests on the rules' Frames and Session, on basics' Lists, on calls' Meaning, on frames' Shape, and on Cut and Ran. Assumes nothing.
use Rattle.std.specs.Prelude.{◌≡◌, refl, List, ℕ, ◌<◌, T, length, get_or, take}
use Rattle.std.proofs.Common.{sym, ap, ◌∙◌, arith, length-take, length-take-le, get_or-take}
use Rattle.std.proofs.Math.Option.{Option, none, some}
use Rattle.rules.specs.Answers.{Call, bad_frame}
use Rattle.rules.specs.Frames.{frame_length, is_digit, read_frame}
use Rattle.rules.specs.Session.{plainly}
use Rattle.basics.specs.Lists.{all_says, All-at}
use Rattle.calls.specs.Meaning.{answer_of}
use Rattle.frames.specs.Shape.{Shape, read_shape}
use Rattle.runs.specs.declared.Answered.{Answered}
use Rattle.runs.specs.Cut.{FirstLine, Unended, ends_at}
use Rattle.runs.specs.Ran.{LineActed}

-- the answer is that to a bad frame, and the length that of the first line
pub record BadFrame (text : List ℕ) (r : Answered) : Type 0 where
  pub answer : answer_of r.answer ≡ plainly bad_frame
  pub first : FirstLine text r.length

pub record FirstActed (ws text : List ℕ) (r : Answered) (vs : List ℕ) : Type 0 where
  pub first : FirstLine text r.length
  pub acted : LineActed ws (take r.length text) r.answer vs

-- no digit is a line feed
unended : (text : List ℕ) → Shape (take frame_length text) → Unended text 28
unended text s k h e =
    let digit : T (is_digit (get_or (take 28 (take 29 text)) k 0))
    = All-at (λ b. T (is_digit b)) (take 28 (take 29 text)) k 0 ((all_says is_digit (take 28 (take 29 text))).0 s.hex)
    (rw (length-take-le 28 (take 29 text) (omega (arith, s.long))) h)
    in
    rw (get_or-take 28 (take 29 text) k 0 h, get_or-take 29 text k 0 (omega arith), e) at digit

-- a frame at the front of a text is its first line
pub frame_first : (text : List ℕ) (c : Call) → read_frame (take frame_length text) ≡ some c → FirstLine text frame_length
frame_first text c e =
    let s = read_shape (take 29 text) c e in
    ends_at text 28 (omega (arith, s.long, length-take 29 text)) (unended text s)
    (sym (get_or-take 29 text 28 0 (omega arith)) ∙ s.ended)

-- the first line reads as the first 29 bytes do
pub first_reads : (text : List ℕ) (n : ℕ) → FirstLine text n → read_frame (take n text) ≡ read_frame (take frame_length text)
first_reads text n f = go (read_frame (take 29 text)) (read_frame (take n text)) refl refl
  where
    go : (m p : Option Call) → read_frame (take 29 text) ≡ m → read_frame (take n text) ≡ p
        → read_frame (take n text) ≡ read_frame (take 29 text)
    go (some c) p d e =
        let cut = (frame_first text c d).cut in
        let same : take n text ≡ take 29 text = cc f.cut in
        ap read_frame same
    go none (some c) d e =
        let long : n ≡ 29 = sym (length-take-le n text f.within) ∙ (read_shape (take n text) c e).long in
        ap (λ k. read_frame (take k text)) long
    go none none d e = e ∙ sym d

-- a text that is shorter than a frame is none
pub short : (text : List ℕ) → length text < frame_length → none ≡ read_frame (take frame_length text)
short text h = go (read_frame (take 29 text)) refl
  where
    go : (m : Option Call) → read_frame (take 29 text) ≡ m → none ≡ m
    go none e = refl
    go (some c) e = absurd (omega (arith, (read_shape (take 29 text) c e).long, length-take 29 text))
