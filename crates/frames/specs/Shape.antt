-- What a line that is a frame looks like: how long it is, and that it is digits up to its line feed.
-- Rests on the rules' Tests and Frames, and on frames_laws' Stretches. Assumes nothing.
use Rattle.std.specs.Prelude.{◌≡◌, Bool, true, false, cond, List, ℕ, T, length, get_or, take}
use Rattle.std.proofs.Math.Option.{none, some, none-ne-some}
use Rattle.rules.specs.Tests.{all}
use Rattle.rules.specs.Answers.{Call}
use Rattle.rules.specs.Frames.{line_feed, frame_length, is_digit, call_in, is_frame, read_frame}
use Rattle.frames_laws.specs.Stretches.{passed}

pub record Shape (l : List ℕ) : Type 0 where
  pub long : length l ≡ frame_length
  pub hex : T (all is_digit (take 28 l))
  pub ended : get_or l 28 0 ≡ line_feed

pub frame_shape : (l : List ℕ) → T (is_frame l) → Shape l
unfolding is_frame
frame_shape l t =
    let (((((long, hex), ended), low), high), unused) = simp passed at t in
    record { long = long; hex = hex; ended = ended }

let_through : {A : Type 0} (b : Bool) (x y : A) → cond b (some x) none ≡ some y → T b
let_through true x y e = tt
let_through false x y e = absurd (none-ne-some y e)

-- so does a line that reads as a call
pub read_shape : (l : List ℕ) (c : Call) → read_frame l ≡ some c → Shape l
unfolding read_frame
read_shape l c e = frame_shape l (let_through (is_frame l) (call_in l) c e)
