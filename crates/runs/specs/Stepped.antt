-- What it means that the first line of a text was answered at the front of a room.
-- Rests on the rules' Frames, Layout and Session, and on Cut.
use Rattle.std.specs.Prelude.{◌≡◌, List, ◌++◌, ℕ, take, drop}
use Rattle.rules.specs.Frames.{write_answer}
use Rattle.rules.specs.Layout.{pack, unpack}
use Rattle.rules.specs.Session.{answer_length, line}
use Rattle.runs.specs.Cut.{FirstLine}

pub record Stepped (ws text room : List ℕ) (n : ℕ) (vs filled : List ℕ) : Type 0 where
  pub first : FirstLine text n
  pub left : vs ≡ pack (line (unpack ws) (take n text)).tables
  pub answers : filled ≡ write_answer (line (unpack ws) (take n text)).answer ++ drop answer_length room
