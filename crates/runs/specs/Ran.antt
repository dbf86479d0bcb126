-- What it means that a line, and that the lines of a text, were answered and left as the rules say.
-- Rests on the rules' Session and Layout, on frames_laws' Lines and calls' Meaning.
use Rattle.std.specs.Prelude.{◌≡◌, List, ◌++◌, ℕ, ◌*◌, length, drop}
use Rattle.rules.specs.Layout.{pack, unpack}
use Rattle.rules.specs.Session as rules
use Rattle.calls.specs.declared.Answer.{Answer}
use Rattle.calls.specs.Meaning.{answer_of}
use Rattle.frames_laws.specs.Lines.{flat}
use Rattle.runs.specs.declared.Ran.{Ran}

pub record LineActed (ws l : List ℕ) (a : Answer) (vs : List ℕ) : Type 0 where
  pub answered : answer_of a ≡ (rules.line (unpack ws) l).answer
  pub left : vs ≡ pack (rules.line (unpack ws) l).tables

pub record RanLines (ws text room : List ℕ) (r : Ran) (vs filled : List ℕ) : Type 0 where
  pub lines : r.lines ≡ length (rules.answered text (length room))
  pub used : r.used ≡ length (flat (rules.answered text (length room)))
  pub left : vs ≡ pack (rules.tables_after_lines (unpack ws) (rules.answered text (length room)))
  pub answers : filled ≡ rules.answer_lines (unpack ws) (rules.answered text (length room)) ++ drop (rules.answer_length * r.lines) room
