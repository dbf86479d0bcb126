-- What an exported call promises: its answer, every word, and for a run of lines every byte of the answers' room, are what
-- the rules' Session gives from what came in.
-- Rests on the rules' Session and on calls' Meaning.
use Rattle.std.specs.Prelude.{◌≡◌, List, ℕ}
use Rattle.rules.specs.Session.{Left, Ran}
use Rattle.calls.specs.declared.Answer.{Answer}
use Rattle.calls.specs.Meaning.{answer_of}

pub record Leaves (l : Left) (a : Answer) (ws : List ℕ) : Type 0 where
  pub answer : answer_of a ≡ l.answer
  pub words : ws ≡ l.words

pub record Runs (r : Ran) (a : Answer) (ws bytes : List ℕ) : Type 0 where
  pub answer : answer_of a ≡ r.answer
  pub words : ws ≡ r.words
  pub room : bytes ≡ r.room
