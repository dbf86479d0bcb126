-- `maruvoog::mv_line` meets its contract: what the line reads as is asked of the words, and a bad frame leaves them.
-- Assumes nothing.
use Rattle.std.proofs.Common.{◌≡◌, ap, sym, ◌∙◌, List, ℕ}
use mathlib.Core.Option.{none, some}
use Rattle.rules.specs.Answers.{bad_frame}
use Rattle.rules.specs.Answers as rules
use Rattle.rules.specs.Frames.{read_frame}
use Rattle.rules.specs.Session.{plainly, call_words, asked_words, line_words}
use Rattle.calls.specs.declared.Answer.{Answer}
use Rattle.calls.specs.Meaning.{answer_of}
use Rattle.frames.specs.Parsed.{parsed_as}
use Rattle.maruvoog.specs.Promised.{Leaves}
use Rattle.maruvoog.proofs.mv_line.Goals as goal

call_read : (ws l vs : List ℕ) (q : rules.Call) (a : Answer) → some q ≡ read_frame l → Leaves (call_words ws q) a vs
    → Leaves (line_words ws l) a vs
unfolding line_words asked_words
call_read ws l vs q a e leaves = rw (← e) leaves

bad_read : (ws l : List ℕ) (a : Answer) → none ≡ read_frame l → answer_of a ≡ plainly bad_frame → Leaves (line_words ws l) a ws
unfolding line_words asked_words
bad_read ws l a e g = record { answer = rw (← e) g; words = rw (← e) }

pub returns-in-Some : goal.returns-in-Some
returns-in-Some c = call_read _ _ _ _ _ (ap parsed_as (sym c.in-Some.is) ∙ c.read.ensures) c.one.ensures

pub returns-in-None : goal.returns-in-None
returns-in-None c = bad_read _ _ _ (ap parsed_as (sym c.in-None.is) ∙ c.read.ensures) c.refused.ensures
