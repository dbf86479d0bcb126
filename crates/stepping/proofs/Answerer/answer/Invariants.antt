-- `stepping::Answerer::answer` meets its contract. The loop's invariant: the lines before a place in the text were answered.
-- The measure is what is left of the text, of which each run takes a line at least, since the room has an answer line.
-- Assumes nothing.
use Rattle.std.proofs.Common.{◌-◌, length}
use Rattle.stepping.proofs.Answering.{AnsweredTo}
use Rattle.stepping.proofs.Answerer.answer.Given as goal

abbrev pub invariant-loop-at : goal.invariant-loop-at
invariant-loop-at g l =
    AnsweredTo l.initial.self.words l.text (g.W.Write.contents l.initial.output) l.at l.self.words (g.W.Write.contents l.output)

abbrev pub decreases-loop-at : goal.decreases-loop-at
decreases-loop-at g l = length l.text - l.at
