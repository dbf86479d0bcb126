-- `runs::run` meets its contract. The loop's invariant: the lines answered so far are the first of the text, and they gave
-- and left what the rules say. It stops where no byte, or no room for an answer, is left, and then they are the lines that
-- the room has answer lines for. The measure is what is left of the text: a line has at least one byte.
-- Assumes nothing.
use Rattle.std.proofs.Common.{◌-◌, length}
use Rattle.runs.proofs.Through.{Through}
use Rattle.runs.proofs.run.Given as goal

abbrev pub invariant-loop-used : goal.invariant-loop-used
invariant-loop-used l = Through l.initial.words l.calls l.initial.answers l.lines l.used l.words l.answers

abbrev pub decreases-loop-used : goal.decreases-loop-used
decreases-loop-used l = length l.calls - l.used
