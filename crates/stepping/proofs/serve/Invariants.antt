-- `stepping::serve` meets its contract. The loop's invariant: so many turns were taken, each of which read a byte.
-- Assumes nothing.
use Rattle.std.proofs.Common.{take}
use Rattle.stepping.specs.Answered.{OnwardIfKnown}
use Rattle.stepping.proofs.serve.Given as goal

abbrev pub invariant-loop : goal.invariant-loop
invariant-loop g l =
    OnwardIfKnown l.counter l.initial.answerer.words (take l.initial.unfinished.kept l.initial.unfinished.buffer)
    (g.R.Read.remaining l.initial.input) (g.W.Write.contents l.initial.output) l.answerer.words
    (take l.unfinished.kept l.unfinished.buffer) (g.R.Read.remaining l.input) (g.W.Write.contents l.output)
