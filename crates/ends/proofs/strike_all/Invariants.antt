-- `ends::strike_all` meets its contract. The loop's invariant: the words are those after so many turns.
-- Assumes nothing.
use Rattle.ends_laws.specs.Loops.{Turned}
use Rattle.ends_laws.specs.Commit.{strike}
use Rattle.ends.proofs.strike_all.Given as goal

abbrev pub invariant-loop-q : goal.invariant-loop-q
invariant-loop-q l = Turned (strike l.p.num) l.initial.words l.words l.q
