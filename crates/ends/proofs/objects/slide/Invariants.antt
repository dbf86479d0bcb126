-- `ends::objects::slide` meets its contract. The loop's invariant: the words are those after so many turns.
-- Assumes nothing.
use Rattle.ends_laws.specs.Loops.{Turned}
use Rattle.ends_laws.specs.Entries.{slide_one}
use Rattle.ends.proofs.objects.slide.Given as goal

abbrev pub invariant-loop-j : goal.invariant-loop-j
invariant-loop-j l = Turned (slide_one l.o.num l.k) l.initial.words l.words l.j
