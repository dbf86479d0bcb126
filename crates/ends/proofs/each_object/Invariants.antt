-- `ends::each_object` meets its contract. The loop's invariant: the words are those after so many turns, by whatever says what
-- a turn leaves.
-- Assumes nothing.
use Rattle.std.proofs.Common.{List, ℕ}
use Rattle.calls.specs.declared.existing.Object.{Object}
use Rattle.ends_laws.specs.Loops.{Turned}
use Rattle.ends.specs.Turns.{Leaves}
use Rattle.ends.proofs.each_object.Given as goal

abbrev pub invariant-loop-i : goal.invariant-loop-i
invariant-loop-i g l =
    (leaves : ℕ → List ℕ → List ℕ) → Leaves g.F.Fn l.step (λ (n : Object). leaves n.num) → Turned leaves l.initial.words l.words l.i
