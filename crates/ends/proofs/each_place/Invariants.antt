-- `ends::each_place` meets its contract. The loop's invariant: the words are those after so many turns, by whatever says what
-- a turn leaves.
-- Assumes nothing.
use Rattle.std.proofs.Common.{List, ℕ}
use Rattle.calls.specs.declared.existing.Place.{Place}
use Rattle.ends_laws.specs.Loops.{Turned}
use Rattle.ends.specs.Turns.{Leaves}
use Rattle.ends.proofs.each_place.Given as goal

abbrev pub invariant-loop-p : goal.invariant-loop-p
invariant-loop-p g l =
    (leaves : ℕ → List ℕ → List ℕ) → Leaves g.F.Fn l.step (λ (n : Place). leaves n.num) → Turned leaves l.initial.words l.words l.p
