-- `lookups::wrote_none` meets its contract. The loop's invariant: none of the entries passed is of x. So one that is ends it,
-- and where it ends by itself none is.
-- Assumes nothing.
use Rattle.std.proofs.Common.{◌≡◌, ℕ, ◌≤◌, ◌<◌}
use Rattle.lookups.proofs.Writers.{writer}
use Rattle.lookups.proofs.wrote_none.Given as goal

abbrev pub invariant-loop-j : goal.invariant-loop-j
invariant-loop-j l = (l.j ≤ l.n) × ((k : ℕ) → k < l.j → writer l.words l.o.num k ≡ l.x.num → ⊥)
