-- `tables::index::Index::find` meets its contract. The loop's invariant: a walk down the number's bucket has come to `at`, so
-- that what is left to find is at or below it. The measure is `at`, since each record's link goes further down.
-- Assumes nothing.
use Rattle.tables.specs.Index.{Walk}
use Rattle.tables.proofs.index.Index.find.Given as goal

abbrev pub invariant-loop-at : goal.invariant-loop-at
invariant-loop-at l = Walk l.words l.self.count l.x.num l.at

abbrev pub decreases-loop-at : goal.decreases-loop-at
decreases-loop-at l = l.at
