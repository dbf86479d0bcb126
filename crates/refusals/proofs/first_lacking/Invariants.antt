-- `refusals::first_lacking` meets its contract. The loop's invariant: no object passed is one that the transaction wrote and
-- that lacks its entry. So the first that is, or 32 where the loop ends, is the lowest.
-- Assumes nothing.
use Rattle.std.proofs.Common.{ℕ, ◌≤◌, ◌<◌, T}
use Rattle.rules.specs.Tables.{object_count}
use Rattle.calls.specs.Meaning.{txn_of}
use Rattle.refusals.specs.Lacking.{is_lacking}
use Rattle.refusals.proofs.first_lacking.Given as goal

abbrev pub invariant-loop-i : goal.invariant-loop-i
invariant-loop-i l = (l.i ≤ object_count) × ((k : ℕ) → k < l.i → T (is_lacking l.t.words.now (txn_of l.live.who) l.live.place.num l.queued k) → ⊥)
