-- `tables::places::used_places` meets its contract. The loop's invariant: what is collected so far is the set of the
-- used places passed. Assumes nothing.
use Rattle.std.proofs.Common.{◌≡◌}
use Rattle.rules.specs.Sets.{collect}
use Rattle.tables.specs.Seats.{is_used}
use Rattle.tables.proofs.places.used_places.Given as goal

abbrev pub invariant-loop-q : goal.invariant-loop-q
invariant-loop-q l = (l.used ≡ collect l.q (is_used l.words))
