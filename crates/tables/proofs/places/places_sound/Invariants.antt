-- `tables::places::places_sound` meets its contract. The loop's invariant: the places passed are sound. Assumes
-- nothing.
use Rattle.std.proofs.Common.{ℕ, ◌<◌}
use Rattle.tables.specs.Test.{PlaceTest}
use Rattle.tables.proofs.places.places_sound.Given as goal

abbrev pub invariant-loop-p : goal.invariant-loop-p
invariant-loop-p l = ((k : ℕ) → k < l.p → PlaceTest l.index.words.now k)
