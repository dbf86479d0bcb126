-- `tables::log::records_sound` meets its contract. The loop's invariant: the records passed are sound, and in the index.
-- Assumes nothing.
use Rattle.std.proofs.Common.{ℕ, ◌<◌}
use Rattle.tables.specs.Test.{RecordTest}
use Rattle.tables.specs.Parted.{Indexed}
use Rattle.tables.proofs.log.records_sound.Given as goal

abbrev pub invariant-loop : goal.invariant-loop
invariant-loop l = Indexed l.words l.counter l.index × ((k : ℕ) → k < l.counter → RecordTest l.words k)
