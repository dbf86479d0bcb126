-- `tables::objects::chain_sound` meets its contract. The loop's invariant: the entries passed are sound, and `last`
-- says where the one before the next stands. After the loop the holder is left (`chain_holder`). Assumes nothing.
use Rattle.std.proofs.Common.{ℕ, ◌<◌}
use Rattle.tables.specs.Standing.{StandingBefore}
use Rattle.tables.specs.Test.{EntryTest}
use Rattle.tables.proofs.objects.chain_sound.Given as goal

abbrev pub invariant-loop-j : goal.invariant-loop-j
invariant-loop-j l = ((k : ℕ) → k < l.j → EntryTest l.words l.o.num k) × StandingBefore l.words l.o.num l.j l.last
