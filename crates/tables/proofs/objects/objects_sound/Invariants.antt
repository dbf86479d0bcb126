-- `tables::objects::objects_sound` meets its contract. The loop's invariant: the objects passed are sound. Assumes
-- nothing.
use Rattle.std.proofs.Common.{ℕ, ◌<◌}
use Rattle.tables.specs.Test.{ObjectTest}
use Rattle.tables.proofs.objects.objects_sound.Given as goal

abbrev pub invariant-loop-o : goal.invariant-loop-o
invariant-loop-o l = ((k : ℕ) → k < l.o → ObjectTest l.index.words.now k)
