use Rattle.std.proofs.Common.{below_more}
use Rattle.tables.specs.Standing.{stands_next}
use Rattle.tables.specs.Tells.{of_true}
use Rattle.tables.proofs.objects.chain_sound.Goals as goal

pub loop-j-preserved : goal.loop-j-preserved
loop-j-preserved c = (
  below_more _ _ c.loop-j.invariant.0 (of_true _ c.entry_sound.ensures c.if-not-entry_sound.false),
  stands_next _ _ _ _ (rw c.writer_at.ensures at c.standing-here.ensures),
)
