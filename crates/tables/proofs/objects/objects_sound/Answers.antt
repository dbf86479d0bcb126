use Rattle.std.proofs.Common.{below_more}
use Rattle.tables.specs.Tells.{of_true}
use Rattle.tables.proofs.objects.objects_sound.Goals as goal

pub loop-o-preserved : goal.loop-o-preserved
loop-o-preserved c = below_more _ _ c.loop-o.invariant (of_true _ c.object_sound.ensures c.if-not-object_sound.false)
