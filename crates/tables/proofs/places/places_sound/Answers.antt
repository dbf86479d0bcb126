use Rattle.std.proofs.Common.{below_more}
use Rattle.tables.specs.Tells.{of_true}
use Rattle.tables.proofs.places.places_sound.Goals as goal

pub loop-p-preserved : goal.loop-p-preserved
loop-p-preserved c = below_more _ _ c.loop-p.invariant (of_true _ c.place_sound.ensures c.if-not-place_sound.false)
