-- The table's fields are the rules', and the tests are joined as the rules join them.
-- Assumes nothing.
use Rattle.rules.specs.Frames.{unused_zero}
use Rattle.frames.proofs.unused_zero.Goals as goal

pub returns : goal.returns
unfolding unused_zero
returns c = rw (← c.fields-uses.ensures)
