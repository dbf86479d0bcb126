use Rattle.std.proofs.Common.{◌∙◌}
use Rattle.ends_laws.specs.Loops.{turned_none, turned_more}
use Rattle.ends.proofs.each_object.Goals as goal

pub loop-i-init : goal.loop-i-init
loop-i-init g c = λ leaves says. turned_none

pub loop-i-preserved : goal.loop-i-preserved
loop-i-preserved g c = let turn = c.loop-i in
    λ leaves says. turned_more (turn.invariant leaves says) (says _ _ _ (turn.auto.words ∙ c.requires.0) c.step.ensures)
