use Rattle.std.proofs.Common.{◌∙◌}
use Rattle.ends_laws.specs.Loops.{turned_none, turned_more}
use Rattle.ends.proofs.each_place.Goals as goal

pub loop-p-init : goal.loop-p-init
loop-p-init g c = λ leaves says. turned_none

pub loop-p-preserved : goal.loop-p-preserved
loop-p-preserved g c = let turn = c.loop-p in
    λ leaves says. turned_more (turn.invariant leaves says) (says _ _ _ (turn.auto.words ∙ c.requires.0) c.step.ensures)
