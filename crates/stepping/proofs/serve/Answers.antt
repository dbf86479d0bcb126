use Rattle.stepping.proofs.Onward.{one_turn}
use Rattle.stepping.proofs.serve.Goals as goal

pub loop-preserved : goal.loop-preserved
loop-preserved g c =
    one_turn _ _ _ _ _ _ _ _ _ _ _ _ _ c.loop.invariant (rw c.if-not-branch.false at c.in_ok-turn.ensures)
