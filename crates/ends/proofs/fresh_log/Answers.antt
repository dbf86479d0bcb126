-- `ends::fresh_log` meets its contract. The first two words are set, and the zeros are copied behind them.
-- Assumes nothing.
use Rattle.std.proofs.Common.{List, ℕ, arith, length-set, set}
use borrow.Rule.Slice.PartMut.{post_of}
use Rattle.ends_laws.specs.Fresh.{one_first_start, one_first_zeros}
use Rattle.ends.proofs.fresh_log.Goals as goal

pub returns : goal.returns
returns c = let ws : List ℕ = set (set c.args.words.now 0 1) 1 0 in
    one_first_zeros ws _ (post_of 2 512 ws) 2 512 514 c.copy_from_slice.ensures.after (omega arith) (omega arith)
    (simp length-set (omega arith)) (one_first_start c.args.words.now (omega arith))
