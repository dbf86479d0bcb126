use Rattle.std.proofs.Common.{arith, ◌≤◌, length}
use Rattle.stepping.proofs.Onward.{turned_on, read_behind, read_within}
use Rattle.stepping.proofs.Unfinished.turn.Goals as goal

pub returns : goal.returns
returns g c =
    let given : c.in_ok-more.more ≤ length c.read.new.buf = c.in_ok-more.ensures.bound.0 in
    turned_on _ _ _ _ c.args.answerer.now.sound
    (read_behind _ _ c.args.self.now.buffer c.read.new.buf _ (omega arith) given) (omega (arith, c.in_ok-more.ensures.bound))
    (read_within _ _ c.args.self.now.buffer c.read.new.buf _ (omega arith) given)
    c.whole_length-whole.ensures c.in_ok-answer-2.ensures c.keep.ensures c.in_ok-more.ensures.bytes.0
