-- `frames::put` meets its contract. The loop's invariant: the digits still to write, and the room behind them, are all the
-- digits. Assumes nothing.
use Rattle.std.proofs.Common.{◌≡◌, ◌++◌, length, drop}
use Rattle.rules.specs.Frames.{digits}
use Rattle.frames.proofs.put.Given as goal

abbrev pub invariant-loop-i : goal.invariant-loop-i
invariant-loop-i l = digits l.i l.rest ++ drop l.i l.room ≡ digits (length l.initial.room) l.number
