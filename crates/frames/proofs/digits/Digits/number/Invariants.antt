-- `Digits::number` meets its contract. The loop's invariant: what the bytes passed stand for, and the bytes still to pass,
-- give what the whole field gives, and it is no larger than as many bytes can stand for, so that eight fit.
-- Assumes nothing.
use Rattle.std.proofs.Common.{◌≡◌, ◌+◌, ◌*◌, ◌^◌, ◌≤◌, drop}
use Rattle.frames.specs.Parts.{no_digit, sum_after, sum_in}
use Rattle.frames.proofs.digits.Digits.number.Given as goal

abbrev pub invariant-loop-byte : goal.invariant-loop-byte
invariant-loop-byte l = (l.number + no_digit ≤ no_digit * 16 ^ l.byte-index)
    × (sum_after l.number (drop l.byte-index l.field) ≡ sum_in l.field)
