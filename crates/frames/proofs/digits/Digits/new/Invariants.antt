-- The loop's invariant: the table has each number passed at its digit, and what no digit stands for elsewhere. That with
-- all sixteen it has for each byte what the byte stands for is computed once, over the table.
-- Assumes nothing.
use Rattle.std.proofs.Common.{◌≡◌, List, ℕ, zero, suc, set, replicate}
use Rattle.rules.specs.Frames.{digit}
use Rattle.frames.specs.declared.digits.TheConstants.{CHARACTERS}
use Rattle.frames.specs.Parts.{no_digit}
use Rattle.frames.proofs.digits.Digits.new.Given as goal

-- the table with the numbers below a bound at their digits
unfoldable pub marked : ℕ → List ℕ
marked zero = replicate 256 no_digit
marked (suc n) = set (marked n) (digit n) n

abbrev pub invariant-loop-number : goal.invariant-loop-number
invariant-loop-number l = (l.character-items ≡ CHARACTERS) × (l.values ≡ marked l.number)
