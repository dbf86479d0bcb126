use Rattle.std.proofs.Common.{◌≡◌, ◌∙◌, List, ◌++◌, ℕ, zero, suc, ◌-◌, ◌/◌, ◌%◌, ◌≤◌, ◌<◌, arith, length, drop, set, add-one, append_assoc}
use Rattle.std.proofs.lemmas.List.{drop-set}
use Rattle.rules.specs.Frames.{digit, digits}
use Rattle.frames.proofs.Stretches.{character_at}
use Rattle.frames.proofs.put.Goals as goal

-- the last digit, and then those before it
one_digit : (i n : ℕ) (bs : List ℕ) → 0 < i → i ≤ length bs
    → digits (i - 1) (n / 16) ++ drop (i - 1) (set bs (i - 1) (digit (n % 16))) ≡ digits i n ++ drop i bs
unfolding digits
one_digit zero n bs h k = absurd (omega arith)
one_digit (suc i) n bs h k =
    let before : suc i - 1 ≡ i = omega arith in
    rw (before, drop-set bs i (digit (n % 16)) k, append_assoc, add-one)

pub loop-i-preserved : goal.loop-i-preserved
loop-i-preserved c =
    rw (character_at (c.loop-i.rest % 16) (omega arith))
    (one_digit c.loop-i.i c.loop-i.rest c.loop-i.room (omega arith) (omega arith) ∙ c.loop-i.invariant)

pub returns : goal.returns
unfolding digits
returns c = let none_left : c.loop-i.i ≡ 0 = omega arith in rw none_left at c.loop-i.invariant
