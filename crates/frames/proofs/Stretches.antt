-- A field byte by byte: what the tables have for a byte and for a number, what the first byte adds, and how large what
-- the bytes passed stand for is.
-- Rests on the rules' Frames, on basics' Logic and Ranges, on frames_laws' Digits, and on Parts. Assumes nothing.
use mathlib.Core.Path.{◌≡◌}
use mathlib.Core.List.{List}
use mathlib.Core.Logic.{⊎_elim}
use Prim.Native.Nat.{ℕ, ◌+◌, ◌*◌, ◌^◌, ◌≤◌, ◌<◌}
use native.Mathlib.Nat.{pow-suc, pow-le-pow_right}
use native.Mathlib.Numerals.{add-one}
use native.Mathlib.Omega.{arith}
use lib.Dec.{T, eqb, ltb, eqb→eq, ltb→lt}
use lib.ListN.{length, get_or, drop, drop_of_length-le}
use lib.Seq.{drop-cons}
use Rattle.rules.specs.Tests.{every}
use Rattle.rules.specs.Frames.{is_digit, digit_value, digit}
use Rattle.basics.specs.Logic.{passes_or_fails, cond_true, cond_false}
use Rattle.basics.specs.Ranges.{every_at, getD_row}
use Rattle.frames_laws.specs.Digits.{value_bound}
use Rattle.frames.specs.declared.digits.TheConstants.{CHARACTERS}
use Rattle.frames.specs.Parts.{no_digit, value_of, digit_values, sum_after}

-- ---- the tables

-- the digit of each number
pub character_at : (n : ℕ) → n < 16 → get_or CHARACTERS n 0 ≡ digit n
unfolding every
character_at n h = eqb→eq (get_or CHARACTERS n 0) (digit n) (every_at 16 (λ n. eqb (get_or CHARACTERS n 0) (digit n)) tt n h)

-- which is a byte
pub character_byte : (n : ℕ) → n < 16 → get_or CHARACTERS n 0 < 256
unfolding every
character_byte n h = rw (character_at n h) (ltb→lt (digit n) 256 (every_at 16 (λ n. ltb (digit n) 256) tt n h))

-- the entry of each byte
pub value_at : {vs : List ℕ} → vs ≡ digit_values → (b : ℕ) → b < 256 → get_or vs b 0 ≡ value_of b
unfolding digit_values
value_at e b h = rw e (getD_row 256 value_of b 0 h)

-- an entry is at most that of no digit
pub entry_bound : (b : ℕ) → value_of b ≤ no_digit
entry_bound b =
    ⊎_elim (λ (t : T (is_digit b)). rw (cond_true (is_digit b) (digit_value b) no_digit t) (omega (arith, value_bound b t)))
    (λ (f : T (is_digit b) → ⊥). rw (cond_false (is_digit b) (digit_value b) no_digit f) (omega arith))
    (passes_or_fails (is_digit b))

-- ---- the bytes of a field

-- past its last byte
pub at_end : (a i : ℕ) (l : List ℕ) → length l ≤ i → sum_after a (drop i l) ≡ a
unfolding sum_after
at_end a i l h = rw (drop_of_length-le l h)

-- at a byte
pub at_byte : (a i : ℕ) (l : List ℕ) → i < length l
    → sum_after a (drop i l) ≡ sum_after (a * 16 + value_of (get_or l i 0)) (drop (i + 1) l)
unfolding sum_after
at_byte a i l h = rw (add-one, drop-cons l i 0 h)

-- ---- how large it is

-- one byte more is four bits more
pub one_more : (i v d : ℕ) → v + no_digit ≤ no_digit * 16 ^ i → d ≤ no_digit → v * 16 + d + no_digit ≤ no_digit * 16 ^ (i + 1)
one_more i v d h g = rw (add-one, pow-suc) (omega arith)

-- after fewer than eight bytes one more fits
pub one_fits : (k v d : ℕ) → k < 8 → v + no_digit ≤ no_digit * 16 ^ k → d ≤ no_digit → v * 16 + d < 2 ^ 64
one_fits k v d g h b =
    let most : 16 ^ k ≤ 16 ^ 7 = pow-le-pow_right {n = 16} (omega arith) {i = k} {j = 7} (omega arith) in
    omega arith
