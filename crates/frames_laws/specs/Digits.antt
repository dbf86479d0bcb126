-- The laws of lower-case hexadecimal digits, stated once for every width.
-- Rests on the rules' Tests and Frames, on basics' Logic and Ranges, and on Stretches. Assumes nothing.
use Rattle.std.specs.Prelude.{◌≡◌, refl, Bool, ◌&&◌, List, [], ◌∷◌, ◌++◌, ℕ, zero, suc, ◌+◌, ◌*◌, ◌/◌, ◌%◌, ◌^◌, ◌<◌, T, eqb, ltb, leb, length}
use Rattle.std.proofs.Common.{append_assoc, append-nil, ⊎_elim, add-zero, add-suc, suc-add, zero-add, pow-suc, mul-le-mul_right, arith, eqb→eq, ltb→lt, length-append}
use Rattle.std.proofs.Math.Arith.{digits_div, digits_mod}
use Rattle.rules.specs.Tests.{◌⇒◌, every, all}
use Rattle.rules.specs.Frames.{is_digit, digit_value, digit, number_after, number_in, digits}
use Rattle.basics.specs.Logic.{and_says, or_says, implies_says}
use Rattle.basics.specs.Ranges.{every_at}
use Rattle.frames_laws.specs.Stretches.{passed, all_append}

-- ---- one digit: each law is computed at each digit

-- the last digit, f, is byte 102
digit_bound : (b : ℕ) → T (is_digit b) → b < 103
digit_bound b t =
    ⊎_elim (λ (r : T (leb 48 b && leb b 57)). omega (arith, simp passed at r))
    (λ (r : T (leb 97 b && leb b 102)). omega (arith, simp passed at r))
    ((or_says (leb 48 b && leb b 57) (leb 97 b && leb b 102)).0 t)

of_digit : (p : ℕ → Bool) → T (every 103 (λ b. is_digit b ⇒ p b)) → (b : ℕ) → T (is_digit b) → T (p b)
of_digit p t b d = (implies_says (is_digit b) (p b)).0 (every_at 103 (λ b. is_digit b ⇒ p b) t b (digit_bound b d)) d

-- what a digit stands for is below 16
pub value_bound : (b : ℕ) → T (is_digit b) → digit_value b < 16
unfolding every
value_bound b t = ltb→lt (digit_value b) 16 (of_digit (λ b. ltb (digit_value b) 16) tt b t)

-- the digit of what a digit stands for is that digit
pub digit_of_value : (b : ℕ) → T (is_digit b) → digit (digit_value b) ≡ b
unfolding every
digit_of_value b t = eqb→eq (digit (digit_value b)) b (of_digit (λ b. eqb (digit (digit_value b)) b) tt b t)

-- what the digit of a number below 16 stands for is that number
pub value_of_digit : (n : ℕ) → n < 16 → digit_value (digit n) ≡ n
unfolding every
value_of_digit n h = eqb→eq (digit_value (digit n)) n (every_at 16 (λ n. eqb (digit_value (digit n)) n) tt n h)

-- the digit of a number below 16 is a digit
pub digit_is_digit : (n : ℕ) → n < 16 → T (is_digit (digit n))
unfolding every
digit_is_digit = every_at 16 (λ n. is_digit (digit n)) tt

-- ---- so many digits

-- a number written in w digits has w of them
pub digits_length : (w n : ℕ) → length (digits w n) ≡ w
unfolding digits
digits_length zero n = refl
digits_length (suc w) n = rw (length-append, digits_length w (n / 16)) (omega arith)

-- a number is written in digits alone
pub digits_are_digits : (w n : ℕ) → T (all is_digit (digits w n))
unfolding digits all
digits_are_digits zero n = tt
digits_are_digits (suc w) n =
    all_append is_digit (digits w (n / 16)) (digit (n % 16) ∷ []) (digits_are_digits w (n / 16))
    (simp and_says (digit_is_digit (n % 16) (omega arith), tt))

-- one more digit at the end, read
number_snoc : (a : ℕ) (l : List ℕ) (b : ℕ) → number_after a (l ++ b ∷ []) ≡ number_after a l * 16 + digit_value b
unfolding number_after
number_snoc a [] b = refl
number_snoc a (x ∷ l) b = number_snoc (a * 16 + digit_value x) l b

-- one more digit at the end, written
digits_snoc : (w a b : ℕ) → T (is_digit b) → digits (suc w) (a * 16 + digit_value b) ≡ digits w a ++ b ∷ []
unfolding digits
digits_snoc w a b t = rw (digits_div a (value_bound b t), digits_mod a (value_bound b t), digit_of_value b t)

-- a number that fits the width, written and read, is that number
pub number_of_digits : (w n : ℕ) → n < 16 ^ w → number_in (digits w n) ≡ n
unfolding digits number_after
number_of_digits zero n h = omega arith
number_of_digits (suc w) n h =
    rw (number_snoc 0 (digits w (n / 16)) (digit (n % 16)), number_of_digits w (n / 16) (omega arith))
    (rw (value_of_digit (n % 16) (omega arith)) (omega arith))

-- to read digits after w others and write all is to write the w and then those digits
digits_after : (w a : ℕ) (l : List ℕ) → T (all is_digit l)
    → digits (w + length l) (number_after a l) ≡ digits w a ++ l
unfolding number_after all
digits_after w a [] t = rw (add-zero, append-nil)
digits_after w a (b ∷ l) t =
    let (here, there) = simp and_says at t in
    rw (add-suc, ← (suc-add w (length l)), digits_after (suc w) (a * 16 + digit_value b) l there)
    (rw (digits_snoc w a b here) (append_assoc (digits w a) (b ∷ []) l))

-- digits, read and written, are those digits
pub digits_of_number : (l : List ℕ) → T (all is_digit l) → digits (length l) (number_in l) ≡ l
unfolding digits
digits_of_number l t = rw zero-add at (digits_after 0 0 l t)

number_after_bound : (a : ℕ) (l : List ℕ) → T (all is_digit l) → number_after a l < suc a * 16 ^ length l
unfolding number_after all
number_after_bound a [] t = omega arith
number_after_bound a (b ∷ l) t =
    let (here, there) = simp and_says at t in
    let one_digit = mul-le-mul_right (16 ^ length l) (value_bound b here) in
    rw (pow-suc 16 (length l)) (omega (arith, number_after_bound (a * 16 + digit_value b) l there))

-- what w digits stand for is below 16 ^ w
pub number_bound : (l : List ℕ) → T (all is_digit l) → number_in l < 16 ^ length l
number_bound l t = omega (arith, number_after_bound 0 l t)
