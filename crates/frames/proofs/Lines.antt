-- What the numbers of a line's fields say of the whole line.
-- Rests on the rules' Frames, on basics' Logic, on frames_laws' Stretches and Digits, and on Parts and Shape. Assumes
-- nothing.
use mathlib.Core.Path.{◌≡◌, refl, sym, ◌∙◌}
use mathlib.Core.Bool.{Bool, ◌&&◌}
use mathlib.Core.List.{List, [], ◌∷◌, ◌++◌}
use mathlib.Core.Logic.{⊎_elim}
use mathlib.Core.Option.{none, some}
use Prim.Native.Nat.{ℕ, ◌+◌, ◌*◌, ◌^◌, ◌≤◌, ◌<◌}
use native.Mathlib.Nat.{pow-suc, pow-le-pow_right}
use native.Mathlib.Omega.{arith}
use borrow.Author.Tests.{eq-eqb}
use lib.Dec.{T, ltb}
use lib.ListN.{length, get_or, take, drop, length-take, length-drop}
use lib.Seq.{length-take-le, take-add, drop-drop}
use Rattle.rules.specs.Tests.{all}
use Rattle.rules.specs.Frames.{line_feed, frame_length, is_digit, digit_value, number_after, number_in, call_in, is_frame, read_frame}
use Rattle.basics.specs.Logic.{and_says, passes_or_fails, is_true, cond_true, cond_false}
use Rattle.frames_laws.specs.Stretches.{passed, all_append, all_stretch}
use Rattle.frames_laws.specs.Digits.{number_bound}
use Rattle.frames.specs.Parts.{no_digit, value_of, sum_after, sum_in, asked}
use Rattle.frames.specs.Shape.{frame_shape}

-- ---- what the bytes of a stretch stand for together

-- digits: their number
sum_of_digits : (a : ℕ) (l : List ℕ) → T (all is_digit l) → sum_after a l ≡ number_after a l
unfolding sum_after number_after all
sum_of_digits a [] t = refl
sum_of_digits a (b ∷ l) t =
    let (here, there) = simp and_says at t in
    rw (cond_true (is_digit b) (digit_value b) no_digit here) (sum_of_digits (a * 16 + digit_value b) l there)

sum_more : (a : ℕ) (l : List ℕ) → a ≤ sum_after a l
unfolding sum_after
sum_more a [] = omega arith
sum_more a (b ∷ l) = omega (arith, sum_more (a * 16 + value_of b) l)

-- another character makes it too large for eight digits
sum_of_others : (a : ℕ) (l : List ℕ) → (T (all is_digit l) → ⊥) → no_digit ≤ sum_after a l
unfolding sum_after all
sum_of_others a [] f = absurd (f tt)
sum_of_others a (b ∷ l) f =
    ⊎_elim
    (λ (t : T (is_digit b)). sum_of_others (a * 16 + value_of b) l (λ u. f ((and_says (is_digit b) (all is_digit l)).1 (t, u))))
    (λ (g : T (is_digit b) → ⊥).
    omega (arith, sum_more (a * 16 + value_of b) l, cond_false (is_digit b) (digit_value b) no_digit g))
    (passes_or_fails (is_digit b))

-- so where it is not too large, digits alone
all_digits : (l : List ℕ) → sum_in l < no_digit → T (all is_digit l) × (sum_in l ≡ number_in l)
all_digits l h =
    ⊎_elim (λ (t : T (all is_digit l)). (t, sum_of_digits 0 l t))
    (λ (f : T (all is_digit l) → ⊥). absurd (omega (arith, sum_of_others 0 l f)))
    (passes_or_fails (all is_digit l))

-- and at most eight digits are not too large
not_too_large : (l : List ℕ) → length l ≤ 8 → T (all is_digit l) → sum_in l < no_digit
not_too_large l h t =
    let most : 16 ^ length l ≤ 16 ^ 8 = pow-le-pow_right {n = 16} (omega arith) {i = length l} {j = 8} h in
    rw (sum_of_digits 0 l t) (omega (arith, number_bound l t))

-- ---- the number of digits in two parts

number_append : (a : ℕ) (l m : List ℕ) → number_after a (l ++ m) ≡ number_after (number_after a l) m
unfolding number_after
number_append a [] m = refl
number_append a (b ∷ l) m = number_append (a * 16 + digit_value b) l m

number_shifted : (a : ℕ) (l : List ℕ) → number_after a l ≡ a * 16 ^ length l + number_in l
unfolding number_after
number_shifted a [] = omega arith
number_shifted a (b ∷ l) =
    rw (number_shifted (a * 16 + digit_value b) l, number_shifted (0 * 16 + digit_value b) l, pow-suc 16 (length l)) (omega arith)

-- sixteen digits are eight and eight
halves : (l : List ℕ) → frame_length ≤ length l
    → number_in (take 8 (drop 12 l)) * no_digit + number_in (take 8 (drop 20 l)) ≡ number_in (take 16 (drop 12 l))
halves l h =
    let long : length (take 8 (drop 20 l)) ≡ 8 = length-take-le 8 (drop 20 l) (rw length-drop (omega arith)) in
    let parted : take 16 (drop 12 l) ≡ take 8 (drop 12 l) ++ take 8 (drop 20 l) = take-add 8 8 (drop 12 l) ∙ rw (drop-drop 8 12 l) in
    rw (parted, number_append 0 (take 8 (drop 12 l)) (take 8 (drop 20 l)))
    (rw (number_shifted (number_in (take 8 (drop 12 l))) (take 8 (drop 20 l)), long))

-- ---- lines that are no frame

refused : (l : List ℕ) → (T (is_frame l) → ⊥) → none ≡ read_frame l
unfolding read_frame
refused l f = sym (cond_false (is_frame l) (some (call_in l)) none f)

pub wrong_length : (l : List ℕ) → (length l ≡ frame_length → ⊥) → none ≡ read_frame l
wrong_length l f = refused l (λ t. f (frame_shape l t).long)

pub wrong_end : (l : List ℕ) → (get_or l 28 0 ≡ line_feed → ⊥) → none ≡ read_frame l
wrong_end l f = refused l (λ t. f (frame_shape l t).ended)

-- the numbers of a line's fields, the value's digits in two halves
pub record Numbers (l : List ℕ) (k x o h v : ℕ) : Type 0 where
  pub kind : k ≡ sum_in (take 2 l)
  pub who : x ≡ sum_in (take 8 (drop 2 l))
  pub what : o ≡ sum_in (take 2 (drop 10 l))
  pub high : h ≡ sum_in (take 8 (drop 12 l))
  pub low : v ≡ sum_in (take 8 (drop 20 l))

-- none is too large
abbrev pub all_small : ℕ → ℕ → ℕ → ℕ → ℕ → Bool
all_small k x o h v = ltb k no_digit && ltb x no_digit && ltb o no_digit && ltb h no_digit && ltb v no_digit

module _ (l : List ℕ) (k x o h v : ℕ) (n : Numbers l k x o h v) where
  -- digits alone are small in each field
  fields_small : T (all is_digit (take 28 l)) → T (all_small k x o h v)
  fields_small t =
      let sk = part 0 2 k n.kind (omega arith) (omega arith) in
      let sx = part 2 8 x n.who (omega arith) (omega arith) in
      let so = part 10 2 o n.what (omega arith) (omega arith) in
      let sh = part 12 8 h n.high (omega arith) (omega arith) in
      let sv = part 20 8 v n.low (omega arith) (omega arith) in
      simp passed ((((sk, sx), so), sh), sv)
    where
      part : (at w m : ℕ) → m ≡ sum_in (take w (drop at l)) → at + w ≤ 28 → w ≤ 8 → m < no_digit
      part at w m e i j =
          rw e (not_too_large (take w (drop at l)) (rw length-take (omega arith)) (all_stretch is_digit at w 28 l i t))

  pub wrong_character : (T (all_small k x o h v) → ⊥) → none ≡ read_frame l
  wrong_character f = refused l (λ t. f (fields_small (frame_shape l t).hex))

  -- ---- lines whose fields are digits

  module _ (long : length l ≡ frame_length) (small : T (all_small k x o h v)) where
    pub value_fits : h * no_digit + v < 2 ^ 64
    value_fits = let ((((sk, sx), so), sh), sv) = simp passed at small in omega arith

    -- the line is read as what its fields ask
    pub read_fields : get_or l 28 0 ≡ line_feed → asked k x o (h * no_digit + v) ≡ read_frame l
    unfolding read_frame is_frame call_in
    read_fields ended =
        let ((((sk, sx), so), sh), sv) = simp passed at small in
        let (hk, ik) = all_digits (take 2 l) (rw (← n.kind) sk) in
        let (hx, ix) = all_digits (take 8 (drop 2 l)) (rw (← n.who) sx) in
        let (ho, io) = all_digits (take 2 (drop 10 l)) (rw (← n.what) so) in
        let (hh, ih) = all_digits (take 8 (drop 12 l)) (rw (← n.high) sh) in
        let (hv, iv) = all_digits (take 8 (drop 20 l)) (rw (← n.low) sv) in
        let hex : T (all is_digit (take 28 l))
        = rw (take-add 20 8 l, take-add 12 8 l, take-add 10 2 l, take-add 2 8 l) (search all_append)
        in
        let value : h * no_digit + v ≡ number_in (take 16 (drop 12 l)) = rw (n.high, n.low, ih, iv) (halves l (omega arith)) in
        rw (eq-eqb (length l) frame_length long, is_true (all is_digit (take 28 l)) hex)
        (rw (eq-eqb (get_or l 28 0) line_feed ended, value, n.kind ∙ ik, n.who ∙ ix, n.what ∙ io))
