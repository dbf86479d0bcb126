-- The machine's `&` of two sets has the members that both have, shown once for every width.
-- Rests on the rules' Sets, on basics and on Counting. Assumes nothing.
use mathlib.Core.Path.{◌≡◌, refl, ap, ap₂, sym, ◌∙◌, subst}
use mathlib.Core.Bool.{not, ◌&&◌}
use Prim.Native.Nat.{ℕ, zero, suc, ◌/◌, ◌%◌, ◌^◌, ◌<◌, min}
use native.Mathlib.Nat.{zero-lt-suc, lt_of_le_of_lt, min-le_left, mod-lt}
use native.Mathlib.Omega.{arith}
use lib.Arith.{digits_div, digits_mod}
use lib.Bits.{bit_and, and_step, and_le_l}
use lib.Dec.{T, eqb}
use Rattle.rules.specs.Sets.{width, has, within, meets}
use Rattle.basics.specs.Logic.{and_says, not_says, equal_says, same_test}
use Rattle.basics.specs.Sets.{has_zero, same_set, some_member, within_says, meets_of, meets_at}
use Rattle.counting_laws.specs.Counting.{has_first, has_half}

-- of two binary digits, the lower is 1 where both are
both_ones : (x y : ℕ) → x < 2 → y < 2 → eqb (min x y) 1 ≡ (eqb x 1 && eqb y 1)
both_ones zero zero h k = refl
both_ones zero (suc zero) h k = refl
both_ones zero (suc (suc y)) h k = absurd (omega arith)
both_ones (suc zero) zero h k = refl
both_ones (suc zero) (suc zero) h k = refl
both_ones (suc zero) (suc (suc y)) h k = absurd (omega arith)
both_ones (suc (suc x)) y h k = absurd (omega arith)

module _ (a b : ℕ) where
  digit_lt : min (a % 2) (b % 2) < 2
  digit_lt = lt_of_le_of_lt (min-le_left (a % 2) (b % 2)) (mod-lt a (zero-lt-suc 1))

  and_last : bit_and a b % 2 ≡ min (a % 2) (b % 2)
  and_last = ap (λ (n : ℕ). n % 2) (and_step a b) ∙ digits_mod (bit_and (a / 2) (b / 2)) digit_lt

  and_half : bit_and a b / 2 ≡ bit_and (a / 2) (b / 2)
  and_half = ap (λ (n : ℕ). n / 2) (and_step a b) ∙ digits_div (bit_and (a / 2) (b / 2)) digit_lt

-- a member of the `&` is a member of both
pub has_and : (a b i : ℕ) → has (bit_and a b) i ≡ (has a i && has b i)
has_and a b zero =
    has_first (bit_and a b) ∙ ap (λ (n : ℕ). eqb n 1) (and_last a b)
    ∙ both_ones (a % 2) (b % 2) (mod-lt a (zero-lt-suc 1)) (mod-lt b (zero-lt-suc 1))
    ∙ sym (ap₂ ◌&&◌ (has_first a) (has_first b))
has_and a b (suc i) =
    sym (has_half (bit_and a b) i) ∙ ap (λ (n : ℕ). has n i) (and_half a b) ∙ has_and (a / 2) (b / 2) i
    ∙ ap₂ ◌&&◌ (has_half a i) (has_half b i)

module _ (s t : ℕ) (h : s < 2 ^ width) where
  both : (i : ℕ) → T (has s i) → T (has t i) → T (has (bit_and s t) i)
  both i a b = subst T (sym (has_and s t i)) ((and_says (has s i) (has t i)).1 (a, b))

  each : (i : ℕ) → T (has (bit_and s t) i) → T (has s i) × T (has t i)
  each i u = (and_says (has s i) (has t i)).0 (subst T (has_and s t i) u)

  fits : bit_and s t < 2 ^ width
  fits = lt_of_le_of_lt (and_le_l s t) h

  -- s lies within t where the `&` leaves s as it is
  pub and_is_within : eqb (bit_and s t) s ≡ within s t
  and_is_within =
      same_test (eqb (bit_and s t) s) (within s t)
      (λ u. (within_says s t).1
      (λ i k v. (each i (subst (λ (n : ℕ). T (has n i)) (sym ((equal_says (bit_and s t) s).0 u)) v)).1))
      (λ u. (equal_says (bit_and s t) s).1
      (same_set width (bit_and s t) s fits h
      (λ i k. same_test (has (bit_and s t) i) (has s i) (λ v. (each i v).0) (λ v. both i v ((within_says s t).0 u i k v)))))

  -- s meets t where the `&` leaves something
  pub and_is_meets : not (eqb (bit_and s t) 0) ≡ meets s t
  and_is_meets =
      same_test (not (eqb (bit_and s t) 0)) (meets s t)
      (λ u. let w = some_member width (bit_and s t) fits (λ e. (not_says (eqb (bit_and s t) 0)).0 u ((equal_says (bit_and s t) 0).1 e)) in
      let m = each w.0 w.2 in
      meets_of s t w.0 w.1 m.0 m.1)
      (λ u. let w = meets_at s t u in
      (not_says (eqb (bit_and s t) 0)).1
      (λ z. has_zero w.0
      (subst (λ (n : ℕ). T (has n w.0)) ((equal_says (bit_and s t) 0).0 z) (both w.0 w.2 w.3))))
