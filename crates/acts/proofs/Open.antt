-- What is accessed and not prepared: the difference of the two sets as numbers, since what is prepared is accessed.
-- Rests on the rules' Sets, on basics and sound_laws. Assumes nothing.
use mathlib.Core.Path.{◌≡◌, refl, ap, sym, ◌∙◌}
use mathlib.Core.Bool.{Bool, true, false, not, cond, ◌&&◌}
use Prim.Native.Nat.{ℕ, zero, suc, ◌+◌, ◌-◌, ◌^◌, ◌≤◌, ◌<◌}
use native.Mathlib.Omega.{arith}
use lib.Dec.{T}
use Rattle.rules.specs.Tests.{lowest}
use Rattle.rules.specs.Sets.{has, collect}
use Rattle.basics.specs.Ranges.{lowest_same}
use Rattle.basics.specs.Sets.{collect_has, has_collect}

abbrev rest : (ℕ → Bool) → (ℕ → Bool) → ℕ → Bool
rest f g i = f i && not (g i)

-- a set is a part of it and the rest
parted : (w : ℕ) (f g : ℕ → Bool) → ((i : ℕ) → i < w → T (g i) → T (f i)) → collect w f ≡ collect w g + collect w (rest f g)
unfolding collect
parted zero f g within = refl
parted (suc w) f g within =
    go (f w) (g w) (within w (omega arith)) (parted w f g (λ i h. within i (omega arith)))
  where
    go : (a b : Bool) → (T b → T a) → collect w f ≡ collect w g + collect w (rest f g)
        → collect w f + cond a (2 ^ w) 0 ≡ collect w g + cond b (2 ^ w) 0 + (collect w (rest f g) + cond (a && not b) (2 ^ w) 0)
    go true true h e = omega arith
    go true false h e = omega arith
    go false true h e = absurd (h tt)
    go false false h e = omega arith

module _ (w a r : ℕ) (ha : a < 2 ^ w) (hr : r < 2 ^ w) (within : (i : ℕ) → i < w → T (has r i) → T (has a i)) where
  whole : a ≡ r + collect w (rest (has a) (has r))
  whole = sym (collect_has w a ha) ∙ parted w (has a) (has r) within ∙ ap (λ (n : ℕ). n + collect w (rest (has a) (has r))) (collect_has w r hr)

  pub part_fits : r ≤ a
  part_fits = omega (arith, whole)

  pub difference : a - r ≡ collect w (rest (has a) (has r))
  difference = omega (arith, whole)

  pub difference_fits : a - r < 2 ^ w
  difference_fits = omega (arith, ha)

  pub lowest_open : lowest w (has (a - r)) ≡ lowest w (rest (has a) (has r))
  lowest_open =
      ap (λ (n : ℕ). lowest w (has n)) difference
      ∙ lowest_same w (has (collect w (rest (has a) (has r)))) (rest (has a) (has r)) (has_collect w (rest (has a) (has r)))
