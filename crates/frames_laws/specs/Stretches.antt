-- What passes along a list passes along its stretches and along lists put together; and the set of laws with which
-- `simp` reads the tests of a frame.
-- Rests on the rules' Tests, and on basics' Logic and Lists. Assumes nothing.
use Rattle.std.specs.Prelude.{Bool, T, take, drop}
use mathlib.Core.List.{List, [], ◌∷◌, ◌++◌}
use Prim.Native.Nat.{ℕ, zero, suc, ◌+◌, ◌≤◌}
use Rattle.std.proofs.Common.{arith, take-take}
use Rattle.std.proofs.Math.Seq.{take-nil}
use Rattle.rules.specs.Tests.{all}
use Rattle.basics.specs.Logic.{and_says, equal_says, at_most_says}
use Rattle.basics.specs.Lists.{all_says, All-append}

-- `ltb m n` is `leb (suc m) n`, so the law of `leb` reads that test too
pub ruleset passed = (and_says, at_most_says, equal_says)

module _ {A : Type 0} (p : A → Bool) where
  -- what passes along two lists passes along both together
  pub all_append : (l m : List A) → T (all p l) → T (all p m) → T (all p (l ++ m))
  all_append l m t u =
      (all_says p (l ++ m)).1 ((All-append (λ x. T (p x)) l m).1 ((all_says p l).0 t, (all_says p m).0 u))

  all_take : (n : ℕ) (l : List A) → T (all p l) → T (all p (take n l))
  unfolding all
  all_take zero l t = tt
  all_take (suc n) [] t = tt
  all_take (suc n) (x ∷ l) t = let (here, there) = simp and_says at t in simp and_says (here, all_take n l there)

  -- what passes along the first n elements passes along a stretch of them
  pub all_stretch : (at w n : ℕ) (l : List A) → at + w ≤ n → T (all p (take n l)) → T (all p (take w (drop at l)))
  unfolding all
  all_stretch zero w n l h t = rw (take-take w n l (omega arith)) at (all_take w (take n l) t)
  all_stretch (suc at) w n [] h t = rw take-nil tt
  all_stretch (suc at) w zero (x ∷ l) h t = absurd (omega arith)
  all_stretch (suc at) w (suc n) (x ∷ l) h t =
      let (here, there) = simp and_says at t in
      all_stretch at w n l (omega arith) there
