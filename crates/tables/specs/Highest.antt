-- The highest number below a bound that passes a test: one more than it, and 0 where none does.
-- Rests on basics. Assumes nothing.
use Rattle.std.specs.Prelude.{◌≡◌, Bool, ◌⊎◌}
use Rattle.std.proofs.Math.Path.{refl, sym, subst}
use Rattle.std.proofs.Common.{ap, ◌∙◌, inl, inr, not-suc-le-zero}
use Rattle.std.proofs.Math.Bool.{true, false, cond}
use Rattle.std.proofs.Math.Logic.{⊎_elim}
use Prim.Native.Nat.{ℕ, zero, suc, ◌≤◌, ◌<◌}
use Rattle.std.proofs.Math.Nat.{le_refl}
use native.Mathlib.Omega.{arith}
use Rattle.std.proofs.Math.Dec.{T}
use Rattle.basics.specs.Logic.{cond_true, cond_false, passes_or_fails}
use Rattle.basics.specs.Ranges.{below_suc}

-- one more than the highest number below the bound that passes, or 0 where none does
unfoldable pub highest : ℕ → (ℕ → Bool) → ℕ
highest zero p = 0
highest (suc n) p = cond (p n) (suc n) (highest n p)

module _ (p : ℕ → Bool) where
  pub highest_here : (n : ℕ) → T (p n) → highest (suc n) p ≡ suc n
  unfolding highest
  highest_here n t = cond_true (p n) (suc n) (highest n p) t

  pub highest_below : (n : ℕ) → (T (p n) → ⊥) → highest (suc n) p ≡ highest n p
  unfolding highest
  highest_below n f = cond_false (p n) (suc n) (highest n p) f

  pub highest_le : (n : ℕ) → highest n p ≤ n
  unfolding highest
  highest_le zero = le_refl 0
  highest_le (suc n) = go (p n) (highest_le n)
    where
      go : (b : Bool) → highest n p ≤ n → cond b (suc n) (highest n p) ≤ suc n
      go true h = le_refl (suc n)
      go false h = omega arith

  -- what is found passes
  pub highest_passes : (n i : ℕ) → highest n p ≡ suc i → T (p i)
  unfolding highest
  highest_passes zero i e = absurd (omega arith)
  highest_passes (suc n) i e =
      ⊎_elim
      (λ t.
      let k : suc n ≡ suc i = sym (highest_here n t) ∙ e in
      subst (λ (j : ℕ). T (p j)) (omega arith) t)
      (λ f. highest_passes n i (sym (highest_below n f) ∙ e))
      (passes_or_fails (p n))

  -- where none is found, none passes
  pub highest_none : (n : ℕ) → highest n p ≡ 0 → (i : ℕ) → i < n → T (p i) → ⊥
  highest_none zero e i h t = not-suc-le-zero h
  highest_none (suc n) e i h t =
      let f : T (p n) → ⊥ = λ u. (let k : suc n ≡ 0 = sym (highest_here n u) ∙ e in omega arith) in
      ⊎_elim
      (λ k. highest_none n (sym (highest_below n f) ∙ e) i k t)
      (λ k. f (subst (λ (j : ℕ). T (p j)) k t))
      (below_suc i n h)

  -- where none passes, none is found
  pub none_highest : (n : ℕ) → ((i : ℕ) → i < n → T (p i) → ⊥) → highest n p ≡ 0
  unfolding highest
  none_highest zero f = refl
  none_highest (suc n) f = highest_below n (f n (le_refl (suc n))) ∙ none_highest n (λ i h. f i (omega arith))

  -- where one passes, one is found at or above it
  pub some_highest : (n i : ℕ) → i < n → T (p i) → i < highest n p
  some_highest zero i h t = absurd (not-suc-le-zero h)
  some_highest (suc n) i h t =
      ⊎_elim
      (λ u. rw (highest_here n u) h)
      (λ f.
      rw (highest_below n f)
      (⊎_elim (λ k. some_highest n i k t) (λ k. absurd (f (subst (λ (j : ℕ). T (p j)) k t))) (below_suc i n h)))
      (passes_or_fails (p n))

-- whoever passes the first test passes the second: the highest for the first is at or below that for the second
pub highest_within : (p q : ℕ → Bool) → ((i : ℕ) → T (p i) → T (q i)) → (n : ℕ)
    → highest n p ≡ highest (highest n q) p
unfolding highest
highest_within p q f zero = refl
highest_within p q f (suc n) = go (passes_or_fails (q n)) (highest_within p q f n)
  where
    go : T (q n) ⊎ (T (q n) → ⊥) → highest n p ≡ highest (highest n q) p → highest (suc n) p ≡ highest (highest (suc n) q) p
    go (inl t) e = sym (ap (λ (m : ℕ). highest m p) (highest_here q n t))
    go (inr g) e = highest_below p n (λ t. g (f n t)) ∙ e ∙ sym (ap (λ (m : ℕ). highest m p) (highest_below q n g))
