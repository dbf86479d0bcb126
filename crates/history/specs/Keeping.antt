-- What a test keeps of a list: after another test, where the tests agree, and where those that pass come first.
-- Rests on the rules' Tests and on basics. Assumes nothing.
use Rattle.std.specs.Prelude.{◌≡◌, Bool, ◌⊎◌}
use Rattle.std.proofs.Math.Path.{refl, ap, sym}
use Rattle.std.proofs.Common.{◌∙◌, inl, inr}
use Rattle.std.proofs.Math.Bool.{cond}
use mathlib.Core.List.{List, [], ◌∷◌, ◌++◌, append-nil}
use Rattle.std.proofs.Math.Dec.{T}
use Rattle.rules.specs.Tests.{keep, leading, after_leading}
use Rattle.basics.specs.Logic.{passes_or_fails}
use Rattle.basics.specs.Lists.{All, Neighbours, keep_append, keep_true, keep_false, keep_all, keep_none, leading_split, leading_pass, after_leading_fail}

module _ {A : Type 0} (p : A → Bool) where
  -- tests that agree keep the same
  pub keep_same : (q : A → Bool) (xs : List A) → All (λ x. p x ≡ q x) xs → keep p xs ≡ keep q xs
  unfolding keep
  keep_same q [] h = refl
  keep_same q (x ∷ xs) h =
      ap (λ (b : Bool). cond b (x ∷ keep p xs) (keep p xs)) h.0
      ∙ ap (λ (l : List A). cond (q x) (x ∷ l) l) (keep_same q xs h.1)

  -- where a test drops none that p keeps, p keeps the same afterwards
  pub keep_keep : (q : A → Bool) (xs : List A) → All (λ x. T (p x) → T (q x)) xs → keep p (keep q xs) ≡ keep p xs
  unfolding keep
  keep_keep q [] h = refl
  keep_keep q (x ∷ xs) h = go (passes_or_fails (q x)) (passes_or_fails (p x)) (keep_keep q xs h.1)
    where
      go : T (q x) ⊎ (T (q x) → ⊥) → T (p x) ⊎ (T (p x) → ⊥) → keep p (keep q xs) ≡ keep p xs
          → keep p (keep q (x ∷ xs)) ≡ keep p (x ∷ xs)
      go (inl u) (inl v) e =
          ap (keep p) (keep_true q x xs u) ∙ keep_true p x (keep q xs) v
          ∙ ap (λ (l : List A). x ∷ l) e ∙ sym (keep_true p x xs v)
      go (inl u) (inr v) e =
          ap (keep p) (keep_true q x xs u) ∙ keep_false p x (keep q xs) v ∙ e ∙ sym (keep_false p x xs v)
      go (inr u) (inl v) e = absurd (u (h.0 v))
      go (inr u) (inr v) e = ap (keep p) (keep_false q x xs u) ∙ e ∙ sym (keep_false p x xs v)

  -- where whoever passes has only such before it, the leading ones are kept
  pub keep_leading : (xs : List A) → Neighbours (λ e f. T (p f) → T (p e)) xs → keep p xs ≡ leading p xs
  keep_leading xs r =
      let lead = leading p xs in
      let rest = after_leading p xs in
      ap (keep p) (leading_split p xs)
      ∙ keep_append p lead rest
      ∙ ap (λ (l : List A). keep p lead ++ l) (keep_none p rest (after_leading_fail p xs r))
      ∙ append-nil (keep p lead)
      ∙ keep_all p lead (leading_pass p xs)

  -- where all pass, whoever passes has only such before it
  pub all_before : (xs : List A) → All (λ x. T (p x)) xs → Neighbours (λ e f. T (p f) → T (p e)) xs
  all_before [] h = tt
  all_before (x ∷ []) h = tt
  all_before (x ∷ y ∷ ys) h = (λ u. h.0, all_before (y ∷ ys) h.1)
