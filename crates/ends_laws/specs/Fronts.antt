-- Lists in which those that pass come first: where a test fails for the first time, and how many it keeps.
-- Rests on the rules' Tests and on basics. Assumes nothing.
use Rattle.std.specs.Prelude.{◌≡◌, Bool, ◌⊎◌, ℕ, zero, suc, ◌+◌, ◌-◌, ◌≤◌, ◌<◌, min, T, get_or}
use Rattle.std.proofs.Math.Path.{refl, ap}
use Rattle.std.proofs.Common.{ap₂, sym, ◌∙◌, subst, inl, inr, not-suc-le-zero, length-append}
use Rattle.std.proofs.Math.Bool.{true, false, cond}
use mathlib.Core.List.{List, [], ◌∷◌, ◌++◌, append-nil}
use native.Mathlib.Omega.{arith}
use Rattle.std.proofs.Math.ListN.{length, get_or-append}
use Rattle.rules.specs.Tests.{keep, leading, after_leading}
use Rattle.basics.specs.Logic.{passes_or_fails}
use Rattle.ends_laws.specs.Loops.{reaches}
use Rattle.basics.specs.Lists.{All-at, Neighbours, Neighbours-front, Neighbours-tail, keep_true, keep_append, keep_all, keep_none, keep_pass, keep_front, fail_on, leading_split, leading_pass, after_leading_fail}

module _ {A : Type 0} (p : A → Bool) where
  -- whoever passes has only such before it
  abbrev pub PassFirst : List A → Type 0
  PassFirst = Neighbours (λ e f. T (p f) → T (p e))

  -- then those that pass are the leading ones
  pub keep_leading : (xs : List A) → PassFirst xs → keep p xs ≡ leading p xs
  keep_leading xs r =
      ap (keep p) (leading_split p xs)
      ∙ keep_append p (leading p xs) (after_leading p xs)
      ∙ ap₂ ◌++◌ (keep_all p (leading p xs) (leading_pass p xs))
      (keep_none p (after_leading p xs) (after_leading_fail p xs r))
      ∙ append-nil (leading p xs)

  keep_length : (xs : List A) → length (keep p xs) ≤ length xs
  unfolding keep
  keep_length [] = omega arith
  keep_length (x ∷ xs) = go (p x) (keep_length xs)
    where
      go : (b : Bool) → length (keep p xs) ≤ length xs
          → length (cond b (x ∷ keep p xs) (keep p xs)) ≤ length (x ∷ xs)
      go true h = omega arith
      go false h = omega arith

  -- where as many are kept, all are
  pub keep_same : (xs : List A) → length xs ≤ length (keep p xs) → keep p xs ≡ xs
  unfolding keep
  keep_same [] h = refl
  keep_same (x ∷ xs) h = go (keep_same xs) (p x) h
    where
      go : (length xs ≤ length (keep p xs) → keep p xs ≡ xs) → (b : Bool)
          → length (x ∷ xs) ≤ length (cond b (x ∷ keep p xs) (keep p xs))
          → cond b (x ∷ keep p xs) (keep p xs) ≡ x ∷ xs
      go rest true h = ap (λ (l : List A). x ∷ l) (rest (omega arith))
      go rest false h = absurd (omega (arith, keep_length xs))

  -- the kept ones stand first and pass, the others do not
  module _ (d : A) where
    kept_at : (xs : List A) → PassFirst xs → (j : ℕ) → j < length (keep p xs) → T (p (get_or xs j d))
    kept_at xs r j h =
        let w = keep_front p xs r in
        subst (λ (x : A). T (p x))
        (sym (ap (λ (l : List A). get_or l j d) w.1 ∙ get_or-append (keep p xs) w.0 d j h))
        (All-at (λ x. T (p x)) (keep p xs) j d (keep_pass p xs) h)

    gone_at : (xs : List A) → PassFirst xs → (j : ℕ) → j < length xs → length (keep p xs) ≤ j → T (p (get_or xs j d)) → ⊥
    gone_at [] r j h k t = not-suc-le-zero h
    gone_at (x ∷ xs) r j h k t =
        go (gone_at xs (Neighbours-tail (λ e f. T (p f) → T (p e)) x xs r)) (passes_or_fails (p x)) j h k t
      where
        go : ((j : ℕ) → j < length xs → length (keep p xs) ≤ j → T (p (get_or xs j d)) → ⊥) → T (p x) ⊎ (T (p x) → ⊥)
            → (j : ℕ) → j < length (x ∷ xs) → length (keep p (x ∷ xs)) ≤ j → T (p (get_or (x ∷ xs) j d)) → ⊥
        go rest (inl u) zero h k t = omega (arith, ap length (keep_true p x xs u))
        go rest (inl u) (suc j) h k t = rest j (omega arith) (omega (arith, ap length (keep_true p x xs u))) t
        go rest (inr f) j h k t = All-at (λ e. T (p e) → ⊥) (x ∷ xs) j d (fail_on p x xs r f) h t

    -- where the test fails first in two lists, one after the other, says how many of each are kept
    module _
        (xs ys : List A)
        (r : PassFirst (xs ++ ys))
        (n k : ℕ)
        (fits : length (xs ++ ys) ≤ n)
        (before : (j : ℕ) → j < k → j < length (xs ++ ys) → T (p (get_or (xs ++ ys) j d)))
        (here : k < n → T (p (get_or (xs ++ ys) k d)) → ⊥) where
      pub kept_parts : (length (keep p xs) ≡ min (length xs) k)
          × (length (keep p ys) ≡ min (length ys) (k - min (length xs) k))
      kept_parts =
          let a = length (keep p xs) in
          let c = length (keep p ys) in
          let whole : length (keep p (xs ++ ys)) ≡ a + c =
          ap length (keep_append p xs ys) ∙ length-append (keep p xs) (keep p ys) in
          let len : length (xs ++ ys) ≡ length xs + length ys = length-append xs ys in
          let rx : PassFirst xs = Neighbours-front (λ e f. T (p f) → T (p e)) xs ys r in
          let ax : a ≤ length xs = keep_length xs in
          let all : a + c ≤ length xs + length ys = omega (arith, keep_length (xs ++ ys)) in
          let low : a + c ≤ k = at_least (λ g. here (omega arith) (kept_at (xs ++ ys) r k (omega arith))) in
          let stop : a + c < length xs + length ys → k ≤ a + c =
          λ g. at_least
          (λ m. gone_at (xs ++ ys) r (a + c) (omega arith) (omega arith) (before (a + c) m (omega arith))) in
          let first : a < length xs → c ≤ 0 =
          λ g.
          at_least
          (λ m.
          gone_at xs rx a g (omega arith)
          (subst (λ (x : A). T (p x)) (get_or-append xs ys d a g) (kept_at (xs ++ ys) r a (omega arith)))) in
          go a c (length xs) (length ys) ax all low stop first (reaches a (length xs))
          (reaches (a + c) (length xs + length ys))
        where
          at_least : {m l : ℕ} → (l < m → ⊥) → m ≤ l
          at_least f = omega arith

          go : (a c x y : ℕ) → a ≤ x → a + c ≤ x + y → a + c ≤ k → (a + c < x + y → k ≤ a + c) → (a < x → c ≤ 0)
              → (x ≤ a) ⊎ (a < x) → (x + y ≤ a + c) ⊎ (a + c < x + y) → (a ≡ min x k) × (c ≡ min y (k - min x k))
          go a c x y h i j s f (inl u) (inl v) = (omega arith, omega arith)
          go a c x y h i j s f (inl u) (inr v) = let w = s v in (omega arith, omega arith)
          go a c x y h i j s f (inr u) (inl v) = let z = f u in (omega arith, omega arith)
          go a c x y h i j s f (inr u) (inr v) = let w = s v in let z = f u in (omega arith, omega arith)
