-- Tests over the numbers below a bound, for every bound: what `every` and `some_below` say, that `lowest` is the lowest,
-- that `count` counts, what `row` holds.
-- Rests on the rules' Tests and on Logic. Assumes nothing.
use Rattle.std.specs.Prelude.{◌≡◌, Bool, true, false, cond, ◌||◌, ◌⊎◌, ◌↔◌, T, ltb, length, get_or}
use Rattle.std.proofs.Math.Path.{refl, ap, ap₂, sym}
use Rattle.std.proofs.Common.{◌∙◌, subst, inl, inr, le_refl, lt_irrefl, lt_of_le_of_lt, not-suc-le-zero, arith, ltb→lt, lt→ltb, length-append}
use Rattle.std.proofs.Math.Logic.{⊎_elim}
use mathlib.Core.List.{List, [], ◌∷◌, ◌++◌}
use Prim.Native.Nat.{ℕ, zero, suc, ◌+◌, ◌≤◌, ◌<◌}
use Rattle.std.proofs.Math.Decide.{ℕ_discrete}
use Rattle.std.proofs.Math.ListN.{get_or-append}
use Rattle.std.proofs.Math.Seq.{get_or_at}
use Rattle.rules.specs.Tests.{every, some_below, count, lowest, row}
use Rattle.basics.specs.Logic.{and_says, or_says, cond_true, cond_false, passes_or_fails}

-- two numbers are the same, or not
pub same_or_other : (m n : ℕ) → (m ≡ n) ⊎ (m ≡ n → ⊥)
same_or_other m n = go (ℕ_discrete m n)
  where
    go : Dec (m ≡ n) → (m ≡ n) ⊎ (m ≡ n → ⊥)
    go (yes e) = inl e
    go (no d) = inr d

-- a number below suc n is below n, or n
pub below_suc : (i n : ℕ) → i < suc n → (i < n) ⊎ (i ≡ n)
below_suc i n h = go (passes_or_fails (ltb i n))
  where
    go : T (ltb i n) ⊎ (T (ltb i n) → ⊥) → (i < n) ⊎ (i ≡ n)
    go (inl t) = inl (ltb→lt i n t)
    go (inr f) =
        let g : i < n → ⊥ = λ k. f (lt→ltb i n k) in
        inr (omega arith)

-- ---- every and some_below

pub every_at : (n : ℕ) (p : ℕ → Bool) → T (every n p) → (i : ℕ) → i < n → T (p i)
unfolding every
every_at zero p t i h = absurd (not-suc-le-zero h)
every_at (suc n) p t i h =
    let both = (and_says (every n p) (p n)).0 t in
    ⊎_elim (λ k. every_at n p both.0 i k) (λ e. subst (λ (j : ℕ). T (p j)) (sym e) both.1) (below_suc i n h)

pub every_of : (n : ℕ) (p : ℕ → Bool) → ((i : ℕ) → i < n → T (p i)) → T (every n p)
unfolding every
every_of zero p f = tt
every_of (suc n) p f = (and_says (every n p) (p n)).1 (every_of n p (λ i h. f i (omega arith)), f n (le_refl (suc n)))

pub every_says : (n : ℕ) (p : ℕ → Bool) → T (every n p) ↔ ((i : ℕ) → i < n → T (p i))
every_says n p = (every_at n p, every_of n p)

pub some_of : (n : ℕ) (p : ℕ → Bool) (i : ℕ) → i < n → T (p i) → T (some_below n p)
unfolding some_below
some_of zero p i h t = absurd (not-suc-le-zero h)
some_of (suc n) p i h t =
    (or_says (some_below n p) (p n)).1
    (⊎_elim (λ k. inl (some_of n p i k t)) (λ e. inr (subst (λ (j : ℕ). T (p j)) e t)) (below_suc i n h))

pub some_at : (n : ℕ) (p : ℕ → Bool) → T (some_below n p) → (i : ℕ) × (i < n) × T (p i)
unfolding some_below
some_at zero p t = absurd t
some_at (suc n) p t = go (λ s. some_at n p s) ((or_says (some_below n p) (p n)).0 t)
  where
    go : (T (some_below n p) → (i : ℕ) × (i < n) × T (p i)) → T (some_below n p) ⊎ T (p n) → (i : ℕ) × (i < suc n) × T (p i)
    go f (inl s) = ((f s).0, omega (arith, (f s).1), (f s).2)
    go f (inr s) = (n, le_refl (suc n), s)

-- what is not so for all below the bound fails for one of them
pub not_every : (n : ℕ) (p : ℕ → Bool) → (T (every n p) → ⊥) → (i : ℕ) × (i < n) × (T (p i) → ⊥)
unfolding every
not_every zero p f = absurd (f tt)
not_every (suc n) p f = go (λ g. not_every n p g) (passes_or_fails (p n))
  where
    go : ((T (every n p) → ⊥) → (i : ℕ) × (i < n) × (T (p i) → ⊥)) → T (p n) ⊎ (T (p n) → ⊥) → (i : ℕ) × (i < suc n) × (T (p i) → ⊥)
    go r (inl t) =
        let w = r (λ e. f ((and_says (every n p) (p n)).1 (e, t))) in
        (w.0, omega (arith, w.1), w.2)
    go r (inr g) = (n, le_refl (suc n), g)

-- ---- lowest

-- r is the lowest number below n that passes, or n where none does
pub record IsLowest (n : ℕ) (p : ℕ → Bool) (r : ℕ) : Type 0 where
  pub at_most : r ≤ n
  pub none_below : (i : ℕ) → i < r → T (p i) → ⊥
  pub passes : r < n → T (p r)

lowest_step : (n : ℕ) (p : ℕ → Bool) (r : ℕ) → IsLowest n p r → IsLowest (suc n) p (cond (ltb r n || p n) r (suc n))
lowest_step n p r h = go (passes_or_fails (ltb r n || p n))
  where
    found : T (ltb r n) ⊎ T (p n) → (r < n) ⊎ (r ≡ n) → T (p r)
    found s (inl k) = h.passes k
    found (inl t) (inr e) = h.passes (ltb→lt r n t)
    found (inr t) (inr e) = subst (λ (j : ℕ). T (p j)) (sym e) t

    go : T (ltb r n || p n) ⊎ (T (ltb r n || p n) → ⊥) → IsLowest (suc n) p (cond (ltb r n || p n) r (suc n))
    go (inl t) =
        subst (IsLowest (suc n) p) (sym (cond_true (ltb r n || p n) r (suc n) t))
        (record {
          at_most = omega (arith, h.at_most);
          none_below = h.none_below;
          passes = λ k. found ((or_says (ltb r n) (p n)).0 t) (below_suc r n k);
        })
    go (inr f) =
        let g : r < n → ⊥ = λ k. f ((or_says (ltb r n) (p n)).1 (inl (lt→ltb r n k))) in
        let e : r ≡ n = omega (arith, h.at_most) in
        subst (IsLowest (suc n) p) (sym (cond_false (ltb r n || p n) r (suc n) f))
        (record {
          at_most = le_refl (suc n);
          none_below = λ i k t. ⊎_elim (λ j. h.none_below i (omega arith) t) (λ j. f ((or_says (ltb r n) (p n)).1 (inr (subst (λ (m : ℕ). T (p m)) j t)))) (below_suc i n k);
          passes = λ k. absurd (lt_irrefl (suc n) k);
        })

pub lowest_is : (n : ℕ) (p : ℕ → Bool) → IsLowest n p (lowest n p)
unfolding lowest
lowest_is zero p = record { at_most = le_refl 0; none_below = λ i h t. not-suc-le-zero h; passes = λ h. absurd (not-suc-le-zero h) }
lowest_is (suc n) p = lowest_step n p (lowest n p) (lowest_is n p)

-- there is only one lowest
pub one_lowest : (n : ℕ) (p q : ℕ → Bool) (r s : ℕ) → ((i : ℕ) → i < n → T (p i) → T (q i)) → ((i : ℕ) → i < n → T (q i) → T (p i))
    → IsLowest n p r → IsLowest n q s → r ≡ s
one_lowest n p q r s f g a b = go (passes_or_fails (ltb r s)) (passes_or_fails (ltb s r))
  where
    go : T (ltb r s) ⊎ (T (ltb r s) → ⊥) → T (ltb s r) ⊎ (T (ltb s r) → ⊥) → r ≡ s
    go (inl t) d =
        let k : r < s = ltb→lt r s t in
        let m : r < n = omega (arith, b.at_most) in
        absurd (b.none_below r k (f r m (a.passes m)))
    go (inr t) (inl u) =
        let k : s < r = ltb→lt s r u in
        let m : s < n = omega (arith, a.at_most) in
        absurd (a.none_below s k (g s m (b.passes m)))
    go (inr t) (inr u) =
        let k : r < s → ⊥ = λ j. t (lt→ltb r s j) in
        let m : s < r → ⊥ = λ j. u (lt→ltb s r j) in
        omega arith

-- tests that agree below the bound have the same lowest
pub lowest_same : (n : ℕ) (p q : ℕ → Bool) → ((i : ℕ) → i < n → p i ≡ q i) → lowest n p ≡ lowest n q
lowest_same n p q e =
    one_lowest n p q (lowest n p) (lowest n q)
    (λ i h t. subst T (e i h) t)
    (λ i h t. subst T (sym (e i h)) t)
    (lowest_is n p)
    (lowest_is n q)

-- where one passes, the lowest is at or below it, and passes
pub lowest_at : (n : ℕ) (p : ℕ → Bool) (i : ℕ) → i < n → T (p i) → (lowest n p ≤ i) × T (p (lowest n p))
lowest_at n p i h t =
    let f : i < lowest n p → ⊥ = λ k. (lowest_is n p).none_below i k t in
    let b : lowest n p ≤ i = omega arith in
    (b, (lowest_is n p).passes (lt_of_le_of_lt b h))

-- ---- row

module _ {A : Type 0} where
  pub length_row : (n : ℕ) (f : ℕ → A) → length (row n f) ≡ n
  unfolding row
  length_row zero f = refl
  length_row (suc n) f = simp (length-append, length_row n f) (omega arith)

  pub getD_row : (n : ℕ) (f : ℕ → A) (i : ℕ) (d : A) → i < n → get_or (row n f) i d ≡ f i
  unfolding row
  getD_row zero f i d h = absurd (not-suc-le-zero h)
  getD_row (suc n) f i d h =
      ⊎_elim
      (λ k. get_or-append (row n f) (f n ∷ []) d i (rw (length_row n f) k) ∙ getD_row n f i d k)
      (λ e. get_or_at (row n f) (f n) [] d i (length_row n f ∙ sym e) ∙ ap f (sym e))
      (below_suc i n h)

  -- rows of the same elements are the same
  pub row_same : (n : ℕ) (f g : ℕ → A) → ((i : ℕ) → i < n → f i ≡ g i) → row n f ≡ row n g
  unfolding row
  row_same zero f g e = refl
  row_same (suc n) f g e = ap₂ (λ (l : List A) (x : A). l ++ x ∷ []) (row_same n f g (λ i h. e i (omega arith))) (e n (le_refl (suc n)))

-- ---- count

pub count_le : (n : ℕ) (p : ℕ → Bool) → count n p ≤ n
unfolding count
count_le zero p = le_refl 0
count_le (suc n) p = go (p n) (count_le n p)
  where
    go : (b : Bool) → count n p ≤ n → count n p + cond b 1 0 ≤ suc n
    go true h = omega arith
    go false h = omega arith

pub count_same : (n : ℕ) (p q : ℕ → Bool) → ((i : ℕ) → i < n → p i ≡ q i) → count n p ≡ count n q
unfolding count
count_same zero p q e = refl
count_same (suc n) p q e =
    ap₂ (λ (k : ℕ) (b : Bool). k + cond b 1 0) (count_same n p q (λ i h. e i (omega arith))) (e n (le_refl (suc n)))

-- where every number that passes p passes q, q has at least as many
pub count_more : (n : ℕ) (p q : ℕ → Bool) → ((i : ℕ) → i < n → T (p i) → T (q i)) → count n p ≤ count n q
unfolding count
count_more zero p q f = le_refl 0
count_more (suc n) p q f = go (p n) (q n) (f n (le_refl (suc n))) (count_more n p q (λ i h. f i (omega arith)))
  where
    go : (a b : Bool) → (T a → T b) → count n p ≤ count n q → count n p + cond a 1 0 ≤ count n q + cond b 1 0
    go true true g h = omega arith
    go true false g h = absurd (g tt)
    go false true g h = omega arith
    go false false g h = omega arith

-- and more, where one number passes q alone
pub count_strictly_more : (n : ℕ) (p q : ℕ → Bool) → ((i : ℕ) → i < n → T (p i) → T (q i))
    → (k : ℕ) → k < n → T (q k) → (T (p k) → ⊥) → count n p < count n q
unfolding count
count_strictly_more zero p q f k h t u = absurd (not-suc-le-zero h)
count_strictly_more (suc n) p q f k h t u =
    go (p n) (q n) (f n (le_refl (suc n)))
    (λ j. count_strictly_more n p q (λ i m. f i (omega arith)) k j t u)
    (count_more n p q (λ i m. f i (omega arith)))
    (λ e. subst (λ (m : ℕ). T (q m)) e t)
    (λ e x. u (subst (λ (m : ℕ). T (p m)) (sym e) x))
    (below_suc k n h)
  where
    go : (a b : Bool) → (T a → T b) → (k < n → count n p < count n q) → count n p ≤ count n q → (k ≡ n → T b) → (k ≡ n → T a → ⊥)
        → (k < n) ⊎ (k ≡ n) → count n p + cond a 1 0 < count n q + cond b 1 0
    go true true g r m x y (inl j) = let w = r j in omega arith
    go true false g r m x y (inl j) = absurd (g tt)
    go false true g r m x y (inl j) = let w = r j in omega arith
    go false false g r m x y (inl j) = let w = r j in omega arith
    go true b g r m x y (inr e) = absurd (y e tt)
    go false true g r m x y (inr e) = omega arith
    go false false g r m x y (inr e) = absurd (x e)

-- where none passes, the count is 0
pub count_none : (n : ℕ) (p : ℕ → Bool) → ((i : ℕ) → i < n → T (p i) → ⊥) → count n p ≡ 0
unfolding count
count_none zero p f = refl
count_none (suc n) p f = go (p n) (f n (le_refl (suc n))) (count_none n p (λ i h. f i (omega arith)))
  where
    go : (b : Bool) → (T b → ⊥) → count n p ≡ 0 → count n p + cond b 1 0 ≡ 0
    go true g e = absurd (g tt)
    go false g e = omega arith
