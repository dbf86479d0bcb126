-- The small words that the rules are written in: tests over the numbers below a bound and over a list's elements.
-- Rests on nothing but the logic's lists and Booleans.
use Rattle.std.specs.Prelude.{Bool, true, false, ◌&&◌, ◌||◌, cond, List, [], ◌∷◌, ◌++◌, ℕ, zero, suc, ◌+◌, min, eqb, ltb}

infixr 20 ◌⇒◌
-- where the first holds, so does the second
abbrev pub ◌⇒◌ : Bool → Bool → Bool
true ⇒ b = b
false ⇒ b = true

-- every number below the bound passes
unfoldable pub every : ℕ → (ℕ → Bool) → Bool
every zero p = true
every (suc n) p = every n p && p n

-- some number below the bound passes
unfoldable pub some_below : ℕ → (ℕ → Bool) → Bool
some_below zero p = false
some_below (suc n) p = some_below n p || p n

-- how many numbers below the bound pass
unfoldable pub count : ℕ → (ℕ → Bool) → ℕ
count zero p = 0
count (suc n) p = count n p + cond (p n) 1 0

-- the lowest number below the bound that passes, or the bound where none does
unfoldable pub lowest : ℕ → (ℕ → Bool) → ℕ
lowest zero p = 0
lowest (suc n) p = let r = lowest n p in cond (ltb r n || p n) r (suc n)

-- the lower of two numbers, where a 0 stands for none
abbrev pub lower : ℕ → ℕ → ℕ
lower a b = cond (eqb a 0) b (cond (eqb b 0) a (min a b))

-- the least of f 0, f 1, and so on below the bound, zeros aside
unfoldable pub least : ℕ → (ℕ → ℕ) → ℕ
least zero f = 0
least (suc n) f = lower (least n f) (f n)

-- the sum over the numbers below the bound
unfoldable pub sum : ℕ → (ℕ → ℕ) → ℕ
sum zero f = 0
sum (suc n) f = sum n f + f n

module _ {A : Type 0} where
  -- the list of f 0, f 1, and so on below the bound
  unfoldable pub row : ℕ → (ℕ → A) → List A
  row zero f = []
  row (suc n) f = row n f ++ f n ∷ []

  -- every element passes
  unfoldable pub all : (A → Bool) → List A → Bool
  all p [] = true
  all p (x ∷ xs) = p x && all p xs

  -- every two neighbours pass, the earlier one first
  unfoldable pub neighbours : (A → A → Bool) → List A → Bool
  neighbours p [] = true
  neighbours p (x ∷ []) = true
  neighbours p (x ∷ y ∷ ys) = p x y && neighbours p (y ∷ ys)

  -- the elements that pass, in order
  unfoldable pub keep : (A → Bool) → List A → List A
  keep p [] = []
  keep p (x ∷ xs) = cond (p x) (x ∷ keep p xs) (keep p xs)

  -- the elements before the first that fails
  unfoldable pub leading : (A → Bool) → List A → List A
  leading p [] = []
  leading p (x ∷ xs) = cond (p x) (x ∷ leading p xs) []

  -- the elements from the first that fails on
  unfoldable pub after_leading : (A → Bool) → List A → List A
  after_leading p [] = []
  after_leading p (x ∷ xs) = cond (p x) (after_leading p xs) (x ∷ xs)

  -- the last element, or the given one where there is none
  unfoldable pub last_or : A → List A → A
  last_or d [] = d
  last_or d (x ∷ xs) = last_or x xs
