-- What holds of a list's elements, of neighbours and of pairs, said index by index, as the code goes through them.
-- Rests on the rules' Tests and Sound, on basics and on sound_laws. Assumes nothing.
use Rattle.std.specs.Prelude.{◌≡◌, T, length, get_or}
use Rattle.std.proofs.Math.Path.{refl}
use mathlib.Core.List.{List, [], ◌∷◌}
use Prim.Native.Nat.{ℕ, zero, suc, ◌<◌}
use Rattle.std.proofs.Common.{not-suc-le-zero, arith}
use Rattle.rules.specs.Tests.{last_or}
use Rattle.rules.specs.Tables.{Txn, Lsn, Entry, log_number, is_logged}
use Rattle.basics.specs.Lists.{All, All-at, Neighbours}
use Rattle.sound_laws.specs.Means.{Other, Distinct, Rises}

module _ {A : Type 0} (d : A) where
  pub at_All : (P : A → Type 0) (xs : List A) → ((i : ℕ) → i < length xs → P (get_or xs i d)) → All P xs
  at_All P [] f = tt
  at_All P (x ∷ xs) f = (f 0 (omega arith), at_All P xs (λ i h. f (suc i) (omega arith)))

  pub Neighbours-at : (R : A → A → Type 0) (xs : List A) → Neighbours R xs
      → (i : ℕ) → suc i < length xs → R (get_or xs i d) (get_or xs (suc i) d)
  Neighbours-at R [] r i h = absurd (not-suc-le-zero h)
  Neighbours-at R (x ∷ []) r i h = absurd (omega arith)
  Neighbours-at R (x ∷ y ∷ ys) r zero h = r.0
  Neighbours-at R (x ∷ y ∷ ys) r (suc i) h = Neighbours-at R (y ∷ ys) r.1 i (omega arith)

  pub at_Neighbours : (R : A → A → Type 0) (xs : List A)
      → ((i : ℕ) → suc i < length xs → R (get_or xs i d) (get_or xs (suc i) d)) → Neighbours R xs
  at_Neighbours R [] f = tt
  at_Neighbours R (x ∷ []) f = tt
  at_Neighbours R (x ∷ y ∷ ys) f = (f 0 (omega arith), at_Neighbours R (y ∷ ys) (λ i h. f (suc i) (omega arith)))

  -- the last element
  pub last_none : (e : A) (xs : List A) → length xs ≡ 0 → last_or e xs ≡ e
  unfolding last_or
  last_none e [] h = refl
  last_none e (x ∷ xs) h = absurd (omega arith)

  pub last_at : (e : A) (xs : List A) (m : ℕ) → length xs ≡ suc m → last_or e xs ≡ get_or xs m d
  unfolding last_or
  last_at e [] m h = absurd (omega arith)
  last_at e (x ∷ []) zero h = refl
  last_at e (x ∷ []) (suc m) h = absurd (omega arith)
  last_at e (x ∷ y ∷ ys) zero h = absurd (omega arith)
  last_at e (x ∷ y ∷ ys) (suc m) h = last_at x (y ∷ ys) m (omega arith)

module _ (d : Txn) where
  pub Distinct-at : (xs : List Txn) → Distinct xs → (i j : ℕ) → i < j → j < length xs → Other (get_or xs i d) (get_or xs j d)
  Distinct-at [] r i j h k = absurd (not-suc-le-zero k)
  Distinct-at (x ∷ xs) r i zero h k = absurd (not-suc-le-zero h)
  Distinct-at (x ∷ xs) r zero (suc j) h k = All-at (Other x) xs j d r.0 (omega arith)
  Distinct-at (x ∷ xs) r (suc i) (suc j) h k = Distinct-at xs r.1 i j (omega arith) (omega arith)

  pub at_Distinct : (xs : List Txn) → ((i j : ℕ) → i < j → j < length xs → Other (get_or xs i d) (get_or xs j d)) → Distinct xs
  at_Distinct [] f = tt
  at_Distinct (x ∷ xs) f = (
    at_All d (Other x) xs (λ j h. f 0 (suc j) (omega arith) (omega arith)),
    at_Distinct xs (λ i j h k. f (suc i) (suc j) (omega arith) (omega arith)),
  )

-- the log number of what stands before entry j: the entry before it, or what the given number says
module _ (rs : List Txn) (d : Entry) where
  abbrev pub number_above : Lsn → List Entry → ℕ → ℕ
  number_above n es zero = n.num
  number_above n es (suc j) = (log_number rs (get_or es j d).writer).num

  pub Rises-at : (n : Lsn) (es : List Entry) → Rises rs n es → (j : ℕ) → j < length es → T (is_logged rs (get_or es j d).writer)
      → number_above n es j < (log_number rs (get_or es j d).writer).num
  Rises-at n [] r j h = absurd (not-suc-le-zero h)
  Rises-at n (e ∷ es) r zero h = r.0
  Rises-at n (e ∷ es) r (suc zero) h = Rises-at (log_number rs e.writer) es r.1 0 (omega arith)
  Rises-at n (e ∷ es) r (suc (suc j)) h = Rises-at (log_number rs e.writer) es r.1 (suc j) (omega arith)

  pub at_Rises : (n : Lsn) (es : List Entry)
      → ((j : ℕ) → j < length es → T (is_logged rs (get_or es j d).writer) → number_above n es j < (log_number rs (get_or es j d).writer).num)
      → Rises rs n es
  at_Rises n [] f = tt
  at_Rises n (e ∷ es) f = (f 0 (omega arith), at_Rises (log_number rs e.writer) es (later f))
    where
      later : ((j : ℕ) → j < length (e ∷ es) → T (is_logged rs (get_or (e ∷ es) j d).writer)
          → number_above n (e ∷ es) j < (log_number rs (get_or (e ∷ es) j d).writer).num)
          → (j : ℕ) → j < length es → T (is_logged rs (get_or es j d).writer)
          → number_above (log_number rs e.writer) es j < (log_number rs (get_or es j d).writer).num
      later g zero h = g 1 (omega arith)
      later g (suc j) h = g (suc (suc j)) (omega arith)
