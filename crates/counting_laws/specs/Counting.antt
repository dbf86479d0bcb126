-- Counting a set's members and finding the lowest, shown once for every width: against the list of the members, and
-- against the machine's own counts of set bits and of trailing zeros.
-- Rests on the rules' Tests and Sets, and on basics. Assumes nothing.
use Rattle.std.specs.Prelude.{◌≡◌, refl, Bool, true, false, cond, ◌⊎◌, ◌↔◌, List, [], ◌∷◌, ◌++◌, ℕ, zero, suc, ◌+◌, ◌/◌, ◌%◌, ◌^◌, ◌≤◌, ◌<◌, min, T, eqb, leb, length, get_or}
use Rattle.std.proofs.Common.{ap, ap₂, sym, ◌∙◌, subst, inl, inr, ⊎_elim, append-nil, zero-le, le_refl, le_trans, not-suc-le-zero, zero-lt-suc, add_comm, mod-lt, div-one, one-add, arith, leb→le, le→leb, pow_pos, shr_lt, shr-shr, length-append}
use Rattle.std.proofs.Math.Arith.{lt-one}
use Rattle.std.proofs.Math.Pow.{split}
use Rattle.std.specs.Int.Count.{ones, count_trailing_zeros, under}
use Rattle.std.proofs.lemmas.Nat.{ones_cat}
use Rattle.std.proofs.Math.ListN.{get_or-append}
use Rattle.std.proofs.lemmas.List.{get_or_at}
use Rattle.std.proofs.Math.Seq.{get_or-append_seam}
use Rattle.rules.specs.Tests.{count, lowest, lower, least, row, keep}
use Rattle.rules.specs.Sets.{has}
use Rattle.basics.specs.Logic.{equal_says, passes_or_fails}
use Rattle.basics.specs.Ranges.{below_suc, count_same, IsLowest, lowest_is, one_lowest}
use Rattle.basics.specs.Lists.{All, All-map, All-append, All-at, keep_append}
use Rattle.basics.specs.Sets.{has_low}

-- the members of s below w, rising
unfoldable pub members : ℕ → ℕ → List ℕ
members w s = keep (has s) (row w (λ i. i))

-- ---- the list of the members

-- the list for one width more
members_step : (w s : ℕ) → members (suc w) s ≡ members w s ++ cond (has s w) (w ∷ []) []
unfolding members row keep
members_step w s = keep_append (has s) (row w (λ i. i)) (w ∷ [])

-- the count is the length of the list of the members
pub count_is_length : (w s : ℕ) → count w (has s) ≡ length (members w s)
unfolding count members row keep
count_is_length zero s = refl
count_is_length (suc w) s =
    ap₂ ◌+◌ (count_is_length w s) (go (has s w)) ∙ sym (length-append (members w s) (cond (has s w) (w ∷ []) []))
    ∙ ap length (sym (members_step w s))
  where
    go : (b : Bool) → cond b 1 0 ≡ length (cond b (w ∷ []) [])
    go true = refl
    go false = refl

-- all that are listed are members below w
listed : (w s : ℕ) → All (λ i. (i < w) × T (has s i)) (members w s)
unfolding members row keep
listed zero s = tt
listed (suc w) s =
    subst (All (λ i. (i < suc w) × T (has s i))) (sym (members_step w s))
    ((All-append (λ i. (i < suc w) × T (has s i)) (members w s) (cond (has s w) (w ∷ []) [])).1
    (All-map (λ i h. (omega arith, h.1)) (members w s) (listed w s), go (has s w) (λ t. t)))
  where
    go : (b : Bool) → (T b → T (has s w)) → All (λ i. (i < suc w) × T (has s i)) (cond b (w ∷ []) [])
    go true f = ((le_refl (suc w), f tt), tt)
    go false f = tt

-- each of the list is a member
pub listed_is_member : (w s k : ℕ) → k < length (members w s) → T (has s (get_or (members w s) k 0))
listed_is_member w s k h = (All-at (λ i. (i < w) × T (has s i)) (members w s) k 0 (listed w s) h).1

-- each of the list is below w
pub listed_below : (w s k : ℕ) → k < length (members w s) → get_or (members w s) k 0 < w
listed_below w s k h = (All-at (λ i. (i < w) × T (has s i)) (members w s) k 0 (listed w s) h).0

-- each element is below all later ones
abbrev Rises : List ℕ → Type 0
Rises xs = (j k : ℕ) → j < k → k < length xs → get_or xs j 0 < get_or xs k 0

-- one element more at the end, which is above all others
rises_more : (xs : List ℕ) (y : ℕ) → Rises xs → ((j : ℕ) → j < length xs → get_or xs j 0 < y) → Rises (xs ++ y ∷ [])
rises_more xs y r f j k h m = go (below_suc k (length xs) (omega (arith, length-append xs (y ∷ []))))
  where
    go : (k < length xs) ⊎ (k ≡ length xs) → get_or (xs ++ y ∷ []) j 0 < get_or (xs ++ y ∷ []) k 0
    go (inl l) =
        let a = get_or-append xs (y ∷ []) 0 j (omega arith) in
        let b = get_or-append xs (y ∷ []) 0 k l in
        let c = r j k h l in
        omega arith
    go (inr e) =
        let i : j < length xs = omega arith in
        let a = get_or-append xs (y ∷ []) 0 j i in
        let b = get_or_at xs y [] 0 k (sym e) in
        let c = f j i in
        omega arith

-- the list rises
pub listed_rise : (w s j k : ℕ) → j < k → k < length (members w s) → get_or (members w s) j 0 < get_or (members w s) k 0
unfolding members row keep
listed_rise zero s = λ j k h m. absurd (not-suc-le-zero m)
listed_rise (suc w) s = subst Rises (sym (members_step w s)) (go (has s w) (listed_rise w s))
  where
    go : (b : Bool) → Rises (members w s) → Rises (members w s ++ cond b (w ∷ []) [])
    go true r = rises_more (members w s) w r (listed_below w s)
    go false r = subst Rises (sym (append-nil (members w s))) r

-- i is in the list
abbrev Listed : ℕ → List ℕ → Type 0
Listed i xs = (k : ℕ) × (k < length xs) × (get_or xs k 0 ≡ i)

-- each member is in the list
pub member_is_listed : (w s i : ℕ) → i < w → T (has s i)
    → (k : ℕ) × (k < length (members w s)) × (get_or (members w s) k 0 ≡ i)
member_is_listed zero s i h t = absurd (not-suc-le-zero h)
member_is_listed (suc w) s i h t =
    subst (Listed i) (sym (members_step w s))
    (⊎_elim
    (λ k. early (cond (has s w) (w ∷ []) []) (member_is_listed w s i k t))
    (λ e. last (has s w) (subst (λ (j : ℕ). T (has s j)) e t) e)
    (below_suc i w h))
  where
    early : (ys : List ℕ) → Listed i (members w s) → Listed i (members w s ++ ys)
    early ys l = (
      l.0,
      omega (arith, length-append (members w s) ys, l.1),
      get_or-append (members w s) ys 0 l.0 l.1 ∙ l.2,
    )

    last : (b : Bool) → T b → i ≡ w → Listed i (members w s ++ cond b (w ∷ []) [])
    last true u e = (
      length (members w s),
      omega (arith, length-append (members w s) (w ∷ [])),
      get_or-append_seam (members w s) w [] 0 ∙ sym e,
    )
    last false u e = absurd u

-- ---- the machine's counts

-- the count is the machine's count of set bits
pub count_is_ones : (w s : ℕ) → s < 2 ^ w → count w (has s) ≡ ones s
unfolding count has ones
count_is_ones zero s h = ap ones (sym (lt-one h))
count_is_ones (suc w) s h =
    ap₂ ◌+◌
    (count_same w (has s) (has (s % 2 ^ w)) (λ i k. sym (has_low w s i k))
    ∙ count_is_ones w (s % 2 ^ w) (mod-lt s (pow_pos w)))
    (top (s / 2 ^ w) (shr_lt 1 w (subst (λ (k : ℕ). s < 2 ^ k) (sym (one-add w)) h)))
    ∙ add_comm (ones (s % 2 ^ w)) (ones (s / 2 ^ w))
    ∙ sym (ones_cat w (s / 2 ^ w) (s % 2 ^ w) (mod-lt s (pow_pos w)))
    ∙ ap ones (split s w)
  where
    top : (n : ℕ) → n < 2 → cond (eqb (n % 2) 1) 1 0 ≡ ones n
    top zero k = refl
    top (suc zero) k = refl
    top (suc (suc n)) k = omega arith

-- 0 is a member of the odd numbers
pub has_first : (s : ℕ) → has s 0 ≡ eqb (s % 2) 1
unfolding has
has_first s = ap (λ (n : ℕ). eqb (n % 2) 1) (div-one s)

-- the other members are those of the half, one higher
pub has_half : (s i : ℕ) → has (s / 2) i ≡ has s (suc i)
unfolding has
has_half s i = ap (λ (n : ℕ). eqb (n % 2) 1) (shr-shr s 1 i ∙ ap (λ (k : ℕ). s / 2 ^ k) (one-add i))

-- the count of trailing zeros is the lowest member
trailing_is_lowest : (w s : ℕ) → IsLowest w (has s) (count_trailing_zeros w s)
unfolding count_trailing_zeros
trailing_is_lowest zero s =
    record { at_most = le_refl 0; none_below = λ i h t. not-suc-le-zero h; passes = λ h. absurd (not-suc-le-zero h) }
trailing_is_lowest (suc w) s = go (s % 2) (has_first s) (mod-lt s (zero-lt-suc 1)) (trailing_is_lowest w (s / 2))
  where
    none : (r : ℕ) → has s 0 ≡ false → IsLowest w (has (s / 2)) r → (i : ℕ) → i < suc r → T (has s i) → ⊥
    none r e l zero h t = subst T e t
    none r e l (suc i) h t = l.none_below i (omega arith) (subst T (sym (has_half s i)) t)

    go : (d : ℕ) → has s 0 ≡ eqb d 1 → d < 2
        → {r : ℕ} → IsLowest w (has (s / 2)) r → IsLowest (suc w) (has s) (under d r)
    go zero e b {r} l =
        record {
          at_most = omega (arith, l.at_most);
          none_below = none r e l;
          passes = λ h. subst T (has_half s r) (l.passes (omega arith));
        }
    go (suc zero) e b l =
        record { at_most = zero-le; none_below = λ i h t. not-suc-le-zero h; passes = λ h. subst T (sym e) tt }
    go (suc (suc d)) e b l = absurd (omega arith)

-- the lowest member is the machine's count of trailing zeros
pub lowest_is_trailing_zeros : (w s : ℕ) → lowest w (has s) ≡ count_trailing_zeros w s
lowest_is_trailing_zeros w s =
    one_lowest w (has s) (has s) (lowest w (has s)) (count_trailing_zeros w s) (λ i h t. t) (λ i h t. t)
    (lowest_is w (has s)) (trailing_is_lowest w s)

-- ---- the least, zeros aside

-- r is the lower of a and b, where a 0 stands for none
record IsLower (a b r : ℕ) : Type 0 where
  first : (a ≡ 0 → ⊥) → r ≤ a
  second : (b ≡ 0 → ⊥) → r ≤ b
  either : (r ≡ a) ⊎ (r ≡ b)
  neither : r ≡ 0 → (a ≡ 0) × (b ≡ 0)

-- the rules' lower is that one
lower_is : (a b : ℕ) → IsLower a b (lower a b)
lower_is a b = go (eqb a 0) (eqb b 0) (equal_says a 0) (equal_says b 0)
  where
    smaller : T (leb a b) ⊎ (T (leb a b) → ⊥) → (min a b ≡ a) ⊎ (min a b ≡ b)
    smaller (inl t) = inl (omega (arith, leb→le a b t))
    smaller (inr f) =
        let g : a ≤ b → ⊥ = λ h. f (le→leb a b h) in
        inr (omega arith)

    go : (x y : Bool) → T x ↔ (a ≡ 0) → T y ↔ (b ≡ 0) → IsLower a b (cond x b (cond y a (min a b)))
    go true y p q =
        let o = p.0 tt in
        record { first = λ z. absurd (z o); second = λ z. le_refl b; either = inr refl; neither = λ e. (o, e) }
    go false true p q =
        let o = q.0 tt in
        record { first = λ z. le_refl a; second = λ z. absurd (z o); either = inl refl; neither = λ e. (e, o) }
    go false false p q =
        let m : a ≡ 0 → ⊥ = p.1 in
        let n : b ≡ 0 → ⊥ = q.1 in
        record {
          first = λ z. omega arith;
          second = λ z. omega arith;
          either = smaller (passes_or_fails (leb a b));
          neither = omega arith;
        }

-- where one of the numbers is not 0, nor is the least
least_not_zero : (n : ℕ) (f : ℕ → ℕ) (i : ℕ) → i < n → (f i ≡ 0 → ⊥) → least n f ≡ 0 → ⊥
unfolding least
least_not_zero zero f i h z e = not-suc-le-zero h
least_not_zero (suc n) f i h z e =
    let both = (lower_is (least n f) (f n)).neither e in
    ⊎_elim (λ k. least_not_zero n f i k z both.0) (λ j. z (ap f j ∙ both.1)) (below_suc i n h)

-- the least of some numbers, zeros aside, is at most each of them
pub least_at_most : (n : ℕ) (f : ℕ → ℕ) (i : ℕ) → i < n → (f i ≡ 0 → ⊥) → least n f ≤ f i
unfolding least
least_at_most zero f i h z = absurd (not-suc-le-zero h)
least_at_most (suc n) f i h z =
    let l = lower_is (least n f) (f n) in
    ⊎_elim
    (λ k. le_trans (l.first (least_not_zero n f i k z)) (least_at_most n f i k z))
    (λ e. subst (λ (j : ℕ). least (suc n) f ≤ f j) (sym e) (l.second (λ y. z (ap f e ∙ y))))
    (below_suc i n h)

-- a least that is not 0 is one of the numbers
least_one : (n : ℕ) (f : ℕ → ℕ) → (least n f ≡ 0 → ⊥) → (k : ℕ) × (k < n) × (f k ≡ least n f)
unfolding least
least_one zero f z = absurd (z refl)
least_one (suc n) f z = go (least_one n f) (lower_is (least n f) (f n)).either
  where
    go : ((least n f ≡ 0 → ⊥) → (k : ℕ) × (k < n) × (f k ≡ least n f))
        → (least (suc n) f ≡ least n f) ⊎ (least (suc n) f ≡ f n) → (k : ℕ) × (k < suc n) × (f k ≡ least (suc n) f)
    go r (inl e) =
        let w = r (λ y. z (e ∙ y)) in
        (w.0, omega (arith, w.1), w.2 ∙ sym e)
    go r (inr e) = (n, le_refl (suc n), sym e)

-- and it is one of them, unless all are 0
pub least_is_one : (n : ℕ) (f : ℕ → ℕ) (i : ℕ) → i < n → (f i ≡ 0 → ⊥)
    → (k : ℕ) × (k < n) × (f k ≡ least n f) × (f k ≡ 0 → ⊥)
least_is_one n f i h z =
    let y = least_not_zero n f i h z in
    let w = least_one n f y in
    (w.0, w.1, w.2, λ e. y (sym w.2 ∙ e))
