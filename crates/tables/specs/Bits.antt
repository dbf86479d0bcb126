-- Words under the code's `&` and `|`: what a set holds that `&` gives, when `&` leaves a set as it is, and when `|` of
-- words is 0.
-- Rests on the rules' Sets and Layout, on basics, Tells and Test. Assumes nothing.
use Rattle.std.specs.Prelude.{◌≡◌, refl, ◌&&◌, ◌↔◌, List, [], ◌∷◌, ℕ, zero, suc, ◌+◌, ◌-◌, ◌/◌, ◌%◌, ◌^◌, ◌≤◌, ◌<◌, min, T, eqb, length, take, drop, fold}
use Rattle.std.proofs.Common.{ap, sym, ◌∙◌, subst, not-suc-le-zero, arith, below_more, length-take-le, length-drop, get_or-take, get_or-drop}
use Rattle.std.specs.Int.Bits.{bit_and, bit_or, and_step, and_lt, or_add_and}
use Rattle.std.proofs.lemmas.Nat.{and_shr, and_le_l, and_le_r}
use Rattle.rules.specs.Sets.{width, has}
use Rattle.rules.specs.Layout.{word}
use Rattle.basics.specs.Logic.{and_says, same_test}
use Rattle.basics.specs.Sets.{same_set}
use Rattle.tables.specs.Tells.{Tells, tells_as, tells_equal}
use Rattle.tables.specs.Test.{AllZero}

last_bit : (a b : ℕ) → bit_and a b % 2 ≡ min (a % 2) (b % 2)
last_bit a b = omega (arith, and_step a b)

both_bits : (a b : ℕ) → a < 2 → b < 2 → eqb (min a b) 1 ≡ eqb a 1 && eqb b 1
both_bits zero zero h k = refl
both_bits zero (suc zero) h k = refl
both_bits zero (suc (suc b)) h k = absurd (omega arith)
both_bits (suc zero) zero h k = refl
both_bits (suc zero) (suc zero) h k = refl
both_bits (suc zero) (suc (suc b)) h k = absurd (omega arith)
both_bits (suc (suc a)) b h k = absurd (omega arith)

-- a member of the meet is one of both
pub has_and : (s r i : ℕ) → has (bit_and s r) i ≡ has s i && has r i
unfolding has
has_and s r i =
    ap (λ (n : ℕ). eqb (n % 2) 1) (and_shr s r i)
    ∙ ap (λ (n : ℕ). eqb n 1) (last_bit (s / 2 ^ i) (r / 2 ^ i))
    ∙ both_bits (s / 2 ^ i % 2) (r / 2 ^ i % 2) (omega arith) (omega arith)

-- a set that the meet leaves as it is lies within the other
pub and_within : (s r : ℕ) → bit_and s r ≡ s → (i : ℕ) → T (has s i) → T (has r i)
and_within s r e i t =
    ((and_says (has s i) (has r i)).0 (subst T (has_and s r i) (subst (λ (n : ℕ). T (has n i)) (sym e) t))).1

-- and the other way round
pub within_and : (s r : ℕ) → s < 2 ^ width → r < 2 ^ width → ((i : ℕ) → i < width → T (has s i) → T (has r i)) → bit_and s r ≡ s
within_and s r h k f =
    same_set width (bit_and s r) s (and_lt width s r h k) h
    (λ i l.
    has_and s r i
    ∙ same_test (has s i && has r i) (has s i) (λ t. ((and_says (has s i) (has r i)).0 t).0) (λ t. (and_says (has s i) (has r i)).1 (t, f i l t)))

-- ---- words that are gathered by `|`

-- `|` of two words is 0 exactly where both are
pub or_zero : (a b : ℕ) → (bit_or a b ≡ 0) ↔ ((a ≡ 0) × (b ≡ 0))
or_zero a b = (
  λ e. (omega (arith, or_add_and a b, and_le_r a b), omega (arith, or_add_and a b, and_le_l a b)),
  λ z. omega (arith, or_add_and a b, and_le_l a b, z.0, z.1),
)

-- of the words from n on and below i: what is gathered is 0 exactly where each of them is
abbrev pub Gathers : (ℕ → ℕ) → ℕ → ℕ → ℕ → Type 0
Gathers w n i all = (all ≡ 0) ↔ ((k : ℕ) → k < i → n ≤ k → w k ≡ 0)

module _ (w : ℕ → ℕ) (n : ℕ) where
  pub gathers_none : Gathers w n n 0
  gathers_none = (λ e k h g. absurd (omega arith), λ f. refl)

  pub gathers_more : (i all : ℕ) → n ≤ i → Gathers w n i all → Gathers w n (i + 1) (bit_or all (w i))
  gathers_more i all h g = (
    λ e.
        let z = (or_zero all (w i)).0 e in
        below_more (λ k. n ≤ k → w k ≡ 0) i (g.0 z.0) (λ l. z.1),
    λ f. (or_zero all (w i)).1 (g.1 (λ k l. f k (omega arith)), f i (omega arith) h),
  )

-- what is gathered of a whole list is 0 exactly where each of its words is
more_zero : (w : ℕ) (ws : List ℕ) → w ≡ 0 → AllZero ws → AllZero (w ∷ ws)
more_zero w ws e z zero h = e
more_zero w ws e z (suc i) h = z i (omega arith)

gathers : (ws : List ℕ) (all : ℕ) → (fold bit_or all ws ≡ 0) ↔ ((all ≡ 0) × AllZero ws)
gathers [] all = (λ e. (e, λ i h. absurd (not-suc-le-zero h)), λ z. z.0)
gathers (w ∷ ws) all = (
  λ e.
      let z = (gathers ws (bit_or all w)).0 e in
      let both = (or_zero all w).0 z.0 in
      (both.0, more_zero w ws both.1 z.1),
  λ z. (gathers ws (bit_or all w)).1 ((or_zero all w).1 (z.0, z.1 0 (omega arith)), λ i h. z.1 (suc i) (omega arith)),
)

pub tells_gathered : (ws : List ℕ) (all : ℕ) → all ≡ fold bit_or 0 ws → Tells (eqb all 0) (AllZero ws)
tells_gathered ws all e =
    tells_as (eqb all 0) (tells_equal all 0) (λ z. ((gathers ws 0).0 (sym e ∙ z)).1) (λ z. e ∙ (gathers ws 0).1 (refl, z))

-- of a run of m words, those from the n-th on are 0 exactly where each of that part is
pub rest_zero : (ws : List ℕ) (at n m : ℕ) → at + m ≤ length ws
    → AllZero (take (at + m - (at + n)) (drop (at + n) ws)) ↔ ((i : ℕ) → i < m → n ≤ i → word ws (at + i) ≡ 0)
rest_zero ws at n m room = (
  λ z i h k.
      let b : i - n < at + m - (at + n) = omega arith in
      let e = read (i - n) b in
      let there : at + n + (i - n) ≡ at + i = omega arith in
      ap (word ws) (sym there) ∙ sym e ∙ z (i - n) (omega (arith, size)),
  λ f i h.
      let b : i < at + m - (at + n) = omega (arith, size) in
      let there : at + n + i ≡ at + (n + i) = omega arith in
      read i b ∙ ap (word ws) there ∙ f (n + i) (omega arith) (omega arith),
)
  where
    size : length (take (at + m - (at + n)) (drop (at + n) ws)) ≡ at + m - (at + n)
    size = length-take-le (at + m - (at + n)) (drop (at + n) ws) (rw length-drop (omega arith))

    read : (i : ℕ) → i < at + m - (at + n) → word (take (at + m - (at + n)) (drop (at + n) ws)) i ≡ word ws (at + n + i)
    read i h = get_or-take (at + m - (at + n)) (drop (at + n) ws) i 0 h ∙ get_or-drop (at + n) ws i 0
