-- Sets as numbers, for every width: what `collect` holds, and that two sets of a width with the same members are one.
-- Rests on the rules' Tests and Sets, on Logic and Ranges. Assumes nothing.
use Rattle.std.specs.Prelude.{◌≡◌, refl, Bool, true, false, not, cond, ◌&&◌, ◌||◌, ◌⊎◌, ◌↔◌, ℕ, zero, suc, ◌+◌, ◌-◌, ◌*◌, ◌/◌, ◌%◌, ◌^◌, ◌≤◌, ◌<◌, T, eqb}
use Rattle.std.proofs.Common.{ap, ap₂, sym, ◌∙◌, subst, true≢false, inl, inr, ⊎_elim, le_refl, not-suc-le-zero, zero-lt-suc, lt_of_lt_of_le, mod-lt, pow-suc, one-add, arith, eqb→eq, pow_pos, pow_mono, shr_lt}
use Rattle.std.proofs.lemmas.Bool.{false≢true}
use Rattle.std.proofs.Math.Nat.{zero-div, div-eq_of_lt}
use Rattle.std.proofs.Math.Pow.{field, mod-mod-pow, high, low, split}
use Rattle.rules.specs.Tests.{◌⇒◌, some_below}
use Rattle.rules.specs.Sets.{width, has, collect, with_member, without_member, within, meets}
use Rattle.basics.specs.Logic.{equal_says, same_test, or_says, and_says, not_says, implies_says, passes_or_fails}
use Rattle.basics.specs.Ranges.{below_suc, every_says, some_at, some_of}

-- membership of i goes by the lowest i + 1 bits
bit_low : (s i : ℕ) → s / 2 ^ i % 2 ≡ s % 2 ^ (1 + i) / 2 ^ i
bit_low s i = sym (field s 1 i)

-- bits from w on do not bear on a member below w
pub has_low : (w s i : ℕ) → i < w → has (s % 2 ^ w) i ≡ has s i
unfolding has
has_low w s i h =
    let e : (w - (1 + i)) + (1 + i) ≡ w = omega arith in
    ap (λ (n : ℕ). eqb n 1)
    (bit_low (s % 2 ^ w) i
    ∙ ap (λ (n : ℕ). n / 2 ^ i) (subst (λ (k : ℕ). s % 2 ^ k % 2 ^ (1 + i) ≡ s % 2 ^ (1 + i)) e (mod-mod-pow s (w - (1 + i)) (1 + i)))
    ∙ sym (bit_low s i))

-- a bit in front of w others
pub has_below_top : (w a b i : ℕ) → a < 2 ^ w → i < w → has (b * 2 ^ w + a) i ≡ has a i
has_below_top w a b i ha h =
    sym (has_low w (b * 2 ^ w + a) i h) ∙ ap (λ (n : ℕ). has n i) (low b w ha)

pub has_top : (w a : ℕ) (b : Bool) → a < 2 ^ w → has (cond b 1 0 * 2 ^ w + a) w ≡ b
unfolding has
has_top w a true ha = ap (λ (n : ℕ). eqb (n % 2) 1) (high 1 w ha)
has_top w a false ha = ap (λ (n : ℕ). eqb (n % 2) 1) (high 0 w ha)

-- ---- collect

collect_step : (w : ℕ) (p : ℕ → Bool) → collect (suc w) p ≡ cond (p w) 1 0 * 2 ^ w + collect w p
unfolding collect
collect_step w p = go (p w)
  where
    go : (b : Bool) → collect w p + cond b (2 ^ w) 0 ≡ cond b 1 0 * 2 ^ w + collect w p
    go true = omega arith
    go false = omega arith

pub collect_lt : (w : ℕ) (p : ℕ → Bool) → collect w p < 2 ^ w
unfolding collect
collect_lt zero p = zero-lt-suc 0
collect_lt (suc w) p = rw (pow-suc 2 w) (go (p w) (collect_lt w p))
  where
    go : (b : Bool) → collect w p < 2 ^ w → collect w p + cond b (2 ^ w) 0 < 2 ^ w * 2
    go true h = omega arith
    go false h = omega (arith, pow_pos w)

-- the members of what was collected are those that pass
pub has_collect : (w : ℕ) (p : ℕ → Bool) (i : ℕ) → i < w → has (collect w p) i ≡ p i
has_collect zero p i h = absurd (not-suc-le-zero h)
has_collect (suc w) p i h =
    ap (λ (n : ℕ). has n i) (collect_step w p)
    ∙ ⊎_elim
    (λ k. has_below_top w (collect w p) (cond (p w) 1 0) i (collect_lt w p) k ∙ has_collect w p i k)
    (λ e. ap (λ (j : ℕ). has (cond (p w) 1 0 * 2 ^ w + collect w p) j) e ∙ has_top w (collect w p) (p w) (collect_lt w p) ∙ ap p (sym e))
    (below_suc i w h)

-- ---- a set is its members

-- 0 has none
pub has_zero : (i : ℕ) → T (has 0 i) → ⊥
unfolding has
has_zero i t =
    let e : 0 / 2 ^ i % 2 ≡ 0 = ap (λ (n : ℕ). n % 2) (zero-div (2 ^ i)) in
    let f : 0 / 2 ^ i % 2 ≡ 1 = eqb→eq (0 / 2 ^ i % 2) 1 t in
    omega arith

-- a set of width w has no member from w on
pub has_past : (w s i : ℕ) → s < 2 ^ w → w ≤ i → T (has s i) → ⊥
unfolding has
has_past w s i h k t =
    let z : s / 2 ^ i ≡ 0 = div-eq_of_lt (lt_of_lt_of_le h (pow_mono k)) in
    let e : s / 2 ^ i % 2 ≡ 0 = ap (λ (n : ℕ). n % 2) z in
    let f : s / 2 ^ i % 2 ≡ 1 = eqb→eq (s / 2 ^ i % 2) 1 t in
    omega arith

one_bit : (a b : ℕ) → a < 2 → b < 2 → eqb (a % 2) 1 ≡ eqb (b % 2) 1 → a ≡ b
one_bit zero zero h k e = refl
one_bit zero (suc zero) h k e = absurd (false≢true e)
one_bit zero (suc (suc b)) h k e = omega arith
one_bit (suc zero) zero h k e = absurd (true≢false e)
one_bit (suc zero) (suc zero) h k e = refl
one_bit (suc zero) (suc (suc b)) h k e = omega arith
one_bit (suc (suc a)) b h k e = omega arith

-- two sets of a width with the same members are one
pub same_set : (w s r : ℕ) → s < 2 ^ w → r < 2 ^ w → ((i : ℕ) → i < w → has s i ≡ has r i) → s ≡ r
unfolding has
same_set zero s r hs hr e = omega arith
same_set (suc w) s r hs hr e =
    let top : s / 2 ^ w ≡ r / 2 ^ w = one_bit (s / 2 ^ w) (r / 2 ^ w) (half s hs) (half r hr) (e w (le_refl (suc w))) in
    let rest : s % 2 ^ w ≡ r % 2 ^ w =
    same_set w (s % 2 ^ w) (r % 2 ^ w) (mod-lt s (pow_pos w)) (mod-lt r (pow_pos w))
    (λ i h. has_low w s i h ∙ e i (omega arith) ∙ sym (has_low w r i h)) in
    sym (split s w) ∙ ap₂ (λ (a b : ℕ). a * 2 ^ w + b) top rest ∙ split r w
  where
    half : (n : ℕ) → n < 2 ^ suc w → n / 2 ^ w < 2
    half n h = shr_lt 1 w (subst (λ (k : ℕ). n < 2 ^ k) (sym (one-add w)) h)

-- a set of a width is what its members make
pub collect_has : (w s : ℕ) → s < 2 ^ w → collect w (has s) ≡ s
collect_has w s h = same_set w (collect w (has s)) s (collect_lt w (has s)) h (has_collect w (has s))

-- a set without a member is 0, and a set that is not 0 has a member
pub no_member : (w s : ℕ) → s < 2 ^ w → ((i : ℕ) → i < w → T (has s i) → ⊥) → s ≡ 0
no_member w s h f =
    same_set w s 0 h (pow_pos w) (λ i k. same_test (has s i) (has 0 i) (λ t. absurd (f i k t)) (λ t. absurd (has_zero i t)))

pub some_member : (w s : ℕ) → s < 2 ^ w → (s ≡ 0 → ⊥) → (i : ℕ) × (i < w) × T (has s i)
some_member w s h f = go (passes_or_fails (some_below w (has s)))
  where
    go : T (some_below w (has s)) ⊎ (T (some_below w (has s)) → ⊥) → (i : ℕ) × (i < w) × T (has s i)
    go (inl t) = some_at w (has s) t
    go (inr g) = absurd (f (no_member w s h (λ i k t. g (some_of w (has s) i k t))))

-- ---- the rules' own sets

pub with_member_says : (s i j : ℕ) → j < width → T (has (with_member s i) j) ↔ (T (has s j) ⊎ (j ≡ i))
unfolding with_member
with_member_says s i j h =
    let e : has (collect width (λ k. has s k || eqb k i)) j ≡ (has s j || eqb j i) = has_collect width (λ k. has s k || eqb k i) j h in (
      λ t. ⊎_elim inl (λ u. inr ((equal_says j i).0 u)) ((or_says (has s j) (eqb j i)).0 (subst T e t)),
      λ d. subst T (sym e) ((or_says (has s j) (eqb j i)).1 (⊎_elim inl (λ u. inr ((equal_says j i).1 u)) d)),
    )

pub with_member_lt : (s i : ℕ) → with_member s i < 2 ^ width
unfolding with_member
with_member_lt s i = collect_lt width (λ k. has s k || eqb k i)

pub without_member_says : (s i j : ℕ) → j < width → T (has (without_member s i) j) ↔ (T (has s j) × (j ≡ i → ⊥))
unfolding without_member
without_member_says s i j h =
    let e : has (collect width (λ k. has s k && not (eqb k i))) j ≡ (has s j && not (eqb j i)) = has_collect width (λ k. has s k && not (eqb k i)) j h in
    let a = and_says (has s j) (not (eqb j i)) in
    let n = not_says (eqb j i) in (
      λ t. ((a.0 (subst T e t)).0, λ q. n.0 (a.0 (subst T e t)).1 ((equal_says j i).1 q)),
      λ d. subst T (sym e) (a.1 (d.0, n.1 (λ u. d.1 ((equal_says j i).0 u)))),
    )

pub without_member_lt : (s i : ℕ) → without_member s i < 2 ^ width
unfolding without_member
without_member_lt s i = collect_lt width (λ k. has s k && not (eqb k i))

pub within_says : (s r : ℕ) → T (within s r) ↔ ((i : ℕ) → i < width → T (has s i) → T (has r i))
unfolding within
within_says s r =
    let e = every_says width (λ i. has s i ⇒ has r i) in
    (λ t i h. (implies_says (has s i) (has r i)).0 (e.0 t i h), λ f. e.1 (λ i h. (implies_says (has s i) (has r i)).1 (f i h)))

pub meets_of : (s r i : ℕ) → i < width → T (has s i) → T (has r i) → T (meets s r)
unfolding meets
meets_of s r i h a b = some_of width (λ j. has s j && has r j) i h ((and_says (has s i) (has r i)).1 (a, b))

pub meets_at : (s r : ℕ) → T (meets s r) → (i : ℕ) × (i < width) × T (has s i) × T (has r i)
unfolding meets
meets_at s r t =
    let w = some_at width (λ j. has s j && has r j) t in
    let b = (and_says (has s w.0) (has r w.0)).0 w.2 in
    (w.0, w.1, b.0, b.1)
