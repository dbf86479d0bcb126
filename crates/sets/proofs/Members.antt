-- A set with one member more or less, as the machine adds or takes away the member's bit: shown once for every width.
-- Rests on the rules' Sets and on basics. Assumes nothing.
use mathlib.Core.Path.{◌≡◌, refl, ap, ap₂, sym, ◌∙◌}
use mathlib.Core.Bool.{Bool, true, false, not, cond, ◌&&◌, ◌||◌}
use mathlib.Core.Logic.{⊎_elim}
use Prim.Native.Nat.{ℕ, zero, suc, ◌+◌, ◌*◌, ◌%◌, ◌^◌, ◌<◌}
use native.Mathlib.Nat.{not-suc-le-zero}
use native.Mathlib.Omega.{arith}
use lib.Dec.{T, eqb}
use lib.Pow.{shl_exact}
use borrow.Author.Tests.{eq-eqb, ne_eqb}
use Rattle.rules.specs.Sets.{width, has, collect, with_member, without_member}
use Rattle.basics.specs.Logic.{equal_says}
use Rattle.basics.specs.Ranges.{below_suc}
use Rattle.basics.specs.Sets.{collect_has}

-- sets whose tests agree below the width are one
pub collect_same : (w : ℕ) (p q : ℕ → Bool) → ((i : ℕ) → i < w → p i ≡ q i) → collect w p ≡ collect w q
unfolding collect
collect_same zero p q e = refl
collect_same (suc w) p q e =
    ap₂ (λ (c : ℕ) (b : Bool). c + cond b (2 ^ w) 0) (collect_same w p q (λ i h. e i (omega arith))) (e w (omega arith))

or_false : (b : Bool) → (b || false) ≡ b
or_false true = refl
or_false false = refl

-- a test that also takes in i is as before elsewhere
elsewhere : (p : ℕ → Bool) (i j : ℕ) → (j ≡ i → ⊥) → (p j || eqb j i) ≡ p j
elsewhere p i j n = ap (λ (b : Bool). p j || b) (ne_eqb j i n) ∙ or_false (p j)

-- a member more is its bit more
pub collect_more : (w : ℕ) (p : ℕ → Bool) (i : ℕ) → i < w → p i ≡ false
    → collect w (λ j. p j || eqb j i) ≡ collect w p + 2 ^ i
unfolding collect
collect_more zero p i h e = absurd (not-suc-le-zero h)
collect_more (suc w) p i h e =
    ⊎_elim
    (λ k.
    ap₂ (λ (c : ℕ) (b : Bool). c + cond b (2 ^ w) 0) (collect_more w p i k e) (elsewhere p i w (omega arith))
    ∙ swap (collect w p) (2 ^ i) (cond (p w) (2 ^ w) 0))
    (λ k.
    let old : p w ≡ false = ap p (sym k) ∙ e in
    let none : cond (p w) (2 ^ w) 0 ≡ 0 = ap (λ (b : Bool). cond b (2 ^ w) 0) old in
    let bit : 2 ^ i ≡ 2 ^ w = ap (λ (n : ℕ). 2 ^ n) k in
    ap₂ (λ (c : ℕ) (b : Bool). c + cond b (2 ^ w) 0)
    (collect_same w (λ j. p j || eqb j i) p (λ j m. elsewhere p i j (omega arith)))
    (ap₂ ◌||◌ old (eq-eqb w i (sym k)))
    ∙ omega arith)
    (below_suc i w h)
  where
    swap : (a b c : ℕ) → a + b + c ≡ a + c + b
    swap a b c = omega arith

-- what nothing passes is 0
collect_none : (w : ℕ) → collect w (λ j. false) ≡ 0
unfolding collect
collect_none zero = refl
collect_none (suc w) = ap (λ (n : ℕ). n + 0) (collect_none w)

-- the set of i alone is its bit
pub only_member : (w i : ℕ) → i < w → collect w (λ j. eqb j i) ≡ 2 ^ i
only_member w i h = collect_more w (λ j. false) i h refl ∙ ap (λ (n : ℕ). n + 2 ^ i) (collect_none w) ∙ omega arith

-- where i was a member, taking it in changes nothing
stays : (b c : Bool) → (T c → b ≡ true) → (b || c) ≡ b
stays true c f = refl
stays false true f = sym (f tt)
stays false false f = refl

-- i taken away and taken in again
back : (b c : Bool) → (T c → b ≡ true) → (b && not c || c) ≡ b
back true true f = refl
back true false f = refl
back false true f = sym (f tt)
back false false f = refl

-- i taken away where it was no member
untouched : (b c : Bool) → (T c → b ≡ false) → (b && not c) ≡ b
untouched true true f = sym (f tt)
untouched true false f = refl
untouched false c f = refl

-- the bit of i, as the machine shifts it into a word
abbrev pub bit : ℕ → ℕ
bit i = 1 * 2 ^ i % 2 ^ 64

pub bit_is : (i : ℕ) → i < width → bit i ≡ 2 ^ i
bit_is i h = shl_exact 1 i 64 (omega arith) (omega arith) ∙ omega arith

module _ (s i : ℕ) (fits : s < 2 ^ width) (h : i < width) where
  all_alike : {b : Bool} → has s i ≡ b → (j : ℕ) → T (eqb j i) → has s j ≡ b
  all_alike e j t = ap (has s) ((equal_says j i).0 t) ∙ e

  pub with_old : has s i ≡ true → s ≡ with_member s i
  unfolding with_member
  with_old e =
      sym (collect_same width (λ j. has s j || eqb j i) (has s) (λ j k. stays (has s j) (eqb j i) (all_alike e j))
      ∙ collect_has width s fits)

  pub with_new : has s i ≡ false → s + bit i ≡ with_member s i
  unfolding with_member
  with_new e = sym (collect_more width (has s) i h e ∙ ap₂ ◌+◌ (collect_has width s fits) (sym (bit_is i h)))

  pub without_old : has s i ≡ true → s ≡ without_member s i + bit i
  unfolding without_member
  without_old e =
      let rest : ℕ → Bool = λ j. has s j && not (eqb j i) in
      let gone : rest i ≡ false = ap₂ (λ (b c : Bool). b && not c) e (eq-eqb i i refl) in
      sym (collect_has width s fits)
      ∙ sym (collect_same width (λ j. rest j || eqb j i) (has s) (λ j k. back (has s j) (eqb j i) (all_alike e j)))
      ∙ collect_more width rest i h gone
      ∙ ap (λ (n : ℕ). collect width rest + n) (sym (bit_is i h))

  pub without_new : has s i ≡ false → s ≡ without_member s i
  unfolding without_member
  without_new e =
      sym (collect_same width (λ j. has s j && not (eqb j i)) (has s) (λ j k. untouched (has s j) (eqb j i) (all_alike e j))
      ∙ collect_has width s fits)
