-- What a test that passed says: `&&`, `||`, `not` and `⇒` as pairs, choices, refutations and functions. The sets of
-- laws that end in ↔ are for `simp`, which turns a test into what it says.
-- Rests on the rules' Tests. Assumes nothing.
use Rattle.std.specs.Prelude.{◌≡◌, refl, Bool, true, false, not, cond, ◌&&◌, ◌||◌, ◌⊎◌, ◌↔◌, ℕ, ◌≤◌, ◌<◌, T, eqb, ltb, leb}
use Rattle.std.proofs.Common.{subst, sym, inl, inr, eqb→eq, leb→le, le→leb, ltb→lt, lt→ltb}
use Rattle.std.proofs.Math.Dec.{eqb_refl}
use Rattle.rules.specs.Tests.{◌⇒◌}

-- ---- what a connective says

pub and_says : (a b : Bool) → T (a && b) ↔ (T a × T b)
and_says true b = (λ t. (tt, t), λ p. p.1)
and_says false b = (λ t. absurd t, λ p. absurd p.0)

pub or_says : (a b : Bool) → T (a || b) ↔ (T a ⊎ T b)
or_says true b = (λ t. inl tt, λ s. tt)
or_says false b = (λ t. inr t, go)
  where
    go : ⊥ ⊎ T b → T b
    go (inl z) = absurd z
    go (inr t) = t

pub not_says : (a : Bool) → T (not a) ↔ (T a → ⊥)
not_says true = (λ t s. t, λ f. f tt)
not_says false = (λ t s. s, λ f. tt)

pub implies_says : (a b : Bool) → T (a ⇒ b) ↔ (T a → T b)
implies_says true b = (λ t s. t, λ f. f tt)
implies_says false b = (λ t s. absurd s, λ f. tt)

pub equal_says : (m n : ℕ) → T (eqb m n) ↔ (m ≡ n)
equal_says m n = (eqb→eq m n, λ e. subst (λ (k : ℕ). T (eqb m k)) e (eqb_refl m))

pub at_most_says : (m n : ℕ) → T (leb m n) ↔ (m ≤ n)
at_most_says m n = (leb→le m n, le→leb m n)

pub below_says : (m n : ℕ) → T (ltb m n) ↔ (m < n)
below_says m n = (ltb→lt m n, lt→ltb m n)

-- ---- deciding

-- a test passes or fails
pub passes_or_fails : (a : Bool) → T a ⊎ (T a → ⊥)
passes_or_fails true = inl tt
passes_or_fails false = inr (λ t. t)

-- a test that passes is true, and one that fails is false
pub is_true : (a : Bool) → T a → a ≡ true
is_true true t = refl
is_true false t = absurd t

pub is_false : (a : Bool) → (T a → ⊥) → a ≡ false
is_false true f = absurd (f tt)
is_false false f = refl

pub from_true : (a : Bool) → a ≡ true → T a
from_true a e = subst T (sym e) tt

-- two tests that say the same are the same
pub same_test : (a b : Bool) → (T a → T b) → (T b → T a) → a ≡ b
same_test true true f g = refl
same_test true false f g = absurd (f tt)
same_test false true f g = absurd (g tt)
same_test false false f g = refl

module _ {A : Type 0} where
  -- the two branches
  pub cond_true : (a : Bool) (x y : A) → T a → cond a x y ≡ x
  cond_true true x y t = refl
  cond_true false x y t = absurd t

  pub cond_false : (a : Bool) (x y : A) → (T a → ⊥) → cond a x y ≡ y
  cond_false true x y f = absurd (f tt)
  cond_false false x y f = refl
