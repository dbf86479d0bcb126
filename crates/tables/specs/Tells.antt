-- What a test's answer tells: it is true exactly where the fact holds.
-- Rests on basics. Assumes nothing.
use Rattle.std.specs.Prelude.{◌≡◌, Bool, true, false, not, ℕ, T, eqb}
use Rattle.std.proofs.Common.{sym, subst}
use Rattle.std.specs.Bool.{beq}
use Rattle.std.proofs.lemmas.Bool.{not-true, not-false}
use Rattle.basics.specs.Logic.{equal_says, is_true, is_false, from_true}

-- the answer is true exactly where the fact holds
pub record Tells (answer : Bool) (Fact : Type 0) : Type 0 where
  pub says : T answer → Fact
  pub shows : Fact → T answer

-- a test that is negated, and that does not fail
pub passed : (answer : Bool) → not answer ≡ false → T answer
passed answer e = subst T (sym (not-false answer e)) tt

module _ {Fact : Type 0} where
  pub holds_so : Fact → Tells true Fact
  holds_so f = record { says = λ t. f; shows = λ g. tt }

  pub fails_so : (Fact → ⊥) → Tells false Fact
  fails_so f = record { says = λ t. absurd t; shows = f }

  module _ (answer : Bool) (t : Tells answer Fact) where
    pub of_true : answer ≡ true → Fact
    of_true e = t.says (subst T (sym e) tt)

    pub of_false : answer ≡ false → Fact → ⊥
    of_false e f = subst T e (t.shows f)

    -- the same for a test that is negated
    pub of_not_false : not answer ≡ false → Fact
    of_not_false e = t.says (passed answer e)

    pub of_not_true : not answer ≡ true → Fact → ⊥
    of_not_true e = of_false (not-true answer e)

    -- one answer to two facts that follow from each other
    pub tells_as : {Other : Type 0} → (Fact → Other) → (Other → Fact) → Tells answer Other
    tells_as f g = record { says = λ a. f (t.says a); shows = λ o. t.shows (g o) }

pub tells_equal : (m n : ℕ) → Tells (eqb m n) (m ≡ n)
tells_equal m n = record { says = (equal_says m n).0; shows = (equal_says m n).1 }

-- whether a test comes out as asked
pub tells_asked : (answer asked test : Bool) → Tells answer (T test) → Tells (beq answer asked) (test ≡ asked)
tells_asked true true test t = record { says = λ u. is_true test (t.says tt); shows = λ e. tt }
tells_asked true false test t = fails_so λ e. subst T e (t.says tt)
tells_asked false true test t = fails_so λ e. t.shows (from_true test e)
tells_asked false false test t = record { says = λ u. is_false test t.shows; shows = λ e. tt }
