-- Rounds of taking in dependents: sets all along, and over once one adds nothing.
-- Rests on the rules' Falls, on basics. Assumes nothing.
use mathlib.Core.Path.{◌≡◌, ap, sym, ◌∙◌}
use mathlib.Core.List.{List}
use Prim.Native.Nat.{ℕ, zero, suc, ◌+◌, ◌-◌, ◌^◌, ◌≤◌, ◌<◌}
use native.Mathlib.Nat.{zero-add, suc-add}
use native.Mathlib.Omega.{arith}
use Rattle.rules.specs.Sets.{width}
use Rattle.rules.specs.Tables.{Live, place_count}
use Rattle.rules.specs.Falls.{and_dependents, rounds}
use Rattle.basics.specs.Sets.{collect_lt}
use Rattle.lookups.specs.Rounds.{joins_in}

module _ (ls : List Live) (s : ℕ) where
  -- a set stays a set
  pub rounds_fit : s < 2 ^ width → (n : ℕ) → rounds n ls s < 2 ^ width
  unfolding rounds and_dependents
  rounds_fit h zero = h
  rounds_fit h (suc n) = collect_lt place_count (joins_in ls (rounds n ls s))

  more_rounds : (n : ℕ) → and_dependents ls (rounds n ls s) ≡ rounds n ls s → (k : ℕ) → rounds (k + n) ls s ≡ rounds n ls s
  unfolding rounds
  more_rounds n e zero = ap (λ (m : ℕ). rounds m ls s) (zero-add n)
  more_rounds n e (suc k) =
      ap (λ (m : ℕ). rounds m ls s) (suc-add k n) ∙ ap (and_dependents ls) (more_rounds n e k) ∙ e

  -- once a round adds nothing, no later one does
  pub settled_rounds : (n m : ℕ) → n ≤ m → and_dependents ls (rounds n ls s) ≡ rounds n ls s → rounds n ls s ≡ rounds m ls s
  settled_rounds n m h e =
      sym (more_rounds n e (m - n)) ∙ ap (λ (k : ℕ). rounds k ls s) (omega arith)
