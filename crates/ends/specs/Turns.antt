-- A step that is taken at each object or at each place: where it may be taken, and what it leaves.
-- Rests on the rules' Layout.
use Rattle.std.specs.Prelude.{◌≡◌, List, ℕ, length}
use Rattle.std.specs.Fn.{Shared}
use denote.Ref.{MutBor}
use Rattle.rules.specs.Layout.{word_count}

-- what can be called at the lent words and at an N
abbrev pub Step : Type 0 → Type 0 → Type 1
Step F N = Shared F (MutBor (List ℕ) × (N × Unit {0})) (Unit {0} × (MutBor (List ℕ) × Unit {0}))

-- f may be called at words of the right length
abbrev pub Takes : {F N : Type 0} → Step F N → F → Type 0
Takes {F} {N} g f = (ws : MutBor (List ℕ)) (n : N) → length ws.now ≡ word_count → g.pre f (ws, (n, tt))

-- at n it leaves there the words that `leaves n` says
abbrev pub Leaves : {F N : Type 0} → Step F N → F → (N → List ℕ → List ℕ) → Type 0
Leaves {F} {N} g f leaves =
    (ws vs : MutBor (List ℕ)) (n : N) → length ws.now ≡ word_count → g.post f (ws, (n, tt)) (tt, (vs, tt))
    → vs.now ≡ leaves n ws.now
