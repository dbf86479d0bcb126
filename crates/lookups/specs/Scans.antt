-- What a scan over a stretch of the words finds.
-- Rests on the rules' Tests and Layout.
use Rattle.std.specs.Prelude.{List, ℕ, ◌+◌, eqb}
use Rattle.rules.specs.Tests.{lowest}
use Rattle.rules.specs.Layout.{word}

-- the first of so many words from a place on that is x, counted from 0; the count where none is
unfoldable pub first_at : List ℕ → ℕ → ℕ → ℕ → ℕ
first_at ws from count x = lowest count (λ i. eqb (word ws (from + i)) x)
