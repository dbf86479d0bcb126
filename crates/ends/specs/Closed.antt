-- A set of places that has whoever depends on one of it.
-- Rests on the rules' Sets and Tables.
use Rattle.std.specs.Prelude.{List, ℕ, ◌<◌, T}
use Rattle.rules.specs.Sets.{has}
use Rattle.rules.specs.Tables.{Live, place_count, place}

abbrev pub Closed : List Live → ℕ → Type 0
Closed ls f =
    (q r : ℕ) → q < place_count → r < place_count → T (has (place ls q).depends r) → T (has f r) → T (has f q)
