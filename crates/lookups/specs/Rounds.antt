-- Which places a test finds, and who joins in a round of taking in dependents.
-- Rests on the rules' Sets and Tables, and on calls' Place.
use Rattle.std.specs.Prelude.{◌≡◌, Bool, ◌||◌, List, ℕ}
use Rattle.rules.specs.Sets.{has, meets}
use Rattle.rules.specs.Tables.{Live, place}
use Rattle.calls.specs.declared.existing.Place.{Place}

-- whatever is answered of a place, the test says of its number
abbrev pub AnswersAs : (Place → Bool → Type 0) → (ℕ → Bool) → Type 0
AnswersAs answers test = (p : Place) (b : Bool) → answers p b → b ≡ test p.num

-- place p is one of s, or its transaction depends on one of s
abbrev pub joins_in : List Live → ℕ → ℕ → Bool
joins_in ls s p = has s p || meets (place ls p).depends s
