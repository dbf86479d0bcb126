-- Where a live transaction has its place.
-- Rests on the rules' Tables, and on calls' Place.
use Rattle.std.specs.Prelude.{cond, List, ℕ, Option, Some, None}
use Rattle.rules.specs.Tables.{Txn, Live, place_count, place_of, is_live}
use Rattle.calls.specs.declared.existing.Place.{Place}

-- the place of a transaction, or 32 where it is not live
abbrev pub live_place : List Live → Txn → ℕ
live_place ls x = cond (is_live ls x) (place_of ls x) place_count

-- the number that stands for a place found, or for none, in the rules
abbrev pub seat_number : Option Place → ℕ
seat_number None = place_count
seat_number (Some p) = p.num
