-- `acts::lowest_number` meets its contract. The loop's invariant: the number so far is the lowest at the places passed.
-- Assumes nothing.
use Rattle.std.proofs.Common.{◌≡◌, cond, List, ℕ, ◌≤◌}
use Rattle.rules.specs.Tests.{least}
use Rattle.rules.specs.Sets.{has}
use Rattle.rules.specs.Tables.{place_count, place}
use Rattle.rules.specs.Layout.{unpack}
use Rattle.acts.proofs.lowest_number.Given as goal

abbrev pub among : List ℕ → ℕ → ℕ → ℕ
among ws places p = cond (has places p) (place (unpack ws).live p).number.num 0

abbrev pub invariant-loop-p : goal.invariant-loop-p
invariant-loop-p l = (l.p ≤ place_count) × (l.low.num ≡ least l.p (among l.t.words.now l.places))
