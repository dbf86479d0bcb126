-- `lookups::places_where` meets its contract. The loop's invariant: the set so far lies below the next place, and is that of
-- the places passed that pass, by any test that says what the closure answers.
-- Assumes nothing.
use Rattle.std.proofs.Common.{◌≡◌, ◌≤◌, ◌<◌, ◌^◌, Bool, ℕ}
use Rattle.rules.specs.Sets.{collect}
use Rattle.rules.specs.Tables.{place_count}
use Rattle.lookups.specs.Rounds.{AnswersAs}
use Rattle.lookups.proofs.places_where.Given as goal

abbrev pub invariant-loop-p : goal.invariant-loop-p
invariant-loop-p g l =
    (l.p ≤ place_count)
    × (l.set < 2 ^ l.p)
    × ((test : ℕ → Bool) → AnswersAs (goal.F-post g l.passes) test → l.set ≡ collect l.p test)
