-- `locks::start` meets its contract: its writes are `started_words`, which `started_right` says are what start leaves.
-- Assumes nothing.
use Rattle.std.proofs.Common.{◌≡◌, ap, ◌∙◌, ℕ, arith}
use Rattle.rules.specs.Tests.{lowest}
use Rattle.rules.specs.Sets.{width, has}
use Rattle.rules.specs.Steps.{free_places}
use Rattle.rules.specs.Layout.{unpack}
use Rattle.locks_laws.specs.Started.{started_right}
use Rattle.locks_laws.specs.Bounds.{StartBounds, start_bounds}
use Rattle.locks.proofs.start.Goals.{After-lowest-p, Start}
use Rattle.locks.proofs.start.Goals as goal

bounds : (c : Start) → StartBounds c.args.words.now (lowest width (has (free_places (unpack c.args.words.now))))
bounds c = start_bounds c.args.words.now c.requires.0 c.requires.1 c.requires.2

lowest_free : (c : After-lowest-p) → c.lowest-p.result ≡ lowest width (has (free_places (unpack c.args.words.now)))
lowest_free c = c.lowest-p.ensures ∙ ap (λ (s : ℕ). lowest width (has s)) c.free_places.ensures

pub bounds-words-p : goal.bounds-words-p
bounds-words-p c = omega (arith, bounds (goal.at.bounds-words-p c).Start, lowest_free (goal.at.bounds-words-p c).After-lowest-p)

pub overflow_add-words-2 : goal.overflow_add-words-2
overflow_add-words-2 c = omega (arith, bounds (goal.at.overflow_add-words-2 c).Start)

pub returns : goal.returns
returns c =
    rw (lowest_free (goal.at.returns c).After-lowest-p) (started_right c.args.words.now c.requires.0 c.requires.2)
