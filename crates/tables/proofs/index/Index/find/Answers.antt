use Rattle.std.proofs.Common.{ℕ, ◌<◌, w64, Fits, rules}
use borrow.Author.Rules.{Fits-under}
use Rattle.tables.specs.Index.{walk_starts, walk_ends, found, not_found, falls_by_one}
use Rattle.tables.proofs.index.Index.find.Goals as goal

-- a link is below 1024, so it has room in a word
link_fits : (link : ℕ) → link < 1024 → Fits w64 link
link_fits link low = Fits-under w64 link 1024 low tt

pub loop-at-init : goal.loop-at-init
loop-at-init c = search (walk_starts, rules)

pub returns-then-words-at : goal.returns-then-words-at
returns-then-words-at c = search (found, rules)

pub loop-at-smaller : goal.loop-at-smaller
loop-at-smaller c = search (falls_by_one, rules)

pub loop-at-preserved : goal.loop-at-preserved
loop-at-preserved c = search (not_found, rules)

pub returns : goal.returns
returns c = search (walk_ends, rules)
