-- `lookups::scan` meets its contract. What `position` gives, or the count where it gives none, is the first.
-- Assumes nothing.
use Rattle.std.proofs.Common.{rules, ◌∙◌, ◌≡◌, ◌≢◌}
use borrow.Author.Tests.{tests}
use Rattle.std.proofs.lemmas.Iterator.{IsFirst-from_position, YieldsList-from_slice}
use Rattle.lookups.proofs.Scanning.{searched}
use Rattle.lookups.proofs.scan.Goals as goal

pub returns : goal.returns
returns c = let a = c.args in
    c.unwrap_or.ensures
    ∙ searched a.words.now a.from a.count a.x c.requires c.position.result
    (IsFirst-from_position _ _ _ (λ w. w ≡ a.x) (λ w. w ≢ a.x) c.position.ensures.ran
    (YieldsList-from_slice _ c.iter.ensures.rest)
    (λ w q k. search (rules, tests))
    (λ w q k. search (rules, tests)))
