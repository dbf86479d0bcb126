-- `lookups::fallen` meets its contract. The loop's invariant: the set so far is what as many rounds as turns make of the bit
-- of p. A round that adds nothing ends it, since no later one adds anything either.
-- Assumes nothing.
use Rattle.std.proofs.Common.{◌≡◌, List, ℕ, ◌≤◌, eqb}
use Rattle.rules.specs.Sets.{collect}
use Rattle.rules.specs.Tables.{place_count}
use Rattle.rules.specs.Layout.{unpack}
use Rattle.rules.specs.Falls.{rounds}
use Rattle.lookups.proofs.fallen.Given as goal

-- the places after n rounds from p alone
abbrev pub after : List ℕ → ℕ → ℕ → ℕ
after ws p n = rounds n (unpack ws).live (collect place_count (λ q. eqb q p))

abbrev pub invariant-loop : goal.invariant-loop
invariant-loop l = (l.counter ≤ place_count) × (l.s ≡ after l.t.words.now l.fn.p.num l.counter)
