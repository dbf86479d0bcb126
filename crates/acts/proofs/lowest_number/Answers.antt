use Rattle.std.proofs.Common.{◌≡◌, refl, ap, ap₂, ◌∙◌, ℕ, add-one, arith}
use Rattle.rules.specs.Tests.{lower, least}
use Rattle.rules.specs.Tables.{place_count}
use Rattle.acts.proofs.lowest_number.Invariants.{among}
use Rattle.acts.proofs.lowest_number.Goals as goal

pub loop-p-init : goal.loop-p-init
unfolding least
loop-p-init c = (omega arith, refl)

pub loop-p-preserved : goal.loop-p-preserved
unfolding least
loop-p-preserved c = let loop = c.loop-p in (
  omega arith,
  rw (add-one loop.p) (c.lower-low.ensures ∙ ap₂ lower loop.invariant.1 c.number_among.ensures),
)

pub returns : goal.returns
returns c = let last : c.loop-p.p ≡ place_count = omega arith in
    c.loop-p.invariant.1 ∙ ap (λ (n : ℕ). least n (among c.args.t.now.words.now c.args.places)) last
