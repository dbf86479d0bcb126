-- `lookups::joins` meets its contract. The word that is read is the place's dependencies.
-- Assumes nothing.
use Rattle.std.proofs.Common.{ap, sym, ◌∙◌, Bool, ◌||◌, List, ℕ}
use Rattle.rules.specs.Sets.{meets}
use Rattle.rules.specs.Tables.{Live, place}
use Rattle.rules.specs.Layout.{unpack}
use Rattle.words_laws.specs.Unpacked.{place_read}
use Rattle.lookups.proofs.joins.Goals as goal

pub returns-else-has : goal.returns-else-has
returns-else-has c = let a = c.args in
    let ws : List ℕ = a.t.now.words.now in
    let t : Bool = meets (place (unpack ws).live a.p.num).depends a.s in
    c.meets.ensures
    ∙ ap (λ (l : Live). meets l.depends a.s) (sym (place_read ws a.p.num a.p.exists))
    ∙ sym (ap (λ (b : Bool). b || t) (sym c.has.ensures ∙ c.if-has.false))
