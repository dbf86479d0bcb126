-- `lookups::live_place` meets its contract. Nobody has the number 0, and any other number has a place where it is live.
-- Assumes nothing.
use Rattle.std.proofs.Common.{sym, ◌∙◌}
use Rattle.std.proofs.lemmas.Bool.{eqb-true, eqb-false}
use Rattle.rules.specs.Tables.{txn}
use Rattle.rules.specs.Layout.{unpack}
use Rattle.lookups.proofs.Living.{nobody_placed, somebody_placed}
use Rattle.lookups.proofs.live_place.Goals as goal

pub returns-then-nobody : goal.returns-then-nobody
returns-then-nobody c = let a = c.args in
    nobody_placed (unpack a.t.now.words.now).live (txn a.x.num)
    (eqb-true a.x.num 0 (sym c.eq-nobody.ensures ∙ c.if-nobody.true))

pub returns : goal.returns
returns c = let a = c.args in
    c.place_of.ensures
    ∙ somebody_placed (unpack a.t.now.words.now).live (txn a.x.num)
    (eqb-false a.x.num 0 (sym c.eq-nobody.ensures ∙ c.if-nobody.false))
