-- `locks::and_depends_on` meets its contract: a transaction is live where its number is not 0 and it has a place.
-- Assumes nothing.
use Rattle.std.proofs.Common.{ap, sym, ◌∙◌, arith}
use Rattle.std.proofs.lemmas.Bool.{eqb-true, eqb-false}
use Rattle.rules.specs.Sets.{with_member}
use Rattle.rules.specs.Tables.{txn}
use Rattle.rules.specs.Layout.{unpack}
use Rattle.sound_laws.specs.Live.{live_at, nobody_not_live}
use Rattle.lookups.specs.Places.{seat_number}
use Rattle.locks_laws.specs.Accessed.{depends_live, depends_gone}
use Rattle.locks.proofs.and_depends_on.Goals as goal

pub returns-then-nobody : goal.returns-then-nobody
returns-then-nobody c = let a = c.args in
    let ws = a.t.now.words.now in
    sym
    (depends_gone ws a.d a.y.num
    (nobody_not_live (unpack ws).live (txn a.y.num)
    (eqb-true a.y.num 0 (sym c.eq-nobody.ensures ∙ c.if-nobody.true))))

pub returns-in-Some : goal.returns-in-Some
returns-in-Some c = let a = c.args in
    let ws = a.t.now.words.now in
    let e = ap seat_number (sym c.in-Some.is) ∙ c.place_of.ensures in
    let named = eqb-false a.y.num 0 (sym c.eq-nobody.ensures ∙ c.if-nobody.false) in
    c.with.ensures
    ∙ ap (with_member a.d) e
    ∙ sym (depends_live ws a.d a.y.num named (omega (arith, e, c.in-Some.p.exists)))

pub returns-in-None : goal.returns-in-None
returns-in-None c = let a = c.args in
    let ws = a.t.now.words.now in
    let e = ap seat_number (sym c.in-None.is) ∙ c.place_of.ensures in
    sym
    (depends_gone ws a.d a.y.num
    (λ l. let h = (live_at (unpack ws).live (txn a.y.num) l).below in omega (arith, e)))
