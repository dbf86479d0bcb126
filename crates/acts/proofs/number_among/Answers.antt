-- `acts::number_among` meets its contract: the word that is read is the number at the place.
-- Assumes nothing.
use Rattle.std.proofs.Common.{ap, sym, ◌∙◌, Bool, cond, ℕ}
use Rattle.rules.specs.Tables.{Live, place}
use Rattle.rules.specs.Layout.{unpack}
use Rattle.words_laws.specs.Unpacked.{place_read}
use Rattle.acts.proofs.number_among.Goals as goal

pub returns-then-has : goal.returns-then-has
returns-then-has c = let ws = c.args.t.now.words.now in
    let p = c.args.p in
    let n : ℕ = (place (unpack ws).live p.num).number.num in
    sym (ap (λ (l : Live). l.number.num) (place_read ws p.num p.exists))
    ∙ sym (ap (λ (b : Bool). cond b n 0) (sym c.has.ensures ∙ c.if-has.true))
