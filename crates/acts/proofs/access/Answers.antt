-- `acts::access` meets its contract: the word that is tested is the accessed set of the transaction, so the lock is taken
-- exactly at the first access.
-- Assumes nothing.
use Rattle.std.proofs.Common.{◌≡◌, ap, sym, ◌∙◌, Bool, cond, ◌+◌}
use Rattle.rules.specs.Sets.{has}
use Rattle.rules.specs.Tables.{Live, Tables, txn, obj, place}
use Rattle.rules.specs.Steps.{take_lock, access}
use Rattle.rules.specs.Layout.{accessed_at, word, unpack, pack}
use Rattle.words_laws.specs.Words.{words_again}
use Rattle.words_laws.specs.Unpacked.{place_read}
use Rattle.acts.proofs.access.Goals.{Start}
use Rattle.acts.proofs.access.Goals as goal

-- the tables as they were, or with the lock taken
abbrev either : Start → Bool → Tables
either c b =
    let t = unpack c.args.words.now in
    cond b t (take_lock t (txn c.args.live.who.num) (obj c.args.o.num))

-- which of them, by the word
by_test : (c : Start) → access (unpack c.args.words.now) (txn c.args.live.who.num) (obj c.args.o.num)
    ≡ either c (has (word c.args.words.now (accessed_at + c.args.live.place.num)) c.args.o.num)
unfolding access
by_test c =
    let ws = c.args.words.now in
    let p = c.args.live.place in
    ap (λ (l : Live). either c (has l.accessed c.args.o.num))
    (ap (place (unpack ws).live) (sym c.requires.2.1) ∙ place_read ws p.num p.exists)

pub returns-then-not-has : goal.returns-then-not-has
returns-then-not-has c = let start : Start = (goal.at.returns-then-not-has c).Start in
    c.lock.ensures ∙ sym (ap pack (by_test start ∙ ap (either start) (sym c.has.ensures ∙ c.if-not-has.true)))

pub returns-else-not-has : goal.returns-else-not-has
returns-else-not-has c = let start : Start = (goal.at.returns-else-not-has c).Start in
    sym (ap pack (by_test start ∙ ap (either start) (sym c.has.ensures ∙ c.if-not-has.false)) ∙ words_again c.args.words.now c.requires.0)
