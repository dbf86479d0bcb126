-- `acts::write` meets its contract: after the access the words are sound, and the transaction is live at the same place.
-- Assumes nothing.
use Rattle.std.proofs.Common.{ap, sym, subst, ◌∙◌, List, ℕ, T}
use Rattle.rules.specs.Tables.{Tables, txn, obj}
use Rattle.rules.specs.Steps.{set_working, write}
use Rattle.rules.specs.Layout.{sound_words, unpack, pack}
use Rattle.calls.specs.Meaning.{IsLive}
use Rattle.acts.proofs.Accessed.{tables_after, words_after, live_after, there_after}
use Rattle.acts.proofs.write.Goals as goal

pub set_working_value-requires : goal.set_working_value-requires
set_working_value-requires c = let ws = c.args.words.now in
    let live = c.args.live in
    let x = txn live.who.num in
    let o : ℕ = c.args.o.num in
    let s = c.requires.0 in
    let may = c.requires.1 in
    subst (λ (vs : List ℕ). T (sound_words vs) × IsLive (unpack vs) live) (sym c.access.ensures)
    (words_after ws s x o may, (live_after ws s x o may, there_after ws s x o may live.place.num c.requires.2.1))

pub returns : goal.returns
unfolding write
returns c = let ws = c.args.words.now in
    let x = txn c.args.live.who.num in
    let o : ℕ = c.args.o.num in
    c.set_working_value.ensures
    ∙ ap (λ (vs : List ℕ). pack (set_working (unpack vs) x (obj o) c.args.v)) c.access.ensures
    ∙ ap (λ (t : Tables). pack (set_working t x (obj o) c.args.v)) (tables_after ws c.requires.0 x o c.requires.1)
