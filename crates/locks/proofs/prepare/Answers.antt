-- `locks::prepare` meets its contract: its writes are `freed_words` or, for a written object, `queued_words`, and these
-- are what prepare leaves. Assumes nothing.
use Rattle.std.proofs.Common.{sym, ◌∙◌, Bool, ◌+◌, ◌<◌, T, arith, length-set}
use mathlib.Core.Bool.{false≢true}
use Rattle.rules.specs.Sets.{has}
use Rattle.rules.specs.Tables.{chain_room}
use Rattle.rules.specs.Layout.{written_at, word}
use Rattle.basics.specs.Logic.{from_true, is_true}
use Rattle.lookups.proofs.Fitting.{words_length}
use Rattle.locks_laws.specs.Left.{chain_end}
use Rattle.locks_laws.specs.Fields.{Called}
use Rattle.locks_laws.specs.Prepared.{room_left, freed_right, queued_right}
use Rattle.locks.proofs.prepare.Goals.{Start, Then-was_written}
use Rattle.locks.proofs.prepare.Goals as goal

called : (c : Start) → Called c.args.words.now c.args.live.who.num c.args.live.place.num c.args.o.num
called c = (c.requires.0, c.args.o.exists, c.requires.1.0, c.requires.1.1)

abbrev was_written : Start → Bool
was_written c = has (word c.args.words.now (written_at + c.args.live.place.num)) c.args.o.num

taken : (c : Then-was_written) → T (was_written (goal.at.Then-was_written c).Start)
taken c = from_true (was_written (goal.at.Then-was_written c).Start) (sym c.has-was_written.ensures ∙ c.if-was_written.true)

-- an object that was written has room for the entry
room : (c : Then-was_written) → chain_end c.args.words.now c.args.o.num < chain_room
room c =
    let e = (goal.at.Then-was_written c).Start in
    let a = e.args in
    room_left a.words.now a.live.who.num a.live.place.num a.o.num (called e) (taken c) e.requires.2

pub bounds-words-end-then-was_written : goal.bounds-words-end-then-was_written
bounds-words-end-then-was_written c =
    let r = room (goal.at.bounds-words-end-then-was_written c).Then-was_written in
    simp length-set (omega (arith, words_length c.args.words.now c.requires.0))

pub returns-then-was_written : goal.returns-then-was_written
returns-then-was_written c = let e = (goal.at.returns-then-was_written c).Start in
    let a = e.args in
    rw c.with-prepared.ensures
    (queued_right a.words.now a.live.who.num a.live.place.num a.o.num (called e) (taken (goal.at.returns-then-was_written c).Then-was_written) e.requires.2)

pub returns-else-was_written : goal.returns-else-was_written
returns-else-was_written c = let e = (goal.at.returns-else-was_written c).Start in
    let a = e.args in
    rw c.with-prepared.ensures
    (freed_right a.words.now a.live.who.num a.live.place.num a.o.num (called e)
    (λ t. false≢true (sym (sym c.has-was_written.ensures ∙ c.if-was_written.false) ∙ is_true (was_written e) t)))
