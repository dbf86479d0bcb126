-- `locks::lock` meets its contract: its writes are `locked_words`, which `locked_right` says are what the lock leaves.
-- Assumes nothing.
use Rattle.std.proofs.Common.{ap, ◌∙◌, ◌+◌}
use Rattle.rules.specs.Tables.{Entry}
use Rattle.rules.specs.Layout.{depends_at, word}
use Rattle.locks_laws.specs.Left.{depends_too}
use Rattle.locks_laws.specs.Accessed.{locked_right}
use Rattle.locks.proofs.lock.Goals as goal

pub returns : goal.returns
returns c = let a = c.args in
    let ws = a.words.now in
    let p = a.live.place.num in
    let latest = c.latest-latest.ensures in
    locked_right ws a.live.who.num p a.o.num (c.requires.0, a.o.exists, c.requires.1.0, c.requires.1.1)
    (ap (λ (v : Entry). v.value) latest)
    c.with-accessed.ensures
    (c.and_depends_on-depends.ensures
    ∙ ap (λ (v : Entry). depends_too ws (word ws (depends_at + p)) v.writer) latest)
