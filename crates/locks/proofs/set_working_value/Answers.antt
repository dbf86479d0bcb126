-- `locks::set_working_value` meets its contract: its writes are `working_words`, which `worked_right` says are what
-- the rules' step leaves. Assumes nothing.
use Rattle.locks_laws.specs.Accessed.{worked_right}
use Rattle.locks.proofs.set_working_value.Goals as goal

pub returns : goal.returns
returns c = let a = c.args in
    rw c.with-written.ensures
    (worked_right a.words.now a.live.who.num a.live.place.num a.o.num (c.requires.0, a.o.exists, c.requires.1.0, c.requires.1.1) a.v)
