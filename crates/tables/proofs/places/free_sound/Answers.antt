-- `tables::places::free_sound` meets its contract: what is gathered of the four sets is 0 exactly where each is. Assumes nothing.
use Rattle.tables.specs.Bits.{or_zero}
use Rattle.tables.specs.Tells.{tells_as, tells_equal}
use Rattle.tables.proofs.places.free_sound.Goals as goal

pub returns : goal.returns
returns c = tells_as _ (tells_equal _ _)
    (λ e.
    let all = (or_zero _ _).0 e in
    let objects = (or_zero _ _).0 all.0 in
    let taken = (or_zero _ _).0 objects.0 in
    record { accessed = taken.0; written = taken.1; prepared = objects.1; depends = all.1 })
    (λ t. (or_zero _ _).1 ((or_zero _ _).1 ((or_zero _ _).1 (t.accessed, t.written), t.prepared), t.depends))
