-- `tables::rest_sound` meets its contract. No transaction of a sound place is logged. Assumes nothing.
use Rattle.std.proofs.Common.{rules}
use Rattle.tables.specs.Placed.{unlogged_places}
use Rattle.tables.proofs.rest_sound.Goals as goal

pub objects_sound-requires : goal.objects_sound-requires
objects_sound-requires c = record { full = search rules; unlogged = unlogged_places _ (search rules) }
