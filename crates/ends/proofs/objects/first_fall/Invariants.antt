-- `ends::objects::first_fall` meets its contract. The loop's invariant: none of the entries passed falls.
-- Assumes nothing.
use Rattle.std.proofs.Common.{ℕ, ◌≤◌, ◌<◌, T}
use Rattle.rules.specs.Tables.{chain_room}
use Rattle.rules.specs.Layout.{word}
use Rattle.ends_laws.specs.Entries.{writer_place}
use Rattle.ends_laws.specs.Scans.{falls_in}
use Rattle.ends.proofs.objects.first_fall.Given as goal

abbrev pub invariant-loop-j : goal.invariant-loop-j
invariant-loop-j l = (l.j ≤ chain_room) × ((k : ℕ) → k < l.j → T (falls_in l.words l.f (word l.words (writer_place l.o.num k))) → ⊥)
