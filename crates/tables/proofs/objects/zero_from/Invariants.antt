-- `tables::objects::zero_from` meets its contract. The loop's invariant: what is gathered is 0 exactly where the words
-- passed are. Assumes nothing.
use Rattle.std.proofs.Common.{List, ℕ, ◌≤◌, bit_or}
use Rattle.tables.specs.Bits.{Gathers}
use Rattle.tables.specs.Test.{value_in, writer_in}
use Rattle.tables.proofs.objects.zero_from.Given as goal

-- the words of entry j
abbrev pub both : List ℕ → ℕ → ℕ → ℕ
both ws o j = bit_or (value_in ws o j) (writer_in ws o j)

abbrev pub invariant-loop-j : goal.invariant-loop-j
invariant-loop-j l = (l.n ≤ l.j) × (l.j ≤ 8) × Gathers (both l.words l.o.num) l.n l.j l.all
