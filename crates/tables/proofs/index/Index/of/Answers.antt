-- `tables::index::Index::of` meets its contract. Assumes nothing.
use Rattle.tables.specs.Index.{of_no_records}
use Rattle.tables.proofs.index.Index.of.Goals as goal

pub invariant_of-result : goal.invariant_of-result
invariant_of-result c = record { indexed = of_no_records _ c.requires }
