-- `tables::index::Index::insert` meets its contract. The two stores are those of one record more (`of_one_more`). Assumes
-- nothing.
use Rattle.std.proofs.Common.{◌∙◌, ap}
use Rattle.tables.specs.Index.{bucket_of, of_one_more}
use Rattle.tables.proofs.index.Index.insert.Goals as goal

pub invariant_of-self : goal.invariant_of-self
invariant_of-self c = record { indexed = of_one_more _ _ _ _ c.args.self.now.indexed _ (c.bucket-b.ensures ∙ ap bucket_of c.requires.1) c.requires.0 }
