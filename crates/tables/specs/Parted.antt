-- Which records are in an index of the log, and what is known of the words once all are.
-- Rests on Test and Tells. Assumes nothing.
use Rattle.std.specs.Prelude.{◌≡◌, List, ℕ}
use Rattle.tables.specs.declared.index.Index.{Index}
use Rattle.tables.specs.Test.{count_in, used_in, Unlogged}

-- of these words, the first n records are in the index
pub record Indexed (ws : List ℕ) (n : ℕ) (index : Index) : Type 0 where
  pub words_are : index.words.now ≡ ws
  pub count_is : index.count ≡ n

-- all records are in the index
abbrev pub Full : Index → Type 0
Full index = index.count ≡ count_in index.words.now

-- all records are in the index, and no transaction of a place is logged
pub record Parted (index : Index) : Type 0 where
  pub full : Full index
  pub unlogged : Unlogged index.words.now

-- all records are in the index, and the set is that of the used places
pub record AtPlace (index : Index) (used : ℕ) : Type 0 where
  pub full : Full index
  pub used_set : used ≡ used_in index.words.now
