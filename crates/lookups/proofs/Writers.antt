-- Whose entries a chain has, entry by entry.
-- Rests on the rules' Tests, Tables and Layout, on basics and on Entries. Assumes nothing.
use mathlib.Core.Path.{◌≡◌}
use mathlib.Core.Bool.{Bool, not}
use mathlib.Core.List.{List}
use Prim.Native.Nat.{ℕ, ◌+◌, ◌*◌, ◌<◌}
use lib.Dec.{T, eqb}
use Rattle.std.proofs.Common.{◌↔◌}
use Rattle.rules.specs.Tables.{txn, chain_room}
use Rattle.rules.specs.Layout.{chain_writer_at, word}
use Rattle.basics.specs.Logic.{not_says, equal_says}
use Rattle.basics.specs.Ranges.{every_at, every_of}
use Rattle.lookups.specs.Entries.{wrote_none}

-- the transaction of entry j of object o's chain
abbrev pub writer : List ℕ → ℕ → ℕ → ℕ
writer ws o j = word ws (chain_writer_at + (chain_room * o + j))

-- the test by words is that no entry is of x
pub wrote_none_says : (ws : List ℕ) (o n x : ℕ) → T (wrote_none ws o n (txn x)) ↔ ((j : ℕ) → j < n → writer ws o j ≡ x → ⊥)
unfolding wrote_none
wrote_none_says ws o n x =
    let other : ℕ → Bool = λ j. not (eqb (writer ws o j) x) in (
      λ t j h e. (not_says (eqb (writer ws o j) x)).0 (every_at n other t j h) ((equal_says (writer ws o j) x).1 e),
      λ f. every_of n other (λ j h. (not_says (eqb (writer ws o j) x)).1 (λ t. f j h ((equal_says (writer ws o j) x).0 t))),
    )
