-- Which objects lack an entry of their writer, in the terms of the words.
-- Rests on the rules' Sets, Tables and Layout, and on lookups' Entries.
use Rattle.std.specs.Prelude.{Bool, cond, ◌&&◌, List, ℕ, ◌+◌}
use Rattle.rules.specs.Sets.{has}
use Rattle.rules.specs.Tables.{Txn}
use Rattle.rules.specs.Layout.{written_at, saved_count_at, queued_count_at, word}
use Rattle.lookups.specs.Entries.{wrote_none}

-- how many entries of object i's chain count: the saved ones, with the queued ones or without
abbrev pub counted_in : List ℕ → Bool → ℕ → ℕ
counted_in ws queued i = word ws (saved_count_at + i) + cond queued (word ws (queued_count_at + i)) 0

-- none of them is of transaction x
abbrev pub lacks_in : List ℕ → Txn → Bool → ℕ → Bool
lacks_in ws x queued i = wrote_none ws i (counted_in ws queued i) x

-- the transaction x at place p wrote object i, and none of them is of x
abbrev pub is_lacking : List ℕ → Txn → ℕ → Bool → ℕ → Bool
is_lacking ws x p queued i = has (word ws (written_at + p)) i && lacks_in ws x queued i
