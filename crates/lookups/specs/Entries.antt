-- What the code's versions stand for among the rules' entries, and whose entries a chain has.
-- Rests on the rules' Tests, Tables and Layout, and on calls' Meaning.
use Rattle.std.specs.Prelude.{Bool, not, List, ℕ, ◌+◌, ◌*◌}
use Rattle.rules.specs.Tests.{every}
use Rattle.rules.specs.Tables.{Txn, txn, same, chain_room}
use Rattle.rules.specs.Tables as rules
use Rattle.rules.specs.Layout.{chain_writer_at, word}
use Rattle.calls.specs.Meaning.{txn_of}
use Rattle.lookups.specs.declared.Entry.{Entry}

abbrev pub entry_of : Entry → rules.Entry
entry_of e = record { value = e.value; writer = txn_of e.writer }

-- the entry whose value and transaction stand at the given places
abbrev pub entry_words : List ℕ → ℕ → ℕ → rules.Entry
entry_words ws value writer = record { value = word ws value; writer = txn (word ws writer) }

-- none of the first n entries of object o's chain is of transaction x
unfoldable pub wrote_none : List ℕ → ℕ → ℕ → Txn → Bool
wrote_none ws o n x = every n (λ j. not (same (txn (word ws (chain_writer_at + (chain_room * o + j)))) x))
