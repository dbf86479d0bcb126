-- The words that each step of a running transaction leaves, by the words at entry: its writes, in their order.
-- x is the transaction's number, p its place, o the object.
-- Rests on the rules' Steps and Layout. Assumes nothing.
use Rattle.std.specs.Prelude.{cond, List, ℕ, ◌+◌, ◌*◌, set}
use Rattle.rules.specs.Tests.{lowest}
use Rattle.rules.specs.Sets.{has, with_member}
use Rattle.rules.specs.Tables.{Txn, Entry, obj, place_count, chain_room, object, place_of, is_live, latest}
use Rattle.rules.specs.Steps.{free_places}
use Rattle.rules.specs.Layout.{next_at, number_at, accessed_at, written_at, prepared_at, depends_at, holder_at, working_at, saved_count_at, queued_count_at, chain_value_at, chain_writer_at, word, unpack}

-- start: the next number at the lowest free place, whose sets are 0 already
abbrev pub started_words : List ℕ → List ℕ
started_words ws =
    set
    (set ws (number_at + lowest place_count (has (free_places (unpack ws)))) (word ws next_at))
    next_at
    (word ws next_at + 1)

-- the dependencies d, and the place of y if y is live
abbrev pub depends_too : List ℕ → ℕ → Txn → ℕ
depends_too ws d y = cond (is_live (unpack ws).live y) (with_member d (place_of (unpack ws).live y)) d

-- the latest version of object o
abbrev pub latest_in : List ℕ → ℕ → Entry
latest_in ws o = latest (object (unpack ws) (obj o))

-- the lock's writes, with the working value v, the accessed set a and the dependencies d
abbrev pub lock_writes : List ℕ → ℕ → ℕ → ℕ → ℕ → ℕ → ℕ → List ℕ
lock_writes ws x p o v a d =
    set (set (set (set ws (holder_at + o) x) (working_at + o) v) (accessed_at + p) a) (depends_at + p) d

abbrev pub locked_words : List ℕ → ℕ → ℕ → ℕ → List ℕ
locked_words ws x p o =
    lock_writes ws x p o
    (latest_in ws o).value
    (with_member (word ws (accessed_at + p)) o)
    (depends_too ws (word ws (depends_at + p)) (latest_in ws o).writer)

-- the working value v, and the object written
abbrev pub working_words : List ℕ → ℕ → ℕ → ℕ → List ℕ
working_words ws p o v =
    set (set ws (working_at + o) v) (written_at + p) (with_member (word ws (written_at + p)) o)

-- prepare, for an object that was not written: the lock is free
abbrev pub freed_words : List ℕ → ℕ → ℕ → List ℕ
freed_words ws p o =
    set
    (set (set ws (holder_at + o) 0) (working_at + o) 0)
    (prepared_at + p)
    (with_member (word ws (prepared_at + p)) o)

-- how many entries the chain of object o has
abbrev pub chain_end : List ℕ → ℕ → ℕ
chain_end ws o = word ws (saved_count_at + o) + word ws (queued_count_at + o)

-- and for one that was written: the working value is queued
abbrev pub queued_words : List ℕ → ℕ → ℕ → ℕ → List ℕ
queued_words ws x p o =
    set
    (set
    (set
    (freed_words ws p o)
    (chain_value_at + (chain_room * o + chain_end ws o))
    (word ws (working_at + o)))
    (chain_writer_at + (chain_room * o + chain_end ws o))
    x)
    (queued_count_at + o)
    (word ws (queued_count_at + o) + 1)

abbrev pub saved_words : List ℕ → ℕ → List ℕ
saved_words ws o = set (set ws (saved_count_at + o) (chain_end ws o)) (queued_count_at + o) 0
