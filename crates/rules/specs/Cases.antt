-- The marked cases of "On both sides of each edge", as one table, a case for each slip, and the paper's session of ten
-- lines, with what it is to be answered so. proofs/Cases.antt shows all three by computing them.
-- Rests on all of the definitions.
use Rattle.std.specs.Prelude.{Bool, ◌&&◌, List, [], ◌∷◌, ◌++◌, ℕ, eqb}
use Prim.Native.Char.{code}
use Prim.Native.String.{String, [] as no_text, ◌∷◌ as ◌before◌}
use Rattle.rules.specs.Tables.{Tables}
use Rattle.rules.specs.Sound.{sound}
use Rattle.rules.specs.Answers.{Call, call}
use Rattle.rules.specs.Runs.{starts, reads, writes, prepares, saves, commits, aborts, crashes, restarts, status_of, looks, after}

-- ---- the table: calls from fresh tables, each with its answer's number and value

-- a line of a case: a call, and its answer's number and value
pub record Line : Type 0 where
  pub asks : Call
  pub number : ℕ
  pub value : ℕ

infix 15 ◌gives◌with◌
-- a line, as one would say it
abbrev ◌gives◌with◌ : Call → ℕ → ℕ → Line
c gives n with v = record { asks = c; number = n; value = v }

-- two started; 1 writes 7 to object 0 and prepares; 2 writes 9 unread, prepares; save gives 2
abbrev two_loads : List Line
two_loads =
    (starts gives 0x00 with 1)
    ∷ (starts gives 0x00 with 2)
    ∷ (writes 1 0 7 gives 0x00 with 0)
    ∷ (prepares 1 0 gives 0x00 with 0)
    ∷ (writes 2 0 9 gives 0x00 with 0)
    ∷ (prepares 2 0 gives 0x00 with 0)
    ∷ (saves 0 gives 0x00 with 2)
    ∷ []

-- the ten marked cases
unfoldable pub marked : List (List Line)
marked =
    -- object 31 is looked at: 00, 0; object 32: 02
    ((looks 31 gives 0x00 with 0) ∷ (looks 32 gives 0x02 with 0) ∷ [])
    -- status of 1 before any start: 03; after one start: 1; after its abort: 3
    ∷ ((status_of 1 gives 0x03 with 0)
    ∷ (starts gives 0x00 with 1)
    ∷ (status_of 1 gives 0x00 with 1)
    ∷ (aborts 1 gives 0x00 with 1)
    ∷ (status_of 1 gives 0x00 with 3)
    ∷ [])
    -- 1 writes object 0; 2 reads it: 08, holder 1; status of 2 is then 3
    ∷ ((starts gives 0x00 with 1)
    ∷ (starts gives 0x00 with 2)
    ∷ (writes 1 0 5 gives 0x00 with 0)
    ∷ (reads 2 0 gives 0x08 with 1)
    ∷ (status_of 2 gives 0x00 with 3)
    ∷ [])
    -- 2 writes object 0; 1 reads it: 07, holder 2
    ∷ ((starts gives 0x00 with 1) ∷ (starts gives 0x00 with 2) ∷ (writes 2 0 5 gives 0x00 with 0) ∷ (reads 1 0 gives 0x07 with 2) ∷ [])
    -- two loads of one object; commit of 2: 0e, 1
    ∷ (two_loads ++ (commits 2 gives 0x0e with 1) ∷ [])
    -- the same, then abort of 1 gives 2; look gives 0
    ∷ (two_loads ++ (commits 2 gives 0x0e with 1) ∷ (aborts 1 gives 0x00 with 2) ∷ (looks 0 gives 0x00 with 0) ∷ [])
    -- the same up to the save, then commit of 1, restart gives 1, look gives 7
    ∷ (two_loads ++ (commits 1 gives 0x00 with 1) ∷ (restarts gives 0x00 with 1) ∷ (looks 0 gives 0x00 with 7) ∷ [])
    -- 1 reads object 3, crash of {3}, 1 reads again: 06, 1
    ∷ ((starts gives 0x00 with 1) ∷ (reads 1 3 gives 0x00 with 0) ∷ (crashes 8 gives 0x00 with 0) ∷ (reads 1 3 gives 0x06 with 1) ∷ [])
    -- start, commit: 00, 1; commit again: 04, 2
    ∷ ((starts gives 0x00 with 1) ∷ (commits 1 gives 0x00 with 1) ∷ (commits 1 gives 0x04 with 2) ∷ [])
    -- 1 reads an object, commits at once: 0c, that object
    ∷ ((starts gives 0x00 with 1) ∷ (reads 1 3 gives 0x00 with 0) ∷ (commits 1 gives 0x0c with 3) ∷ [])
    ∷ []

-- the lines are answered as they say, one after the other, and the tables left are sound
unfoldable pub as_marked : Tables → List Line → Bool
unfolding after
as_marked t [] = sound t
as_marked t (l ∷ ls) =
    let r = call t l.asks in
    eqb r.answer.number l.number && eqb r.answer.value l.value && as_marked r.tables ls

-- ---- the slips that we have seen or fear: what the rules answer where a slip would answer otherwise

-- a case for each slip
unfoldable pub slips : List (List Line)
slips =
    -- a queued write is the latest: 2 reads what 1 wrote and did not save
    ((starts gives 0x00 with 1)
    ∷ (starts gives 0x00 with 2)
    ∷ (writes 1 0 7 gives 0x00 with 0)
    ∷ (prepares 1 0 gives 0x00 with 0)
    ∷ (reads 2 0 gives 0x00 with 7)
    ∷ [])
    -- a writer that never read depends on the latest: 2 falls with 1
    ∷ (two_loads ++ (aborts 1 gives 0x00 with 2) ∷ (status_of 2 gives 0x00 with 3) ∷ [])
    -- a crash took the lock of 1: it does not lock again
    ∷ ((starts gives 0x00 with 1)
    ∷ (writes 1 3 5 gives 0x00 with 0)
    ∷ (crashes 8 gives 0x00 with 0)
    ∷ (writes 1 3 6 gives 0x06 with 1)
    ∷ [])
    -- those that depend through others fall too: 3 on 2, 2 on 1
    ∷ (two_loads
    ++ (starts gives 0x00 with 3)
    ∷ (reads 3 0 gives 0x00 with 9)
    ∷ (aborts 1 gives 0x00 with 3)
    ∷ (status_of 3 gives 0x00 with 3)
    ∷ [])
    -- a saved but unlogged entry does not outlive a restart: the next reader finds 0
    ∷ (two_loads ++ (restarts gives 0x00 with 2) ∷ (starts gives 0x00 with 3) ∷ (reads 3 0 gives 0x00 with 0) ∷ [])
    ∷ []

-- ---- the paper's session

-- the bytes of a text
bytes : String → List ℕ
bytes no_text = []
bytes (c before s) = code c ∷ bytes s

-- ten calls, a line each
unfoldable pub ten_lines : List ℕ
unfolding bytes
ten_lines =
    bytes "0100000000000000000000000000\n"
    ++ bytes "0100000000000000000000000000\n"
    ++ bytes "0300000001050000000000000064\n"
    ++ bytes "0400000001050000000000000000\n"
    ++ bytes "0200000002050000000000000000\n"
    ++ bytes "0400000002050000000000000000\n"
    ++ bytes "0600000002000000000000000000\n"
    ++ bytes "0900000000000000000000000020\n"
    ++ bytes "0600000001000000000000000000\n"
    ++ bytes "0b00000002000000000000000000\n"

-- their ten answers
unfoldable pub ten_answers : List ℕ
unfolding bytes
ten_answers =
    bytes "000000000000000001\n"
    ++ bytes "000000000000000002\n"
    ++ bytes "000000000000000000\n"
    ++ bytes "000000000000000000\n"
    ++ bytes "000000000000000064\n"
    ++ bytes "000000000000000000\n"
    ++ bytes "0e0000000000000001\n"
    ++ bytes "000000000000000001\n"
    ++ bytes "060000000000000002\n"
    ++ bytes "000000000000000003\n"
