-- The run of words that the host lends, and the tables that it holds: words to tables and back, and which runs of
-- words are sound. docs/LAYOUT.md has the same places as a table.
-- Rests on Tests, Tables and Sound.
use Rattle.std.specs.Prelude.{Bool, ◌&&◌, List, [], ◌∷◌, ◌++◌, ℕ, ◌+◌, ◌*◌, ◌/◌, ◌%◌, min, eqb, leb, length, get_or}
use Rattle.rules.specs.Tests.{◌⇒◌, every, row}
use Rattle.rules.specs.Tables.{Version, Entry, Object, Live, Tables, txn, lsn, obj, nobody, object_count, place_count, chain_room, log_room, object, place, chain}
use Rattle.rules.specs.Sound.{sound}

-- ---- the places: the next number, the records' count, the log, a column of 32 words for each field, the chains

-- the next number
abbrev pub next_at : ℕ
next_at = 0

-- the count of log records
abbrev pub log_count_at : ℕ
log_count_at = 1

-- the log
abbrev pub log_at : ℕ
log_at = 2

-- the live transactions' numbers
abbrev pub number_at : ℕ
number_at = 514

-- their accessed sets
abbrev pub accessed_at : ℕ
accessed_at = 546

-- their written sets
abbrev pub written_at : ℕ
written_at = 578

-- their prepared sets
abbrev pub prepared_at : ℕ
prepared_at = 610

-- their dependencies
abbrev pub depends_at : ℕ
depends_at = 642

-- the stable values
abbrev pub stable_value_at : ℕ
stable_value_at = 674

-- the stable versions' transactions
abbrev pub stable_writer_at : ℕ
stable_writer_at = 706

-- the stable versions' log numbers
abbrev pub stable_number_at : ℕ
stable_number_at = 738

-- the lock holders
abbrev pub holder_at : ℕ
holder_at = 770

-- the working values
abbrev pub working_at : ℕ
working_at = 802

-- the counts of saved entries
abbrev pub saved_count_at : ℕ
saved_count_at = 834

-- the counts of queued entries
abbrev pub queued_count_at : ℕ
queued_count_at = 866

-- entry j of object i's chain: its value at chain_value_at + 8 * i + j, its transaction at chain_writer_at + 8 * i + j
abbrev pub chain_value_at : ℕ
chain_value_at = 898

-- the chains' transactions
abbrev pub chain_writer_at : ℕ
chain_writer_at = 1154

-- how many words there are
abbrev pub word_count : ℕ
word_count = 1410

-- the words of all chains
abbrev pub chain_words : ℕ
chain_words = 256

-- ---- tables to words

-- an entry past a chain's end
abbrev pub no_entry : Entry
no_entry = record { value = 0; writer = nobody }

-- entry k % 8 of the chain of object k / 8
abbrev pub chain_entry : Tables → ℕ → Entry
chain_entry t k = get_or (chain (object t (obj (k / chain_room)))) (k % chain_room) no_entry

-- a column: a word for each place, or for each object
abbrev pub of_places : Tables → (Live → ℕ) → List ℕ
of_places t f = row place_count (λ p. f (place t.live p))

-- a column: a word for each object
abbrev pub of_objects : Tables → (Object → ℕ) → List ℕ
of_objects t f = row object_count (λ i. f (object t (obj i)))

-- the words of tables
unfoldable pub pack : Tables → List ℕ
pack t =
    (t.next.num ∷ length t.log ∷ [])
    ++ row log_room (λ i. (get_or t.log i nobody).num)
    ++ of_places t (λ l. l.number.num)
    ++ of_places t (λ l. l.accessed)
    ++ of_places t (λ l. l.written)
    ++ of_places t (λ l. l.prepared)
    ++ of_places t (λ l. l.depends)
    ++ of_objects t (λ b. b.stable.value)
    ++ of_objects t (λ b. b.stable.writer.num)
    ++ of_objects t (λ b. b.stable.at.num)
    ++ of_objects t (λ b. b.holder.num)
    ++ of_objects t (λ b. b.working)
    ++ of_objects t (λ b. length b.saved)
    ++ of_objects t (λ b. length b.queued)
    ++ row chain_words (λ k. (chain_entry t k).value)
    ++ row chain_words (λ k. (chain_entry t k).writer.num)

-- ---- words to tables

-- the word at a place
abbrev pub word : List ℕ → ℕ → ℕ
word ws k = get_or ws k 0

-- entry j of object i's chain
abbrev pub entry_in : List ℕ → ℕ → ℕ → Entry
entry_in ws i j =
    record {
      value = word ws (chain_value_at + (chain_room * i + j));
      writer = txn (word ws (chain_writer_at + (chain_room * i + j)));
    }

-- the transaction at place p
abbrev pub live_in : List ℕ → ℕ → Live
live_in ws p =
    record {
      number = txn (word ws (number_at + p));
      accessed = word ws (accessed_at + p);
      written = word ws (written_at + p);
      prepared = word ws (prepared_at + p);
      depends = word ws (depends_at + p);
    }

-- how many saved and how many queued entries object i has, as far as a chain has room
abbrev pub saved_count_in : List ℕ → ℕ → ℕ
saved_count_in ws i = min (word ws (saved_count_at + i)) chain_room

-- how many queued entries object i has, as far as a chain has room
abbrev pub queued_count_in : List ℕ → ℕ → ℕ
queued_count_in ws i = min (word ws (queued_count_at + i)) chain_room

-- the stable version of object i
abbrev pub version_in : List ℕ → ℕ → Version
version_in ws i =
    record {
      value = word ws (stable_value_at + i);
      writer = txn (word ws (stable_writer_at + i));
      at = lsn (word ws (stable_number_at + i));
    }

-- object i
abbrev pub object_in : List ℕ → ℕ → Object
object_in ws i =
    record {
      stable = version_in ws i;
      holder = txn (word ws (holder_at + i));
      working = word ws (working_at + i);
      saved = row (saved_count_in ws i) (entry_in ws i);
      queued = row (queued_count_in ws i) (λ j. entry_in ws i (saved_count_in ws i + j));
    }

-- the tables that words hold
unfoldable pub unpack : List ℕ → Tables
unpack ws =
    record {
      next = txn (word ws next_at);
      log = row (min (word ws log_count_at) log_room) (λ i. txn (word ws (log_at + i)));
      live = row place_count (live_in ws);
      objects = row object_count (object_in ws);
    }

-- ---- which runs of words are sound

-- the counts are in their ranges: the log's records, and each chain's entries
unfoldable pub counts_fit : List ℕ → Bool
counts_fit ws =
    leb (word ws log_count_at) log_room
    && every object_count (λ i. leb (word ws (saved_count_at + i) + word ws (queued_count_at + i)) chain_room)

-- unused places of the log are zero
unfoldable pub past_log_zero : List ℕ → Bool
past_log_zero ws = every log_room (λ i. leb (word ws log_count_at) i ⇒ eqb (word ws (log_at + i)) 0)

-- unused places of object i's chain are zero
unfoldable pub past_chain_zero : List ℕ → ℕ → Bool
past_chain_zero ws i =
    every chain_room λ j.
    leb (word ws (saved_count_at + i) + word ws (queued_count_at + i)) j
    ⇒ eqb (entry_in ws i j).value 0 && eqb (entry_in ws i j).writer.num 0

-- the right count of words, counts in range, unused places zero, and sound tables
unfoldable pub sound_words : List ℕ → Bool
sound_words ws =
    eqb (length ws) word_count
    && counts_fit ws
    && past_log_zero ws
    && every object_count (past_chain_zero ws)
    && sound (unpack ws)
