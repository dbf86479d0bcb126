-- Demand 3 as statements over the definitions, without their proofs (crate history proves each under its name):
-- from fresh tables, over anything that may be asked, the log is the truth.
-- Rests on History.
use Rattle.std.specs.Prelude.{◌≡◌, Bool, true, not, ◌&&◌, List, [], ◌∷◌, ◌++◌, map, ◌⊎◌, ℕ, ◌<◌, T, length}
use Rattle.std.proofs.Math.Option.{Option, some}
use Rattle.rules.specs.Tests.{all, every, row, some_below, ◌⇒◌}
use Rattle.rules.specs.Sets.{has, within}
use Rattle.rules.specs.Tables.{Txn, Tables, lsn, obj, nobody, fresh, free_place, object_count, place_count, object, place, is_free, is_live, record_at, log_number, is_logged}
use Rattle.rules.specs.Sound.{distinct}
use Rattle.rules.specs.Steps.{chained, unlocked, restart, status, look}
use Rattle.rules.specs.Answers.{is_read, is_commit, Call, wrote_one_of, call, number_of, dependency_live}
use Rattle.rules.specs.Layout.{word_count, pack}
use Rattle.rules.specs.Frames.{in_width, read_frame}
use Rattle.rules.specs.Session.{call_words, fresh_words, line_words, answered, run_words}
use Rattle.rules.specs.Runs.{commits}
use Rattle.rules.specs.History.{Event, may_ask, tables_after, history, is_done, last_accepted, committed, or_else, replay, is_access, found}

-- a list of things that may be asked
abbrev pub Asks : List (Option Call) → Type 0
Asks cs = T (all may_ask cs)

-- the tables and the history from fresh tables on
abbrev pub grown : List (Option Call) → Tables
grown cs = tables_after fresh cs

-- the history from fresh tables on
abbrev pub told : List (Option Call) → List Event
told cs = history fresh cs

-- 1. after a restart each object holds what replaying the log gives over zero
abbrev pub ObjectsHoldReplay : Type 0
ObjectsHoldReplay =
    (cs : List (Option Call)) → Asks cs → (i : ℕ) → i < object_count
    → look (restart (grown cs)) (obj i) ≡ replay (told cs) 0 (restart (grown cs)).log (obj i)

-- 2. the log has exactly the transactions told "committed", in that order, each once; the number given is the record's
abbrev pub LogIsCommitted : Type 0
LogIsCommitted = (cs : List (Option Call)) → Asks cs → ((grown cs).log ≡ committed (told cs)) × T (distinct (grown cs).log)

-- the number that a commit gives is its record's
abbrev pub NumberIsRecord : Type 0
NumberIsRecord =
    (cs ds : List (Option Call)) (c : Call) → Asks (cs ++ some c ∷ ds)
    → T (is_done is_commit (some c) (call (grown cs) c).answer)
    → record_at (grown (cs ++ some c ∷ ds)).log (lsn (call (grown cs) c).answer.value) ≡ c.who

-- 3. whatever version a logged transaction found at an access was its own, the fresh zero, or one of a transaction
-- earlier in the log
abbrev pub FoundIsEarlier : Type 0
FoundIsEarlier =
    (cs ds : List (Option Call)) (c : Call) → Asks (cs ++ some c ∷ ds)
    → T (is_access (some c) (call (grown cs) c).answer)
    → T (is_logged (grown (cs ++ some c ∷ ds)).log c.who)
    → let y = found (grown cs) c.who c.what in
    let log = (grown (cs ++ some c ∷ ds)).log in
    (y ≡ c.who) ⊎ ((y ≡ nobody) ⊎ (T (is_logged log y) × ((log_number log y).num < (log_number log c.who).num)))

-- and what a read gives is what the version's transaction wrote last: the fresh zero where nobody did
abbrev pub ReadGivesFound : Type 0
ReadGivesFound =
    (cs : List (Option Call)) (c : Call) → Asks (cs ++ some c ∷ []) → T (is_done is_read (some c) (call (grown cs) c).answer)
    → (call (grown cs) c).answer.value ≡ or_else 0 (last_accepted (told cs) (found (grown cs) c.who c.what) c.what)

-- 4. a stop between calls loses only what is not durable: with all else dropped, a restart leaves the same
unfoldable pub only_durable : Tables → Tables
only_durable t =
    record {
      next = t.next;
      log = t.log;
      live = row place_count (λ p. free_place);
      objects = row object_count (λ i. let b = object t (obj i) in chained (unlocked b) b.saved []);
    }

-- for any tables
abbrev pub DurableIsEnough : Type 0
DurableIsEnough = (t : Tables) → restart (only_durable t) ≡ restart t

-- and the same for the words that a host has: whatever sequence of exported calls follows a fresh call, the words are
-- what the grown tables pack to, so that 1 to 3 hold of the tables that they unpack to

-- an exported call: by its fields, as a line, or a run of lines with room for the answers
pub data Exported : Type 0 where
  by_call : Call → Exported
  by_line : List ℕ → Exported
  by_run : List ℕ → List ℕ → Exported

-- the fields have their widths
abbrev pub may_export : Exported → Bool
may_export (by_call c) = in_width c
may_export (by_line l) = true
may_export (by_run text room) = true

-- the words that an exported call leaves
unfoldable pub exported : List ℕ → Exported → List ℕ
exported ws (by_call c) = (call_words ws c).words
exported ws (by_line l) = (line_words ws l).words
exported ws (by_run text room) = (run_words ws text room).words

-- the words after exported calls, one after the other
unfoldable pub words_after : List ℕ → List Exported → List ℕ
words_after ws [] = ws
words_after ws (e ∷ es) = words_after (exported ws e) es

-- what an exported call asks
unfoldable pub asks_of : Exported → List (Option Call)
asks_of (by_call c) = some c ∷ []
asks_of (by_line l) = read_frame l ∷ []
asks_of (by_run text room) = map read_frame (answered text (length room))

-- what exported calls ask, one after the other
unfoldable pub all_asks : List Exported → List (Option Call)
all_asks [] = []
all_asks (e ∷ es) = asks_of e ++ all_asks es

-- from fresh words on, whatever they held
abbrev pub WordsAreGrown : Type 0
WordsAreGrown =
    (ws : List ℕ) → length ws ≡ word_count → (es : List Exported) → T (all may_export es)
    → Asks (all_asks es) × (words_after (fresh_words ws).words es ≡ pack (grown (all_asks es)))

-- 5. progress: if there are live transactions and all are prepared, saved and none lost, the commit of one of them is
-- not refused for a live dependency
abbrev pub all_ready : Tables → Bool
all_ready t =
    every place_count λ p.
    not (is_free (place t.live p))
    ⇒ within (place t.live p).accessed (place t.live p).prepared
    && every object_count (λ i. has (place t.live p).written i ⇒ wrote_one_of (place t.live p).number (object t (obj i)).saved)

-- from fresh tables on
abbrev pub Progress : Type 0
Progress =
    (cs : List (Option Call)) → Asks cs → T (all_ready (grown cs)) → T (some_below place_count (λ p. not (is_free (place (grown cs).live p))))
    → (x : Txn) × T (is_live (grown cs).live x) × ((call (grown cs) (commits x.num)).answer.number ≡ number_of dependency_live → ⊥)

-- 6. a transaction whose commit was answered 00 is never undone: its record stays under its number
abbrev pub NeverUndone : Type 0
NeverUndone =
    (cs ds : List (Option Call)) → Asks (cs ++ ds) → (x : Txn) → T (is_logged (grown cs).log x)
    → T (is_logged (grown (cs ++ ds)).log x) × (log_number (grown (cs ++ ds)).log x ≡ log_number (grown cs).log x)
    × (status (grown (cs ++ ds)) x ≡ 2)
