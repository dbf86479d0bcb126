-- The calls and their answers: for each kind the order of its refusals, for each answer number its fact, its value and
-- what it leaves, and one definition for all calls: the first refusal in the order whose fact holds, else done.
-- Rests on Tests, Sets, Tables, Sound, Falls and Steps.
use Rattle.std.specs.Prelude.{Bool, false, not, cond, ◌&&◌, ◌||◌, List, [], ◌∷◌, ℕ, suc, ◌^◌, eqb, ltb, leb, length}
use Rattle.std.proofs.Math.Option.{Option, none, some}
use Rattle.rules.specs.Tests.{every, all, some_below, lowest, least}
use Rattle.rules.specs.Sets.{width, has}
use Rattle.rules.specs.Tables.{Txn, Obj, Entry, Live, Tables, obj, nobody, same, object_count, place_count, chain_room, log_room, last_number, object, place, is_free, sets_of, is_live, chain}
use Rattle.rules.specs.Sound.{sound}
use Rattle.rules.specs.Steps.{start, read, write, prepare, save, commit, abort, fall_count, settle, settle_count, crash, crash_count, restart, live_count, status, look}

-- the twelve kinds of call
pub data Kind : Type 0 where
  is_start is_read is_write is_prepare is_save is_commit is_abort is_settle is_crash is_restart is_status is_look : Kind

-- the number of each kind
unfoldable pub kind_number : Kind → ℕ
kind_number is_start = 0x01
kind_number is_read = 0x02
kind_number is_write = 0x03
kind_number is_prepare = 0x04
kind_number is_save = 0x05
kind_number is_commit = 0x06
kind_number is_abort = 0x07
kind_number is_settle = 0x08
kind_number is_crash = 0x09
kind_number is_restart = 0x0a
kind_number is_status = 0x0b
kind_number is_look = 0x0c

-- the two kinds are one
abbrev pub same_kind : Kind → Kind → Bool
same_kind j k = eqb (kind_number j) (kind_number k)

-- a call: its kind and its fields; a field that the kind does not use is zero
pub record Call : Type 0 where
  pub kind : Kind
  pub who : Txn
  pub what : Obj
  pub value : ℕ

-- the reasons for which a call is not done
pub data Refusal : Type 0 where
  unsound no_such_object never_given_out no_longer_live after_a_prepare lost wait died not_accessed prepared_before : Refusal
  chain_full unprepared unsaved dependency_live log_full places_full numbers_spent bad_frame : Refusal

-- the number of each
unfoldable pub number_of : Refusal → ℕ
number_of unsound = 0x01
number_of no_such_object = 0x02
number_of never_given_out = 0x03
number_of no_longer_live = 0x04
number_of after_a_prepare = 0x05
number_of lost = 0x06
number_of wait = 0x07
number_of died = 0x08
number_of not_accessed = 0x09
number_of prepared_before = 0x0a
number_of chain_full = 0x0b
number_of unprepared = 0x0c
number_of unsaved = 0x0d
number_of dependency_live = 0x0e
number_of log_full = 0x0f
number_of places_full = 0x10
number_of numbers_spent = 0x11
number_of bad_frame = 0x12

-- the order in which each kind of call is refused
unfoldable pub order : Kind → List Refusal
order is_start = unsound ∷ numbers_spent ∷ places_full ∷ []
order is_read = unsound ∷ no_such_object ∷ never_given_out ∷ no_longer_live ∷ after_a_prepare ∷ lost ∷ wait ∷ died ∷ []
order is_write = unsound ∷ no_such_object ∷ never_given_out ∷ no_longer_live ∷ after_a_prepare ∷ lost ∷ wait ∷ died ∷ []
order is_prepare =
    unsound ∷ no_such_object ∷ never_given_out ∷ no_longer_live ∷ not_accessed ∷ prepared_before ∷ lost ∷ chain_full ∷ []
order is_save = unsound ∷ no_such_object ∷ []
order is_commit = unsound ∷ never_given_out ∷ no_longer_live ∷ unprepared ∷ lost ∷ unsaved ∷ dependency_live ∷ log_full ∷ []
order is_abort = unsound ∷ never_given_out ∷ no_longer_live ∷ []
order is_settle = unsound ∷ no_such_object ∷ []
order is_crash = unsound ∷ no_such_object ∷ []
order is_restart = unsound ∷ []
order is_status = unsound ∷ never_given_out ∷ []
order is_look = unsound ∷ no_such_object ∷ []

-- ---- the facts

-- the sets of the transaction named
abbrev pub asker : Tables → Call → Live
asker t c = sets_of t.live c.who

-- x wrote an entry of the list
abbrev pub wrote_one_of : Txn → List Entry → Bool
wrote_one_of x es = not (all (λ e. not (same e.writer x)) es)

-- the transaction accessed object i and has not prepared it
abbrev pub is_unprepared : Tables → Call → ℕ → Bool
is_unprepared t c i = has (asker t c).accessed i && not (has (asker t c).prepared i)

-- the transaction wrote object i, whose chain has no entry of it
abbrev pub is_missing : Tables → Call → ℕ → Bool
is_missing t c i = has (asker t c).written i && not (wrote_one_of c.who (chain (object t (obj i))))

-- the transaction wrote object i, whose saved entries have none of it
abbrev pub is_unsaved : Tables → Call → ℕ → Bool
is_unsaved t c i = has (asker t c).written i && not (wrote_one_of c.who (object t (obj i)).saved)

-- the holder of the object named
abbrev pub holder : Tables → Call → Txn
holder t c = (object t c.what).holder

-- another transaction holds the lock
abbrev pub another_holds : Tables → Call → Bool
another_holds t c = not (same (holder t c) nobody) && not (same (holder t c) c.who)

-- lost at read, write or prepare: the object is accessed, not prepared, and another or no one holds it;
-- lost at commit: a written object has no chain entry of the transaction
unfoldable pub is_lost : Tables → Call → Bool
is_lost t c =
    cond (same_kind c.kind is_commit)
    (some_below object_count (is_missing t c))
    (is_unprepared t c c.what.num && not (same (holder t c) c.who))

-- an object over 31, or a set over 32 bits
unfoldable pub is_out_of_range : Call → Bool
is_out_of_range c =
    cond (same_kind c.kind is_crash) (not (ltb c.value (2 ^ width))) (not (ltb c.what.num object_count))

-- the fact of each answer number
unfoldable pub fact : Refusal → Tables → Call → Bool
fact unsound t c = not (sound t)
fact no_such_object t c = is_out_of_range c
fact never_given_out t c = same c.who nobody || not (ltb c.who.num t.next.num)
fact no_longer_live t c = not (is_live t.live c.who)
fact after_a_prepare t c = not (eqb (asker t c).prepared 0)
fact lost t c = is_lost t c
fact wait t c = another_holds t c && ltb c.who.num (holder t c).num
fact died t c = another_holds t c && ltb (holder t c).num c.who.num
fact not_accessed t c = not (has (asker t c).accessed c.what.num)
fact prepared_before t c = has (asker t c).prepared c.what.num
fact chain_full t c =
    leb chain_room (length (chain (object t c.what))) && has (asker t c).written c.what.num
fact unprepared t c = some_below object_count (is_unprepared t c)
fact unsaved t c = some_below object_count (is_unsaved t c)
fact dependency_live t c = not (eqb (asker t c).depends 0)
fact log_full t c = leb log_room (length t.log)
fact places_full t c = every place_count (λ p. not (is_free (place t.live p)))
fact numbers_spent t c = ltb last_number t.next.num
fact bad_frame t c = false

-- the value given with each answer number
unfoldable pub refusal_value : Refusal → Tables → Call → ℕ
refusal_value unsound t c = 0
refusal_value no_such_object t c = 0
refusal_value never_given_out t c = 0
refusal_value no_longer_live t c = status t c.who
refusal_value after_a_prepare t c = 0
refusal_value lost t c = fall_count t c.who
refusal_value wait t c = (holder t c).num
refusal_value died t c = (holder t c).num
refusal_value not_accessed t c = 0
refusal_value prepared_before t c = 0
refusal_value chain_full t c = 0
refusal_value unprepared t c = lowest object_count (is_unprepared t c)
refusal_value unsaved t c = lowest object_count (is_unsaved t c)
refusal_value dependency_live t c = least place_count (λ p. cond (has (asker t c).depends p) (place t.live p).number.num 0)
refusal_value log_full t c = 0
refusal_value places_full t c = 0
refusal_value numbers_spent t c = 0
refusal_value bad_frame t c = 0

-- what each leaves in the tables: lost and died what abort leaves, every other the tables as they were
unfoldable pub refusal_leaves : Refusal → Tables → Call → Tables
refusal_leaves unsound t c = t
refusal_leaves no_such_object t c = t
refusal_leaves never_given_out t c = t
refusal_leaves no_longer_live t c = t
refusal_leaves after_a_prepare t c = t
refusal_leaves lost t c = abort t c.who
refusal_leaves wait t c = t
refusal_leaves died t c = abort t c.who
refusal_leaves not_accessed t c = t
refusal_leaves prepared_before t c = t
refusal_leaves chain_full t c = t
refusal_leaves unprepared t c = t
refusal_leaves unsaved t c = t
refusal_leaves dependency_live t c = t
refusal_leaves log_full t c = t
refusal_leaves places_full t c = t
refusal_leaves numbers_spent t c = t
refusal_leaves bad_frame t c = t

-- ---- what a call that nothing refuses gives and leaves

-- the value that each kind gives when it is done
unfoldable pub done_value : Kind → Tables → Call → ℕ
done_value is_start t c = t.next.num
done_value is_read t c = (object (read t c.who c.what) c.what).working
done_value is_write t c = 0
done_value is_prepare t c = 0
done_value is_save t c = length (object t c.what).queued
done_value is_commit t c = suc (length t.log)
done_value is_abort t c = fall_count t c.who
done_value is_settle t c = settle_count t c.what
done_value is_crash t c = crash_count t c.value
done_value is_restart t c = live_count t
done_value is_status t c = status t c.who
done_value is_look t c = look t c.what

-- what each kind leaves when it is done
unfoldable pub done_leaves : Kind → Tables → Call → Tables
done_leaves is_start t c = start t
done_leaves is_read t c = read t c.who c.what
done_leaves is_write t c = write t c.who c.what c.value
done_leaves is_prepare t c = prepare t c.who c.what
done_leaves is_save t c = save t c.what
done_leaves is_commit t c = commit t c.who
done_leaves is_abort t c = abort t c.who
done_leaves is_settle t c = settle t c.what
done_leaves is_crash t c = crash t c.value
done_leaves is_restart t c = restart t
done_leaves is_status t c = t
done_leaves is_look t c = t

-- ---- the call

-- an answer: its number and its value
pub record Answer : Type 0 where
  pub number : ℕ
  pub value : ℕ

-- an answer, with the tables as they are left
pub record Outcome : Type 0 where
  pub answer : Answer
  pub tables : Tables

-- the first of a list that passes
unfoldable pub first : List Refusal → (Refusal → Bool) → Option Refusal
first [] p = none
first (r ∷ rs) p = cond (p r) (some r) (first rs p)

-- done, or refused for a reason
unfoldable pub outcome : Option Refusal → Tables → Call → Outcome
outcome none t c =
    record { answer = record { number = 0x00; value = done_value c.kind t c }; tables = done_leaves c.kind t c }
outcome (some r) t c =
    record { answer = record { number = number_of r; value = refusal_value r t c }; tables = refusal_leaves r t c }

-- why a call is refused: the first reason of its order whose fact holds
unfoldable pub refusal : Tables → Call → Option Refusal
refusal t c = first (order c.kind) (λ r. fact r t c)

-- what a call answers and leaves
unfoldable pub call : Tables → Call → Outcome
call t c = outcome (refusal t c) t c
