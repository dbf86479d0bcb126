-- What the code's numbers, calls and answers stand for among the rules' numbers, calls and answers.
-- Rests on the rules' Tables and Answers.
use Rattle.std.specs.Prelude.{◌≡◌, ℕ, T}
use Rattle.rules.specs.Tables.{txn, obj, lsn, is_live, place_of}
use Rattle.rules.specs.Tables as tables
use Rattle.rules.specs.Answers.{is_start, is_read, is_write, is_prepare, is_save, is_commit, is_abort, is_settle, is_crash, is_restart, is_status, is_look, unsound, no_such_object, never_given_out, no_longer_live, after_a_prepare, lost, wait, died, not_accessed, prepared_before, chain_full, unprepared, unsaved, dependency_live, log_full, places_full, numbers_spent, bad_frame}
use Rattle.rules.specs.Answers as rules
use Rattle.calls.specs.declared.Txn.{Txn}
use Rattle.calls.specs.declared.Lsn.{Lsn}
use Rattle.calls.specs.declared.Obj.{Obj}
use Rattle.calls.specs.declared.existing.Object.{Object}
use Rattle.calls.specs.declared.existing.Live.{Live}
use Rattle.calls.specs.declared.Kind.{Kind}
use Rattle.calls.specs.declared.Kind.TheVariants.{Start, Read, Write, Prepare, Save, Commit, Abort, Settle, Crash, Restart, Status, Look}
use Rattle.calls.specs.declared.Refusal.{Refusal}
use Rattle.calls.specs.declared.Refusal.TheVariants.{Unsound, NoSuchObject, NeverGivenOut, NoLongerLive, AfterAPrepare, Lost, Wait, Died, NotAccessed, PreparedBefore, ChainFull, Unprepared, Unsaved, DependencyLive, LogFull, PlacesFull, NumbersSpent, BadFrame}
use Rattle.calls.specs.declared.Answer.{Answer}

abbrev pub txn_of : Txn → tables.Txn
txn_of x = txn x.num

abbrev pub lsn_of : Lsn → tables.Lsn
lsn_of n = lsn n.num

abbrev pub obj_of : Obj → tables.Obj
obj_of o = obj o.num

abbrev pub object_of : Object → tables.Obj
object_of o = obj o.num

-- the transaction is live in the tables, and has that place
abbrev pub IsLive : tables.Tables → Live → Type 0
IsLive t l = T (is_live t.live (txn_of l.who)) × (l.place.num ≡ place_of t.live (txn_of l.who))

abbrev pub kind_of : Kind → rules.Kind
kind_of Start = is_start
kind_of Read = is_read
kind_of Write = is_write
kind_of Prepare = is_prepare
kind_of Save = is_save
kind_of Commit = is_commit
kind_of Abort = is_abort
kind_of Settle = is_settle
kind_of Crash = is_crash
kind_of Restart = is_restart
kind_of Status = is_status
kind_of Look = is_look

-- the call of a kind with these fields
abbrev pub call_with : Kind → Txn → Obj → ℕ → rules.Call
call_with k x o v = record { kind = kind_of k; who = txn_of x; what = obj_of o; value = v }

abbrev pub refusal_of : Refusal → rules.Refusal
refusal_of Unsound = unsound
refusal_of NoSuchObject = no_such_object
refusal_of NeverGivenOut = never_given_out
refusal_of NoLongerLive = no_longer_live
refusal_of AfterAPrepare = after_a_prepare
refusal_of Lost = lost
refusal_of Wait = wait
refusal_of Died = died
refusal_of NotAccessed = not_accessed
refusal_of PreparedBefore = prepared_before
refusal_of ChainFull = chain_full
refusal_of Unprepared = unprepared
refusal_of Unsaved = unsaved
refusal_of DependencyLive = dependency_live
refusal_of LogFull = log_full
refusal_of PlacesFull = places_full
refusal_of NumbersSpent = numbers_spent
refusal_of BadFrame = bad_frame

abbrev pub answer_of : Answer → rules.Answer
answer_of a = record { number = a.number; value = a.value }
