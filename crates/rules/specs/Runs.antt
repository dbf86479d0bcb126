-- Calls as one would say them, and what a run of them leaves, with every definition open: `unfolding after` computes.
-- That fresh tables are sound is so computed.
-- Rests on all of the definitions but Frames and Session.
use Rattle.std.specs.Prelude.{List, [], ◌∷◌, ℕ, T}
use Rattle.rules.specs.Tests.{every, some_below, count, lowest, least, sum, row, all, neighbours, keep, leading, after_leading, last_or}
use Rattle.rules.specs.Sets.{has, collect, with_member, without_member, within, meets}
use Rattle.rules.specs.Tables.{Tables, txn, obj, fresh, place_of, is_live, log_number, is_logged, latest}
use Rattle.rules.specs.Sound.{rises, distinct, holds, rules, sound}
use Rattle.rules.specs.Falls.{and_dependents, rounds, fallen, how_many, falls}
use Rattle.rules.specs.Steps.{free_places, start, take_lock, access, read, set_working, write, prepare, save, commit, undone, undo, abort, fall_count, settled, settle, settle_count, crash, crash_count, durable, restart, live_count, status, look}
use Rattle.rules.specs.Answers.{Kind, is_start, is_read, is_write, is_prepare, is_save, is_commit, is_abort, is_settle, is_crash, is_restart, is_status, is_look, kind_number, Call, number_of, order, is_lost, is_out_of_range, fact, refusal_value, refusal_leaves, done_value, done_leaves, first, outcome, refusal, call}

-- ---- the calls

-- a call, by its kind and fields
abbrev pub a_call : Kind → ℕ → ℕ → ℕ → Call
a_call k x o v = record { kind = k; who = txn x; what = obj o; value = v }

-- start
abbrev pub starts : Call
starts = a_call is_start 0 0 0

-- x reads object o
abbrev pub reads : ℕ → ℕ → Call
reads x o = a_call is_read x o 0

-- x writes v to object o
abbrev pub writes : ℕ → ℕ → ℕ → Call
writes x o v = a_call is_write x o v

-- x prepares object o
abbrev pub prepares : ℕ → ℕ → Call
prepares x o = a_call is_prepare x o 0

-- save of object o
abbrev pub saves : ℕ → Call
saves o = a_call is_save 0 o 0

-- commit of x
abbrev pub commits : ℕ → Call
commits x = a_call is_commit x 0 0

-- abort of x
abbrev pub aborts : ℕ → Call
aborts x = a_call is_abort x 0 0

-- settle of object o
abbrev pub settles : ℕ → Call
settles o = a_call is_settle 0 o 0

-- crash of the objects of a set
abbrev pub crashes : ℕ → Call
crashes s = a_call is_crash 0 0 s

-- restart
abbrev pub restarts : Call
restarts = a_call is_restart 0 0 0

-- status of x
abbrev pub status_of : ℕ → Call
status_of x = a_call is_status x 0 0

-- look at object o
abbrev pub looks : ℕ → Call
looks o = a_call is_look 0 o 0

-- ---- runs

-- the tables after calls, one after the other
unfoldable pub after : Tables → List Call → Tables
unfolding every some_below count lowest least sum row all neighbours keep leading after_leading last_or has collect with_member without_member within meets place_of is_live log_number is_logged latest rises distinct holds rules sound and_dependents rounds fallen how_many falls free_places start take_lock access read set_working write prepare save commit undone undo abort fall_count settled settle settle_count crash crash_count durable restart live_count status look kind_number number_of order is_lost is_out_of_range fact refusal_value refusal_leaves done_value done_leaves first outcome refusal call
after t [] = t
after t (c ∷ cs) = after (call t c).tables cs

-- fresh tables are sound
pub fresh_sound : T (sound fresh)
unfolding after fresh
fresh_sound = tt
