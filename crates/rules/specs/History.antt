-- Histories: what was asked from fresh tables on, in order, with the answers; and what a history says was written,
-- committed and found. Plain data: a reader can follow each definition with a call file in hand.
-- Rests on Tables, Answers, Frames and Session.
use Rattle.std.specs.Prelude.{Bool, true, false, cond, ◌&&◌, ◌||◌, List, [], ◌∷◌, ℕ, eqb}
use Rattle.std.proofs.Math.Option.{Option, none, some}
use Rattle.rules.specs.Sets.{has}
use Rattle.rules.specs.Tables.{Txn, Obj, Tables, same, object, sets_of, latest}
use Rattle.rules.specs.Answers.{Kind, is_read, is_write, is_commit, same_kind, Call, Answer}
use Rattle.rules.specs.Frames.{in_width}
use Rattle.rules.specs.Session.{asked}

-- what may be asked: a call whose fields have their widths, or a bad frame
abbrev pub may_ask : Option Call → Bool
may_ask none = true
may_ask (some c) = in_width c

-- the tables after all that was asked, one after the other
unfoldable pub tables_after : Tables → List (Option Call) → Tables
tables_after t [] = t
tables_after t (a ∷ cs) = tables_after (asked t a).tables cs

-- what was asked, with its answer
pub record Event : Type 0 where
  pub asks : Option Call
  pub answer : Answer

-- what was asked, one after the other, with the answers
unfoldable pub history : Tables → List (Option Call) → List Event
history t [] = []
history t (a ∷ cs) = record { asks = a; answer = (asked t a).answer } ∷ history (asked t a).tables cs

-- ---- what a history says

-- a call of the kind was made and done
unfoldable pub is_done : Kind → Option Call → Answer → Bool
is_done k none a = false
is_done k (some c) a = same_kind c.kind k && eqb a.number 0x00

-- the transaction of a call
abbrev pub who_asks : Option Call → Txn
who_asks none = record { num = 0 }
who_asks (some c) = c.who

-- the two objects are one
abbrev pub same_object : Obj → Obj → Bool
same_object o p = eqb o.num p.num

-- the call is x's, and of object o
unfoldable pub is_of : Txn → Obj → Option Call → Bool
is_of x o none = false
is_of x o (some c) = same c.who x && same_object c.what o

-- the value of a call
abbrev pub value_of : Option Call → ℕ
value_of none = 0
value_of (some c) = c.value

-- x's last accepted value for object o, where there is one; `so_far` is the one before these events
unfoldable pub last_value : Option ℕ → List Event → Txn → Obj → Option ℕ
last_value so_far [] x o = so_far
last_value so_far (e ∷ es) x o =
    last_value (cond (is_done is_write e.asks e.answer && is_of x o e.asks) (some (value_of e.asks)) so_far) es x o

-- x's last accepted value for object o, where there is one
abbrev pub last_accepted : List Event → Txn → Obj → Option ℕ
last_accepted = last_value none

-- the transactions whose commit was answered 00, in the order of those answers
unfoldable pub committed : List Event → List Txn
committed [] = []
committed (e ∷ es) = cond (is_done is_commit e.asks e.answer) (who_asks e.asks ∷ committed es) (committed es)

-- a value, or another where there is one
abbrev pub or_else : ℕ → Option ℕ → ℕ
or_else v none = v
or_else v (some w) = w

-- what object o holds when each transaction of a list in turn writes its last accepted value over v
unfoldable pub replay : List Event → ℕ → List Txn → Obj → ℕ
replay h v [] o = v
replay h v (x ∷ xs) o = replay h (or_else v (last_accepted h x o)) xs o

-- ---- the version that a transaction reads or overwrites

-- the call reads or writes
abbrev pub is_access : Option Call → Answer → Bool
is_access a r = is_done is_read a r || is_done is_write a r

-- whose version transaction x finds at object o in tables t: its own once it wrote the object, else the latest's
unfoldable pub found : Tables → Txn → Obj → Txn
found t x o = cond (has (sets_of t.live x).written o.num) x (latest (object t o)).writer
