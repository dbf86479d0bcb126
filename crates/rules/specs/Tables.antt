-- What the core holds: objects, live transactions, the log and the next number. A number 0 names no transaction, and
-- a log number 0 no record. Transaction, log and object numbers are three types, so that none serves as another.
-- Rests on Tests and Sets.
use Rattle.std.specs.Prelude.{Bool, not, ◌&&◌, List, [], ◌++◌, ℕ, suc, ◌-◌, eqb, ltb, leb, length, get_or, set, replicate}
use Rattle.rules.specs.Tests.{lowest, last_or}

-- a transaction number
pub record Txn : Type 0 where
  pub num : ℕ

-- a log number
pub record Lsn : Type 0 where
  pub num : ℕ

-- an object number
pub record Obj : Type 0 where
  pub num : ℕ

-- the transaction number n
abbrev pub txn : ℕ → Txn
txn n = record { num = n }

-- the log number n
abbrev pub lsn : ℕ → Lsn
lsn n = record { num = n }

-- the object number n
abbrev pub obj : ℕ → Obj
obj n = record { num = n }

-- no transaction: the holder of a free object, the number of a free place
abbrev pub nobody : Txn
nobody = txn 0

-- the two transactions are one
abbrev pub same : Txn → Txn → Bool
same x y = eqb x.num y.num

-- how many objects there are
abbrev pub object_count : ℕ
object_count = 32

-- how many places there are for live transactions
abbrev pub place_count : ℕ
place_count = 32

-- how many entries a chain holds
abbrev pub chain_room : ℕ
chain_room = 8

-- how many records the log holds
abbrev pub log_room : ℕ
log_room = 512

-- the last transaction number
abbrev pub last_number : ℕ
last_number = 999_999

-- a stable version: a value, the transaction that wrote it, and its log number
pub record Version : Type 0 where
  pub value : ℕ
  pub writer : Txn
  pub at : Lsn

-- an entry of a chain: a value, and the transaction that wrote it
pub record Entry : Type 0 where
  pub value : ℕ
  pub writer : Txn

-- an object; its chain is its saved entries and then its queued ones
pub record Object : Type 0 where
  pub stable : Version
  pub holder : Txn
  pub working : ℕ
  pub saved : List Entry
  pub queued : List Entry

-- a live transaction: three sets of objects, and the set of the places of those that it depends on
pub record Live : Type 0 where
  pub number : Txn
  pub accessed : ℕ
  pub written : ℕ
  pub prepared : ℕ
  pub depends : ℕ

-- the tables: next number, log, live transactions by place, objects
pub record Tables : Type 0 where
  pub next : Txn
  pub log : List Txn
  pub live : List Live
  pub objects : List Object

-- ---- fresh tables

-- the fresh version: value, transaction and log number 0
abbrev pub fresh_version : Version
fresh_version = record { value = 0; writer = nobody; at = lsn 0 }

-- an object of fresh tables
abbrev pub fresh_object : Object
fresh_object = record { stable = fresh_version; holder = nobody; working = 0; saved = []; queued = [] }

-- a place that no transaction has
abbrev pub free_place : Live
free_place = record { number = nobody; accessed = 0; written = 0; prepared = 0; depends = 0 }

-- next number 1, all else empty or zero
unfoldable pub fresh : Tables
fresh =
    record {
      next = txn 1;
      log = [];
      live = replicate place_count free_place;
      objects = replicate object_count fresh_object;
    }

-- ---- looking into the tables

-- object o
abbrev pub object : Tables → Obj → Object
object t o = get_or t.objects o.num fresh_object

-- what place p has
abbrev pub place : List Live → ℕ → Live
place ls p = get_or ls p free_place

-- the tables with another object o
abbrev pub with_object : Tables → Obj → Object → Tables
with_object t o b = record { next = t.next; log = t.log; live = t.live; objects = set t.objects o.num b }

-- the tables with another place p
abbrev pub with_place : Tables → ℕ → Live → Tables
with_place t p l = record { next = t.next; log = t.log; live = set t.live p l; objects = t.objects }

-- nobody has the place
abbrev pub is_free : Live → Bool
is_free l = same l.number nobody

-- the place of a live transaction
unfoldable pub place_of : List Live → Txn → ℕ
place_of ls x = lowest place_count (λ p. same (place ls p).number x)

-- x is somebody and has a place
unfoldable pub is_live : List Live → Txn → Bool
is_live ls x = not (same x nobody) && ltb (place_of ls x) place_count

-- the sets of a live transaction
abbrev pub sets_of : List Live → Txn → Live
sets_of ls x = place ls (place_of ls x)

-- the transaction that record n names
abbrev pub record_at : List Txn → Lsn → Txn
record_at rs n = get_or rs (n.num - 1) nobody

-- the log number of a logged transaction; past the last record where it is not logged
unfoldable pub log_number : List Txn → Txn → Lsn
log_number rs x = lsn (suc (lowest (length rs) (λ i. same (get_or rs i nobody) x)))

-- x has a record
unfoldable pub is_logged : List Txn → Txn → Bool
is_logged rs x = leb (log_number rs x).num (length rs)

-- the saved entries, then the queued ones
abbrev pub chain : Object → List Entry
chain b = b.saved ++ b.queued

-- the stable version, as an entry
abbrev pub stable_entry : Object → Entry
stable_entry b = record { value = b.stable.value; writer = b.stable.writer }

-- the chain's last entry, queued or saved, else the stable version
unfoldable pub latest : Object → Entry
latest b = last_or (stable_entry b) (chain b)
