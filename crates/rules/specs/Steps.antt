-- The steps: what each leaves in the tables, and what it gives, once nothing refuses it.
-- Rests on Tests, Sets, Tables and Falls.
use Rattle.std.specs.Prelude.{Bool, not, cond, List, [], ◌∷◌, ◌++◌, map, ℕ, suc, eqb, length}
use Rattle.rules.specs.Tests.{count, lowest, sum, row, keep, leading, after_leading, last_or}
use Rattle.rules.specs.Sets.{has, collect, with_member, without_member}
use Rattle.rules.specs.Tables.{Txn, Obj, Version, Entry, Object, Live, Tables, txn, obj, nobody, object_count, place_count, free_place, object, place, with_object, with_place, is_free, place_of, is_live, sets_of, log_number, is_logged, latest}
use Rattle.rules.specs.Falls.{fallen, how_many, falls}

-- ---- parts of an object and of a place, set anew

-- the object with another lock holder and working value
abbrev pub held_by : Object → Txn → ℕ → Object
held_by b x v = record { stable = b.stable; holder = x; working = v; saved = b.saved; queued = b.queued }

-- the object with its lock free
abbrev pub unlocked : Object → Object
unlocked b = held_by b nobody 0

-- the object with other saved and queued entries
abbrev pub chained : Object → List Entry → List Entry → Object
chained b s q = record { stable = b.stable; holder = b.holder; working = b.working; saved = s; queued = q }

-- ---- start: takes the lowest free place; gives the next number

-- the set of free places
unfoldable pub free_places : Tables → ℕ
free_places t = collect place_count (λ p. is_free (place t.live p))

-- the next number goes to the lowest free place
unfoldable pub start : Tables → Tables
start t =
    with_place
    (record { next = txn (suc t.next.num); log = t.log; live = t.live; objects = t.objects })
    (lowest place_count (has (free_places t)))
    (record { number = t.next; accessed = 0; written = 0; prepared = 0; depends = 0 })

-- ---- read and write: at first access the lock, the latest value as the working value, and a dependency on the
-- latest's transaction if it is live

-- the dependencies of l, and the place of y if y is live
abbrev pub and_depends_on : List Live → Live → Txn → ℕ
and_depends_on ls l y = cond (is_live ls y) (with_member l.depends (place_of ls y)) l.depends

-- first access: lock, working value, dependency
unfoldable pub take_lock : Tables → Txn → Obj → Tables
take_lock t x o =
    let p = place_of t.live x in
    let l = place t.live p in
    let e = latest (object t o) in
    with_place
    (with_object t o (held_by (object t o) x e.value))
    p
    (record {
      number = l.number;
      accessed = with_member l.accessed o.num;
      written = l.written;
      prepared = l.prepared;
      depends = and_depends_on t.live l e.writer;
    })

-- the lock is taken at first access alone
unfoldable pub access : Tables → Txn → Obj → Tables
access t x o = cond (has (sets_of t.live x).accessed o.num) t (take_lock t x o)

-- read leaves what the access leaves
unfoldable pub read : Tables → Txn → Obj → Tables
read t x o = access t x o

-- the working value becomes the given one; the object is written
unfoldable pub set_working : Tables → Txn → Obj → ℕ → Tables
set_working t x o v =
    let p = place_of t.live x in
    let l = place t.live p in
    with_place
    (with_object t o (held_by (object t o) (object t o).holder v))
    p
    (record {
      number = l.number;
      accessed = l.accessed;
      written = with_member l.written o.num;
      prepared = l.prepared;
      depends = l.depends;
    })

-- write: the access, then the given value
unfoldable pub write : Tables → Txn → Obj → ℕ → Tables
write t x o v = set_working (access t x o) x o v

-- ---- prepare: frees the lock; if the object was written, queues the working value

-- prepare of object o by x
unfoldable pub prepare : Tables → Txn → Obj → Tables
prepare t x o =
    let p = place_of t.live x in
    let l = place t.live p in
    let b = object t o in
    let e : Entry = record { value = b.working; writer = x } in
    with_place
    (with_object t o (chained (unlocked b) b.saved (cond (has l.written o.num) (b.queued ++ e ∷ []) b.queued)))
    p
    (record {
      number = l.number;
      accessed = l.accessed;
      written = l.written;
      prepared = with_member l.prepared o.num;
      depends = l.depends;
    })

-- ---- save: all queued entries become saved, in order; gives how many

-- save of object o
unfoldable pub save : Tables → Obj → Tables
save t o = let b = object t o in with_object t o (chained b (b.saved ++ b.queued) [])

-- ---- commit: adds the next log record, frees the place, strikes the transaction from all dependency sets

-- the transaction at place p struck from a place's dependencies
abbrev pub struck : ℕ → Live → Live
struck p l =
    record {
      number = l.number;
      accessed = l.accessed;
      written = l.written;
      prepared = l.prepared;
      depends = without_member l.depends p;
    }

-- commit of x
unfoldable pub commit : Tables → Txn → Tables
commit t x =
    let p = place_of t.live x in
    record {
      next = t.next;
      log = t.log ++ x ∷ [];
      live = row place_count (λ q. cond (eqb q p) free_place (struck p (place t.live q)));
      objects = t.objects;
    }

-- ---- abort: the transaction and all that depend on it lose their locks, chain entries and places

-- an object as those at the places f leave it: the rest of the chain closes up in order
unfoldable pub undone : List Live → ℕ → Object → Object
undone ls f b =
    chained
    (cond (falls ls f b.holder) (unlocked b) b)
    (keep (λ e. not (falls ls f e.writer)) b.saved)
    (keep (λ e. not (falls ls f e.writer)) b.queued)

-- the tables without those at the places f
unfoldable pub undo : Tables → ℕ → Tables
undo t f =
    record {
      next = t.next;
      log = t.log;
      live = row place_count (λ q. cond (has f q) free_place (place t.live q));
      objects = row object_count (λ i. undone t.live f (object t (obj i)));
    }

-- abort of x
unfoldable pub abort : Tables → Txn → Tables
abort t x = undo t (fallen t.live (place_of t.live x))

-- how many fall with the transaction
unfoldable pub fall_count : Tables → Txn → ℕ
fall_count t x = how_many (fallen t.live (place_of t.live x))

-- ---- settle: the leading logged entries leave the chain; the last of them becomes the stable version

-- a logged entry as a version
abbrev pub version_of : List Txn → Entry → Version
version_of rs e = record { value = e.value; writer = e.writer; at = log_number rs e.writer }

-- the entry's transaction is logged
abbrev pub entry_logged : List Txn → Entry → Bool
entry_logged rs e = is_logged rs e.writer

-- an object settled
unfoldable pub settled : List Txn → Object → Object
settled rs b =
    record {
      stable = last_or b.stable (map (version_of rs) (leading (entry_logged rs) b.saved));
      holder = b.holder;
      working = b.working;
      saved = after_leading (entry_logged rs) b.saved;
      queued = b.queued;
    }

-- settle of object o
unfoldable pub settle : Tables → Obj → Tables
settle t o = with_object t o (settled t.log (object t o))

-- how many leave
unfoldable pub settle_count : Tables → Obj → ℕ
settle_count t o = length (leading (entry_logged t.log) (object t o).saved)

-- ---- crash: frees the locks of a set of objects, drops their queued entries; transactions keep their sets

-- an object after a crash
abbrev pub crashed : Object → Object
crashed b = chained (unlocked b) b.saved []

-- crash of the objects of s
unfoldable pub crash : Tables → ℕ → Tables
crash t s =
    record {
      next = t.next;
      log = t.log;
      live = t.live;
      objects = row object_count (λ i. cond (has s i) (crashed (object t (obj i))) (object t (obj i)));
    }

-- how many are dropped
unfoldable pub crash_count : Tables → ℕ → ℕ
crash_count t s = sum object_count (λ i. cond (has s i) (length (object t (obj i)).queued) 0)

-- ---- restart: only durable parts remain; saved entries not logged are dropped, logged ones settled; no one is live

-- what storage has of an object, less the saved entries that are not logged
unfoldable pub durable : List Txn → Object → Object
durable rs b = chained (unlocked b) (keep (entry_logged rs) b.saved) []

-- restart
unfoldable pub restart : Tables → Tables
restart t =
    record {
      next = t.next;
      log = t.log;
      live = row place_count (λ p. free_place);
      objects = row object_count (λ i. settled t.log (durable t.log (object t (obj i))));
    }

-- how many were live
unfoldable pub live_count : Tables → ℕ
live_count t = count place_count (λ p. not (is_free (place t.live p)))

-- ---- status: 1 live, 2 committed (in the log), 3 aborted

-- status of x
unfoldable pub status : Tables → Txn → ℕ
status t x = cond (is_live t.live x) 1 (cond (is_logged t.log x) 2 3)

-- ---- look: the stable value

-- look at object o
unfoldable pub look : Tables → Obj → ℕ
look t o = (object t o).stable.value
