-- When tables are sound: one named rule for each thing that the paper asks, in its order, and `sound` where all hold.
-- The ranges of the fields come first. A number of words and the words past a count are Layout's matter.
-- Rests on Tests, Sets and Tables.
use Rattle.std.specs.Prelude.{Bool, true, not, ◌&&◌, ◌||◌, List, [], ◌∷◌, map, ℕ, suc, ◌^◌, eqb, ltb, leb, length}
use Rattle.rules.specs.Tests.{◌⇒◌, every, all, neighbours}
use Rattle.rules.specs.Sets.{width, has, within}
use Rattle.rules.specs.Tables.{Txn, Lsn, Version, Entry, Object, Live, Tables, obj, nobody, same, object_count, place_count, chain_room, log_room, last_number, object, place, is_free, place_of, is_live, sets_of, record_at, log_number, is_logged, chain, latest}

-- the rules' names
pub data Rule : Type 0 where
  -- the ranges of "What the core holds"
  thirty_two_objects thirty_two_places log_fits chains_fit sets_fit values_fit : Rule
  -- next number 1 to 1,000,000; log transactions distinct, from 1 to next number - 1, none live; live numbers
  -- distinct, in that same range
  next_in_range logged_once logged_given_out logged_not_live live_once live_given_out : Rule
  -- written and prepared lie within accessed; dependencies are live and never oneself
  written_accessed prepared_accessed depends_on_live depends_not_on_self : Rule
  -- a holder is live, has accessed the object and not prepared it; it depends on the chain's last transaction if
  -- that is live
  holder_live holder_accessed holder_unprepared holder_depends_on_last : Rule
  -- chain transactions are distinct, each logged, or live with the object in both written and prepared; logged
  -- entries come first, are saved, and rise in log number above the stable one; a live entry depends on the entry
  -- before it if that is live
  chain_once chain_accounted logged_first logged_saved logged_rise entry_depends_on_last : Rule
  -- a stable version is all zeros, or its transaction is the one that the record of its log number names
  stable_named : Rule
  -- unused places, and the working value of a free object, are zero
  free_place_zero free_object_zero : Rule

-- ---- the words that the rules use

-- every place passes
abbrev pub each_place : Tables → (ℕ → Live → Bool) → Bool
each_place t p = every place_count (λ i. p i (place t.live i))

-- every object passes
abbrev pub each_object : Tables → (ℕ → Object → Bool) → Bool
each_object t p = every object_count (λ i. p i (object t (obj i)))

-- from 1 to next number - 1
abbrev pub given_out : Txn → Txn → Bool
given_out next x = leb 1 x.num && ltb x.num next.num

-- no two of a list are the same
unfoldable pub distinct : List Txn → Bool
distinct [] = true
distinct (x ∷ xs) = all (λ y. not (same x y)) xs && distinct xs

-- below 2^64
abbrev pub a_word : ℕ → Bool
a_word v = ltb v (2 ^ 64)

-- a set of at most 32 members
abbrev pub a_set : ℕ → Bool
a_set s = ltb s (2 ^ width)

-- someone holds the lock
abbrev pub is_held : Object → Bool
is_held b = not (same b.holder nobody)

-- x depends on y
abbrev pub depends_on : List Live → Txn → Txn → Bool
depends_on ls x y = has (sets_of ls x).depends (place_of ls y)

-- an entry of object i is logged, or live with the object in both written and prepared
abbrev pub accounted : List Live → List Txn → ℕ → Entry → Bool
accounted ls rs i e =
    is_logged rs e.writer
    || is_live ls e.writer && has (sets_of ls e.writer).written i && has (sets_of ls e.writer).prepared i

-- the later of two entries depends on the earlier if both are live
abbrev pub linked : List Live → Entry → Entry → Bool
linked ls e f = is_live ls e.writer && is_live ls f.writer ⇒ depends_on ls f.writer e.writer

-- the logged entries of a list rise in log number, above n
unfoldable pub rises : List Txn → Lsn → List Entry → Bool
rises rs n [] = true
rises rs n (e ∷ es) =
    (is_logged rs e.writer ⇒ ltb n.num (log_number rs e.writer).num) && rises rs (log_number rs e.writer) es

-- the version is all zeros
abbrev pub is_fresh : Version → Bool
is_fresh v = eqb v.value 0 && same v.writer nobody && eqb v.at.num 0

-- the version's transaction is the one that the record of its log number names
abbrev pub is_named : List Txn → Version → Bool
is_named rs v = leb 1 v.at.num && leb v.at.num (length rs) && same (record_at rs v.at) v.writer

-- ---- the rules

-- what each rule asks of the tables
unfoldable pub holds : Rule → Tables → Bool
holds thirty_two_objects t = eqb (length t.objects) object_count
holds thirty_two_places t = eqb (length t.live) place_count
holds log_fits t = leb (length t.log) log_room
holds chains_fit t = each_object t (λ i b. leb (length (chain b)) chain_room)
holds sets_fit t = each_place t (λ i l. a_set l.accessed && a_set l.written && a_set l.prepared && a_set l.depends)
holds values_fit t =
    each_object t (λ i b. a_word b.stable.value && a_word b.working && all (λ e. a_word e.value) (chain b))
holds next_in_range t = leb 1 t.next.num && leb t.next.num (suc last_number)
holds logged_once t = distinct t.log
holds logged_given_out t = all (given_out t.next) t.log
holds logged_not_live t = all (λ x. not (is_live t.live x)) t.log
holds live_once t = each_place t (λ i l. every i (λ j. not (is_free l) ⇒ not (same l.number (place t.live j).number)))
holds live_given_out t = each_place t (λ i l. not (is_free l) ⇒ given_out t.next l.number)
holds written_accessed t = each_place t (λ i l. within l.written l.accessed)
holds prepared_accessed t = each_place t (λ i l. within l.prepared l.accessed)
holds depends_on_live t =
    each_place t (λ i l. every place_count (λ j. has l.depends j ⇒ not (is_free (place t.live j))))
holds depends_not_on_self t = each_place t (λ i l. not (has l.depends i))
holds holder_live t = each_object t (λ i b. is_held b ⇒ is_live t.live b.holder)
holds holder_accessed t = each_object t (λ i b. is_held b ⇒ has (sets_of t.live b.holder).accessed i)
holds holder_unprepared t = each_object t (λ i b. is_held b ⇒ not (has (sets_of t.live b.holder).prepared i))
holds holder_depends_on_last t =
    each_object t λ i b.
    is_held b && is_live t.live (latest b).writer ⇒ depends_on t.live b.holder (latest b).writer
holds chain_once t = each_object t (λ i b. distinct (map (λ e. e.writer) (chain b)))
holds chain_accounted t = each_object t (λ i b. all (accounted t.live t.log i) (chain b))
holds logged_first t =
    each_object t (λ i b. neighbours (λ e f. is_logged t.log f.writer ⇒ is_logged t.log e.writer) (chain b))
holds logged_saved t = each_object t (λ i b. all (λ e. not (is_logged t.log e.writer)) b.queued)
holds logged_rise t = each_object t (λ i b. rises t.log b.stable.at (chain b))
holds entry_depends_on_last t = each_object t (λ i b. neighbours (linked t.live) (chain b))
holds stable_named t = each_object t (λ i b. is_fresh b.stable || is_named t.log b.stable)
holds free_place_zero t =
    each_place t (λ i l. is_free l ⇒ eqb l.accessed 0 && eqb l.written 0 && eqb l.prepared 0 && eqb l.depends 0)
holds free_object_zero t = each_object t (λ i b. not (is_held b) ⇒ eqb b.working 0)

-- the rules, in the paper's order
unfoldable pub rules : List Rule
rules =
    thirty_two_objects
    ∷ thirty_two_places
    ∷ log_fits
    ∷ chains_fit
    ∷ sets_fit
    ∷ values_fit
    ∷ next_in_range
    ∷ logged_once
    ∷ logged_given_out
    ∷ logged_not_live
    ∷ live_once
    ∷ live_given_out
    ∷ written_accessed
    ∷ prepared_accessed
    ∷ depends_on_live
    ∷ depends_not_on_self
    ∷ holder_live
    ∷ holder_accessed
    ∷ holder_unprepared
    ∷ holder_depends_on_last
    ∷ chain_once
    ∷ chain_accounted
    ∷ logged_first
    ∷ logged_saved
    ∷ logged_rise
    ∷ entry_depends_on_last
    ∷ stable_named
    ∷ free_place_zero
    ∷ free_object_zero
    ∷ []

-- every rule holds
unfoldable pub sound : Tables → Bool
sound t = all (λ r. holds r t) rules
