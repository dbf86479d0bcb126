-- What the code tests, word by word: of a record, of a place, of an object and its chain's entries. Told.antt says that
-- words which pass are the sound ones.
-- Rests on the rules' Layout, on Tells and on Index.
use Rattle.std.specs.Prelude.{◌≡◌, Bool, true, false, not, cond, List, ℕ, zero, suc, ◌+◌, ◌*◌, ◌^◌, ◌≤◌, ◌<◌, T, eqb, length, Option, Some, None}
use Rattle.std.specs.Int.Bits.{bit_and}
use Rattle.rules.specs.Tests.{lowest}
use Rattle.rules.specs.Sets.{width, has, collect}
use Rattle.rules.specs.Tables.{chain_room, log_room, place_count, object_count, last_number}
use Rattle.rules.specs.Layout.{next_at, log_count_at, number_at, accessed_at, written_at, prepared_at, depends_at, stable_value_at, stable_writer_at, stable_number_at, holder_at, working_at, saved_count_at, queued_count_at, chain_value_at, chain_writer_at, word_count, word}
use Rattle.calls.specs.declared.existing.Place.{Place}
use Rattle.tables.specs.declared.stands.Record.{Record}
use Rattle.tables.specs.Index.{key, number_among}

-- every word is 0
abbrev pub AllZero : List ℕ → Type 0
AllZero ws = (i : ℕ) → i < length ws → word ws i ≡ 0

-- ---- the log

-- how many records there are
abbrev pub count_in : List ℕ → ℕ
count_in ws = word ws log_count_at

-- the log number of x, or 0 where it is not logged
abbrev pub number_in : List ℕ → ℕ → ℕ
number_in ws x = number_among ws (count_in ws) x

-- of record i + 1: its transaction was given out, and no earlier record names it
pub record RecordTest (ws : List ℕ) (i : ℕ) : Type 0 where
  pub low : 1 ≤ key ws i
  pub high : key ws i < word ws next_at
  pub first : number_among ws i (key ws i) ≡ 0

abbrev pub RecordsTest : List ℕ → Type 0
RecordsTest ws = (i : ℕ) → i < count_in ws → RecordTest ws i

-- the words past the last record are 0
abbrev pub PastLog : List ℕ → Type 0
PastLog ws = (i : ℕ) → i < log_room → count_in ws ≤ i → key ws i ≡ 0

-- ---- the places

-- the lowest place of x, or 32 where it has none
unfoldable pub seat_in : List ℕ → ℕ → ℕ
seat_in ws x = cond (eqb x 0) place_count (lowest place_count (λ p. eqb (word ws (number_at + p)) x))

-- the set of the places that a transaction has
unfoldable pub used_in : List ℕ → ℕ
used_in ws = collect width (λ q. not (eqb (word ws (number_at + q)) 0))

-- of the sets of the transaction at a place
pub record SetsTest (accessed written prepared depends used place : ℕ) : Type 0 where
  pub fits : accessed < 2 ^ width
  pub written_accessed : bit_and written accessed ≡ written
  pub prepared_accessed : bit_and prepared accessed ≡ prepared
  pub depends_used : bit_and depends used ≡ depends
  pub not_on_self : T (has depends place) → ⊥

-- of a free place
pub record FreeTest (ws : List ℕ) (p : ℕ) : Type 0 where
  pub accessed : word ws (accessed_at + p) ≡ 0
  pub written : word ws (written_at + p) ≡ 0
  pub prepared : word ws (prepared_at + p) ≡ 0
  pub depends : word ws (depends_at + p) ≡ 0

-- of a place that a transaction has
pub record UsedTest (ws : List ℕ) (p : ℕ) : Type 0 where
  pub high : word ws (number_at + p) < word ws next_at
  pub first : seat_in ws (word ws (number_at + p)) ≡ p
  pub unlogged : number_in ws (word ws (number_at + p)) ≡ 0
  pub sets : SetsTest (word ws (accessed_at + p)) (word ws (written_at + p)) (word ws (prepared_at + p)) (word ws (depends_at + p)) (used_in ws) p

pub record PlaceTest (ws : List ℕ) (p : ℕ) : Type 0 where
  pub free : word ws (number_at + p) ≡ 0 → FreeTest ws p
  pub used : (word ws (number_at + p) ≡ 0 → ⊥) → UsedTest ws p

abbrev pub PlacesTest : List ℕ → Type 0
PlacesTest ws = (p : ℕ) → p < place_count → PlaceTest ws p

-- no transaction of a place is logged
abbrev pub Unlogged : List ℕ → Type 0
Unlogged ws = (p : ℕ) → p < place_count → (word ws (number_at + p) ≡ 0 → ⊥) → number_in ws (word ws (number_at + p)) ≡ 0

-- ---- the objects

-- how many entries object o's chain has
abbrev pub length_in : List ℕ → ℕ → ℕ
length_in ws o = word ws (saved_count_at + o) + word ws (queued_count_at + o)

-- who wrote entry j of object o's chain, and its value
abbrev pub writer_in : List ℕ → ℕ → ℕ → ℕ
writer_in ws o j = word ws (chain_writer_at + (chain_room * o + j))

abbrev pub value_in : List ℕ → ℕ → ℕ → ℕ
value_in ws o j = word ws (chain_value_at + (chain_room * o + j))

-- the log number and the place of what stands before entry j: the entry before it, or the stable version, whose writer
-- has no place
abbrev pub number_before : List ℕ → ℕ → ℕ → ℕ
number_before ws o zero = word ws (stable_number_at + o)
number_before ws o (suc j) = number_in ws (writer_in ws o j)

abbrev pub seat_before : List ℕ → ℕ → ℕ → ℕ
seat_before ws o zero = place_count
seat_before ws o (suc j) = seat_in ws (writer_in ws o j)

-- of a logged entry, by log numbers: it is saved, and above what stands before it, which is logged
pub record LoggedTest (j saved before here : ℕ) : Type 0 where
  pub is_saved : j < saved
  pub rises : before < here
  pub first : 0 < j → 0 < before

-- the transaction at a place depends on the one at the earlier place, if there is one
abbrev pub Linked : List ℕ → ℕ → ℕ → Type 0
Linked ws before here = before < place_count → T (has (word ws (depends_at + here)) before)

-- of a transaction that is not logged, by places: it is live, has the object in a set, has prepared it or not, as asked,
-- and depends on what stands before it if that is live
pub record SeatTest (ws : List ℕ) (set : ℕ) (prepared : Bool) (o before here : ℕ) : Type 0 where
  pub live : here < place_count
  pub in_set : T (has (word ws (set + here)) o)
  pub as_asked : has (word ws (prepared_at + here)) o ≡ prepared
  pub linked : Linked ws before here

-- the writer of an entry wrote and prepared the object
abbrev pub LiveTest : List ℕ → ℕ → ℕ → ℕ → Type 0
LiveTest ws = SeatTest ws written_at true

-- a holder has accessed and not prepared it
abbrev pub HeldTest : List ℕ → ℕ → ℕ → ℕ → Type 0
HeldTest ws = SeatTest ws accessed_at false

-- the writer of entry j is none of the earlier ones
abbrev pub OtherWriter : List ℕ → ℕ → ℕ → Type 0
OtherWriter ws o j = (k : ℕ) → k < j → writer_in ws o k ≡ writer_in ws o j → ⊥

-- of entry j of object o
pub record EntryTest (ws : List ℕ) (o j : ℕ) : Type 0 where
  pub other : OtherWriter ws o j
  pub logged : 0 < number_in ws (writer_in ws o j)
      → LoggedTest j (word ws (saved_count_at + o)) (number_before ws o j) (number_in ws (writer_in ws o j))
  pub live : number_in ws (writer_in ws o j) ≡ 0 → LiveTest ws o (seat_before ws o j) (seat_in ws (writer_in ws o j))

abbrev pub EntriesTest : List ℕ → ℕ → ℕ → Type 0
EntriesTest ws o n = (j : ℕ) → j < n → EntryTest ws o j

-- of the words past the chain's end
abbrev pub PastChain : List ℕ → ℕ → ℕ → Type 0
PastChain ws o n = (j : ℕ) → j < chain_room → n ≤ j → (value_in ws o j ≡ 0) × (writer_in ws o j ≡ 0)

-- of the stable version
pub record StableTest (ws : List ℕ) (o : ℕ) : Type 0 where
  pub fresh : word ws (stable_number_at + o) ≡ 0 → (word ws (stable_value_at + o) ≡ 0) × (word ws (stable_writer_at + o) ≡ 0)
  pub named : 0 < word ws (stable_number_at + o)
      → (word ws (stable_number_at + o) ≤ count_in ws) × (word ws (word ws (stable_number_at + o) + 1) ≡ word ws (stable_writer_at + o))

-- of the holder: the last entry's place comes along
pub record HolderTest (ws : List ℕ) (o last : ℕ) : Type 0 where
  pub free : word ws (holder_at + o) ≡ 0 → word ws (working_at + o) ≡ 0
  pub held : (word ws (holder_at + o) ≡ 0 → ⊥) → HeldTest ws o last (seat_in ws (word ws (holder_at + o)))

-- of the chain's entries, and of the holder
pub record ChainTest (ws : List ℕ) (o n : ℕ) : Type 0 where
  pub entries : EntriesTest ws o n
  pub holder : HolderTest ws o (seat_before ws o n)

pub record ObjectTest (ws : List ℕ) (o : ℕ) : Type 0 where
  pub fits : length_in ws o ≤ chain_room
  pub past : PastChain ws o (length_in ws o)
  pub stable : StableTest ws o
  pub chain : ChainTest ws o (length_in ws o)

abbrev pub ObjectsTest : List ℕ → Type 0
ObjectsTest ws = (o : ℕ) → o < object_count → ObjectTest ws o

-- ---- all words

-- the right count of words, and the next number and the records' count in their ranges
pub record CountsTest (ws : List ℕ) : Type 0 where
  pub right_length : length ws ≡ word_count
  pub next_low : 1 ≤ word ws next_at
  pub next_high : word ws next_at ≤ suc last_number
  pub count_fits : count_in ws ≤ log_room

-- the log, the places and the objects
pub record RestTest (ws : List ℕ) : Type 0 where
  pub records : RecordsTest ws
  pub past_log : PastLog ws
  pub places : PlacesTest ws
  pub objects : ObjectsTest ws

-- ---- what the functions ask of their arguments, and what they find

-- the record found has the log number, and none is found where that is 0
abbrev pub IsRecord : Option Record → ℕ → Type 0
IsRecord None n = n ≡ 0
IsRecord (Some r) n = r.number.num ≡ n

-- the place found is the seat, and none is found where that is 32
abbrev pub IsSeat : Option Place → ℕ → Type 0
IsSeat None s = s ≡ place_count
IsSeat (Some p) s = p.num ≡ s
