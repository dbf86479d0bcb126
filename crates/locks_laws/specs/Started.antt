-- Start's words are what start leaves: a free place has empty sets, so its number is all that is written there.
-- Rests on the rules' Steps and Layout, on basics, words_laws, sound_laws, Left and Fields. Assumes nothing.
use Rattle.std.specs.Prelude.{◌≡◌, refl, List}
use Rattle.std.proofs.Math.Path.{ap}
use Rattle.std.proofs.Common.{◌∙◌, subst, arith}
use Rattle.std.proofs.Math.Bool.{Bool}
use Prim.Native.Nat.{ℕ, suc, ◌+◌, ◌<◌}
use Rattle.std.proofs.Math.Numerals.{add-one}
use Rattle.std.proofs.Math.Dec.{T}
use Rattle.rules.specs.Tests.{lowest}
use Rattle.rules.specs.Sets.{width, has}
use Rattle.rules.specs.Tables.{Live, Tables, txn, place_count, place, is_free, with_place}
use Rattle.rules.specs.Steps.{free_places, start}
use Rattle.rules.specs.Layout.{next_at, pack, unpack, word, sound_words}
use Rattle.basics.specs.Sets.{collect_lt, has_collect, some_member}
use Rattle.words_laws.specs.Says.{Column, number, accessed, written, prepared, depends, stable_value, stable_writer, stable_number, holder, working, saved_count, queued_count, cell, column_size}
use Rattle.words_laws.specs.Writes.{View, view, put_next, put_column, shows_next, shows_column, shows_packed}
use Rattle.sound_laws.specs.Means.{PlaceOk}
use Rattle.sound_laws.specs.Start.{lowest_free}
use Rattle.locks_laws.specs.Left.{started_words}
use Rattle.locks_laws.specs.Fields.{shown, facts, place_changed, place_kept}

module _ (ws : List ℕ) (s : T (sound_words ws)) (room : 0 < free_places (unpack ws)) where
  abbrev before : Tables
  before = unpack ws

  abbrev p : ℕ
  p = lowest place_count (has (free_places before))

  -- the set of free places is not empty, so the lowest free place is one
  pub place_free : (p < place_count) × ((place before.live p).number.num ≡ 0)
  unfolding free_places
  place_free =
      let f : ℕ → Bool = λ q. is_free (place before.live q) in
      let some = some_member width (free_places before) (collect_lt width f) (λ e. omega (arith, room)) in
      lowest_free before some.0 some.1 (subst T (has_collect width f some.0 some.1) some.2)

  abbrev new : Live
  new = record { number = before.next; accessed = 0; written = 0; prepared = 0; depends = 0 }

  abbrev counted : Tables
  counted =
      record { next = txn (suc before.next.num); log = before.log; live = before.live; objects = before.objects }

  abbrev after : Tables
  after = with_place counted p new

  abbrev shows : View
  shows = put_next (word ws next_at + 1) (put_column number p (word ws next_at) (view before))

  below : p < place_count
  below = place_free.0

  empty : PlaceOk before.next before.live p (place before.live p)
  empty = (facts ws s).place_ok p below

  columns : (c : Column) (i : ℕ) → i < column_size → shows.column c i ≡ cell after c i
  columns number i k = place_changed ws s p below new (λ l. l.number.num) i (word ws next_at) (shown ws s).next
  columns accessed i k = place_kept ws s p below new (λ l. l.accessed) i (empty.zero_free place_free.1).0
  columns written i k = place_kept ws s p below new (λ l. l.written) i (empty.zero_free place_free.1).1
  columns prepared i k = place_kept ws s p below new (λ l. l.prepared) i (empty.zero_free place_free.1).2
  columns depends i k = place_kept ws s p below new (λ l. l.depends) i (empty.zero_free place_free.1).3
  columns stable_value i k = refl
  columns stable_writer i k = refl
  columns stable_number i k = refl
  columns holder i k = refl
  columns working i k = refl
  columns saved_count i k = refl
  columns queued_count i k = refl

  pub started_right : started_words ws ≡ pack (start (unpack ws))
  unfolding start
  started_right =
      shows_packed (started_words ws) shows after
      (shows_next _ _ (shows_column ws (view before) (shown ws s) number p (word ws next_at) below)
      (word ws next_at + 1))
      (record {
        next = add-one (word ws next_at) ∙ ap suc (shown ws s).next;
        count = refl;
        log = λ i k. refl;
        column = columns;
        value = λ i j k l. refl;
        writer = λ i j k l. refl;
      })
