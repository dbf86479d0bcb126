-- Save's words are what save leaves.
-- Rests on the rules' Steps and Layout, on words_laws, Left and Fields. Assumes nothing.
use Rattle.std.specs.Prelude.{◌≡◌, refl, List, [], ℕ, ◌<◌, T, length, get_or}
use Rattle.std.proofs.Common.{ap, sym, append-nil}
use Rattle.rules.specs.Tables.{Entry, Object, Tables, obj, object_count, object, chain, with_object}
use Rattle.rules.specs.Steps.{chained, save}
use Rattle.rules.specs.Layout.{no_entry, pack, unpack, sound_words}
use Rattle.words_laws.specs.Says.{Column, number, accessed, written, prepared, depends, stable_value, stable_writer, stable_number, holder, working, saved_count, queued_count, cell, column_size}
use Rattle.words_laws.specs.Writes.{View, view, put_column, shows_column, shows_packed}
use Rattle.locks_laws.specs.Left.{chain_end, saved_words}
use Rattle.locks_laws.specs.Fields.{shown, chain_ends, object_changed, object_kept}

module _ (ws : List ℕ) (s : T (sound_words ws)) (o : ℕ) (h : o < object_count) where
  abbrev before : Tables
  before = unpack ws

  abbrev old : Object
  old = object before (obj o)

  abbrev new : Object
  new = chained old (chain old) []

  abbrev after : Tables
  after = with_object before (obj o) new

  abbrev shows : View
  shows = put_column queued_count o 0 (put_column saved_count o (chain_end ws o) (view before))

  columns : (c : Column) (i : ℕ) → i < column_size → shows.column c i ≡ cell after c i
  columns number i k = refl
  columns accessed i k = refl
  columns written i k = refl
  columns prepared i k = refl
  columns depends i k = refl
  columns stable_value i k = object_kept ws s o h new (λ b. b.stable.value) i refl
  columns stable_writer i k = object_kept ws s o h new (λ b. b.stable.writer.num) i refl
  columns stable_number i k = object_kept ws s o h new (λ b. b.stable.at.num) i refl
  columns holder i k = object_kept ws s o h new (λ b. b.holder.num) i refl
  columns working i k = object_kept ws s o h new (λ b. b.working) i refl
  columns saved_count i k =
      object_changed ws s o h new (λ b. length b.saved) i (chain_end ws o) (chain_ends ws s o h)
  columns queued_count i k = object_changed ws s o h new (λ b. length b.queued) i 0 refl

  same_chain : (f : Entry → ℕ) (i j : ℕ)
      → f (get_or (chain (object before (obj i))) j no_entry) ≡ f (get_or (chain (object after (obj i))) j no_entry)
  same_chain f i j =
      object_kept ws s o h new (λ b. f (get_or (chain b) j no_entry)) i
      (ap (λ (l : List Entry). f (get_or l j no_entry)) (sym (append-nil (chain old))))

  pub saved_right : saved_words ws o ≡ pack (save (unpack ws) (obj o))
  unfolding save
  saved_right =
      shows_packed (saved_words ws o) shows after
      (shows_column _ _ (shows_column ws (view before) (shown ws s) saved_count o (chain_end ws o) h)
      queued_count o 0 h)
      (record {
        next = refl;
        count = refl;
        log = λ i k. refl;
        column = columns;
        value = λ i j k l. same_chain (λ e. e.value) i j;
        writer = λ i j k l. same_chain (λ e. e.writer.num) i j;
      })
