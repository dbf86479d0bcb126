-- The lock's words are what the lock at first access leaves, and the working value's words what a write leaves.
-- Rests on the rules' Steps and Layout, on basics, words_laws, Left and Fields. Assumes nothing.
use Rattle.std.specs.Prelude.{◌≡◌, refl, not, List, ℕ, ◌+◌, ◌<◌, T, eqb, ltb, length, get_or}
use Rattle.std.proofs.Math.Path.{ap}
use Rattle.std.proofs.Common.{◌∙◌}
use Rattle.rules.specs.Sets.{with_member}
use Rattle.rules.specs.Tables.{Object, Live, Tables, txn, obj, object_count, place_count, object, place, chain, with_object, with_place, is_live, place_of, latest}
use Rattle.rules.specs.Steps.{held_by, and_depends_on, take_lock, set_working}
use Rattle.rules.specs.Layout.{accessed_at, written_at, depends_at, no_entry, pack, unpack, word, sound_words}
use Rattle.basics.specs.Logic.{and_says, not_says, equal_says, below_says, cond_true, cond_false}
use Rattle.words_laws.specs.Says.{Column, number, accessed, written, prepared, depends, stable_value, stable_writer, stable_number, holder, working, saved_count, queued_count, cell, column_size}
use Rattle.words_laws.specs.Writes.{View, view, put_column, shows_column, shows_packed}
use Rattle.locks_laws.specs.Left.{latest_in, depends_too, lock_writes, locked_words, working_words}
use Rattle.locks_laws.specs.Fields.{Called, shown, place_below, object_changed, object_kept, place_changed, place_kept}

-- ---- the lock

-- the place l and the object o, as the lock leaves them
abbrev locking_place : Tables → Live → ℕ → Live
locking_place t l o =
    record {
      number = l.number;
      accessed = with_member l.accessed o;
      written = l.written;
      prepared = l.prepared;
      depends = and_depends_on t.live l (latest (object t (obj o))).writer;
    }

abbrev locked_object : Tables → ℕ → ℕ → Object
locked_object t x o = held_by (object t (obj o)) (txn x) (latest (object t (obj o))).value

abbrev locked_at : Tables → ℕ → ℕ → ℕ → Tables
locked_at t x p o =
    with_place (with_object t (obj o) (locked_object t x o)) p (locking_place t (place t.live p) o)

module _ (ws : List ℕ) (s : T (sound_words ws)) (x p o : ℕ) (h : p < place_count) (k : o < object_count) where
  abbrev before : Tables
  before = unpack ws

  abbrev b : Object
  b = locked_object before x o

  abbrev l : Live
  l = locking_place before (place before.live p) o

  abbrev lock_shows : View
  lock_shows =
      put_column depends p (depends_too ws (word ws (depends_at + p)) (latest_in ws o).writer)
      (put_column accessed p (with_member (word ws (accessed_at + p)) o)
      (put_column working o (latest_in ws o).value (put_column holder o x (view before))))

  lock_columns : (c : Column) (i : ℕ) → i < column_size → lock_shows.column c i ≡ cell (locked_at before x p o) c i
  lock_columns number i g = place_kept ws s p h l (λ m. m.number.num) i refl
  lock_columns accessed i g =
      place_changed ws s p h l (λ m. m.accessed) i (with_member (word ws (accessed_at + p)) o)
      (ap (λ (n : ℕ). with_member n o) ((shown ws s).column accessed p h))
  lock_columns written i g = place_kept ws s p h l (λ m. m.written) i refl
  lock_columns prepared i g = place_kept ws s p h l (λ m. m.prepared) i refl
  lock_columns depends i g =
      place_changed ws s p h l (λ m. m.depends) i (depends_too ws (word ws (depends_at + p)) (latest_in ws o).writer)
      (ap (λ (n : ℕ). depends_too ws n (latest_in ws o).writer) ((shown ws s).column depends p h))
  lock_columns stable_value i g = object_kept ws s o k b (λ c. c.stable.value) i refl
  lock_columns stable_writer i g = object_kept ws s o k b (λ c. c.stable.writer.num) i refl
  lock_columns stable_number i g = object_kept ws s o k b (λ c. c.stable.at.num) i refl
  lock_columns holder i g = object_changed ws s o k b (λ c. c.holder.num) i x refl
  lock_columns working i g = object_changed ws s o k b (λ c. c.working) i (latest_in ws o).value refl
  lock_columns saved_count i g = object_kept ws s o k b (λ c. length c.saved) i refl
  lock_columns queued_count i g = object_kept ws s o k b (λ c. length c.queued) i refl

  locked_there : locked_words ws x p o ≡ pack (locked_at before x p o)
  locked_there =
      shows_packed (locked_words ws x p o) lock_shows (locked_at before x p o)
      (shows_column _ _
      (shows_column _ _
      (shows_column _ _ (shows_column ws (view before) (shown ws s) holder o x k) working o (latest_in ws o).value k)
      accessed p (with_member (word ws (accessed_at + p)) o) h)
      depends p (depends_too ws (word ws (depends_at + p)) (latest_in ws o).writer) h)
      (record {
        next = refl;
        count = refl;
        log = λ i g. refl;
        column = lock_columns;
        value = λ i j g m. object_kept ws s o k b (λ c. (get_or (chain c) j no_entry).value) i refl;
        writer = λ i j g m. object_kept ws s o k b (λ c. (get_or (chain c) j no_entry).writer.num) i refl;
      })

-- ---- the dependency that the lock adds

module _ (ws : List ℕ) (d y : ℕ) where
  abbrev place_of_writer : ℕ
  place_of_writer = place_of (unpack ws).live (txn y)

  pub depends_live : (y ≡ 0 → ⊥) → place_of_writer < place_count
      → depends_too ws d (txn y) ≡ with_member d place_of_writer
  unfolding is_live
  depends_live n h =
      cond_true (is_live (unpack ws).live (txn y)) (with_member d place_of_writer) d
      ((and_says (not (eqb y 0)) (ltb place_of_writer place_count)).1
      ((not_says (eqb y 0)).1 (λ t. n ((equal_says y 0).0 t)), (below_says place_of_writer place_count).1 h))

  pub depends_gone : (T (is_live (unpack ws).live (txn y)) → ⊥) → depends_too ws d (txn y) ≡ d
  depends_gone f = cond_false (is_live (unpack ws).live (txn y)) (with_member d place_of_writer) d f

-- ---- the working value

-- the place l and the object o, as a write leaves them
abbrev writing_place : Live → ℕ → Live
writing_place l o =
    record {
      number = l.number;
      accessed = l.accessed;
      written = with_member l.written o;
      prepared = l.prepared;
      depends = l.depends;
    }

abbrev worked_object : Tables → ℕ → ℕ → Object
worked_object t o v = held_by (object t (obj o)) (object t (obj o)).holder v

abbrev worked_at : Tables → ℕ → ℕ → ℕ → Tables
worked_at t p o v = with_place (with_object t (obj o) (worked_object t o v)) p (writing_place (place t.live p) o)

module _ (ws : List ℕ) (s : T (sound_words ws)) (p o v : ℕ) (h : p < place_count) (k : o < object_count) where
  abbrev writing : Live
  writing = writing_place (place (unpack ws).live p) o

  abbrev worked : Object
  worked = worked_object (unpack ws) o v

  abbrev work_shows : View
  work_shows =
      put_column written p (with_member (word ws (written_at + p)) o) (put_column working o v (view (unpack ws)))

  work_columns : (c : Column) (i : ℕ) → i < column_size
      → work_shows.column c i ≡ cell (worked_at (unpack ws) p o v) c i
  work_columns number i g = place_kept ws s p h writing (λ m. m.number.num) i refl
  work_columns accessed i g = place_kept ws s p h writing (λ m. m.accessed) i refl
  work_columns written i g =
      place_changed ws s p h writing (λ m. m.written) i (with_member (word ws (written_at + p)) o)
      (ap (λ (n : ℕ). with_member n o) ((shown ws s).column written p h))
  work_columns prepared i g = place_kept ws s p h writing (λ m. m.prepared) i refl
  work_columns depends i g = place_kept ws s p h writing (λ m. m.depends) i refl
  work_columns stable_value i g = object_kept ws s o k worked (λ c. c.stable.value) i refl
  work_columns stable_writer i g = object_kept ws s o k worked (λ c. c.stable.writer.num) i refl
  work_columns stable_number i g = object_kept ws s o k worked (λ c. c.stable.at.num) i refl
  work_columns holder i g = object_kept ws s o k worked (λ c. c.holder.num) i refl
  work_columns working i g = object_changed ws s o k worked (λ c. c.working) i v refl
  work_columns saved_count i g = object_kept ws s o k worked (λ c. length c.saved) i refl
  work_columns queued_count i g = object_kept ws s o k worked (λ c. length c.queued) i refl

  worked_there : working_words ws p o v ≡ pack (worked_at (unpack ws) p o v)
  worked_there =
      shows_packed (working_words ws p o v) work_shows (worked_at (unpack ws) p o v)
      (shows_column _ _ (shows_column ws (view (unpack ws)) (shown ws s) working o v k)
      written p (with_member (word ws (written_at + p)) o) h)
      (record {
        next = refl;
        count = refl;
        log = λ i g. refl;
        column = work_columns;
        value = λ i j g m. object_kept ws s o k worked (λ c. (get_or (chain c) j no_entry).value) i refl;
        writer = λ i j g m. object_kept ws s o k worked (λ c. (get_or (chain c) j no_entry).writer.num) i refl;
      })

-- ---- at the place of a live transaction

module _ (ws : List ℕ) (x p o : ℕ) (c : Called ws x p o) where
  -- with the values that the code found for v, a and d
  pub locked_right : {v a d : ℕ} → v ≡ (latest_in ws o).value → a ≡ with_member (word ws (accessed_at + p)) o
      → d ≡ depends_too ws (word ws (depends_at + p)) (latest_in ws o).writer
      → lock_writes ws x p o v a d ≡ pack (take_lock (unpack ws) (txn x) (obj o))
  unfolding take_lock
  locked_right ev ea ed =
      (λ i. lock_writes ws x p o (ev i) (ea i) (ed i))
      ∙ locked_there ws c.0 x p o (place_below ws x p o c) c.1
      ∙ ap (λ (q : ℕ). pack (locked_at (unpack ws) x q o)) c.3

  pub worked_right : (v : ℕ) → working_words ws p o v ≡ pack (set_working (unpack ws) (txn x) (obj o) v)
  unfolding set_working
  worked_right v =
      worked_there ws c.0 p o v (place_below ws x p o c) c.1
      ∙ ap (λ (q : ℕ). pack (worked_at (unpack ws) q o v)) c.3
