-- Prepare's words are what prepare leaves: the entry that is queued stands where the chain ended.
-- Rests on the rules' Steps and Layout, on basics, words_laws, Left and Fields. Assumes nothing.
use Rattle.std.specs.Prelude.{◌≡◌, refl, Bool, false, cond, ◌&&◌, ◌⊎◌, ◌↔◌, List, [], ◌∷◌, ◌++◌, ℕ, ◌+◌, ◌<◌, T, eqb, ltb, length, get_or}
use Rattle.std.proofs.Common.{ap, sym, ◌∙◌, subst, inl, inr, ⊎_elim, append_assoc, arith, length-append}
use Rattle.std.proofs.Math.Path.{ap₂}
use Rattle.std.proofs.Math.ListN.{get_or-append, get_or-eq_default}
use Rattle.std.proofs.lemmas.List.{get_or_at}
use Rattle.rules.specs.Sets.{has, with_member}
use Rattle.rules.specs.Tables.{Entry, Object, Live, Tables, txn, obj, object_count, place_count, chain_room, object, place, chain, with_object, with_place, sets_of}
use Rattle.rules.specs.Steps.{chained, unlocked, prepare}
use Rattle.rules.specs.Layout.{written_at, prepared_at, working_at, queued_count_at, no_entry, pack, unpack, word, sound_words}
use Rattle.basics.specs.Logic.{and_says, equal_says, below_says, cond_true, cond_false, passes_or_fails}
use Rattle.basics.specs.Ranges.{same_or_other}
use Rattle.words_laws.specs.Says.{Column, number, accessed, written, prepared, depends, stable_value, stable_writer, stable_number, holder, working, saved_count, queued_count, cell, column_size}
use Rattle.words_laws.specs.Writes.{View, Shows, view, same_column, put_column, put_value, put_writer, shows_column, shows_value, shows_writer, shows_packed}
use Rattle.locks_laws.specs.Left.{chain_end, freed_words, queued_words}
use Rattle.locks_laws.specs.Fields.{Called, shown, chain_ends, place_below, object_either, object_changed, object_kept, place_changed, place_kept}

-- the place and the object as prepare leaves them, where q is then queued
abbrev prepared_place : Live → ℕ → Live
prepared_place l o =
    record {
      number = l.number;
      accessed = l.accessed;
      written = l.written;
      prepared = with_member l.prepared o;
      depends = l.depends;
    }

abbrev freed_object : Object → List Entry → Object
freed_object b q = chained (unlocked b) b.saved q

abbrev prepared_at_place : Tables → ℕ → ℕ → List Entry → Tables
prepared_at_place t p o q =
    with_place (with_object t (obj o) (freed_object (object t (obj o)) q)) p (prepared_place (place t.live p) o)

-- the entry that the working value becomes
abbrev worked_entry : Object → ℕ → Entry
worked_entry b x = record { value = b.working; writer = txn x }

-- one entry more leaves the others where they are
other_entries : (es : List Entry) (e : Entry) (j : ℕ) → (j ≡ length es → ⊥)
    → get_or es j no_entry ≡ get_or (es ++ e ∷ []) j no_entry
other_entries es e j n = go (passes_or_fails (ltb j (length es)))
  where
    go : T (ltb j (length es)) ⊎ (T (ltb j (length es)) → ⊥) → get_or es j no_entry ≡ get_or (es ++ e ∷ []) j no_entry
    go (inl t) = sym (get_or-append es (e ∷ []) no_entry j ((below_says j (length es)).0 t))
    go (inr f) =
        let g : j < length es → ⊥ = λ k. f ((below_says j (length es)).1 k) in
        get_or-eq_default es no_entry {n = j} (omega arith)
        ∙ sym (get_or-eq_default (es ++ e ∷ []) no_entry {n = j} (rw (length-append es (e ∷ [])) (omega arith)))

module _ (ws : List ℕ) (s : T (sound_words ws)) (p o : ℕ) (h : p < place_count) (k : o < object_count) where
  abbrev before : Tables
  before = unpack ws

  abbrev old : Object
  old = object before (obj o)

  abbrev l : Live
  l = prepared_place (place before.live p) o

  abbrev freed_shows : View
  freed_shows =
      put_column prepared p (with_member (word ws (prepared_at + p)) o)
      (put_column working o 0 (put_column holder o 0 (view before)))

  freed_shown : Shows (freed_words ws p o) freed_shows
  freed_shown =
      shows_column _ _
      (shows_column _ _ (shows_column ws (view before) (shown ws s) holder o 0 k) working o 0 k)
      prepared p (with_member (word ws (prepared_at + p)) o) h

  abbrev after : List Entry → Tables
  after q = prepared_at_place before p o q

  -- whatever is queued, the columns are right if that of the queued counts is
  columns : (q : List Entry) (v : Column → ℕ → ℕ) → ((i : ℕ) → v queued_count i ≡ cell (after q) queued_count i)
      → ((c : Column) (i : ℕ) → same_column c queued_count ≡ false → v c i ≡ freed_shows.column c i)
      → (c : Column) (i : ℕ) → i < column_size → v c i ≡ cell (after q) c i
  columns q v r f number i g = f number i refl ∙ place_kept ws s p h l (λ m. m.number.num) i refl
  columns q v r f accessed i g = f accessed i refl ∙ place_kept ws s p h l (λ m. m.accessed) i refl
  columns q v r f written i g = f written i refl ∙ place_kept ws s p h l (λ m. m.written) i refl
  columns q v r f prepared i g =
      f prepared i refl
      ∙ place_changed ws s p h l (λ m. m.prepared) i (with_member (word ws (prepared_at + p)) o)
      (ap (λ (n : ℕ). with_member n o) ((shown ws s).column prepared p h))
  columns q v r f depends i g = f depends i refl ∙ place_kept ws s p h l (λ m. m.depends) i refl
  columns q v r f stable_value i g =
      f stable_value i refl ∙ object_kept ws s o k (freed_object old q) (λ c. c.stable.value) i refl
  columns q v r f stable_writer i g =
      f stable_writer i refl ∙ object_kept ws s o k (freed_object old q) (λ c. c.stable.writer.num) i refl
  columns q v r f stable_number i g =
      f stable_number i refl ∙ object_kept ws s o k (freed_object old q) (λ c. c.stable.at.num) i refl
  columns q v r f holder i g =
      f holder i refl ∙ object_changed ws s o k (freed_object old q) (λ c. c.holder.num) i 0 refl
  columns q v r f working i g =
      f working i refl ∙ object_changed ws s o k (freed_object old q) (λ c. c.working) i 0 refl
  columns q v r f saved_count i g =
      f saved_count i refl ∙ object_kept ws s o k (freed_object old q) (λ c. length c.saved) i refl
  columns q v r f queued_count i g = r i

  freed_there : freed_words ws p o ≡ pack (after old.queued)
  freed_there =
      let new : Object = freed_object old old.queued in
      shows_packed (freed_words ws p o) freed_shows (after old.queued) freed_shown
      (record {
        next = refl;
        count = refl;
        log = λ i g. refl;
        column =
            columns old.queued freed_shows.column
            (λ i. object_kept ws s o k new (λ c. length c.queued) i refl)
            (λ c i e. refl);
        value = λ i j g m. object_kept ws s o k new (λ c. (get_or (chain c) j no_entry).value) i refl;
        writer = λ i j g m. object_kept ws s o k new (λ c. (get_or (chain c) j no_entry).writer.num) i refl;
      })

  -- ---- an entry is queued

  module _ (x : ℕ) (room : length (chain old) < chain_room) where
    abbrev more : List Entry
    more = old.queued ++ worked_entry old x ∷ []

    abbrev new : Object
    new = freed_object old more

    -- the entry stands where the chain ended, and the others where they stood
    chained_at : (f : Entry → ℕ) (y : ℕ) → y ≡ f (worked_entry old x) → (i j : ℕ)
        → cond (eqb i o && eqb j (chain_end ws o)) y (f (get_or (chain (object before (obj i))) j no_entry))
        ≡ f (get_or (chain (object (after more) (obj i))) j no_entry)
    chained_at f y r i j =
        object_either ws s o k new (λ c. f (get_or (chain c) j no_entry)) i (cond here y stood) own else
      where
        here : Bool
        here = eqb i o && eqb j (chain_end ws o)

        stood : ℕ
        stood = f (get_or (chain (object before (obj i))) j no_entry)

        says : T here ↔ (T (eqb i o) × T (eqb j (chain_end ws o)))
        says = and_says (eqb i o) (eqb j (chain_end ws o))

        -- the longer chain, as the old one and the entry
        one_more : f (get_or (chain old ++ worked_entry old x ∷ []) j no_entry) ≡ f (get_or (chain new) j no_entry)
        one_more =
            ap (λ (es : List Entry). f (get_or es j no_entry))
            (append_assoc old.saved old.queued (worked_entry old x ∷ []))

        else : (i ≡ o → ⊥) → cond here y stood ≡ stood
        else n = cond_false here y stood (λ t. n ((equal_says i o).0 (says.0 t).0))

        own : i ≡ o → cond here y stood ≡ f (get_or (chain new) j no_entry)
        own d =
            ⊎_elim
            (λ e.
            cond_true here y stood (says.1 ((equal_says i o).1 d, (equal_says j (chain_end ws o)).1 e))
            ∙ r
            ∙ ap f (sym (get_or_at (chain old) (worked_entry old x) [] no_entry j (sym (chain_ends ws s o k) ∙ sym e)))
            ∙ one_more)
            (λ n.
            cond_false here y stood (λ t. n ((equal_says j (chain_end ws o)).0 (says.0 t).1))
            ∙ ap (λ (m : ℕ). f (get_or (chain (object before (obj m))) j no_entry)) d
            ∙ ap f (other_entries (chain old) (worked_entry old x) j (λ z. n (z ∙ sym (chain_ends ws s o k))))
            ∙ one_more)
            (same_or_other j (chain_end ws o))

    end_below : chain_end ws o < chain_room
    end_below = subst (λ (n : ℕ). n < chain_room) (sym (chain_ends ws s o k)) room

    abbrev count : ℕ
    count = word ws (queued_count_at + o) + 1

    one_queued : count ≡ length more
    one_queued =
        ap (λ (n : ℕ). n + 1) ((shown ws s).column queued_count o k)
        ∙ sym (length-append old.queued (worked_entry old x ∷ []))

    abbrev queued_shows : View
    queued_shows =
        put_column queued_count o count
        (put_writer o (chain_end ws o) x (put_value o (chain_end ws o) (word ws (working_at + o)) freed_shows))

    queued_there : queued_words ws x p o ≡ pack (after more)
    queued_there =
        shows_packed (queued_words ws x p o) queued_shows (after more)
        (shows_column _ _
        (shows_writer _ _
        (shows_value _ _ freed_shown o (chain_end ws o) (word ws (working_at + o)) k end_below)
        o (chain_end ws o) x k end_below)
        queued_count o count k)
        (record {
          next = refl;
          count = refl;
          log = λ i g. refl;
          column =
              columns more queued_shows.column
              (λ i. object_changed ws s o k new (λ c. length c.queued) i count one_queued)
              (λ c i e. ap (λ (b : Bool). cond (b && eqb i o) count (freed_shows.column c i)) e);
          value = λ i j g m.
              chained_at (λ e. e.value) (word ws (working_at + o)) ((shown ws s).column working o k) i j;
          writer = λ i j g m. chained_at (λ e. e.writer.num) x refl i j;
        })

-- ---- at the place of a live transaction

module _ (ws : List ℕ) (x p o : ℕ) (c : Called ws x p o) where
  below : p < place_count
  below = place_below ws x p o c

  -- whether the words say that the object was written
  abbrev was_written : Bool
  was_written = has (word ws (written_at + p)) o

  abbrev old_queue : List Entry
  old_queue = (object (unpack ws) (obj o)).queued

  abbrev new_queue : List Entry
  new_queue = old_queue ++ worked_entry (object (unpack ws) (obj o)) x ∷ []

  written_word : word ws (written_at + p) ≡ (sets_of (unpack ws).live (txn x)).written
  written_word = (shown ws c.0).column written p below ∙ ap (λ (q : ℕ). (place (unpack ws).live q).written) c.3

  abbrev prepared_with : List Entry → Tables
  prepared_with = prepared_at_place (unpack ws) p o

  prepare_there : prepared_with (cond was_written new_queue old_queue) ≡ prepare (unpack ws) (txn x) (obj o)
  unfolding prepare
  prepare_there =
      ap₂ (λ (q w : ℕ). prepared_at_place (unpack ws) q o (cond (has w o) new_queue old_queue)) c.3 written_word

  pub freed_right : (T was_written → ⊥) → freed_words ws p o ≡ pack (prepare (unpack ws) (txn x) (obj o))
  freed_right f =
      freed_there ws c.0 p o below c.1
      ∙ ap (λ (q : List Entry). pack (prepared_with q)) (sym (cond_false was_written new_queue old_queue f))
      ∙ ap pack prepare_there

  module _ (t : T was_written)
      (room : T (has (sets_of (unpack ws).live (txn x)).written o)
      → length (chain (object (unpack ws) (obj o))) < chain_room) where
    left : length (chain (object (unpack ws) (obj o))) < chain_room
    left = room (subst (λ (w : ℕ). T (has w o)) written_word t)

    -- an object that was written has room for the entry
    pub room_left : chain_end ws o < chain_room
    room_left = end_below ws c.0 p o below c.1 x left

    pub queued_right : queued_words ws x p o ≡ pack (prepare (unpack ws) (txn x) (obj o))
    queued_right =
        queued_there ws c.0 p o below c.1 x left
        ∙ ap (λ (q : List Entry). pack (prepared_with q)) (sym (cond_true was_written new_queue old_queue t))
        ∙ ap pack prepare_there
