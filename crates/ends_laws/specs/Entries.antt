-- Words of one object's chain: entries written one after another, the entries from a place on cleared, all entries moved
-- down; and an object's chain cut to its first entries.
-- Rests on the rules' Layout, on basics, words_laws, Loops and Objects. Assumes nothing.
use Rattle.std.specs.Prelude.{◌≡◌, refl, Bool, true, false, cond, ◌&&◌, ◌||◌, List, ◌++◌, ℕ, zero, suc, ◌+◌, ◌-◌, ◌*◌, ◌≤◌, ◌<◌, T, eqb, get_or}
use Rattle.std.proofs.Math.Path.{ap}
use Rattle.std.proofs.Common.{sym, ◌∙◌, ⊎_elim, arith, length-append}
use Rattle.std.proofs.Math.Bool.{and-false}
use Rattle.std.proofs.Math.ListN.{length, set, get_or-append, get_or-eq_default}
use Rattle.rules.specs.Tests.{some_below}
use Rattle.rules.specs.Tables.{Entry, Object, Tables, obj, object_count, chain_room, object, with_object, chain}
use Rattle.rules.specs.Steps.{chained}
use Rattle.rules.specs.Layout.{saved_count_at, queued_count_at, chain_value_at, chain_writer_at, no_entry, pack, word}
use Rattle.basics.specs.Logic.{equal_says, is_true, is_false}
use Rattle.basics.specs.Ranges.{some_at, some_of}
use Rattle.words_laws.specs.Says.{Column, number, accessed, written, prepared, depends, stable_value, stable_writer, stable_number, holder, working, saved_count, queued_count}
use Rattle.words_laws.specs.Words.{pack_length}
use Rattle.words_laws.specs.Writes.{View, Shows, Same, view, packed_shows, put_column, put_value, put_writer, shows_column, shows_value, shows_writer}
use Rattle.ends_laws.specs.Loops.{loop, reaches}
use Rattle.ends_laws.specs.Objects.{itself, another, cell_with, object_packed}

-- where entry j of object i's chain has its value and its writer
abbrev pub value_place : ℕ → ℕ → ℕ
value_place i j = chain_value_at + (chain_room * i + j)

abbrev pub writer_place : ℕ → ℕ → ℕ
writer_place i j = chain_writer_at + (chain_room * i + j)

-- entry j of object i's chain set to a value and a writer
abbrev pub put_entry : ℕ → ℕ → ℕ → ℕ → List ℕ → List ℕ
put_entry i j x y ws = set (set ws (value_place i j) x) (writer_place i j) y

-- the entries from n on zero
unfoldable pub clear : ℕ → ℕ → List ℕ → List ℕ
clear i n ws = loop (chain_room - n) (λ m. put_entry i (n + m) 0 0) ws

-- turn m of moving entries down by k
abbrev pub slide_one : ℕ → ℕ → ℕ → List ℕ → List ℕ
slide_one i k m ws = put_entry i m (word ws (value_place i (m + k))) (word ws (writer_place i (m + k))) ws

-- all entries from k on moved down by k
unfoldable pub slide : ℕ → ℕ → List ℕ → List ℕ
slide i k ws = loop (chain_room - k) (slide_one i k) ws

-- ---- what entries written one after another show

-- words that show a view show any view that is the same
shows_same : (ws : List ℕ) (v w : View) → Shows ws v → Same v w → Shows ws w
shows_same ws v w s e =
    record {
      size = s.size;
      next = s.next ∙ e.next;
      count = s.count ∙ e.count;
      log = λ i h. s.log i h ∙ e.log i h;
      column = λ c i h. s.column c i h ∙ e.column c i h;
      value = λ i j h k. s.value i j h k ∙ e.value i j h k;
      writer = λ i j h k. s.writer i j h k ∙ e.writer i j h k;
    }

-- one of the entries at the first m of some places
abbrev pub among : (ℕ → ℕ) → ℕ → ℕ → Bool
among at m j = some_below m (λ n. eqb j (at n))

-- a view with object i's entries at the first m of some places as F and G give them
abbrev pub put_entries : ℕ → (ℕ → ℕ) → (ℕ → ℕ) → (ℕ → ℕ) → ℕ → View → View
put_entries i at F G m v =
    record {
      next = v.next;
      count = v.count;
      log = v.log;
      column = v.column;
      value = λ k j. cond (eqb k i && among at m j) (F j) (v.value k j);
      writer = λ k j. cond (eqb k i && among at m j) (G j) (v.writer k j);
    }

one_more : (p r q : Bool) (x y z : ℕ) → (T q → x ≡ y) → cond (p && q) x (cond (p && r) y z) ≡ cond (p && (r || q)) y z
one_more false r q x y z e = refl
one_more true true true x y z e = e tt
one_more true true false x y z e = refl
one_more true false true x y z e = e tt
one_more true false false x y z e = refl

module _ (i : ℕ) (h : i < object_count) (at F G : ℕ → ℕ) (v : View) where
  -- one entry more
  entry_more : (m : ℕ) (ws : List ℕ) (x y : ℕ) → at m < chain_room → Shows ws (put_entries i at F G m v) → x ≡ F (at m)
      → y ≡ G (at m)
      → Shows (put_entry i (at m) x y ws) (put_entries i at F G (suc m) v)
  unfolding some_below
  entry_more m ws x y g s ex ey =
      let was = put_entries i at F G m v in
      let ws' = set ws (value_place i (at m)) x in
      shows_same (set ws' (writer_place i (at m)) y) (put_writer i (at m) y (put_value i (at m) x was))
      (put_entries i at F G (suc m) v)
      (shows_writer ws' (put_value i (at m) x was) (shows_value ws was s i (at m) x h g) i (at m) y h g)
      (record {
        next = refl;
        count = refl;
        log = λ j k. refl;
        column = λ c k l. refl;
        value = λ k j a b.
            one_more (eqb k i) (among at m j) (eqb j (at m)) x (F j) (v.value k j)
            (λ t. ex ∙ ap F (sym ((equal_says j (at m)).0 t)));
        writer = λ k j a b.
            one_more (eqb k i) (among at m j) (eqb j (at m)) y (G j) (v.writer k j)
            (λ t. ey ∙ ap G (sym ((equal_says j (at m)).0 t)));
      })

  none_yet : (ws : List ℕ) → Shows ws v → Shows ws (put_entries i at F G 0 v)
  unfolding some_below
  none_yet ws s =
      shows_same ws v (put_entries i at F G 0 v) s
      (record {
        next = refl;
        count = refl;
        log = λ j k. refl;
        column = λ c k l. refl;
        value = λ k j a b. rw (and-false (eqb k i));
        writer = λ k j a b. rw (and-false (eqb k i));
      })

-- cleared entries show zero
pub clear_shows : (i : ℕ) → i < object_count → (n : ℕ) (ws : List ℕ) (v : View) → Shows ws v
    → Shows (clear i n ws) (put_entries i (λ m. n + m) (λ j. 0) (λ j. 0) (chain_room - n) v)
unfolding clear loop
clear_shows i h n ws v s = go (chain_room - n) (omega arith)
  where
    go : (m : ℕ) → m ≤ chain_room - n
        → Shows (loop m (λ m. put_entry i (n + m) 0 0) ws) (put_entries i (λ m. n + m) (λ j. 0) (λ j. 0) m v)
    go zero k = none_yet i h (λ m. n + m) (λ j. 0) (λ j. 0) v ws s
    go (suc m) k =
        entry_more i h (λ m. n + m) (λ j. 0) (λ j. 0) v m (loop m (λ m. put_entry i (n + m) 0 0) ws) 0 0 (omega arith)
        (go m (omega arith)) refl refl

-- entries that were moved down show those k further up
pub slide_shows : (i : ℕ) → i < object_count → (k : ℕ) (ws : List ℕ) (v : View) → Shows ws v
    → Shows (slide i k ws)
    (put_entries i (λ m. m) (λ j. v.value i (j + k)) (λ j. v.writer i (j + k)) (chain_room - k) v)
unfolding slide loop
slide_shows i h k ws v s = go (chain_room - k) (omega arith)
  where
    F : ℕ → ℕ
    F j = v.value i (j + k)

    G : ℕ → ℕ
    G j = v.writer i (j + k)

    -- what stands k further up was not written yet
    not_yet : (m : ℕ) → among (λ m. m) m (m + k) ≡ false
    not_yet m =
        is_false (among (λ m. m) m (m + k))
        (λ t.
        let w = some_at m (λ n. eqb (m + k) n) t in
        let e = (equal_says (m + k) w.0).0 w.2 in
        omega (arith, w.1))

    go : (m : ℕ) → m ≤ chain_room - k → Shows (loop m (slide_one i k) ws) (put_entries i (λ m. m) F G m v)
    go zero l = none_yet i h (λ m. m) F G v ws s
    go (suc m) l =
        let shown = go m (omega arith) in
        entry_more i h (λ m. m) F G v m (loop m (slide_one i k) ws)
        (word (loop m (slide_one i k) ws) (value_place i (m + k)))
        (word (loop m (slide_one i k) ws) (writer_place i (m + k)))
        (omega arith) shown
        (shown.value i (m + k) h (omega arith) ∙ rw (itself i, not_yet m))
        (shown.writer i (m + k) h (omega arith) ∙ rw (itself i, not_yet m))

-- ---- which entries those were

module _ (n j : ℕ) where
  -- all from n on
  pub among_from : n ≤ j → j < chain_room → among (λ m. n + m) (chain_room - n) j ≡ true
  among_from h k =
      is_true (among (λ m. n + m) (chain_room - n) j)
      (some_of (chain_room - n) (λ m. eqb j (n + m)) (j - n) (omega arith)
      ((equal_says j (n + (j - n))).1 (omega arith)))

  pub not_among_from : j < n → among (λ m. n + m) (chain_room - n) j ≡ false
  not_among_from h =
      is_false (among (λ m. n + m) (chain_room - n) j)
      (λ t.
      let w = some_at (chain_room - n) (λ m. eqb j (n + m)) t in
      let e = (equal_says j (n + w.0)).0 w.2 in
      omega arith)

  -- all below n
  pub among_below : j < n → among (λ m. m) n j ≡ true
  among_below h = is_true (among (λ m. m) n j) (some_of n (λ m. eqb j m) j h ((equal_says j j).1 refl))

-- ---- a chain cut to its first entries

-- object i with so many saved and queued entries, and zero behind them
abbrev pub trim : ℕ → ℕ → ℕ → List ℕ → List ℕ
trim i s q ws = clear i (s + q) (set (set ws (saved_count_at + i) s) (queued_count_at + i) q)

module _ (u : Tables) (n : length u.objects ≡ object_count) (i : ℕ) (h : i < object_count) (s q rest : List Entry)
    (parts : chain (object u (obj i)) ≡ (s ++ q) ++ rest) where
  pub trim_packs : trim i (length s) (length q) (pack u) ≡ pack (with_object u (obj i) (chained (object u (obj i)) s q))
  trim_packs =
      let one = set (pack u) (saved_count_at + i) (length s) in
      let two = set one (queued_count_at + i) (length q) in
      object_packed u n i h b (clear i (length s + length q) two)
      (put_entries i from zeros zeros (chain_room - (length s + length q)) v)
      (clear_shows i h (length s + length q) two v
      (shows_column one (put_column saved_count i (length s) (view u))
      (shows_column (pack u) (view u) (packed_shows u (pack_length u)) saved_count i (length s) h)
      queued_count i (length q) h))
      (record {
        next = refl;
        count = refl;
        log = λ j. refl;
        else_column = λ c k d. simp (another k i d, and-false);
        else_value = λ k j d. rw (another k i d);
        else_writer = λ k j d. rw (another k i d);
        columns = at_i;
        value = λ j l. rw (itself i) (entry_left (λ e. e.value) j l refl);
        writer = λ j l. rw (itself i) (entry_left (λ e. e.writer.num) j l refl);
      })
    where
      b : Object
      b = chained (object u (obj i)) s q

      v : View
      v = put_column queued_count i (length q) (put_column saved_count i (length s) (view u))

      from : ℕ → ℕ
      from m = length s + length q + m

      zeros : ℕ → ℕ
      zeros j = 0

      at_i : (c : Column) → v.column c i ≡ cell_with u i b c
      at_i number = refl
      at_i accessed = refl
      at_i written = refl
      at_i prepared = refl
      at_i depends = refl
      at_i stable_value = refl
      at_i stable_writer = refl
      at_i stable_number = refl
      at_i holder = refl
      at_i working = refl
      at_i saved_count = rw (itself i)
      at_i queued_count = rw (itself i)

      entry_left : (f : Entry → ℕ) (j : ℕ) → j < chain_room → f no_entry ≡ 0
          → cond (among from (chain_room - (length s + length q)) j) 0 (f (get_or (chain (object u (obj i))) j no_entry))
          ≡ f (get_or (s ++ q) j no_entry)
      entry_left f j l z =
          ⊎_elim
          (λ g.
          rw (among_from (length s + length q) j g l)
          (sym z ∙ ap f (sym (get_or-eq_default (s ++ q) no_entry {n = j} (omega (arith, length-append s q))))))
          (λ g.
          rw (not_among_from (length s + length q) j g)
          (ap (λ (l : List Entry). f (get_or l j no_entry)) parts
          ∙ ap f (get_or-append (s ++ q) rest no_entry j (omega (arith, length-append s q)))))
          (reaches j (length s + length q))
