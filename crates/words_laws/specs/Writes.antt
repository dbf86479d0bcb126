-- Writing words: what a run of words shows after one word is written, and when what it shows is what tables hold. A step
-- that writes words is held against the rules by comparing two views, place by place; where words lie is settled here.
-- Rests on the rules' Layout, on basics and on Says. Assumes nothing.
use Rattle.std.specs.Prelude.{◌≡◌, refl, Bool, true, false, cond, ◌&&◌, List, ℕ, ◌+◌, ◌*◌, ◌<◌, T, eqb, length, get_or, set}
use Rattle.std.proofs.Common.{ap, ap₂, sym, ◌∙◌, arith, length-set, get_or-set_same, get_or-set_other}
use Rattle.rules.specs.Tables.{Tables, obj, nobody, object_count, chain_room, log_room, object, chain}
use Rattle.rules.specs.Layout.{next_at, log_count_at, log_at, chain_value_at, chain_writer_at, word_count, no_entry, pack, word}
use Rattle.basics.specs.Logic.{and_says, equal_says}
use Rattle.words_laws.specs.Says.{Column, number, accessed, written, prepared, depends, stable_value, stable_writer, stable_number, holder, working, saved_count, queued_count, start, cell, column_size, pack_says, says_packed}

-- ---- views

-- what a run of words shows: the next number, the log's count and records, the columns, the chains' values and writers
pub record View : Type 0 where
  pub next : ℕ
  pub count : ℕ
  pub log : ℕ → ℕ
  pub column : Column → ℕ → ℕ
  pub value : ℕ → ℕ → ℕ
  pub writer : ℕ → ℕ → ℕ

pub record Shows (ws : List ℕ) (v : View) : Type 0 where
  pub size : length ws ≡ word_count
  pub next : word ws next_at ≡ v.next
  pub count : word ws log_count_at ≡ v.count
  pub log : (i : ℕ) → i < log_room → word ws (log_at + i) ≡ v.log i
  pub column : (c : Column) (i : ℕ) → i < column_size → word ws (start c + i) ≡ v.column c i
  pub value : (i j : ℕ) → i < object_count → j < chain_room → word ws (chain_value_at + (chain_room * i + j)) ≡ v.value i j
  pub writer : (i j : ℕ) → i < object_count → j < chain_room → word ws (chain_writer_at + (chain_room * i + j)) ≡ v.writer i j

-- what tables hold, as a view
abbrev pub view : Tables → View
view t =
    record {
      next = t.next.num;
      count = length t.log;
      log = λ i. (get_or t.log i nobody).num;
      column = cell t;
      value = λ i j. (get_or (chain (object t (obj i))) j no_entry).value;
      writer = λ i j. (get_or (chain (object t (obj i))) j no_entry).writer.num;
    }

-- two views show the same
pub record Same (v w : View) : Type 0 where
  pub next : v.next ≡ w.next
  pub count : v.count ≡ w.count
  pub log : (i : ℕ) → i < log_room → v.log i ≡ w.log i
  pub column : (c : Column) (i : ℕ) → i < column_size → v.column c i ≡ w.column c i
  pub value : (i j : ℕ) → i < object_count → j < chain_room → v.value i j ≡ w.value i j
  pub writer : (i j : ℕ) → i < object_count → j < chain_room → v.writer i j ≡ w.writer i j

-- packed tables show what the tables hold
pub packed_shows : (t : Tables) → length (pack t) ≡ word_count → Shows (pack t) (view t)
packed_shows t e =
    let s = pack_says t in
    record { size = e; next = s.next; count = s.log_count; log = s.log; column = s.column; value = s.chain_value; writer = s.chain_writer }

-- words that show what tables hold are the packed tables
pub shows_packed : (ws : List ℕ) (v : View) (t : Tables) → Shows ws v → Same v (view t) → ws ≡ pack t
shows_packed ws v t s e =
    sym
    (says_packed ws t s.size
    (record {
      next = s.next ∙ e.next;
      log_count = s.count ∙ e.count;
      log = λ i h. s.log i h ∙ e.log i h;
      column = λ c i h. s.column c i h ∙ e.column c i h;
      chain_value = λ i j h k. s.value i j h k ∙ e.value i j h k;
      chain_writer = λ i j h k. s.writer i j h k ∙ e.writer i j h k;
    }))

-- ---- one word written

-- a function with another value at one place
abbrev pub at_place : (ℕ → ℕ) → ℕ → ℕ → ℕ → ℕ
at_place f i x j = cond (eqb j i) x (f j)

abbrev pub same_column : Column → Column → Bool
same_column c d = eqb (start c) (start d)

abbrev pub put_next : ℕ → View → View
put_next x v = record { next = x; count = v.count; log = v.log; column = v.column; value = v.value; writer = v.writer }

abbrev pub put_count : ℕ → View → View
put_count x v = record { next = v.next; count = x; log = v.log; column = v.column; value = v.value; writer = v.writer }

abbrev pub put_log : ℕ → ℕ → View → View
put_log i x v =
    record { next = v.next; count = v.count; log = at_place v.log i x; column = v.column; value = v.value; writer = v.writer }

abbrev pub put_column : Column → ℕ → ℕ → View → View
put_column c i x v =
    record {
      next = v.next;
      count = v.count;
      log = v.log;
      column = λ d j. cond (same_column d c && eqb j i) x (v.column d j);
      value = v.value;
      writer = v.writer;
    }

abbrev pub put_value : ℕ → ℕ → ℕ → View → View
put_value i j x v =
    record {
      next = v.next;
      count = v.count;
      log = v.log;
      column = v.column;
      value = λ k l. cond (eqb k i && eqb l j) x (v.value k l);
      writer = v.writer;
    }

abbrev pub put_writer : ℕ → ℕ → ℕ → View → View
put_writer i j x v =
    record {
      next = v.next;
      count = v.count;
      log = v.log;
      column = v.column;
      value = v.value;
      writer = λ k l. cond (eqb k i && eqb l j) x (v.writer k l);
    }

-- ---- where words lie

-- a column's number, from 0 on
abbrev index : Column → ℕ
index number = 0
index accessed = 1
index written = 2
index prepared = 3
index depends = 4
index stable_value = 5
index stable_writer = 6
index stable_number = 7
index holder = 8
index working = 9
index saved_count = 10
index queued_count = 11

start_at : (c : Column) → start c ≡ 514 + 32 * index c
start_at number = refl
start_at accessed = refl
start_at written = refl
start_at prepared = refl
start_at depends = refl
start_at stable_value = refl
start_at stable_writer = refl
start_at stable_number = refl
start_at holder = refl
start_at working = refl
start_at saved_count = refl
start_at queued_count = refl

index_below : (c : Column) → index c < 12
index_below number = omega arith
index_below accessed = omega arith
index_below written = omega arith
index_below prepared = omega arith
index_below depends = omega arith
index_below stable_value = omega arith
index_below stable_writer = omega arith
index_below stable_number = omega arith
index_below holder = omega arith
index_below working = omega arith
index_below saved_count = omega arith
index_below queued_count = omega arith

-- what stands at place k after a word is written at place m
module _ (ws : List ℕ) (e : length ws ≡ word_count) (m x : ℕ) (h : m < word_count) where
  read_back : (k : ℕ) → k ≡ m → word (set ws m x) k ≡ x
  read_back k r = ap (λ (n : ℕ). word (set ws m x) n) r ∙ get_or-set_same ws m x 0 (omega arith)

  read_else : (k : ℕ) → (k ≡ m → ⊥) → word (set ws m x) k ≡ word ws k
  read_else k d = get_or-set_other ws m k x 0 d

  -- a place that is m exactly where a test passes
  read_cond : (k : ℕ) (b : Bool) (y : ℕ) → (T b → k ≡ m) → ((T b → ⊥) → k ≡ m → ⊥) → word ws k ≡ y → word (set ws m x) k ≡ cond b x y
  read_cond k true y f g r = read_back k (f tt)
  read_cond k false y f g r = read_else k (g (λ z. z)) ∙ r

module _ (ws : List ℕ) (v : View) (s : Shows ws v) where
  size_after : (m x : ℕ) → length (set ws m x) ≡ word_count
  size_after m x = length-set ws m x ∙ s.size

  pub shows_next : (x : ℕ) → Shows (set ws next_at x) (put_next x v)
  shows_next x =
      let else = read_else ws s.size 0 x (omega arith) in
      record {
        size = size_after 0 x;
        next = read_back ws s.size 0 x (omega arith) 0 refl;
        count = else 1 (omega arith) ∙ s.count;
        log = λ i k. else (log_at + i) (omega arith) ∙ s.log i k;
        column = λ c i k. else (start c + i) (λ r. let w = start_at c in omega arith) ∙ s.column c i k;
        value = λ i j k l. else (chain_value_at + (chain_room * i + j)) (omega arith) ∙ s.value i j k l;
        writer = λ i j k l. else (chain_writer_at + (chain_room * i + j)) (omega arith) ∙ s.writer i j k l;
      }

  pub shows_count : (x : ℕ) → Shows (set ws log_count_at x) (put_count x v)
  shows_count x =
      let else = read_else ws s.size 1 x (omega arith) in
      record {
        size = size_after 1 x;
        next = else 0 (omega arith) ∙ s.next;
        count = read_back ws s.size 1 x (omega arith) 1 refl;
        log = λ i k. else (log_at + i) (omega arith) ∙ s.log i k;
        column = λ c i k. else (start c + i) (λ r. let w = start_at c in omega arith) ∙ s.column c i k;
        value = λ i j k l. else (chain_value_at + (chain_room * i + j)) (omega arith) ∙ s.value i j k l;
        writer = λ i j k l. else (chain_writer_at + (chain_room * i + j)) (omega arith) ∙ s.writer i j k l;
      }

  pub shows_log : (n x : ℕ) → n < log_room → Shows (set ws (log_at + n) x) (put_log n x v)
  shows_log n x h =
      let m = log_at + n in
      let else = read_else ws s.size m x (omega arith) in
      record {
        size = size_after m x;
        next = else 0 (omega arith) ∙ s.next;
        count = else 1 (omega arith) ∙ s.count;
        log = λ i k. read_cond ws s.size m x (omega arith) (log_at + i) (eqb i n) (v.log i) (λ u. ap (λ (z : ℕ). log_at + z) ((equal_says i n).0 u)) (λ f r. f ((equal_says i n).1 (omega arith))) (s.log i k);
        column = λ c i k. else (start c + i) (λ r. let w = start_at c in omega arith) ∙ s.column c i k;
        value = λ i j k l. else (chain_value_at + (chain_room * i + j)) (omega arith) ∙ s.value i j k l;
        writer = λ i j k l. else (chain_writer_at + (chain_room * i + j)) (omega arith) ∙ s.writer i j k l;
      }

  pub shows_column : (d : Column) (n x : ℕ) → n < column_size → Shows (set ws (start d + n) x) (put_column d n x v)
  shows_column d n x h =
      let m = start d + n in
      let sd = start_at d in
      let bd = index_below d in
      let else = read_else ws s.size m x (omega arith) in
      record {
        size = size_after m x;
        next = else 0 (omega arith) ∙ s.next;
        count = else 1 (omega arith) ∙ s.count;
        log = λ i k. else (log_at + i) (omega arith) ∙ s.log i k;
        column = λ c i k.
            read_cond ws s.size m x (omega arith) (start c + i) (same_column c d && eqb i n) (v.column c i)
            (λ u. let b = (and_says (same_column c d) (eqb i n)).0 u in ap₂ (λ (y z : ℕ). y + z) ((equal_says (start c) (start d)).0 b.0) ((equal_says i n).0 b.1))
            (λ f r.
            let sc = start_at c in
            f ((and_says (same_column c d) (eqb i n)).1 ((equal_says (start c) (start d)).1 (omega arith), (equal_says i n).1 (omega arith))))
            (s.column c i k);
        value = λ i j k l. else (chain_value_at + (chain_room * i + j)) (omega arith) ∙ s.value i j k l;
        writer = λ i j k l. else (chain_writer_at + (chain_room * i + j)) (omega arith) ∙ s.writer i j k l;
      }

  pub shows_value : (o n x : ℕ) → o < object_count → n < chain_room → Shows (set ws (chain_value_at + (chain_room * o + n)) x) (put_value o n x v)
  shows_value o n x h g =
      let m = chain_value_at + (chain_room * o + n) in
      let else = read_else ws s.size m x (omega arith) in
      record {
        size = size_after m x;
        next = else 0 (omega arith) ∙ s.next;
        count = else 1 (omega arith) ∙ s.count;
        log = λ i k. else (log_at + i) (omega arith) ∙ s.log i k;
        column = λ c i k. else (start c + i) (λ r. let w = start_at c in let b = index_below c in omega arith) ∙ s.column c i k;
        value = λ i j k l.
            read_cond ws s.size m x (omega arith) (chain_value_at + (chain_room * i + j)) (eqb i o && eqb j n) (v.value i j)
            (λ u. let b = (and_says (eqb i o) (eqb j n)).0 u in ap₂ (λ (y z : ℕ). chain_value_at + (chain_room * y + z)) ((equal_says i o).0 b.0) ((equal_says j n).0 b.1))
            (λ f r. f ((and_says (eqb i o) (eqb j n)).1 ((equal_says i o).1 (omega arith), (equal_says j n).1 (omega arith))))
            (s.value i j k l);
        writer = λ i j k l. else (chain_writer_at + (chain_room * i + j)) (omega arith) ∙ s.writer i j k l;
      }

  pub shows_writer : (o n x : ℕ) → o < object_count → n < chain_room → Shows (set ws (chain_writer_at + (chain_room * o + n)) x) (put_writer o n x v)
  shows_writer o n x h g =
      let m = chain_writer_at + (chain_room * o + n) in
      let else = read_else ws s.size m x (omega arith) in
      record {
        size = size_after m x;
        next = else 0 (omega arith) ∙ s.next;
        count = else 1 (omega arith) ∙ s.count;
        log = λ i k. else (log_at + i) (omega arith) ∙ s.log i k;
        column = λ c i k. else (start c + i) (λ r. let w = start_at c in let b = index_below c in omega arith) ∙ s.column c i k;
        value = λ i j k l. else (chain_value_at + (chain_room * i + j)) (omega arith) ∙ s.value i j k l;
        writer = λ i j k l.
            read_cond ws s.size m x (omega arith) (chain_writer_at + (chain_room * i + j)) (eqb i o && eqb j n) (v.writer i j)
            (λ u. let b = (and_says (eqb i o) (eqb j n)).0 u in ap₂ (λ (y z : ℕ). chain_writer_at + (chain_room * y + z)) ((equal_says i o).0 b.0) ((equal_says j n).0 b.1))
            (λ f r. f ((and_says (eqb i o) (eqb j n)).1 ((equal_says i o).1 (omega arith), (equal_says j n).1 (omega arith))))
            (s.writer i j k l);
      }
