-- Words of one object: what its lock, its counts and its chain's entries are after they are written, in packed tables.
-- Rests on the rules' Layout, on basics, words_laws and Loops. Assumes nothing.
use Rattle.std.specs.Prelude.{◌≡◌, refl, true, false, List, ℕ, ◌+◌, ◌<◌, eqb, length, get_or, set}
use Rattle.std.proofs.Common.{ap, sym, ◌∙◌, subst, ⊎_elim, arith, get_or-set_same, get_or-set_other}
use Rattle.std.proofs.Math.Bool.{and-false}
use Rattle.std.proofs.Math.Dec.{eqb_refl}
use Rattle.rules.specs.Tables.{Object, Tables, obj, nobody, object_count, chain_room, fresh_object, object, with_object, chain}
use Rattle.rules.specs.Steps.{unlocked}
use Rattle.rules.specs.Layout.{holder_at, working_at, no_entry, pack}
use Rattle.basics.specs.Logic.{equal_says, is_true, is_false}
use Rattle.basics.specs.Ranges.{same_or_other}
use Rattle.words_laws.specs.Says.{Column, number, accessed, written, prepared, depends, stable_value, stable_writer, stable_number, holder, working, saved_count, queued_count, cell}
use Rattle.words_laws.specs.Words.{pack_length}
use Rattle.words_laws.specs.Writes.{View, Shows, view, packed_shows, shows_packed, put_column, shows_column}

-- ---- the tests of a view at one place and elsewhere

pub itself : (i : ℕ) → eqb i i ≡ true
itself i = is_true (eqb i i) (eqb_refl i)

pub another : (k i : ℕ) → (k ≡ i → ⊥) → eqb k i ≡ false
another k i d = is_false (eqb k i) (λ t. d ((equal_says k i).0 t))

-- ---- one object written anew

-- what a column has for object i where that is b; the places' columns are as the tables hold them
abbrev pub cell_with : Tables → ℕ → Object → Column → ℕ
cell_with u i b number = cell u number i
cell_with u i b accessed = cell u accessed i
cell_with u i b written = cell u written i
cell_with u i b prepared = cell u prepared i
cell_with u i b depends = cell u depends i
cell_with u i b stable_value = b.stable.value
cell_with u i b stable_writer = b.stable.writer.num
cell_with u i b stable_number = b.stable.at.num
cell_with u i b holder = b.holder.num
cell_with u i b working = b.working
cell_with u i b saved_count = length b.saved
cell_with u i b queued_count = length b.queued

-- the view shows object i as b, and all else as the tables hold it
pub record OneObject (u : Tables) (i : ℕ) (v : View) (b : Object) : Type 0 where
  pub next : v.next ≡ u.next.num
  pub count : v.count ≡ length u.log
  pub log : (j : ℕ) → v.log j ≡ (get_or u.log j nobody).num
  pub else_column : (c : Column) (k : ℕ) → (k ≡ i → ⊥) → v.column c k ≡ cell u c k
  pub else_value : (k j : ℕ) → (k ≡ i → ⊥) → v.value k j ≡ (get_or (chain (object u (obj k))) j no_entry).value
  pub else_writer : (k j : ℕ) → (k ≡ i → ⊥) → v.writer k j ≡ (get_or (chain (object u (obj k))) j no_entry).writer.num
  pub columns : (c : Column) → v.column c i ≡ cell_with u i b c
  pub value : (j : ℕ) → j < chain_room → v.value i j ≡ (get_or (chain b) j no_entry).value
  pub writer : (j : ℕ) → j < chain_room → v.writer i j ≡ (get_or (chain b) j no_entry).writer.num

module _ (u : Tables) (n : length u.objects ≡ object_count) (i : ℕ) (h : i < object_count) (b : Object) where
  -- the object written anew is there
  pub object_there : object (with_object u (obj i) b) (obj i) ≡ b
  object_there = get_or-set_same u.objects i b fresh_object (omega arith)

  object_else : (k : ℕ) → (k ≡ i → ⊥) → object (with_object u (obj i) b) (obj k) ≡ object u (obj k)
  object_else k d = get_or-set_other u.objects i k b fresh_object d

  -- the columns of the tables with b, where object k of them is c
  cell_of : (c : Column) (k : ℕ) (o : Object) → object (with_object u (obj i) b) (obj k) ≡ o
      → cell (with_object u (obj i) b) c k ≡ cell_with u k o c
  cell_of number k o e = refl
  cell_of accessed k o e = refl
  cell_of written k o e = refl
  cell_of prepared k o e = refl
  cell_of depends k o e = refl
  cell_of stable_value k o e = ap (λ (o : Object). o.stable.value) e
  cell_of stable_writer k o e = ap (λ (o : Object). o.stable.writer.num) e
  cell_of stable_number k o e = ap (λ (o : Object). o.stable.at.num) e
  cell_of holder k o e = ap (λ (o : Object). o.holder.num) e
  cell_of working k o e = ap (λ (o : Object). o.working) e
  cell_of saved_count k o e = ap (λ (o : Object). length o.saved) e
  cell_of queued_count k o e = ap (λ (o : Object). length o.queued) e

  cell_again : (c : Column) (k : ℕ) → cell_with u k (object u (obj k)) c ≡ cell u c k
  cell_again number k = refl
  cell_again accessed k = refl
  cell_again written k = refl
  cell_again prepared k = refl
  cell_again depends k = refl
  cell_again stable_value k = refl
  cell_again stable_writer k = refl
  cell_again stable_number k = refl
  cell_again holder k = refl
  cell_again working k = refl
  cell_again saved_count k = refl
  cell_again queued_count k = refl

  -- words that show object i as b are those of the tables with b there
  pub object_packed : (ws : List ℕ) (v : View) → Shows ws v → OneObject u i v b → ws ≡ pack (with_object u (obj i) b)
  object_packed ws v s o =
      shows_packed ws v (with_object u (obj i) b) s
      (record {
        next = o.next;
        count = o.count;
        log = λ j k. o.log j;
        column = λ c k m. ⊎_elim (here c k)
            (λ d. o.else_column c k d ∙ sym (cell_of c k (object u (obj k)) (object_else k d) ∙ cell_again c k))
            (same_or_other k i);
        value = λ k j m l.
            ⊎_elim (value_here k j l)
            (λ d. o.else_value k j d ∙ ap (λ (o : Object). (get_or (chain o) j no_entry).value) (sym (object_else k d)))
            (same_or_other k i);
        writer = λ k j m l.
            ⊎_elim (writer_here k j l)
            (λ d. o.else_writer k j d
            ∙ ap (λ (o : Object). (get_or (chain o) j no_entry).writer.num) (sym (object_else k d)))
            (same_or_other k i);
      })
    where
      here : (c : Column) (k : ℕ) → k ≡ i → v.column c k ≡ cell (with_object u (obj i) b) c k
      here c k e = subst (λ (m : ℕ). v.column c m ≡ cell (with_object u (obj i) b) c m) (sym e)
          (o.columns c ∙ sym (cell_of c i b object_there))

      value_here : (k j : ℕ) → j < chain_room → k ≡ i
          → v.value k j ≡ (get_or (chain (object (with_object u (obj i) b) (obj k))) j no_entry).value
      value_here k j l e =
          subst (λ (m : ℕ). v.value m j ≡ (get_or (chain (object (with_object u (obj i) b) (obj m))) j no_entry).value)
          (sym e)
          (o.value j l ∙ ap (λ (o : Object). (get_or (chain o) j no_entry).value) (sym object_there))

      writer_here : (k j : ℕ) → j < chain_room → k ≡ i
          → v.writer k j ≡ (get_or (chain (object (with_object u (obj i) b) (obj k))) j no_entry).writer.num
      writer_here k j l e =
          subst (λ (m : ℕ). v.writer m j
          ≡ (get_or (chain (object (with_object u (obj i) b) (obj m))) j no_entry).writer.num) (sym e)
          (o.writer j l ∙ ap (λ (o : Object). (get_or (chain o) j no_entry).writer.num) (sym object_there))

-- ---- the lock

-- object i's lock free
abbrev pub unlock : ℕ → List ℕ → List ℕ
unlock i ws = set (set ws (holder_at + i) 0) (working_at + i) 0

pub unlock_packs : (u : Tables) → length u.objects ≡ object_count → (i : ℕ) → i < object_count
    → unlock i (pack u) ≡ pack (with_object u (obj i) (unlocked (object u (obj i))))
unlock_packs u n i h =
    let o = itself i in
    object_packed u n i h b (set (set (pack u) (holder_at + i) 0) (working_at + i) 0) v
    (shows_column (set (pack u) (holder_at + i) 0) (put_column holder i 0 (view u))
    (shows_column (pack u) (view u) (packed_shows u (pack_length u)) holder i 0 h) working i 0 h)
    (record {
      next = refl;
      count = refl;
      log = λ j. refl;
      else_column = λ c k d. simp (another k i d, and-false);
      else_value = λ k j d. refl;
      else_writer = λ k j d. refl;
      columns = at_i;
      value = λ j l. refl;
      writer = λ j l. refl;
    })
  where
    b : Object
    b = unlocked (object u (obj i))

    v : View
    v = put_column working i 0 (put_column holder i 0 (view u))

    at_i : (c : Column) → v.column c i ≡ cell_with u i b c
    at_i number = refl
    at_i accessed = refl
    at_i written = refl
    at_i prepared = refl
    at_i depends = refl
    at_i stable_value = refl
    at_i stable_writer = refl
    at_i stable_number = refl
    at_i holder = rw (itself i)
    at_i working = rw (itself i)
    at_i saved_count = refl
    at_i queued_count = refl
