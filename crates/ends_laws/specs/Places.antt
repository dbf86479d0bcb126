-- Words of one place and of the log's end: a place freed, its dependencies set, a record added, in packed tables.
-- Rests on the rules' Layout, on basics, words_laws, Loops and Objects. Assumes nothing.
use Rattle.std.specs.Prelude.{◌≡◌, refl, List, [], ◌∷◌, ◌++◌, ℕ, ◌+◌, ◌<◌, length, get_or, set}
use Rattle.std.proofs.Common.{ap, sym, ◌∙◌, subst, ⊎_elim, arith, length-append, get_or-set_same, get_or-set_other}
use Rattle.std.proofs.Math.Bool.{and-false}
use Rattle.std.proofs.Math.ListN.{get_or-append, get_or-eq_default}
use Rattle.std.proofs.Math.Seq.{get_or-append_seam}
use Rattle.rules.specs.Tables.{Txn, Live, Tables, txn, nobody, place_count, log_room, free_place, place, with_place}
use Rattle.rules.specs.Layout.{log_count_at, log_at, number_at, accessed_at, written_at, prepared_at, depends_at, pack, word}
use Rattle.basics.specs.Ranges.{same_or_other}
use Rattle.words_laws.specs.Says.{Column, number, accessed, written, prepared, depends, stable_value, stable_writer, stable_number, holder, working, saved_count, queued_count, cell, pack_says}
use Rattle.words_laws.specs.Words.{pack_length}
use Rattle.words_laws.specs.Writes.{View, Shows, view, packed_shows, shows_packed, put_column, put_log, put_count, shows_column, shows_log, shows_count}
use Rattle.ends_laws.specs.Loops.{reaches}
use Rattle.ends_laws.specs.Objects.{itself, another}

-- the tables with other places
abbrev pub with_places : Tables → List Live → Tables
with_places t ls = record { next = t.next; log = t.log; live = ls; objects = t.objects }

-- ---- one place written anew

-- what a column has for place p where that is l; the objects' columns are as the tables hold them
abbrev pub cell_at : Tables → ℕ → Live → Column → ℕ
cell_at u p l number = l.number.num
cell_at u p l accessed = l.accessed
cell_at u p l written = l.written
cell_at u p l prepared = l.prepared
cell_at u p l depends = l.depends
cell_at u p l stable_value = cell u stable_value p
cell_at u p l stable_writer = cell u stable_writer p
cell_at u p l stable_number = cell u stable_number p
cell_at u p l holder = cell u holder p
cell_at u p l working = cell u working p
cell_at u p l saved_count = cell u saved_count p
cell_at u p l queued_count = cell u queued_count p

-- the view with other columns
abbrev with_columns : (Column → ℕ → ℕ) → View → View
with_columns f v =
    record { next = v.next; count = v.count; log = v.log; column = f; value = v.value; writer = v.writer }

module _ (u : Tables) (n : length u.live ≡ place_count) (p : ℕ) (h : p < place_count) (l : Live) where
  cell_of : (c : Column) (k : ℕ) (m : Live) → place (set u.live p l) k ≡ m
      → cell (with_place u p l) c k ≡ cell_at u k m c
  cell_of number k m e = ap (λ (l : Live). l.number.num) e
  cell_of accessed k m e = ap (λ (l : Live). l.accessed) e
  cell_of written k m e = ap (λ (l : Live). l.written) e
  cell_of prepared k m e = ap (λ (l : Live). l.prepared) e
  cell_of depends k m e = ap (λ (l : Live). l.depends) e
  cell_of stable_value k m e = refl
  cell_of stable_writer k m e = refl
  cell_of stable_number k m e = refl
  cell_of holder k m e = refl
  cell_of working k m e = refl
  cell_of saved_count k m e = refl
  cell_of queued_count k m e = refl

  cell_again : (c : Column) (k : ℕ) → cell_at u k (place u.live k) c ≡ cell u c k
  cell_again number k = refl
  cell_again accessed k = refl
  cell_again written k = refl
  cell_again prepared k = refl
  cell_again depends k = refl
  cell_again stable_value k = refl
  cell_again stable_writer k = refl
  cell_again stable_number k = refl
  cell_again holder k = refl
  cell_again working k = refl
  cell_again saved_count k = refl
  cell_again queued_count k = refl

  -- words that show place p as l, and all else as the tables hold it, are those of the tables with l there
  pub place_packed : (ws : List ℕ) (f : Column → ℕ → ℕ) → Shows ws (with_columns f (view u))
      → ((c : Column) (k : ℕ) → (k ≡ p → ⊥) → f c k ≡ cell u c k) → ((c : Column) → f c p ≡ cell_at u p l c)
      → ws ≡ pack (with_place u p l)
  place_packed ws f s else here =
      shows_packed ws (with_columns f (view u)) (with_place u p l) s
      (record {
        next = refl;
        count = refl;
        log = λ j k. refl;
        column = λ c k m.
            ⊎_elim
            (λ e.
            subst (λ (j : ℕ). f c j ≡ cell (with_place u p l) c j) (sym e)
            (here c ∙ sym (cell_of c p l (get_or-set_same u.live p l free_place (omega arith)))))
            (λ d.
            else c k d
            ∙ sym (cell_of c k (place u.live k) (get_or-set_other u.live p k l free_place d) ∙ cell_again c k))
            (same_or_other k p);
        value = λ k j m l. refl;
        writer = λ k j m l. refl;
      })

-- ---- a place freed

abbrev pub free_words : ℕ → List ℕ → List ℕ
free_words p ws =
    set (set (set (set (set ws (number_at + p) 0) (accessed_at + p) 0) (written_at + p) 0) (prepared_at + p) 0)
    (depends_at + p) 0

pub free_packs : (u : Tables) → length u.live ≡ place_count → (p : ℕ) → p < place_count
    → free_words p (pack u) ≡ pack (with_place u p free_place)
free_packs u n p h = place_packed u n p h free_place ws5 v5.column s5 (λ c k d. simp (another k p d, and-false)) here
  where
    v1 : View
    v1 = put_column number p 0 (view u)

    v2 : View
    v2 = put_column accessed p 0 v1

    v3 : View
    v3 = put_column written p 0 v2

    v4 : View
    v4 = put_column prepared p 0 v3

    v5 : View
    v5 = put_column depends p 0 v4

    ws1 : List ℕ
    ws1 = set (pack u) (number_at + p) 0

    ws2 : List ℕ
    ws2 = set ws1 (accessed_at + p) 0

    ws3 : List ℕ
    ws3 = set ws2 (written_at + p) 0

    ws4 : List ℕ
    ws4 = set ws3 (prepared_at + p) 0

    ws5 : List ℕ
    ws5 = set ws4 (depends_at + p) 0

    s5 : Shows ws5 v5
    s5 =
        let s1 = shows_column (pack u) (view u) (packed_shows u (pack_length u)) number p 0 h in
        let s2 = shows_column ws1 v1 s1 accessed p 0 h in
        let s3 = shows_column ws2 v2 s2 written p 0 h in
        let s4 = shows_column ws3 v3 s3 prepared p 0 h in
        shows_column ws4 v4 s4 depends p 0 h

    here : (c : Column) → v5.column c p ≡ cell_at u p free_place c
    here number = rw (itself p)
    here accessed = rw (itself p)
    here written = rw (itself p)
    here prepared = rw (itself p)
    here depends = rw (itself p)
    here stable_value = refl
    here stable_writer = refl
    here stable_number = refl
    here holder = refl
    here working = refl
    here saved_count = refl
    here queued_count = refl

-- ---- a place's dependencies set

-- the transaction that depends on the given places alone
abbrev pub depending : Live → ℕ → Live
depending l s =
    record { number = l.number; accessed = l.accessed; written = l.written; prepared = l.prepared; depends = s }

pub depends_packs : (u : Tables) → length u.live ≡ place_count → (p : ℕ) → p < place_count → (s : ℕ)
    → set (pack u) (depends_at + p) s ≡ pack (with_place u p (depending (place u.live p) s))
depends_packs u n p h s =
    place_packed u n p h (depending (place u.live p) s) (set (pack u) (depends_at + p) s)
    (put_column depends p s (view u)).column
    (shows_column (pack u) (view u) (packed_shows u (pack_length u)) depends p s h)
    (λ c k d. simp (another k p d, and-false))
    here
  where
    here : (c : Column) → (put_column depends p s (view u)).column c p ≡ cell_at u p (depending (place u.live p) s) c
    here number = refl
    here accessed = refl
    here written = refl
    here prepared = refl
    here depends = rw (itself p)
    here stable_value = refl
    here stable_writer = refl
    here stable_number = refl
    here holder = refl
    here working = refl
    here saved_count = refl
    here queued_count = refl

-- ---- a record added

-- the tables with another log
abbrev pub with_log : Tables → List Txn → Tables
with_log u rs = record { next = u.next; log = rs; live = u.live; objects = u.objects }

abbrev pub add_record : ℕ → List ℕ → List ℕ
add_record x ws = set (set ws (log_at + word ws log_count_at) x) log_count_at (word ws log_count_at + 1)

pub record_packs : (u : Tables) (x : ℕ) → length u.log < log_room
    → add_record x (pack u) ≡ pack (with_log u (u.log ++ txn x ∷ []))
record_packs u x h =
    let n = length u.log in
    ap (λ (m : ℕ). set (set (pack u) (log_at + m) x) log_count_at (m + 1)) (pack_says u).log_count
    ∙ shows_packed (set (set (pack u) (log_at + n) x) log_count_at (n + 1)) (put_count (n + 1) (put_log n x (view u)))
    (with_log u (u.log ++ txn x ∷ []))
    (shows_count (set (pack u) (log_at + n) x) (put_log n x (view u))
    (shows_log (pack u) (view u) (packed_shows u (pack_length u)) n x h) (n + 1))
    (record {
      next = refl;
      count = sym (length-append u.log (txn x ∷ []));
      log = λ i k. ⊎_elim (here i) (else i) (same_or_other i n);
      column = same_columns;
      value = λ k j m l. refl;
      writer = λ k j m l. refl;
    })
  where
    here : (i : ℕ) → i ≡ length u.log
        → (put_log (length u.log) x (view u)).log i ≡ (get_or (u.log ++ txn x ∷ []) i nobody).num
    here i e =
        subst (λ (j : ℕ). (put_log (length u.log) x (view u)).log j ≡ (get_or (u.log ++ txn x ∷ []) j nobody).num)
        (sym e)
        (rw (itself (length u.log)) (ap (λ (y : Txn). y.num) (sym (get_or-append_seam u.log (txn x) [] nobody))))

    else : (i : ℕ) → (i ≡ length u.log → ⊥)
        → (put_log (length u.log) x (view u)).log i ≡ (get_or (u.log ++ txn x ∷ []) i nobody).num
    else i d =
        rw (another i (length u.log) d)
        (ap (λ (y : Txn). y.num)
        (⊎_elim
        (λ g.
        get_or-eq_default u.log nobody {n = i} g
        ∙ sym (get_or-eq_default (u.log ++ txn x ∷ []) nobody {n = i}
        (omega (arith, length-append u.log (txn x ∷ [])))))
        (λ g. sym (get_or-append u.log (txn x ∷ []) nobody i g))
        (reaches i (length u.log))))

    same_columns : (c : Column) (i : ℕ) → i < 32 → cell u c i ≡ cell (with_log u (u.log ++ txn x ∷ [])) c i
    same_columns number i k = refl
    same_columns accessed i k = refl
    same_columns written i k = refl
    same_columns prepared i k = refl
    same_columns depends i k = refl
    same_columns stable_value i k = refl
    same_columns stable_writer i k = refl
    same_columns stable_number i k = refl
    same_columns holder i k = refl
    same_columns working i k = refl
    same_columns saved_count i k = refl
    same_columns queued_count i k = refl
