-- Words that say what tables hold, word by word: packed tables are the one run of the right length that does.
-- Rests on the rules' Layout and on Parts. Assumes nothing.
use Rattle.std.specs.Prelude.{◌≡◌, refl, List, [], ◌∷◌, ℕ, ◌+◌, ◌*◌, ◌/◌, ◌%◌, ◌≤◌, ◌<◌, length, get_or, take}
use Rattle.std.proofs.Common.{ap, ap₂, sym, ◌∙◌, arith}
use Rattle.rules.specs.Tables.{txn, lsn, Entry, Tables, obj, nobody, object_count, chain_room, log_room, object, place, chain}
use Rattle.rules.specs.Layout.{next_at, log_count_at, log_at, number_at, accessed_at, written_at, prepared_at, depends_at, stable_value_at, stable_writer_at, stable_number_at, holder_at, working_at, saved_count_at, queued_count_at, chain_value_at, chain_writer_at, word_count, chain_words, no_entry, chain_entry, pack, word, live_in, version_in, entry_in}
use Rattle.words_laws.specs.Parts.{Part, part, extend, Agrees, ◌then◌, extend_front, extend_agrees, agrees_extend}

-- the columns of 32 words, in their order
pub data Column : Type 0 where
  number accessed written prepared depends : Column
  stable_value stable_writer stable_number holder working saved_count queued_count : Column

-- where a column begins
abbrev pub start : Column → ℕ
start number = number_at
start accessed = accessed_at
start written = written_at
start prepared = prepared_at
start depends = depends_at
start stable_value = stable_value_at
start stable_writer = stable_writer_at
start stable_number = stable_number_at
start holder = holder_at
start working = working_at
start saved_count = saved_count_at
start queued_count = queued_count_at

-- what a column has for place or object i
abbrev pub cell : Tables → Column → ℕ → ℕ
cell t number i = (place t.live i).number.num
cell t accessed i = (place t.live i).accessed
cell t written i = (place t.live i).written
cell t prepared i = (place t.live i).prepared
cell t depends i = (place t.live i).depends
cell t stable_value i = (object t (obj i)).stable.value
cell t stable_writer i = (object t (obj i)).stable.writer.num
cell t stable_number i = (object t (obj i)).stable.at.num
cell t holder i = (object t (obj i)).holder.num
cell t working i = (object t (obj i)).working
cell t saved_count i = length (object t (obj i)).saved
cell t queued_count i = length (object t (obj i)).queued

-- how many words a column has
abbrev pub column_size : ℕ
column_size = 32

-- the words say what the tables hold
pub record Says (ws : List ℕ) (t : Tables) : Type 0 where
  pub next : word ws next_at ≡ t.next.num
  pub log_count : word ws log_count_at ≡ length t.log
  pub log : (i : ℕ) → i < log_room → word ws (log_at + i) ≡ (get_or t.log i nobody).num
  pub column : (c : Column) (i : ℕ) → i < column_size → word ws (start c + i) ≡ cell t c i
  pub chain_value : (i j : ℕ) → i < object_count → j < chain_room
      → word ws (chain_value_at + (chain_room * i + j)) ≡ (get_or (chain (object t (obj i))) j no_entry).value
  pub chain_writer : (i j : ℕ) → i < object_count → j < chain_room
      → word ws (chain_writer_at + (chain_room * i + j)) ≡ (get_or (chain (object t (obj i))) j no_entry).writer.num

-- ---- places, versions and entries read off words that say what tables hold

module _ (ws : List ℕ) (t : Tables) (s : Says ws t) (i : ℕ) (h : i < column_size) where
  -- the place that the words give is the tables'
  pub place_said : live_in ws i ≡ place t.live i
  place_said =
      let c : (d : Column) → word ws (start d + i) ≡ cell t d i = λ d. s.column d i h in
      λ n.
      record {
        number = txn (c number n);
        accessed = c accessed n;
        written = c written n;
        prepared = c prepared n;
        depends = c depends n;
      }

  -- and so is the stable version
  pub version_said : version_in ws i ≡ (object t (obj i)).stable
  version_said =
      let c : (d : Column) → word ws (start d + i) ≡ cell t d i = λ d. s.column d i h in
      λ n. record { value = c stable_value n; writer = txn (c stable_writer n); at = lsn (c stable_number n) }

  -- and so is each entry of the chain
  pub entry_said : (j : ℕ) → j < chain_room → entry_in ws i j ≡ get_or (chain (object t (obj i))) j no_entry
  entry_said j k = λ n. record { value = s.chain_value i j h k n; writer = txn (s.chain_writer i j h k n) }

-- ---- packed tables, part by part

-- the parts of the packed words after the first two
unfoldable pub parts : Tables → List Part
parts t =
    part log_room (λ i. (get_or t.log i nobody).num)
    ∷ of number
    ∷ of accessed
    ∷ of written
    ∷ of prepared
    ∷ of depends
    ∷ of stable_value
    ∷ of stable_writer
    ∷ of stable_number
    ∷ of holder
    ∷ of working
    ∷ of saved_count
    ∷ of queued_count
    ∷ part chain_words (λ k. (chain_entry t k).value)
    ∷ part chain_words (λ k. (chain_entry t k).writer.num)
    ∷ []
  where
    of : Column → Part
    of c = part column_size (cell t c)

-- the first two packed words
abbrev pub first_words : Tables → List ℕ
first_words t = t.next.num ∷ length t.log ∷ []

-- packed tables are the first two words and then the parts
pub pack_parts : (t : Tables) → pack t ≡ extend (first_words t) (parts t)
unfolding pack parts
pack_parts t = refl

-- ---- words that say what tables hold are words that agree with the tables' parts

module _ (ws : List ℕ) (t : Tables) where
  -- entry j of object i's chain is entry 8 * i + j of all chains, whatever is read off it
  entry_to : (f : Entry → ℕ) (base : ℕ) → ((k : ℕ) → k < chain_words → word ws (base + k) ≡ f (chain_entry t k))
      → (i j : ℕ) → i < object_count → j < chain_room
      → word ws (base + (chain_room * i + j)) ≡ f (get_or (chain (object t (obj i))) j no_entry)
  entry_to f base e i j h k =
      e (chain_room * i + j) (omega arith)
      ∙ ap₂ (λ (p q : ℕ). f (get_or (chain (object t (obj p))) q no_entry)) (omega arith) (omega arith)

  entry_from : (f : Entry → ℕ) (base : ℕ)
      → ((i j : ℕ) → i < object_count → j < chain_room
      → word ws (base + (chain_room * i + j)) ≡ f (get_or (chain (object t (obj i))) j no_entry))
      → (k : ℕ) → k < chain_words → word ws (base + k) ≡ f (chain_entry t k)
  entry_from f base e k h =
      ap (λ (n : ℕ). word ws (base + n)) (omega arith)
      ∙ e (k / chain_room) (k % chain_room) (omega arith) (omega arith)

  says_of : word ws next_at ≡ t.next.num → word ws log_count_at ≡ length t.log → Agrees ws log_at (parts t)
      → Says ws t
  unfolding parts
  says_of e f a =
      record {
        next = e;
        log_count = f;
        log = a.0;
        column = go;
        chain_value = entry_to (λ x. x.value) chain_value_at a.1.1.1.1.1.1.1.1.1.1.1.1.1.0;
        chain_writer = entry_to (λ x. x.writer.num) chain_writer_at a.1.1.1.1.1.1.1.1.1.1.1.1.1.1.0;
      }
    where
      go : (c : Column) (i : ℕ) → i < column_size → word ws (start c + i) ≡ cell t c i
      go number = a.1.0
      go accessed = a.1.1.0
      go written = a.1.1.1.0
      go prepared = a.1.1.1.1.0
      go depends = a.1.1.1.1.1.0
      go stable_value = a.1.1.1.1.1.1.0
      go stable_writer = a.1.1.1.1.1.1.1.0
      go stable_number = a.1.1.1.1.1.1.1.1.0
      go holder = a.1.1.1.1.1.1.1.1.1.0
      go working = a.1.1.1.1.1.1.1.1.1.1.0
      go saved_count = a.1.1.1.1.1.1.1.1.1.1.1.0
      go queued_count = a.1.1.1.1.1.1.1.1.1.1.1.1.0

  says_agrees : Says ws t → Agrees ws log_at (parts t)
  unfolding parts
  says_agrees s =
      s.log
      then c number
      then c accessed
      then c written
      then c prepared
      then c depends
      then c stable_value
      then c stable_writer
      then c stable_number
      then c holder
      then c working
      then c saved_count
      then c queued_count
      then entry_from (λ x. x.value) chain_value_at s.chain_value
      then entry_from (λ x. x.writer.num) chain_writer_at s.chain_writer
      then tt
    where
      c : (d : Column) (i : ℕ) → i < column_size → word ws (start d + i) ≡ cell t d i
      c = s.column

-- ---- packed tables say what the tables hold

-- each word of packed tables: the next number, the log's count and records, the columns, the chains
pub pack_says : (t : Tables) → Says (pack t) t
pack_says t =
    let first = extend_front (first_words t) (parts t) in
    rw (pack_parts t)
    (says_of (extend (first_words t) (parts t)) t
    (first 0 (omega arith))
    (first 1 (omega arith))
    (extend_agrees (first_words t) (parts t)))

take_two : (ws : List ℕ) → 2 ≤ length ws → take 2 ws ≡ get_or ws 0 0 ∷ get_or ws 1 0 ∷ []
take_two [] h = absurd (omega arith)
take_two (x ∷ []) h = absurd (omega arith)
take_two (x ∷ y ∷ ws) h = refl

-- words of the right length that say what tables hold are the packed tables
pub says_packed : (ws : List ℕ) (t : Tables) → length ws ≡ word_count → Says ws t → pack t ≡ ws
unfolding parts
says_packed ws t e s =
    pack_parts t
    ∙ ap (λ (l : List ℕ). extend l (parts t)) first
    ∙ agrees_extend ws log_at (parts t) (says_agrees ws t s) (sym e)
  where
    first : first_words t ≡ take log_at ws
    first = sym (take_two ws (omega arith) ∙ (λ i. s.next i ∷ s.log_count i ∷ []))
