-- The words that settle writes are what the rules' settle packs to. In sound tables an entry is logged exactly when its
-- writer is not live, so the entries that leave are the saved ones before the first live one.
-- Rests on the rules' Layout, Falls and Steps, on basics, words_laws, sound_laws, and on Loops to Cuts. Assumes nothing.
use Rattle.std.specs.Prelude.{◌≡◌, cond, T, get_or, set}
use Rattle.std.proofs.Math.Path.{refl, ap, ap₂, sym}
use Rattle.std.proofs.Common.{◌∙◌, ⊎_elim, not-suc-le-zero, arith, length-append, get_or-append-add}
use Rattle.std.proofs.Math.Bool.{Bool, and-false}
use mathlib.Core.List.{List, [], ◌∷◌, ◌++◌, map, append_assoc}
use Prim.Native.Nat.{ℕ, suc, ◌+◌, ◌-◌, ◌<◌, ◌≤◌, min}
use Rattle.std.proofs.Math.ListN.{length, get_or-append, get_or-eq_default}
use Rattle.rules.specs.Tests.{every, lowest, leading, after_leading, last_or}
use Rattle.rules.specs.Sets.{has}
use Rattle.rules.specs.Tables.{Txn, Version, Entry, Object, Tables, txn, obj, object_count, place_count, chain_room, object, with_object, place_of, is_live, log_number, chain}
use Rattle.rules.specs.Falls.{falls}
use Rattle.rules.specs.Steps.{version_of, entry_logged, settled, settle, settle_count}
use Rattle.rules.specs.Layout.{stable_value_at, stable_writer_at, stable_number_at, saved_count_at, no_entry, pack, word}
use Rattle.basics.specs.Logic.{and_says}
use Rattle.basics.specs.Ranges.{IsLowest, lowest_is, every_at}
use Rattle.basics.specs.Lists.{All-at, Neighbours, Neighbours-front, leading_split}
use Rattle.words_laws.specs.Says.{Column, number, accessed, written, prepared, depends, stable_value, stable_writer, stable_number, holder, working, saved_count, queued_count, pack_says}
use Rattle.words_laws.specs.Words.{pack_length}
use Rattle.words_laws.specs.Writes.{View, Shows, view, packed_shows, put_column, shows_column}
use Rattle.sound_laws.specs.Means.{Accounted, LoggedFirst, Sound}
use Rattle.sound_laws.specs.Live.{live_at}
use Rattle.sound_laws.specs.Known.{logged_not_live}
use Rattle.ends_laws.specs.Loops.{reaches}
use Rattle.ends_laws.specs.Fronts.{keep_leading, kept_parts}
use Rattle.ends_laws.specs.Objects.{itself, another, cell_with, object_packed}
use Rattle.ends_laws.specs.Entries.{value_place, writer_place, clear, slide, among, put_entries, clear_shows, slide_shows, among_from, not_among_from, among_below}
use Rattle.ends_laws.specs.Cuts.{object_again}
use Rattle.ends_laws.specs.Scans.{falls_in, first_fall, first_fall_packed}

-- the set of all places
abbrev pub all_places : ℕ
all_places = 4_294_967_295

-- how many of object o's entries leave: the saved ones before the first whose writer is live
abbrev pub settle_number : List ℕ → ℕ → ℕ
settle_number ws o = min (word ws (saved_count_at + o)) (first_fall ws all_places o)

-- no more than a chain holds, or than are saved
pub settle_number_most : (ws : List ℕ) (o : ℕ)
    → (settle_number ws o ≤ chain_room) × (settle_number ws o ≤ word ws (saved_count_at + o))
unfolding first_fall
settle_number_most ws o =
    let most = (lowest_is chain_room (λ j. falls_in ws all_places (word ws (writer_place o j)))).at_most in
    (omega arith, omega arith)

-- object o with entry k - 1 as its stable version, under the log number n, and with k saved entries fewer
abbrev pub put_stable : ℕ → ℕ → ℕ → List ℕ → List ℕ
put_stable o k n ws =
    let stable = set (set ws (stable_value_at + o) (word ws (value_place o (k - 1)))) (stable_writer_at + o)
    (word ws (writer_place o (k - 1))) in
    set (set stable (stable_number_at + o) n) (saved_count_at + o) (word ws (saved_count_at + o) - k)

-- and without its first k entries
abbrev pub settle_object : ℕ → ℕ → ℕ → List ℕ → List ℕ
settle_object o k n ws = clear o (chain_room - k) (slide o k (put_stable o k n ws))

-- ---- which entries leave

all_there : (p : ℕ) → p < place_count → T (has all_places p)
unfolding every has
all_there p h = every_at place_count (has all_places) tt p h

-- the last of some versions is that of the last entry
last_version_at : (rs : List Txn) (v : Version) (es : List Entry) → 0 < length es
    → last_or v (map (version_of rs) es) ≡ version_of rs (get_or es (length es - 1) no_entry)
unfolding last_or
last_version_at rs v [] h = absurd (not-suc-le-zero h)
last_version_at rs v (e ∷ []) h = refl
last_version_at rs v (e ∷ f ∷ fs) h =
    last_version_at rs (version_of rs e) (f ∷ fs) (omega arith)
    ∙ ap (λ (n : ℕ). version_of rs (get_or (e ∷ f ∷ fs) n no_entry)) (sym up)
  where
    up : length (e ∷ f ∷ fs) - 1 ≡ suc (length (f ∷ fs) - 1)
    up = omega arith

module _ (t : Tables) (s : Sound t) (o : ℕ) (h : o < object_count) where
  abbrev b : Object
  b = object t (obj o)

  abbrev logged : Entry → Bool
  logged = entry_logged t.log

  abbrev lead : List Entry
  lead = leading logged b.saved

  abbrev rest : List Entry
  rest = after_leading logged b.saved ++ b.queued

  falls_live : (x : Txn) → T (falls t.live all_places x) → T (is_live t.live x)
  unfolding falls
  falls_live x u = ((and_says (is_live t.live x) (has all_places (place_of t.live x))).0 u).0

  live_falls : (x : Txn) → T (is_live t.live x) → T (falls t.live all_places x)
  unfolding falls
  live_falls x u =
      (and_says (is_live t.live x) (has all_places (place_of t.live x))).1
      (u, all_there (place_of t.live x) (live_at t.live x u).below)

  pub settle_number_packed : settle_number (pack t) o ≡ settle_count t (obj o)
  unfolding settle_count
  settle_number_packed =
      ap₂ min ((pack_says t).column saved_count o h) (first_fall_packed t all_places o h)
      ∙ sym (kept_parts logged no_entry b.saved b.queued ok_first chain_room k
      (s.object_ok o h).fits before here).0
      ∙ ap length
      (keep_leading logged b.saved (Neighbours-front (LoggedFirst t.log) b.saved b.queued ok_first))
    where
      live_at_entry : ℕ → Bool
      live_at_entry j = falls t.live all_places (get_or (chain b) j no_entry).writer

      k : ℕ
      k = lowest chain_room live_at_entry

      low : IsLowest chain_room live_at_entry k
      low = lowest_is chain_room live_at_entry

      ok_first : Neighbours (LoggedFirst t.log) (chain b)
      ok_first = (s.object_ok o h).logged_first

      before : (j : ℕ) → j < k → j < length (chain b) → T (logged (get_or (chain b) j no_entry))
      before j g m =
          ⊎_elim (λ u. u) (λ u. absurd (low.none_below j g (live_falls (get_or (chain b) j no_entry).writer u.0)))
          (All-at (Accounted t.live t.log o) (chain b) j no_entry (s.object_ok o h).accounted m)

      here : k < chain_room → T (logged (get_or (chain b) k no_entry)) → ⊥
      here g u =
          logged_not_live t s (get_or (chain b) k no_entry).writer u
          (falls_live (get_or (chain b) k no_entry).writer (low.passes g))

  -- ---- the object's parts before and after

  saved_parts : b.saved ≡ lead ++ after_leading logged b.saved
  saved_parts = leading_split logged b.saved

  chain_parts : chain b ≡ lead ++ rest
  chain_parts =
      ap (λ (l : List Entry). l ++ b.queued) saved_parts
      ∙ append_assoc lead (after_leading logged b.saved) b.queued

  -- where none leaves, nothing changes
  pub settle_none : settle_count t (obj o) ≡ 0 → pack t ≡ pack (settle t (obj o))
  unfolding settle_count settle settled last_or
  settle_none e =
      let none : lead ≡ [] = empty lead e in
      let stable : last_or b.stable (map (version_of t.log) lead) ≡ b.stable =
      ap (λ (l : List Entry). last_or b.stable (map (version_of t.log) l)) none in
      let saved : after_leading logged b.saved ≡ b.saved =
      sym (saved_parts ∙ ap (λ (l : List Entry). l ++ after_leading logged b.saved) none) in
      let same : settled t.log b ≡ b =
      λ n. record {
        stable = stable n;
        holder = b.holder;
        working = b.working;
        saved = saved n;
        queued = b.queued;
      } in
      object_again t o ∙ ap (λ (c : Object). pack (with_object t (obj o) c)) (sym same)
    where
      empty : (es : List Entry) → length es ≡ 0 → es ≡ []
      empty [] e = refl
      empty (x ∷ es) e = absurd (omega arith)

  pub settle_some : 0 < settle_count t (obj o)
      → settle_object o (settle_count t (obj o))
      (log_number t.log (txn (word (pack t) (writer_place o (settle_count t (obj o) - 1))))).num (pack t)
      ≡ pack (settle t (obj o))
  unfolding settle_count settle settled
  settle_some g =
      object_packed t s.objects_count o h new (clear o (chain_room - k) (slide o k ws4))
      (put_entries o (λ m. (chain_room - k) + m) (λ j. 0) (λ j. 0) (chain_room - (chain_room - k)) v5)
      (clear_shows o h (chain_room - k) (slide o k ws4) v5 (slide_shows o h k ws4 v4 s4))
      (record {
        next = refl;
        count = refl;
        log = λ j. refl;
        else_column = λ c j d. simp (another j o d, and-false);
        else_value = λ i j d. rw (another i o d);
        else_writer = λ i j d. rw (another i o d);
        columns = at_o;
        value = λ j l. rw (itself o) (moved (λ e. e.value) j l refl);
        writer = λ j l. rw (itself o) (moved (λ e. e.writer.num) j l refl);
      })
    where
      k : ℕ
      k = length lead

      new : Object
      new = settled t.log b

      last : Entry
      last = get_or (chain b) (k - 1) no_entry

      fits : k + length rest ≤ chain_room
      fits = omega (arith, (s.object_ok o h).fits, ap length chain_parts, length-append lead rest)

      value : ℕ
      value = word (pack t) (value_place o (k - 1))

      writer : ℕ
      writer = word (pack t) (writer_place o (k - 1))

      value_is : value ≡ last.value
      value_is = (pack_says t).chain_value o (k - 1) h (omega (arith, fits))

      writer_is : writer ≡ last.writer.num
      writer_is = (pack_says t).chain_writer o (k - 1) h (omega (arith, fits))

      stable_is : new.stable ≡ version_of t.log last
      stable_is =
          last_version_at t.log b.stable lead g
          ∙ ap (version_of t.log)
          (sym (ap (λ (l : List Entry). get_or l (k - 1) no_entry) chain_parts
          ∙ get_or-append lead rest no_entry (k - 1) (omega arith)))

      n : ℕ
      n = (log_number t.log (txn writer)).num

      fewer : ℕ
      fewer = word (pack t) (saved_count_at + o) - k

      v1 : View
      v1 = put_column stable_value o value (view t)

      v2 : View
      v2 = put_column stable_writer o writer v1

      v3 : View
      v3 = put_column stable_number o n v2

      v4 : View
      v4 = put_column saved_count o fewer v3

      v5 : View
      v5 = put_entries o (λ m. m) (λ j. v4.value o (j + k)) (λ j. v4.writer o (j + k)) (chain_room - k) v4

      ws1 : List ℕ
      ws1 = set (pack t) (stable_value_at + o) value

      ws2 : List ℕ
      ws2 = set ws1 (stable_writer_at + o) writer

      ws3 : List ℕ
      ws3 = set ws2 (stable_number_at + o) n

      ws4 : List ℕ
      ws4 = set ws3 (saved_count_at + o) fewer

      s4 : Shows ws4 v4
      s4 =
          let s1 = shows_column (pack t) (view t) (packed_shows t (pack_length t)) stable_value o value h in
          let s2 = shows_column ws1 v1 s1 stable_writer o writer h in
          let s3 = shows_column ws2 v2 s2 stable_number o n h in
          shows_column ws3 v3 s3 saved_count o fewer h

      at_o : (c : Column) → v4.column c o ≡ cell_with t o new c
      at_o number = refl
      at_o accessed = refl
      at_o written = refl
      at_o prepared = refl
      at_o depends = refl
      at_o stable_value = rw (itself o) (value_is ∙ ap (λ (v : Version). v.value) (sym stable_is))
      at_o stable_writer = rw (itself o) (writer_is ∙ ap (λ (v : Version). v.writer.num) (sym stable_is))
      at_o stable_number =
          rw (itself o)
          (ap (λ (x : ℕ). (log_number t.log (txn x)).num) writer_is
          ∙ ap (λ (v : Version). v.at.num) (sym stable_is))
      at_o holder = refl
      at_o working = refl
      at_o saved_count =
          rw (itself o)
          (omega (
            arith,
            (pack_says t).column saved_count o h,
            ap length saved_parts,
            length-append lead
                (after_leading logged b.saved),
          ))
      at_o queued_count = refl

      moved : (f : Entry → ℕ) (j : ℕ) → j < chain_room → f no_entry ≡ 0
          → cond (among (λ m. (chain_room - k) + m) (chain_room - (chain_room - k)) j) 0
          (cond (among (λ m. m) (chain_room - k) j) (f (get_or (chain b) (j + k) no_entry))
          (f (get_or (chain b) j no_entry)))
          ≡ f (get_or rest j no_entry)
      moved f j l z =
          ⊎_elim
          (λ m.
          rw (among_from (chain_room - k) j m l)
          (sym z ∙ ap f (sym (get_or-eq_default rest no_entry {n = j} (omega (arith, fits))))))
          (λ m.
          rw (not_among_from (chain_room - k) j m, among_below (chain_room - k) j m)
          (ap f
          (ap₂ (λ (es : List Entry) (i : ℕ). get_or es i no_entry) chain_parts (omega arith)
          ∙ get_or-append-add lead rest j no_entry)))
          (reaches j (chain_room - k))
