-- The words that undo writes are what the rules' undo packs to.
-- Rests on the rules' Layout, Falls and Steps, on basics, words_laws, sound_laws, and on Loops to Cuts. Assumes nothing.
use Rattle.std.specs.Prelude.{◌≡◌, Bool, not, ◌&&◌, T, eqb, ltb, length, get_or, set}
use Rattle.std.proofs.Math.Path.{refl, ap, sym}
use Rattle.std.proofs.Common.{ap₂, ◌∙◌, subst, arith, lt→ltb, length-append, length-set, set-set}
use Rattle.std.proofs.Math.Bool.{true, false, cond}
use mathlib.Core.List.{List, ◌++◌}
use Prim.Native.Nat.{ℕ, ◌+◌, ◌-◌, ◌<◌, ◌≤◌, min}
use borrow.Author.Tests.{lt-ltb, le-ltb}
use Rattle.std.proofs.lemmas.List.{set-get_or}
use Rattle.rules.specs.Tests.{lowest, keep}
use Rattle.rules.specs.Sets.{has}
use Rattle.rules.specs.Tables.{Entry, Object, Live, Tables, txn, obj, object_count, place_count, chain_room, fresh_object, free_place, object, place, with_object, chain}
use Rattle.rules.specs.Falls.{falls}
use Rattle.rules.specs.Steps.{unlocked, chained, undone, undo}
use Rattle.rules.specs.Layout.{holder_at, saved_count_at, queued_count_at, no_entry, pack, word}
use Rattle.basics.specs.Logic.{and_says, not_says, equal_says}
use Rattle.basics.specs.Ranges.{IsLowest, lowest_is}
use Rattle.basics.specs.Lists.{keep_append, keep_front}
use Rattle.words_laws.specs.Says.{holder, saved_count, queued_count, pack_says}
use Rattle.sound_laws.specs.Means.{Sound}
use Rattle.sound_laws.specs.Abort.{Closed, stay_first}
use Rattle.ends_laws.specs.Loops.{loop, loop_row}
use Rattle.ends_laws.specs.Fronts.{PassFirst, keep_same, kept_parts}
use Rattle.ends_laws.specs.Objects.{object_there, unlock, unlock_packs}
use Rattle.ends_laws.specs.Places.{with_places, free_words, free_packs}
use Rattle.ends_laws.specs.Scans.{falls_in, first_fall, falls_packed, first_fall_packed}
use Rattle.ends_laws.specs.Cuts.{cut_chain, with_objects, object_again, cut_packs}

-- object i's lock free if one of those at the places f holds it
abbrev pub unlock_fallen : ℕ → ℕ → List ℕ → List ℕ
unlock_fallen f i ws = cond (falls_in ws f (word ws (holder_at + i))) (unlock i ws) ws

-- by whether the holder falls
module _ (f i : ℕ) (ws : List ℕ) (x : ℕ) (there : x ≡ word ws (holder_at + i)) where
  pub lock_freed : true ≡ falls_in ws f x → {vs : List ℕ} → vs ≡ unlock i ws → vs ≡ unlock_fallen f i ws
  lock_freed t e = e ∙ sym (rw (← there, ← t))

  pub lock_kept : false ≡ falls_in ws f x → ws ≡ unlock_fallen f i ws
  lock_kept t = sym (rw (← there, ← t))

-- object i's chain is empty
abbrev pub no_entries : List ℕ → ℕ → Bool
no_entries ws i = eqb (word ws (saved_count_at + i)) 0 && eqb (word ws (queued_count_at + i)) 0

-- object i's chain up to the first of those at the places f; nothing is written where none of them is in it
abbrev pub undo_chain : ℕ → ℕ → List ℕ → List ℕ
undo_chain f i ws =
    let k = first_fall ws f i in
    cond (no_entries ws i) ws (cond (ltb k chain_room) (cut_chain i k ws) ws)

-- the three ways to leave a chain: it is empty, its first that falls is entry k, or none falls
module _ (f i : ℕ) (ws : List ℕ) where
  pub chain_empty : true ≡ no_entries ws i → ws ≡ undo_chain f i ws
  chain_empty e = rw (← e)

  module _ (some : false ≡ no_entries ws i) (k : ℕ) (first : k ≡ first_fall ws f i) where
    pub chain_cut : k < chain_room → {vs : List ℕ} → vs ≡ cut_chain i k ws → vs ≡ undo_chain f i ws
    chain_cut h e = e ∙ sym (rw (← some, ← first, lt-ltb k chain_room h))

    pub chain_whole : chain_room ≤ k → ws ≡ undo_chain f i ws
    chain_whole h = sym (rw (← some, ← first, le-ltb k chain_room h))

-- object i without those at the places f
abbrev pub undo_object : ℕ → ℕ → List ℕ → List ℕ
undo_object f i ws = unlock_fallen f i (undo_chain f i ws)

-- place p, free if it is one of the places f
abbrev pub undo_place : ℕ → ℕ → List ℕ → List ℕ
undo_place f p ws = cond (has f p) (free_words p ws) ws

unfoldable pub undo_words : ℕ → List ℕ → List ℕ
undo_words f ws = loop place_count (undo_place f) (loop object_count (undo_object f) ws)

-- ---- one object

-- an object whose holder is one of those at the places f has its lock free
abbrev lock_undone : List Live → ℕ → Object → Object
lock_undone ls f b = cond (falls ls f b.holder) (unlocked b) b

lock_packs : (u : Tables) → length u.objects ≡ object_count → (f i : ℕ) → i < object_count
    → unlock_fallen f i (pack u) ≡ pack (with_object u (obj i) (lock_undone u.live f (object u (obj i))))
lock_packs u size f i h =
    let b = object u (obj i) in
    ap (λ (free : Bool). cond free (unlock i (pack u)) (pack u))
    (falls_packed u f (word (pack u) (holder_at + i))
    ∙ ap (λ (x : ℕ). falls u.live f (txn x)) ((pack_says u).column holder i h))
    ∙ go (falls u.live f b.holder)
  where
    go : (free : Bool) → cond free (unlock i (pack u)) (pack u)
        ≡ pack (with_object u (obj i) (cond free (unlocked (object u (obj i))) (object u (obj i))))
    go true = unlock_packs u size i h
    go false = object_again u i

module _ (u : Tables) (size : length u.objects ≡ object_count) (f i : ℕ) (h : i < object_count) where
  abbrev b : Object
  b = object u (obj i)

  abbrev stays : Entry → Bool
  stays e = not (falls u.live f e.writer)

  abbrev chain_left : Object
  chain_left = chained b (keep stays b.saved) (keep stays b.queued)

  module _ (first : PassFirst stays (chain b)) (fits : length (chain b) ≤ chain_room) where
    chain_packs : undo_chain f i (pack u) ≡ pack (with_object u (obj i) chain_left)
    chain_packs =
        ap (λ (n : ℕ). cond (no_entries ws i) ws (cond (ltb n chain_room) (cut_chain i n ws) ws))
        (first_fall_packed u f i h)
        ∙ go (no_entries ws i) none_there (ltb k chain_room) none_falls
      where
        ws : List ℕ
        ws = pack u

        saved : List Entry
        saved = keep stays b.saved

        queued : List Entry
        queued = keep stays b.queued

        now : Tables
        now = with_object u (obj i) chain_left

        k : ℕ
        k = lowest chain_room (λ j. falls u.live f (get_or (chain b) j no_entry).writer)

        low : IsLowest chain_room (λ j. falls u.live f (get_or (chain b) j no_entry).writer) k
        low = lowest_is chain_room (λ j. falls u.live f (get_or (chain b) j no_entry).writer)

        rest : (ys : List Entry) × (chain b ≡ keep stays (chain b) ++ ys)
        rest = keep_front stays (chain b) first

        lengths : (length saved ≡ min (length b.saved) k)
            × (length queued ≡ min (length b.queued) (k - min (length b.saved) k))
        lengths =
            kept_parts stays no_entry b.saved b.queued first chain_room k fits
            (λ j l m. (not_says (falls u.live f (get_or (chain b) j no_entry).writer)).1 (low.none_below j l))
            (λ l v. (not_says (falls u.live f (get_or (chain b) k no_entry).writer)).0 v (low.passes l))

        -- where no entry falls the tables are as they were
        same : length b.saved ≤ length saved → length b.queued ≤ length queued → ws ≡ pack now
        same m l =
            object_again u i
            ∙ ap₂ (λ (s q : List Entry). pack (with_object u (obj i) (chained b s q)))
            (sym (keep_same stays b.saved m)) (sym (keep_same stays b.queued l))

        none_there : T (no_entries ws i) → ws ≡ pack now
        none_there t =
            let w = (and_says (eqb (word ws (saved_count_at + i)) 0) (eqb (word ws (queued_count_at + i)) 0)).0 t in
            let m = (equal_says (word ws (saved_count_at + i)) 0).0 w.0 in
            let l = (equal_says (word ws (queued_count_at + i)) 0).0 w.1 in
            same (omega (arith, (pack_says u).column saved_count i h)) (omega (arith, (pack_says u).column queued_count i h))

        none_falls : (T (ltb k chain_room) → ⊥) → ws ≡ pack now
        none_falls d =
            let g : k < chain_room → ⊥ = λ l. d (lt→ltb k chain_room l) in
            let m = length-append b.saved b.queued in
            same (omega (arith, lengths.0)) (omega (arith, lengths.1))

        go : (z : Bool) → (T z → ws ≡ pack now) → (y : Bool) → ((T y → ⊥) → ws ≡ pack now)
            → cond z ws (cond y (cut_chain i k ws) ws) ≡ pack now
        go true e y d = e tt
        go false e true d =
            cut_packs u size i h k saved queued rest.0
            (rest.1 ∙ ap (λ (l : List Entry). l ++ rest.0) (keep_append stays b.saved b.queued)) lengths.0
            lengths.1
        go false e false d = d (λ t. t)

    object_packs : undo_object f i (pack u) ≡ pack (with_object u (obj i) (undone u.live f b))
    unfolding undone
    object_packs =
        let w = with_object u (obj i) chain_left in
        ap (unlock_fallen f i) chain_packs
        ∙ lock_packs w (length-set u.objects i chain_left ∙ size) f i h
        ∙ ap (λ (o : Object). pack (with_object w (obj i) (lock_undone u.live f o)))
        (object_there u size i h chain_left)
        ∙ ap (λ (bs : List Object). pack (with_objects u bs))
        (set-set u.objects i chain_left (lock_undone u.live f chain_left))
        ∙ ap (λ (o : Object). pack (with_object u (obj i) o)) (either (falls u.live f b.holder))
      where
        either : (free : Bool) → cond free (unlocked chain_left) chain_left
            ≡ chained (cond free (unlocked b) b) (keep stays b.saved) (keep stays b.queued)
        either true = refl
        either false = refl

-- ---- all objects, then all places

module _ (t : Tables) (s : Sound t) (f : ℕ) (closed : Closed t.live f) where
  object_undone : (i : ℕ) (bs : List Object) → i < length t.objects → length bs ≡ length t.objects
      → get_or bs i fresh_object ≡ object t (obj i)
      → undo_object f i (pack (with_objects t bs))
      ≡ pack (with_objects t (set bs i (undone t.live f (object t (obj i)))))
  object_undone i bs m n e =
      let h : i < object_count = omega (arith, s.objects_count) in
      object_packs (with_objects t bs) (n ∙ s.objects_count) f i h
      (subst (λ (o : Object). PassFirst (λ e. not (falls t.live f e.writer)) (chain o)) (sym e)
      (stay_first t s f closed i h))
      (subst (λ (o : Object). length (chain o) ≤ chain_room) (sym e) (s.object_ok i h).fits)
      ∙ ap (λ (o : Object). pack (with_objects t (set bs i (undone t.live f o)))) e

  place_undone : (u : Tables) (p : ℕ) (ls : List Live) → p < length t.live → length ls ≡ length t.live
      → place ls p ≡ place t.live p
      → undo_place f p (pack (with_places u ls))
      ≡ pack (with_places u (set ls p (cond (has f p) free_place (place t.live p))))
  place_undone u p ls m n e = go (has f p)
    where
      go : (b : Bool) → cond b (free_words p (pack (with_places u ls))) (pack (with_places u ls))
          ≡ pack (with_places u (set ls p (cond b free_place (place t.live p))))
      go true = free_packs (with_places u ls) (n ∙ s.places_count) p (omega (arith, s.places_count))
      go false =
          ap (λ (l : List Live). pack (with_places u l)) (sym (set-get_or ls p free_place))
          ∙ ap (λ (l : Live). pack (with_places u (set ls p l))) e

  pub undo_packs : undo_words f (pack t) ≡ pack (undo t f)
  unfolding undo_words undo
  undo_packs =
      let o : ℕ → Object → Object = λ i b. undone t.live f b in
      let l : ℕ → Live → Live = λ p l. cond (has f p) free_place l in
      ap (loop place_count (undo_place f))
      (loop_row fresh_object o t.objects (with_objects t) (undo_object f) object_undone object_count
      s.objects_count)
      ∙ loop_row free_place l t.live (with_places (undo t f)) (undo_place f) (place_undone (undo t f)) place_count
      s.places_count
