-- The words that restart writes are what the rules' restart packs to: every object settled, then cut to its stable
-- version, and all places free.
-- Rests on the rules' Layout and Steps, on basics, words_laws, sound_laws, and on Loops to Settle. Assumes nothing.
use Rattle.std.specs.Prelude.{◌≡◌, Bool, false, not, cond, T, ◌==◌, eqb, length, get_or, set, take, drop, count_by, slice_range}
use Rattle.std.proofs.Math.Path.{refl, ap, sym}
use Rattle.std.proofs.Common.{ap₂, ◌∙◌, ⊎_elim, le_refl, add-one, arith}
use mathlib.Core.List.{List, [], ◌++◌, map, append-nil}
use Prim.Native.Nat.{ℕ, zero, suc, ◌+◌, ◌<◌, ◌≤◌}
use Rattle.std.proofs.lemmas.List.{get_or-drop, get_or_past, take_all}
use Rattle.std.proofs.lemmas.List.Sums.{length-filter}
use Rattle.std.proofs.lemmas.List.Filters.{length-filter_more}
use Rattle.rules.specs.Tests.{row, count, keep, leading, after_leading, last_or}
use Rattle.rules.specs.Tables.{Entry, Object, Live, Tables, obj, object_count, place_count, fresh_object, free_place, object, place, chain, is_free}
use Rattle.rules.specs.Steps.{version_of, entry_logged, unlocked, chained, settled, settle, durable, restart, live_count}
use Rattle.rules.specs.Layout.{number_at, accessed_at, pack, word, sound_words}
use Rattle.basics.specs.Ranges.{length_row, getD_row, row_same, count_same}
use Rattle.basics.specs.Lists.{Neighbours-front, leading_split, after_leading_none, keep_pass}
use Rattle.words_laws.specs.Says.{number, pack_says}
use Rattle.words_laws.specs.Words.{packed_sound}
use Rattle.sound_laws.specs.Means.{LoggedFirst, Sound, tests}
use Rattle.sound_laws.specs.Storage.{settle_sound}
use Rattle.ends_laws.specs.Loops.{reaches, loop, loop_row, turns, turns_after, turns_row}
use Rattle.ends_laws.specs.Fronts.{keep_leading}
use Rattle.ends_laws.specs.Places.{with_places, free_words, free_packs}
use Rattle.ends_laws.specs.Cuts.{keep_saved, with_objects, keep_saved_packs}

-- the tables after the first n objects were settled
unfoldable pub settle_first : ℕ → Tables → Tables
settle_first zero t = t
settle_first (suc n) t = settle (settle_first n t) (obj n)

-- object i with its stable version alone
abbrev pub wipe : ℕ → List ℕ → List ℕ
wipe i = keep_saved i 0

-- how many of the first n places are used
abbrev pub used_below : List ℕ → ℕ → ℕ
used_below ws n = count n (λ p. not (eqb (word ws (number_at + p)) 0))

-- how many places are used
abbrev pub used_count : List ℕ → ℕ
used_count ws = count_by (λ n. not (n == 0)) (slice_range ws number_at accessed_at)

-- one place more, as the code counts
pub used_more : (ws : List ℕ) (p n r : ℕ) → n ≡ used_below ws p → r ≡ cond (not (eqb (word ws (number_at + p)) 0)) 1 0
    → n + r ≡ used_below ws (p + 1)
unfolding count
used_more ws p n r e f = ap₂ ◌+◌ e f ∙ ap (used_below ws) (sym (add-one p))

-- what is left of the words once every object is settled
unfoldable pub wipe_words : List ℕ → List ℕ
wipe_words ws = loop place_count free_words (loop object_count wipe ws)

-- to count the first elements that pass is to count their places: those past the end are 0, which does not pass
counted : (p : ℕ → Bool) → p 0 ≡ false → (xs : List ℕ) (n : ℕ) → count_by p (take n xs) ≡ count n (λ i. p (get_or xs i 0))
unfolding count
counted p e xs zero = refl
counted p e xs (suc n) =
    ⊎_elim past here (reaches n (length xs)) ∙ ap (λ (k : ℕ). k + cond (p (get_or xs n 0)) 1 0) (counted p e xs n)
  where
    past : length xs ≤ n → count_by p (take (suc n) xs) ≡ count_by p (take n xs) + cond (p (get_or xs n 0)) 1 0
    past h =
        let none = ap {B = ℕ} (λ (b : Bool). cond b 1 0) (ap p (get_or_past xs n 0 h) ∙ e) in
        let same = ap (count_by p) (take_all (suc n) xs (omega arith) ∙ sym (take_all n xs h)) in
        omega (arith, same, none)

    here : n < length xs → count_by p (take (suc n) xs) ≡ count_by p (take n xs) + cond (p (get_or xs n 0)) 1 0
    here h =
        ap (λ (k : ℕ). count_by p (take k xs)) (sym (add-one n))
        ∙ sym (length-filter p (take (n + 1) xs))
        ∙ length-filter_more p xs n 0 h
        ∙ ap (λ (k : ℕ). k + cond (p (get_or xs n 0)) 1 0) (length-filter p (take n xs))

-- all places are the first 32
pub used_all : (ws : List ℕ) → used_count ws ≡ used_below ws place_count
used_all ws =
    let is_used : ℕ → Bool = λ n. not (n == 0) in
    counted is_used refl (drop number_at ws) place_count
    ∙ count_same place_count (λ p. is_used (get_or (drop number_at ws) p 0)) (λ p. is_used (word ws (number_at + p)))
    (λ p h. ap is_used (get_or-drop number_at ws p 0))

pub used_packed : (t : Tables) → used_count (pack t) ≡ live_count t
unfolding live_count
used_packed t =
    used_all (pack t)
    ∙ count_same place_count (λ p. not (eqb (word (pack t) (number_at + p)) 0)) (λ p. not (is_free (place t.live p)))
    (λ p h. ap (λ (n : ℕ). not (eqb n 0)) ((pack_says t).column number p h))

module _ (t : Tables) (s : Sound t) where
  pub settle_first_sound : (n : ℕ) → n ≤ object_count → Sound (settle_first n t)
  unfolding settle_first
  settle_first_sound zero h = s
  settle_first_sound (suc n) h = settle_sound (settle_first n t) (settle_first_sound n (omega arith)) n h

  -- so the words at each turn are sound
  pub settle_first_words : (n : ℕ) → n ≤ object_count → T (sound_words (pack (settle_first n t)))
  settle_first_words n h = packed_sound (settle_first n t) (tests (settle_first n t) (settle_first_sound n h))

  abbrev settle_one : ℕ → Object → Object
  settle_one i b = settled t.log b

  first_is : (n : ℕ) → settle_first n t ≡ with_objects t (turns fresh_object settle_one t.objects n)
  unfolding settle_first turns settle
  first_is zero = refl
  first_is (suc n) =
      let bs = turns fresh_object settle_one t.objects n in
      ap (λ (u : Tables). settle u (obj n)) (first_is n)
      ∙ ap (λ (b : Object). with_objects t (set bs n (settled t.log b)))
      (turns_after fresh_object settle_one t.objects n n (le_refl n))

  abbrev all_settled : List Object
  all_settled = row object_count (λ i. settled t.log (object t (obj i)))

  first_all : settle_first object_count t ≡ with_objects t all_settled
  first_all =
      first_is object_count
      ∙ ap (with_objects t) (turns_row fresh_object settle_one t.objects object_count s.objects_count)

  -- an object with its stable version alone
  abbrev bare : Object → Object
  bare b = chained (unlocked b) [] []

  object_wiped : (i : ℕ) (bs : List Object) → i < length all_settled → length bs ≡ length all_settled
      → get_or bs i fresh_object ≡ get_or all_settled i fresh_object
      → wipe i (pack (with_objects t bs)) ≡ pack (with_objects t (set bs i (bare (get_or all_settled i fresh_object))))
  object_wiped i bs m n e =
      let size = length_row object_count (λ i. settled t.log (object t (obj i))) in
      let b = get_or all_settled i fresh_object in
      keep_saved_packs (with_objects t bs) (n ∙ size) i (omega arith) b e [] (chain b) refl

  -- settled and bare, an object is what storage has of it, settled
  bare_durable : (i : ℕ) → i < object_count
      → bare (settled t.log (object t (obj i))) ≡ settled t.log (durable t.log (object t (obj i)))
  unfolding settled durable
  bare_durable i h =
      let b = object t (obj i) in
      let p = entry_logged t.log in
      let kept = keep p b.saved in
      let lead : kept ≡ leading p b.saved =
      keep_leading p b.saved
      (Neighbours-front (LoggedFirst t.log) b.saved b.queued (s.object_ok i h).logged_first) in
      let none : after_leading p kept ≡ [] = after_leading_none p kept (keep_pass p b.saved) in
      let all : kept ≡ leading p kept =
      leading_split p kept ∙ ap (λ (l : List Entry). leading p kept ++ l) none ∙ append-nil (leading p kept) in
      let stable = ap (λ (l : List Entry). last_or b.stable (map (version_of t.log) l)) (sym lead ∙ all) in
      let saved = sym none in
      λ n. record { stable = stable n; holder = record { num = 0 }; working = 0; saved = saved n; queued = [] }

  place_freed : (u : Tables) (p : ℕ) (ls : List Live) → p < length t.live → length ls ≡ length t.live
      → place ls p ≡ place t.live p
      → free_words p (pack (with_places u ls)) ≡ pack (with_places u (set ls p free_place))
  place_freed u p ls m n e = free_packs (with_places u ls) (n ∙ s.places_count) p (omega (arith, s.places_count))

  pub restart_packs : wipe_words (pack (settle_first object_count t)) ≡ pack (restart t)
  unfolding wipe_words restart
  restart_packs =
      let size = length_row object_count (λ i. settled t.log (object t (obj i))) in
      ap (λ (u : Tables). loop place_count free_words (loop object_count wipe (pack u))) first_all
      ∙ ap (loop place_count free_words)
      (loop_row fresh_object (λ i. bare) all_settled (with_objects t) wipe object_wiped object_count size
      ∙ ap (λ (bs : List Object). pack (with_objects t bs))
      (row_same object_count (λ i. bare (get_or all_settled i fresh_object))
      (λ i. settled t.log (durable t.log (object t (obj i))))
      (λ i h.
      ap bare (getD_row object_count (λ i. settled t.log (object t (obj i))) i fresh_object h) ∙ bare_durable i h)))
      ∙ loop_row free_place (λ p l. free_place) t.live (with_places (restart t)) free_words
      (place_freed (restart t)) place_count s.places_count
