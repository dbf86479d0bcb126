-- Words and tables before a step: sound words show what their tables hold. A field of the objects or of the places,
-- where one of them is set anew: a column of words, seen from the tables.
-- Rests on basics, words_laws, sound_laws and Left. Assumes nothing.
use Rattle.std.specs.Prelude.{◌≡◌, refl, cond, List, ℕ, ◌+◌, ◌<◌, T, eqb, length, get_or, set}
use Rattle.std.proofs.Common.{ap, ap₂, sym, ◌∙◌, subst, ⊎_elim, length-append, get_or-set_same, get_or-set_other}
use Rattle.rules.specs.Tables.{Object, Live, txn, obj, object_count, place_count, fresh_object, free_place, object, place, chain, place_of, is_live}
use Rattle.rules.specs.Layout.{unpack, sound_words}
use Rattle.basics.specs.Logic.{equal_says, cond_true, cond_false}
use Rattle.basics.specs.Ranges.{same_or_other}
use Rattle.words_laws.specs.Says.{saved_count, queued_count}
use Rattle.words_laws.specs.Words.{pack_length, words_again, unpacked_sound}
use Rattle.words_laws.specs.Writes.{Shows, view, packed_shows}
use Rattle.sound_laws.specs.Means.{Sound, means}
use Rattle.sound_laws.specs.Live.{live_at}
use Rattle.locks_laws.specs.Left.{chain_end}

-- y set anew at k, in a list whose elements past the end are d; f is the field
module _ {A : Type 0} (xs : List A) (k : ℕ) (y d : A) (h : k < length xs) (f : A → ℕ) (j : ℕ) where
  -- what is y's field at k, and the old one elsewhere, is the field at j
  either : (w : ℕ) → (j ≡ k → w ≡ f y) → ((j ≡ k → ⊥) → w ≡ f (get_or xs j d)) → w ≡ f (get_or (set xs k y) j d)
  either w same else =
      ⊎_elim
      (λ e. same e ∙ ap f (sym (get_or-set_same xs k y d h)) ∙ ap (λ (n : ℕ). f (get_or (set xs k y) n d)) (sym e))
      (λ n. else n ∙ ap f (sym (get_or-set_other xs k j y d n)))
      (same_or_other j k)

  changed : (x : ℕ) → x ≡ f y → cond (eqb j k) x (f (get_or xs j d)) ≡ f (get_or (set xs k y) j d)
  changed x r =
      either (cond (eqb j k) x (f (get_or xs j d)))
      (λ e. cond_true (eqb j k) x (f (get_or xs j d)) ((equal_says j k).1 e) ∙ r)
      (λ n. cond_false (eqb j k) x (f (get_or xs j d)) (λ t. n ((equal_says j k).0 t)))

  kept : f (get_or xs k d) ≡ f y → f (get_or xs j d) ≡ f (get_or (set xs k y) j d)
  kept r = either (f (get_or xs j d)) (λ e. ap (λ (n : ℕ). f (get_or xs n d)) e ∙ r) (λ n. refl)

module _ (ws : List ℕ) (s : T (sound_words ws)) where
  pub shown : Shows ws (view (unpack ws))
  shown =
      subst (λ (l : List ℕ). Shows l (view (unpack ws))) (words_again ws s)
      (packed_shows (unpack ws) (pack_length (unpack ws)))

  pub facts : Sound (unpack ws)
  facts = means (unpack ws) (unpacked_sound ws s)

  -- the chain ends where its two counts' sum says
  pub chain_ends : (o : ℕ) → o < object_count → chain_end ws o ≡ length (chain (object (unpack ws) (obj o)))
  chain_ends o h =
      let b : Object = object (unpack ws) (obj o) in
      ap₂ (λ (m n : ℕ). m + n) (shown.column saved_count o h) (shown.column queued_count o h)
      ∙ sym (length-append b.saved b.queued)

  -- object o set anew
  module _ (o : ℕ) (h : o < object_count) (b : Object) (f : Object → ℕ) (i : ℕ) where
    object_there : o < length (unpack ws).objects
    object_there = subst (λ (n : ℕ). o < n) (sym facts.objects_count) h

    pub object_either : (w : ℕ) → (i ≡ o → w ≡ f b) → ((i ≡ o → ⊥) → w ≡ f (object (unpack ws) (obj i)))
        → w ≡ f (get_or (set (unpack ws).objects o b) i fresh_object)
    object_either = either (unpack ws).objects o b fresh_object object_there f i

    pub object_changed : (x : ℕ) → x ≡ f b
        → cond (eqb i o) x (f (object (unpack ws) (obj i))) ≡ f (get_or (set (unpack ws).objects o b) i fresh_object)
    object_changed = changed (unpack ws).objects o b fresh_object object_there f i

    pub object_kept : f (object (unpack ws) (obj o)) ≡ f b
        → f (object (unpack ws) (obj i)) ≡ f (get_or (set (unpack ws).objects o b) i fresh_object)
    object_kept = kept (unpack ws).objects o b fresh_object object_there f i

  -- place p set anew
  module _ (p : ℕ) (h : p < place_count) (l : Live) (f : Live → ℕ) (i : ℕ) where
    place_there : p < length (unpack ws).live
    place_there = subst (λ (n : ℕ). p < n) (sym facts.places_count) h

    pub place_changed : (x : ℕ) → x ≡ f l
        → cond (eqb i p) x (f (place (unpack ws).live i)) ≡ f (place (set (unpack ws).live p l) i)
    place_changed = changed (unpack ws).live p l free_place place_there f i

    pub place_kept : f (place (unpack ws).live p) ≡ f l
        → f (place (unpack ws).live i) ≡ f (place (set (unpack ws).live p l) i)
    place_kept = kept (unpack ws).live p l free_place place_there f i

-- ---- what a step of a transaction on an object may assume

-- sound words, one of the 32 objects, a live transaction and its place
abbrev pub Called : List ℕ → ℕ → ℕ → ℕ → Type 0
Called ws x p o =
    T (sound_words ws)
    × (o < object_count)
    × T (is_live (unpack ws).live (txn x))
    × (p ≡ place_of (unpack ws).live (txn x))

pub place_below : (ws : List ℕ) (x p o : ℕ) → Called ws x p o → p < place_count
place_below ws x p o c =
    subst (λ (q : ℕ). q < place_count) (sym c.3) (live_at (unpack ws).live (txn x) c.2).below
