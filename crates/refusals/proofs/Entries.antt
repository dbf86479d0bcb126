-- An object that lacks an entry by the words lacks it by the tables, and what a loop over entries or objects meets.
-- Rests on the rules' Tests, Answers and Layout, on basics and words_laws, and on Readings. Assumes nothing.
use mathlib.Core.Path.{◌≡◌, refl, ap, ap₂, sym, ◌∙◌}
use mathlib.Core.Bool.{Bool, true, false, not, cond, ◌&&◌}
use mathlib.Core.List.{List, [], ◌∷◌, ◌++◌}
use Prim.Native.Nat.{ℕ, zero, suc, ◌≤◌, ◌<◌}
use native.Mathlib.Omega.{arith}
use lib.Dec.{T}
use Rattle.rules.specs.Tests.{all, every, row, lowest}
use Rattle.rules.specs.Sets.{has}
use Rattle.rules.specs.Tables.{Txn, Entry, Live, Object, obj, same, object_count, chain_room, object, chain}
use Rattle.rules.specs.Answers.{wrote_one_of}
use Rattle.rules.specs.Layout.{unpack, entry_in, saved_count_in, queued_count_in, sound_words}
use Rattle.basics.specs.Ranges.{lowest_is, one_lowest, lowest_same}
use Rattle.words_laws.specs.Parts.{row_more}
use Rattle.words_laws.specs.Fits.{chain_count_in}
use Rattle.words_laws.specs.Unpacked.{object_read}
use Rattle.lookups.specs.Entries.{wrote_none}
use Rattle.lookups.proofs.Fitting.{fitting}
use Rattle.calls.specs.Meaning.{txn_of, IsLive}
use Rattle.calls.specs.declared.existing.Live as calls
use Rattle.refusals.proofs.Readings.{asker, asker_read}
use Rattle.refusals.specs.Lacking.{counted_in, lacks_in, is_lacking}

-- ---- a test over a row is a test over the numbers below its length

and_true : (b : Bool) → (b && true) ≡ b
and_true true = refl
and_true false = refl

not_not : (b : Bool) → not (not b) ≡ b
not_not true = refl
not_not false = refl

module _ {A : Type 0} (passes : A → Bool) where
  all_more : (xs : List A) (y : A) → all passes (xs ++ y ∷ []) ≡ (all passes xs && passes y)
  unfolding all
  all_more [] y = and_true (passes y)
  all_more (x ∷ xs) y = go (passes x) (all_more xs y)
    where
      go : (b : Bool) → all passes (xs ++ y ∷ []) ≡ (all passes xs && passes y)
          → (b && all passes (xs ++ y ∷ [])) ≡ ((b && all passes xs) && passes y)
      go true e = e
      go false e = refl

  all_row : (n : ℕ) (f : ℕ → A) → all passes (row n f) ≡ every n (λ j. passes (f j))
  unfolding all row every
  all_row zero f = refl
  all_row (suc n) f = all_more (row n f) (f n) ∙ ap (λ (b : Bool). b && passes (f n)) (all_row n f)

-- ---- the entries that count

module _ (ws : List ℕ) (s : T (sound_words ws)) where
  abbrev entries : Bool → ℕ → List Entry
  entries queued i = let b : Object = object (unpack ws) (obj i) in cond queued (chain b) b.saved

  entries_read : (queued : Bool) (i : ℕ) → i < object_count → entries queued i ≡ row (counted_in ws queued i) (entry_in ws i)
  entries_read true i h =
      let fits : chain_count_in ws i ≤ chain_room = (fitting ws s).chain_count_fits i h in
      ap chain (object_read ws i h)
      ∙ row_more (saved_count_in ws i) (queued_count_in ws i) (entry_in ws i)
      ∙ ap (λ (n : ℕ). row n (entry_in ws i)) (omega arith)
  entries_read false i h =
      let fits : chain_count_in ws i ≤ chain_room = (fitting ws s).chain_count_fits i h in
      ap (λ (b : Object). b.saved) (object_read ws i h)
      ∙ ap (λ (n : ℕ). row n (entry_in ws i)) (omega arith)

  lacks_says : (x : Txn) (queued : Bool) (i : ℕ) → i < object_count → lacks_in ws x queued i ≡ not (wrote_one_of x (entries queued i))
  unfolding wrote_none
  lacks_says x queued i h =
      let other : Entry → Bool = λ e. not (same e.writer x) in
      sym
      (not_not (all other (entries queued i))
      ∙ ap (all other) (entries_read queued i h)
      ∙ all_row other (counted_in ws queued i) (entry_in ws i))

  -- the lowest that lacks an entry by the words does so by the tables
  pub first_lacking_says : (l : calls.Live) → IsLive (unpack ws) l → (queued : Bool)
      → lowest object_count (is_lacking ws (txn_of l.who) l.place.num queued)
      ≡ lowest object_count (λ i. has (asker ws l).written i && not (wrote_one_of (txn_of l.who) (entries queued i)))
  first_lacking_says l e queued =
      lowest_same object_count (is_lacking ws (txn_of l.who) l.place.num queued)
      (λ i. has (asker ws l).written i && not (wrote_one_of (txn_of l.who) (entries queued i)))
      (λ i h. ap₂ ◌&&◌ (ap (λ (q : Live). has q.written i) (asker_read ws s l e)) (lacks_says (txn_of l.who) queued i h))

-- the first that passes is the lowest

pub first_met : (n : ℕ) (f : ℕ → Bool) (i : ℕ) → i ≤ n → ((k : ℕ) → k < i → T (f k) → ⊥) → (i < n → T (f i)) → i ≡ lowest n f
first_met n f i h before here =
    one_lowest n f f i (lowest n f) (λ k m t. t) (λ k m t. t)
    (record { at_most = h; none_below = before; passes = here })
    (lowest_is n f)
