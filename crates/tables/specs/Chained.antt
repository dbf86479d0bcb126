-- An object's chain, as the words give it: its entries, its queued ones, its writers and the latest version, index by index.
-- Rests on the rules' Layout, on basics, words_laws, Test and At. Assumes nothing.
use Rattle.std.specs.Prelude.{◌≡◌, List, map, ℕ, suc, ◌+◌, ◌≤◌, ◌<◌, length, get_or}
use Rattle.std.proofs.Common.{ap, sym, ◌∙◌, subst, arith}
use Rattle.std.proofs.lemmas.List.{length-map}
use Rattle.std.proofs.Math.ListN.{get_or-map}
use Rattle.rules.specs.Tests.{row}
use Rattle.rules.specs.Tables.{Entry, txn, nobody, chain_room, chain, stable_entry, latest}
use Rattle.rules.specs.Layout.{saved_count_at, queued_count_at, no_entry, word, entry_in, saved_count_in, queued_count_in, object_in}
use Rattle.basics.specs.Ranges.{length_row, getD_row}
use Rattle.basics.specs.Lists.{All, All-at, Neighbours}
use Rattle.words_laws.specs.Parts.{row_more}
use Rattle.tables.specs.Test.{length_in, writer_in}
use Rattle.tables.specs.At.{at_All, Neighbours-at, at_Neighbours, last_none, last_at}

module _ (ws : List ℕ) (o : ℕ) (fits : length_in ws o ≤ chain_room) where
  -- the chain's entries are the words'
  pub chain_is : chain (object_in ws o) ≡ row (length_in ws o) (entry_in ws o)
  chain_is =
      row_more (saved_count_in ws o) (queued_count_in ws o) (entry_in ws o)
      ∙ ap (λ (n : ℕ). row n (entry_in ws o)) (let e : saved_count_in ws o + queued_count_in ws o ≡ length_in ws o = omega arith in e)

  pub chain_length : length (chain (object_in ws o)) ≡ length_in ws o
  chain_length = ap length chain_is ∙ length_row (length_in ws o) (entry_in ws o)

  pub chain_at : (j : ℕ) → j < length_in ws o → get_or (chain (object_in ws o)) j no_entry ≡ entry_in ws o j
  chain_at j h =
      ap (λ (l : List Entry). get_or l j no_entry) chain_is ∙ getD_row (length_in ws o) (entry_in ws o) j no_entry h

  pub queued_length : length (object_in ws o).queued ≡ word ws (queued_count_at + o)
  queued_length =
      length_row (queued_count_in ws o) (λ j. entry_in ws o (saved_count_in ws o + j))
      ∙ (let e : queued_count_in ws o ≡ word ws (queued_count_at + o) = omega arith in e)

  pub queued_at : (j : ℕ) → j < word ws (queued_count_at + o) → get_or (object_in ws o).queued j no_entry
      ≡ entry_in ws o (word ws (saved_count_at + o) + j)
  queued_at j h =
      getD_row (queued_count_in ws o) (λ k. entry_in ws o (saved_count_in ws o + k)) j no_entry (omega arith)
      ∙ ap (λ (n : ℕ). entry_in ws o (n + j)) (let e : saved_count_in ws o ≡ word ws (saved_count_at + o) = omega arith in e)

  -- what holds of each entry
  pub each_entry : (P : Entry → Type 0) → ((j : ℕ) → j < length_in ws o → P (entry_in ws o j)) → All P (chain (object_in ws o))
  each_entry P f =
      at_All no_entry P (chain (object_in ws o))
      (λ j h.
      let k : j < length_in ws o = omega (arith, chain_length) in
      subst P (sym (chain_at j k)) (f j k))

  pub of_entry : (P : Entry → Type 0) → All P (chain (object_in ws o)) → (j : ℕ) → j < length_in ws o → P (entry_in ws o j)
  of_entry P a j h = subst P (chain_at j h) (All-at P (chain (object_in ws o)) j no_entry a (rw chain_length h))

  -- and of each two neighbours
  pub each_pair : (R : Entry → Entry → Type 0) → ((j : ℕ) → suc j < length_in ws o → R (entry_in ws o j) (entry_in ws o (suc j)))
      → Neighbours R (chain (object_in ws o))
  each_pair R f =
      at_Neighbours no_entry R (chain (object_in ws o))
      (λ j h.
      let k : suc j < length_in ws o = omega (arith, chain_length) in
      rw (chain_at j (omega arith), chain_at (suc j) k) (f j k))

  pub of_pair : (R : Entry → Entry → Type 0) → Neighbours R (chain (object_in ws o)) → (j : ℕ) → suc j < length_in ws o
      → R (entry_in ws o j) (entry_in ws o (suc j))
  of_pair R r j h =
      rw (chain_at j (omega arith), chain_at (suc j) h) at (Neighbours-at no_entry R (chain (object_in ws o)) r j (rw chain_length h))

  -- the writers
  pub writer_at : (j : ℕ) → j < length_in ws o → get_or (map (λ e. e.writer) (chain (object_in ws o))) j nobody ≡ txn (writer_in ws o j)
  writer_at j h =
      get_or-map (λ (e : Entry). e.writer) (chain (object_in ws o)) j no_entry ∙ ap (λ (e : Entry). e.writer) (chain_at j h)

  pub writers_length : length (map (λ e. e.writer) (chain (object_in ws o))) ≡ length_in ws o
  writers_length = length-map (chain (object_in ws o)) (λ (e : Entry). e.writer) ∙ chain_length

  -- the latest version's entry, by the number of entries
  pub latest_first : length_in ws o ≡ 0 → latest (object_in ws o) ≡ stable_entry (object_in ws o)
  unfolding latest
  latest_first e = last_none no_entry (stable_entry (object_in ws o)) (chain (object_in ws o)) (chain_length ∙ e)

  pub latest_at : (m : ℕ) → length_in ws o ≡ suc m → latest (object_in ws o) ≡ entry_in ws o m
  unfolding latest
  latest_at m e = last_at no_entry (stable_entry (object_in ws o)) (chain (object_in ws o)) m (chain_length ∙ e) ∙ chain_at m (omega arith)
