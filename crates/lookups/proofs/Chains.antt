-- An object's latest version, as the words have it.
-- Rests on the rules' Tables and Layout, on basics and on words_laws. Assumes nothing.
use mathlib.Core.Path.{◌≡◌, refl, ap, sym, ◌∙◌}
use mathlib.Core.List.{List}
use Prim.Native.Nat.{ℕ, zero, suc, ◌-◌, ◌≤◌, ◌<◌}
use native.Mathlib.Omega.{arith}
use Rattle.rules.specs.Tests.{row, last_or}
use Rattle.rules.specs.Tables.{Entry, obj, object_count, chain_room, object, stable_entry, latest}
use Rattle.rules.specs.Layout.{unpack, entry_in, object_in, saved_count_in, queued_count_in}
use Rattle.basics.specs.Lists.{last_more}
use Rattle.words_laws.specs.Parts.{row_more}
use Rattle.words_laws.specs.Fits.{Fits, chain_count_in}
use Rattle.words_laws.specs.Unpacked.{object_read}

module _ {A : Type 0} where
  -- the last of a row
  last_of_row : (n : ℕ) (f : ℕ → A) (d : A) → (n ≡ 0 → ⊥) → last_or d (row n f) ≡ f (n - 1)
  unfolding row
  last_of_row zero f d h = absurd (h refl)
  last_of_row (suc n) f d h = last_more d (row n f) (f n) ∙ ap f (omega arith)

  -- a row of none has no last
  none_in_row : (n : ℕ) (f : ℕ → A) (d : A) → n ≡ 0 → last_or d (row n f) ≡ d
  unfolding row last_or
  none_in_row n f d h = ap (λ (k : ℕ). last_or d (row k f)) h

module _ (ws : List ℕ) (f : Fits ws) (o : ℕ) (h : o < object_count) where
  -- the saved entries and then the queued ones are one row of entries
  latest_read : latest (object (unpack ws) (obj o))
      ≡ last_or (stable_entry (object_in ws o)) (row (chain_count_in ws o) (entry_in ws o))
  unfolding latest
  latest_read =
      let d : Entry = stable_entry (object_in ws o) in
      let s : ℕ = saved_count_in ws o in
      let q : ℕ = queued_count_in ws o in
      let fits : chain_count_in ws o ≤ chain_room = f.chain_count_fits o h in
      ap latest (object_read ws o h) ∙ ap (last_or d) (row_more s q (entry_in ws o))
      ∙ ap (λ (n : ℕ). last_or d (row n (entry_in ws o))) (omega arith)

  pub latest_stable : chain_count_in ws o ≡ 0 → stable_entry (object_in ws o) ≡ latest (object (unpack ws) (obj o))
  latest_stable e = sym (latest_read ∙ none_in_row (chain_count_in ws o) (entry_in ws o) (stable_entry (object_in ws o)) e)

  pub latest_chained : (chain_count_in ws o ≡ 0 → ⊥)
      → entry_in ws o (chain_count_in ws o - 1) ≡ latest (object (unpack ws) (obj o))
  latest_chained e = sym (latest_read ∙ last_of_row (chain_count_in ws o) (entry_in ws o) (stable_entry (object_in ws o)) e)
