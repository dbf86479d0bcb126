-- What the tables of words hold: each place and object as its words say, and for words that fit, the log and the
-- chains too, so that the words say what their tables hold.
-- Rests on the rules' Layout, on Ranges, Parts, Says and Fits. Assumes nothing.
use Rattle.std.specs.Prelude.{◌≡◌, refl, List, length, get_or}
use Rattle.std.proofs.Math.Path.{ap, sym}
use Rattle.std.proofs.Common.{◌∙◌, arith}
use Prim.Native.Nat.{ℕ, ◌+◌, ◌≤◌, ◌<◌, min}
use Rattle.rules.specs.Tables.{Txn, Entry, Live, Object, txn, obj, nobody, object_count, place_count, chain_room, log_room, fresh_object, free_place, object, place, chain}
use Rattle.rules.specs.Layout.{log_count_at, log_at, no_entry, unpack, word, entry_in, live_in, saved_count_in, queued_count_in, object_in}
use Rattle.basics.specs.Ranges.{length_row, getD_row}
use Rattle.words_laws.specs.Parts.{row_or_default, row_more}
use Rattle.words_laws.specs.Says.{Column, number, accessed, written, prepared, depends, stable_value, stable_writer, stable_number, holder, working, saved_count, queued_count, start, cell, column_size, Says}
use Rattle.words_laws.specs.Fits.{Fits, chain_count_in}

module _ (ws : List ℕ) where
  -- a place of the tables is as its words say
  pub place_read : (i : ℕ) → i < place_count → place (unpack ws).live i ≡ live_in ws i
  unfolding unpack
  place_read i h = getD_row place_count (live_in ws) i free_place h

  -- an object of the tables is as its words say
  pub object_read : (i : ℕ) → i < object_count → object (unpack ws) (obj i) ≡ object_in ws i
  unfolding unpack
  object_read i h = getD_row object_count (object_in ws) i fresh_object h

  module _ (f : Fits ws) where
    log_read : (i : ℕ) → i < log_room → get_or (unpack ws).log i nobody ≡ txn (word ws (log_at + i))
    unfolding unpack
    log_read i h =
        let named : ℕ → Txn = λ k. txn (word ws (log_at + k)) in
        row_or_default (min (word ws log_count_at) log_room) named i nobody (named i)
        (λ k. refl)
        (λ k. ap txn (sym (f.past_log i h (omega arith))))

    -- the saved entries and then the queued ones are the chain's words
    chain_read : (i j : ℕ) → i < object_count → j < chain_room
        → get_or (chain (object (unpack ws) (obj i))) j no_entry ≡ entry_in ws i j
    chain_read i j h k =
        let s : ℕ = saved_count_in ws i in
        let q : ℕ = queued_count_in ws i in
        let fits : chain_count_in ws i ≤ chain_room = f.chain_count_fits i h in
        ap (λ (b : Object). get_or (chain b) j no_entry) (object_read i h)
        ∙ ap (λ (l : List Entry). get_or l j no_entry) (row_more s q (entry_in ws i))
        ∙ row_or_default (s + q) (entry_in ws i) j no_entry (entry_in ws i j)
        (λ g. refl)
        (λ g. sym (f.past_chain i j h k (omega arith)))

    column_read : (c : Column) (i : ℕ) → i < column_size → cell (unpack ws) c i ≡ word ws (start c + i)
    column_read number i h = ap (λ (l : Live). l.number.num) (place_read i h)
    column_read accessed i h = ap (λ (l : Live). l.accessed) (place_read i h)
    column_read written i h = ap (λ (l : Live). l.written) (place_read i h)
    column_read prepared i h = ap (λ (l : Live). l.prepared) (place_read i h)
    column_read depends i h = ap (λ (l : Live). l.depends) (place_read i h)
    column_read stable_value i h = ap (λ (b : Object). b.stable.value) (object_read i h)
    column_read stable_writer i h = ap (λ (b : Object). b.stable.writer.num) (object_read i h)
    column_read stable_number i h = ap (λ (b : Object). b.stable.at.num) (object_read i h)
    column_read holder i h = ap (λ (b : Object). b.holder.num) (object_read i h)
    column_read working i h = ap (λ (b : Object). b.working) (object_read i h)
    column_read saved_count i h =
        ap (λ (b : Object). length b.saved) (object_read i h)
        ∙ length_row (saved_count_in ws i) (entry_in ws i)
        ∙ omega (arith, f.chain_count_fits i h)
    column_read queued_count i h =
        ap (λ (b : Object). length b.queued) (object_read i h)
        ∙ length_row (queued_count_in ws i) (λ j. entry_in ws i (saved_count_in ws i + j))
        ∙ omega (arith, f.chain_count_fits i h)

    -- words that fit say what their tables hold
    pub unpack_says : Says ws (unpack ws)
    unfolding unpack
    unpack_says =
        record {
          next = refl;
          log_count = simp length_row (omega (arith, f.log_count_fits));
          log = λ i h. sym (ap (λ (x : Txn). x.num) (log_read i h));
          column = λ c i h. sym (column_read c i h);
          chain_value = λ i j h k. sym (ap (λ (e : Entry). e.value) (chain_read i j h k));
          chain_writer = λ i j h k. sym (ap (λ (e : Entry). e.writer.num) (chain_read i j h k));
        }
