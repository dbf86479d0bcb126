-- What it says that words are sound: the right count of words, counts in range, unused places zero, and sound tables.
-- Rests on the rules' Layout, on Logic and Ranges. Assumes nothing.
use Rattle.std.specs.Prelude.{◌≡◌, ◌↔◌, List, ℕ, ◌+◌, ◌≤◌, ◌<◌, T, length}
use Rattle.std.proofs.Common.{ap}
use Rattle.rules.specs.Tables.{Entry, txn, object_count, chain_room, log_room}
use Rattle.rules.specs.Sound.{sound}
use Rattle.rules.specs.Layout.{log_count_at, log_at, saved_count_at, queued_count_at, word_count, no_entry, word, entry_in, unpack, counts_fit, past_log_zero, past_chain_zero, sound_words}
use Rattle.basics.specs.Logic.{and_says, implies_says, equal_says, at_most_says}
use Rattle.basics.specs.Ranges.{every_says}

-- how many entries the words give to object i's chain
abbrev pub chain_count_in : List ℕ → ℕ → ℕ
chain_count_in ws i = word ws (saved_count_at + i) + word ws (queued_count_at + i)

-- the words have the right count, the counts are in range, and unused places are zero
pub record Fits (ws : List ℕ) : Type 0 where
  pub right_length : length ws ≡ word_count
  pub log_count_fits : word ws log_count_at ≤ log_room
  pub chain_count_fits : (i : ℕ) → i < object_count → chain_count_in ws i ≤ chain_room
  pub past_log : (i : ℕ) → i < log_room → word ws log_count_at ≤ i → word ws (log_at + i) ≡ 0
  pub past_chain : (i j : ℕ) → i < object_count → j < chain_room → chain_count_in ws i ≤ j → entry_in ws i j ≡ no_entry

-- words are sound where they fit and their tables are sound
pub sound_words_says : (ws : List ℕ) → T (sound_words ws) ↔ (Fits ws × T (sound (unpack ws)))
unfolding sound_words counts_fit past_log_zero past_chain_zero
sound_words_says ws =
    simp (and_says, every_says, implies_says, equal_says, at_most_says) (
      λ s. (
        record {
          right_length = s.0.0.0.0;
          log_count_fits = s.0.0.0.1.0;
          chain_count_fits = s.0.0.0.1.1;
          past_log = s.0.0.1;
          past_chain = λ i j h k g n. record { value = (s.0.1 i h j k g).0 n; writer = txn ((s.0.1 i h j k g).1 n) };
        },
        s.1,
      ),
      λ f.
          let zero_entry = f.0.past_chain in (
            (
              ((f.0.right_length, (f.0.log_count_fits, f.0.chain_count_fits)), f.0.past_log),
              λ i h j k g. (
                ap (λ (e : Entry). e.value) (zero_entry i j h k g),
                ap (λ (e : Entry). e.writer.num) (zero_entry i j h k g),
              ),
            ),
            f.1,
          ),
    )
