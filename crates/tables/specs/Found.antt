-- What the words' log numbers and places say of the tables that they hold: who is logged and under which number, who is
-- live and at which place.
-- Rests on the rules' Layout, on basics, words_laws, sound_laws, Highest, Index, Test and Seats. Assumes nothing.
use Rattle.std.specs.Prelude.{◌≡◌, ◌↔◌, List, T, length}
use Rattle.std.proofs.Math.Path.{ap}
use Rattle.std.proofs.Common.{sym, ◌∙◌}
use Prim.Native.Nat.{ℕ, suc, ◌+◌, ◌-◌, ◌≤◌, ◌<◌, min}
use native.Mathlib.Omega.{arith}
use Rattle.std.proofs.Math.Dec.{eqb}
use Rattle.rules.specs.Tests.{row, lowest}
use Rattle.rules.specs.Tables.{Txn, Live, txn, nobody, same, log_room, place_count, place, place_of, is_live, log_number, is_logged}
use Rattle.rules.specs.Layout.{number_at, word, live_in, unpack}
use Rattle.basics.specs.Logic.{equal_says}
use Rattle.basics.specs.Ranges.{length_row, getD_row, lowest_same}
use Rattle.words_laws.specs.Unpacked.{place_read}
use Rattle.sound_laws.specs.Live.{live_at, at_live}
use Rattle.sound_laws.specs.Logged.{Names, logged_at, names_logged, number_positive}
use Rattle.tables.specs.Highest.{highest_le, highest_passes, highest_none, some_highest}
use Rattle.tables.specs.Index.{key, names}
use Rattle.tables.specs.Test.{count_in, number_in, seat_in, RecordsTest}
use Rattle.tables.specs.Seats.{has_seat, seat_somebody, seat_of_somebody, seat_there}

-- ---- the log

-- the records that the words name
abbrev pub log_in : List ℕ → List Txn
log_in ws = row (count_in ws) (λ i. txn (key ws i))

module _ (ws : List ℕ) where
  -- a count that fits is the log's length
  pub log_is : count_in ws ≤ log_room → (unpack ws).log ≡ log_in ws
  unfolding unpack
  log_is h = ap (λ (n : ℕ). row n (λ i. txn (key ws i))) (let e : min (count_in ws) log_room ≡ count_in ws = omega arith in e)

  pub log_length : length (log_in ws) ≡ count_in ws
  log_length = length_row (count_in ws) (λ i. txn (key ws i))

  -- a record that names x, in the words and in the log
  pub names_at : (x i : ℕ) → i < count_in ws → key ws i ≡ x → Names (log_in ws) (txn x) i
  names_at x i h e =
      record {
        below = rw log_length h;
        there = getD_row (count_in ws) (λ j. txn (key ws j)) i nobody h ∙ ap txn e;
      }

  pub named_key : (x i : ℕ) → Names (log_in ws) (txn x) i → (i < count_in ws) × (key ws i ≡ x)
  named_key x i n =
      let h : i < count_in ws = omega (arith, n.below, log_length) in
      (h, ap (λ (y : Txn). y.num) (sym (getD_row (count_in ws) (λ j. txn (key ws j)) i nobody h) ∙ n.there))

  -- who has a log number is at its record
  pub number_names : (x : ℕ) → 0 < number_in ws x → (number_in ws x - 1 < count_in ws) × (key ws (number_in ws x - 1) ≡ x)
  number_names x h =
      let e : number_in ws x ≡ suc (number_in ws x - 1) = omega arith in (
        omega (arith, highest_le (names ws x) (count_in ws)),
        (equal_says (key ws (number_in ws x - 1)) x).0 (highest_passes (names ws x) (count_in ws) (number_in ws x - 1) e),
      )

  pub key_number : (x i : ℕ) → i < count_in ws → key ws i ≡ x → 0 < number_in ws x
  key_number x i h e = omega (arith, some_highest (names ws x) (count_in ws) i h ((equal_says (key ws i) x).1 e))

  pub logged_says : (x : ℕ) → T (is_logged (log_in ws) (txn x)) ↔ (0 < number_in ws x)
  logged_says x = (
    λ t.
        let i = (log_number (log_in ws) (txn x)).num - 1 in
        let n = named_key x i (logged_at (log_in ws) (txn x) t) in
        key_number x i n.0 n.1,
    λ h.
        let n = number_names x h in
        names_logged (log_in ws) (txn x) (number_in ws x - 1) (names_at x (number_in ws x - 1) n.0 n.1),
  )

  -- no two records name one transaction
  pub other_records : RecordsTest ws → (i j : ℕ) → i < j → j < count_in ws → key ws i ≡ key ws j → ⊥
  other_records r i j h k e = highest_none (names ws (key ws j)) j (r j k).first i h ((equal_says (key ws i) (key ws j)).1 e)

  -- where no transaction is logged twice, the log's number is the words'
  pub number_is : (x : ℕ) → RecordsTest ws → T (is_logged (log_in ws) (txn x)) → (log_number (log_in ws) (txn x)).num ≡ number_in ws x
  number_is x r t =
      let i = (log_number (log_in ws) (txn x)).num - 1 in
      let n = named_key x i (logged_at (log_in ws) (txn x) t) in
      let k = number_in ws x - 1 in
      let up = key_number x i n.0 n.1 in
      let m = number_names x up in
      let f : i < k → ⊥ = λ h. other_records r i k h m.0 (n.1 ∙ sym m.1) in
      let g : k < i → ⊥ = λ h. other_records r k i h n.0 (m.1 ∙ sym n.1) in
      omega (arith, number_positive (log_in ws) (txn x))

-- ---- the places

-- the places that the words name
abbrev pub places_in : List ℕ → List Live
places_in ws = (unpack ws).live

module _ (ws : List ℕ) where
  number_read : (p : ℕ) → p < place_count → (place (places_in ws) p).number.num ≡ word ws (number_at + p)
  number_read p h = ap (λ (l : Live). l.number.num) (place_read ws p h)

  place_lowest : (x : ℕ) → place_of (places_in ws) (txn x) ≡ lowest place_count (has_seat ws x)
  unfolding place_of
  place_lowest x =
      lowest_same place_count (λ p. same (place (places_in ws) p).number (txn x)) (has_seat ws x)
      (λ p h. ap (λ (n : ℕ). eqb n x) (number_read p h))

  -- who is live has a place, and it is that of the words
  pub live_says : (x : ℕ) → T (is_live (places_in ws) (txn x)) ↔ (seat_in ws x < place_count)
  live_says x = (
    λ t.
        let a = live_at (places_in ws) (txn x) t in
        omega (arith, a.below, place_lowest x, seat_somebody ws x a.somebody),
    λ h.
        at_live (places_in ws) (txn x) (seat_in ws x)
        (record { somebody = seat_of_somebody ws x h; below = h; there = number_read (seat_in ws x) h ∙ seat_there ws x h }),
  )

  pub place_is : (x : ℕ) → seat_in ws x < place_count → place_of (places_in ws) (txn x) ≡ seat_in ws x
  place_is x h = place_lowest x ∙ sym (seat_somebody ws x (seat_of_somebody ws x h))

  -- the sets of a live transaction are those of its place's words
  pub sets_are : (x : ℕ) → seat_in ws x < place_count → place (places_in ws) (place_of (places_in ws) (txn x)) ≡ live_in ws (seat_in ws x)
  sets_are x h = ap (place (places_in ws)) (place_is x h) ∙ place_read ws (seat_in ws x) h
