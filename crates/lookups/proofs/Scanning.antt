-- What a scan finds is what the rules look for: the place of a live transaction, the log number of a logged one.
-- Rests on the rules' Tables and Layout, on basics and on words_laws. Assumes nothing.
use mathlib.Core.Path.{◌≡◌, ap, sym, ◌∙◌}
use mathlib.Core.Bool.{Bool}
use mathlib.Core.List.{List}
use Prim.Native.Nat.{ℕ, suc, ◌+◌, ◌-◌, ◌≤◌, ◌<◌, min}
use native.Mathlib.Omega.{arith}
use lib.Dec.{eqb}
use lib.ListN.{get_or, length, take, drop}
use Rattle.std.proofs.Common.{◌≢◌, Option, Some, None, le_refl}
use Rattle.std.proofs.lemmas.Grind.{common_steps, elements}
use Rattle.std.specs.List.{AllWithin, HoldsAt}
use Rattle.std.specs.Option.{MatchOption, unwrap_or}
use Rattle.rules.specs.Tests.{lowest, row}
use Rattle.rules.specs.Tables.{Txn, Live, txn, nobody, same, place_count, log_room, place, place_of, log_number}
use Rattle.rules.specs.Layout.{number_at, log_count_at, log_at, word, unpack}
use Rattle.basics.specs.Logic.{equal_says}
use Rattle.basics.specs.Ranges.{lowest_is, one_lowest, lowest_same, length_row, getD_row}
use Rattle.words_laws.specs.Unpacked.{place_read}
use Rattle.lookups.specs.Scans.{first_at}

module _ (ws : List ℕ) (from count x : ℕ) where
  -- with none before it, and x at i unless i is the count, i is the first
  pub found : (i : ℕ) → i ≤ count → ((k : ℕ) → k < i → word ws (from + k) ≡ x → ⊥) → (i < count → word ws (from + i) ≡ x)
      → i ≡ first_at ws from count x
  unfolding first_at
  found i h none here =
      let test : ℕ → Bool = λ k. eqb (word ws (from + k)) x in
      one_lowest count test test i (lowest count test) (λ k m t. t) (λ k m t. t)
      (record {
        at_most = h;
        none_below = λ k m t. none k m ((equal_says (word ws (from + k)) x).0 t);
        passes = λ m. (equal_says (word ws (from + i)) x).1 (here m);
      })
      (lowest_is count test)

  pub first_at_most : first_at ws from count x ≤ count
  unfolding first_at
  first_at_most = (lowest_is count (λ k. eqb (word ws (from + k)) x)).at_most

  -- the part of the words that is looked through
  abbrev part : List ℕ
  part = take (from + count - from) (drop from ws)

  long : from + count ≤ length ws → length part ≡ count
  long h = grind (arith, common_steps)

  read : (k : ℕ) → k < count → get_or part k 0 ≡ word ws (from + k)
  read k l = grind (arith, elements)

  -- what a search of it gives, or the count where it gives none, is the first
  pub searched : from + count ≤ length ws → (r : Option ℕ)
      → MatchOption r (AllWithin (λ w. w ≢ x) part 0 (length part))
      (λ i. (i < length part) × HoldsAt (λ w. w ≡ x) part i × AllWithin (λ w. w ≢ x) part 0 i)
      → unwrap_or r count ≡ first_at ws from count x
  searched h None m =
      found count (le_refl count) (λ k l e. m k 0 (omega arith) (omega (arith, long h)) (read k l ∙ e)) (λ l. omega arith)
  searched h (Some i) m =
      let below : i < count = omega (arith, long h) in
      found i (omega arith) (λ k l e. m.2 k 0 (omega arith) l (read k (omega arith) ∙ e)) (λ l. sym (read i l) ∙ m.1 0)

module _ (ws : List ℕ) (x : ℕ) where
  -- among the live transactions' numbers, by place
  pub first_place : first_at ws number_at place_count x ≡ place_of (unpack ws).live (txn x)
  unfolding first_at place_of
  first_place =
      lowest_same place_count (λ p. eqb (word ws (number_at + p)) x) (λ p. same (place (unpack ws).live p).number (txn x))
      (λ p h. sym (ap (λ (l : Live). same l.number (txn x)) (place_read ws p h)))

  -- among the records
  pub first_record : word ws log_count_at ≤ log_room
      → suc (first_at ws log_at (word ws log_count_at) x) ≡ (log_number (unpack ws).log (txn x)).num
  unfolding first_at log_number unpack
  first_record h =
      let named : ℕ → Txn = λ i. txn (word ws (log_at + i)) in
      let n : ℕ = min (word ws log_count_at) log_room in
      let fits : n ≡ word ws log_count_at = omega arith in
      ap suc
      (lowest_same (word ws log_count_at) (λ i. eqb (word ws (log_at + i)) x) (λ i. same (get_or (row n named) i nobody) (txn x))
      (λ i k. sym (ap (λ (y : Txn). same y (txn x)) (getD_row n named i nobody (omega arith))))
      ∙ ap (λ (m : ℕ). lowest m (λ i. same (get_or (row n named) i nobody) (txn x))) (sym (length_row n named ∙ fits)))
