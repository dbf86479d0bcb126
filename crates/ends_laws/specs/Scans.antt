-- Who is at which place, who falls with a set of places, and the first of a chain that does, by the words.
-- Rests on the rules' Layout and Falls, on basics and words_laws. Assumes nothing.
use Rattle.std.specs.Prelude.{◌≡◌, Bool, false, ◌&&◌, List, ℕ, ◌+◌, ◌≤◌, ◌<◌, ltb, get_or}
use Rattle.std.proofs.Math.Path.{ap, sym}
use Rattle.std.proofs.Common.{◌∙◌}
use Rattle.std.proofs.Math.Bool.{not, and_assoc}
use borrow.Author.Tests.{eq-eqb, ne_eqb, lt-ltb, le-ltb}
use Rattle.std.proofs.Math.Dec.{eqb}
use Rattle.rules.specs.Tests.{lowest}
use Rattle.rules.specs.Sets.{has}
use Rattle.rules.specs.Tables.{Tables, txn, obj, object_count, place_count, chain_room, object, place, place_of, is_live, chain}
use Rattle.rules.specs.Falls.{falls}
use Rattle.rules.specs.Layout.{number_at, no_entry, pack, word}
use Rattle.basics.specs.Ranges.{IsLowest, lowest_is, one_lowest, lowest_same}
use Rattle.words_laws.specs.Says.{number, pack_says}
use Rattle.ends_laws.specs.Entries.{writer_place}

-- the lowest that a search found is the lowest
pub found : (n : ℕ) (p : ℕ → Bool) (r : ℕ) → IsLowest n p r → r ≡ lowest n p
found n p r h = one_lowest n p p r (lowest n p) (λ i k t. t) (λ i k t. t) h (lowest_is n p)

-- the lowest place with a number
unfoldable pub seat : List ℕ → ℕ → ℕ
seat ws x = lowest place_count (λ p. eqb (word ws (number_at + p)) x)

-- the place with the number x is one of f
abbrev pub sits_in : List ℕ → ℕ → ℕ → Bool
sits_in ws f x = ltb (seat ws x) place_count && has f (seat ws x)

-- the transaction x is one of those at the places f
abbrev pub falls_in : List ℕ → ℕ → ℕ → Bool
falls_in ws f x = not (eqb x 0) && sits_in ws f x

-- the first entry of object i's chain whose writer is one of those at the places f
unfoldable pub first_fall : List ℕ → ℕ → ℕ → ℕ
first_fall ws f i = lowest chain_room (λ j. falls_in ws f (word ws (writer_place i j)))

-- who falls: nobody does not, anybody else does whose place is one of f
module _ (ws : List ℕ) (f x : ℕ) where
  pub falls_nobody : x ≡ 0 → false ≡ falls_in ws f x
  falls_nobody e = rw (eq-eqb x 0 e)

  pub falls_somebody : (x ≡ 0 → ⊥) → (b : Bool) → b ≡ sits_in ws f x → b ≡ falls_in ws f x
  falls_somebody d b e = e ∙ sym (rw (ne_eqb x 0 d))

  -- by a search for the place, which may be nowhere
  module _ (p : ℕ) (there : p ≡ seat ws x) where
    pub sits_there : p < place_count → (b : Bool) → b ≡ has f p → b ≡ sits_in ws f x
    sits_there h b e = e ∙ sym (rw (← there, lt-ltb p place_count h))

    pub sits_nowhere : place_count ≤ p → false ≡ sits_in ws f x
    sits_nowhere h = rw (← there, le-ltb p place_count h)

module _ (u : Tables) where
  pub seat_packed : (x : ℕ) → seat (pack u) x ≡ place_of u.live (txn x)
  unfolding seat place_of
  seat_packed x =
      lowest_same place_count (λ p. eqb (word (pack u) (number_at + p)) x) (λ p. eqb (place u.live p).number.num x)
      (λ p h. ap (λ (n : ℕ). eqb n x) ((pack_says u).column number p h))

  pub falls_packed : (f x : ℕ) → falls_in (pack u) f x ≡ falls u.live f (txn x)
  unfolding falls is_live
  falls_packed f x =
      ap (λ (p : ℕ). not (eqb x 0) && (ltb p place_count && has f p)) (seat_packed x)
      ∙ sym (and_assoc (not (eqb x 0)) (ltb (place_of u.live (txn x)) place_count) (has f (place_of u.live (txn x))))

  pub first_fall_packed : (f i : ℕ) → i < object_count
      → first_fall (pack u) f i
      ≡ lowest chain_room (λ j. falls u.live f (get_or (chain (object u (obj i))) j no_entry).writer)
  unfolding first_fall
  first_fall_packed f i h =
      lowest_same chain_room (λ j. falls_in (pack u) f (word (pack u) (writer_place i j)))
      (λ j. falls u.live f (get_or (chain (object u (obj i))) j no_entry).writer)
      (λ j k.
      falls_packed f (word (pack u) (writer_place i j))
      ∙ ap (λ (n : ℕ). falls u.live f (txn n)) ((pack_says u).chain_writer i j h k))
