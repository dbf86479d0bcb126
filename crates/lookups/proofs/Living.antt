-- What the place of a transaction says of whether it is live.
-- Rests on the rules' Tables, on basics and sound_laws, and on Places. Assumes nothing.
use mathlib.Core.Path.{◌≡◌, refl, sym, ◌∙◌}
use mathlib.Core.Bool.{Bool, true, false, cond}
use mathlib.Core.List.{List}
use Prim.Native.Nat.{ℕ, ◌≤◌, ◌<◌}
use native.Mathlib.Omega.{arith}
use lib.Dec.{T}
use Rattle.rules.specs.Tables.{Txn, Live, same, place_count, place, place_of, is_live}
use Rattle.basics.specs.Logic.{equal_says, cond_true, cond_false}
use Rattle.basics.specs.Ranges.{lowest_is}
use Rattle.sound_laws.specs.Live.{At, live_at, at_live, nobody_not_live}
use Rattle.std.specs.Prelude.{Option, Some, None, IsSome}
use Rattle.calls.specs.declared.existing.Place.{Place}
use Rattle.lookups.specs.Places.{seat_number, live_place}

module _ (ls : List Live) (x : Txn) where
  -- nobody has the number 0
  pub nobody_placed : x.num ≡ 0 → place_count ≡ live_place ls x
  nobody_placed e = sym (cond_false (is_live ls x) (place_of ls x) place_count (nobody_not_live ls x e))

  -- and somebody who has a place is live
  pub somebody_placed : (x.num ≡ 0 → ⊥) → place_of ls x ≡ live_place ls x
  unfolding place_of
  somebody_placed z = go (is_live ls x) (place_of ls x) (lowest_is place_count there).at_most (λ h. at_live ls x (place_of ls x) (found h))
    where
      there : ℕ → Bool
      there p = same (place ls p).number x

      found : place_of ls x < place_count → At ls x (place_of ls x)
      found h = record { somebody = z; below = h; there = (equal_says (place ls (place_of ls x)).number.num x.num).0 ((lowest_is place_count there).passes h) }

      go : (b : Bool) (p : ℕ) → p ≤ place_count → (p < place_count → T b) → p ≡ cond b p place_count
      go true p m f = refl
      go false p m f = omega arith

  -- p is its place: below 32 exactly where it is live, and then the one that it has
  module _ (p : ℕ) (e : p ≡ live_place ls x) where
    pub there_live : T (is_live ls x) → p ≡ place_of ls x
    there_live l = e ∙ cond_true (is_live ls x) (place_of ls x) place_count l

    pub below_live : T (is_live ls x) → p < place_count
    below_live l = omega (arith, there_live l, (live_at ls x l).below)

    pub live_below : p < place_count → T (is_live ls x)
    live_below h = go (is_live ls x) e
      where
        go : (b : Bool) → p ≡ cond b (place_of ls x) place_count → T b
        go true d = tt
        go false d = absurd (omega arith)

    pub there_below : p < place_count → p ≡ place_of ls x
    there_below h = there_live (live_below h)

-- who has a place below 32 is somewhere
pub placed_somewhere : (s : Option Place) → seat_number s < place_count → IsSome s
placed_somewhere None h = absurd (omega arith)
placed_somewhere (Some p) h = refl

pub somewhere_below : (s : Option Place) → IsSome s → seat_number s < place_count
somewhere_below None h = absurd (cc)
somewhere_below (Some p) h = p.exists
