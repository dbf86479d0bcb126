-- A set that grows by one place a turn, from below, is what the rules collect.
-- Rests on the rules' Sets, Tables, Steps and Layout, on basics, words_laws and the sets' Members. Assumes nothing.
use mathlib.Core.Path.{◌≡◌, ap, ap₂, sym, ◌∙◌, subst}
use mathlib.Core.Bool.{Bool, true, false, cond}
use mathlib.Core.List.{List}
use Prim.Native.Nat.{ℕ, ◌+◌, ◌*◌, ◌%◌, ◌^◌, ◌≤◌, ◌<◌}
use native.Mathlib.Numerals.{add-one}
use native.Mathlib.Omega.{arith}
use lib.Dec.{eqb}
use lib.Pow.{shl_exact}
use Rattle.std.proofs.lemmas.Grind.{pow_more}
use Rattle.rules.specs.Sets.{width, collect}
use Rattle.rules.specs.Tables.{place_count, place, is_free}
use Rattle.rules.specs.Layout.{number_at, word, unpack}
use Rattle.rules.specs.Steps.{free_places}
use Rattle.basics.specs.Sets.{collect_lt}
use Rattle.words_laws.specs.Unpacked.{place_read}
use Rattle.sets.proofs.Members.{collect_same}

-- the bit of place p, as the machine shifts it into 32 bits
pub bit_is : (p : ℕ) → p < width → 1 * 2 ^ p % 2 ^ width ≡ 2 ^ p
bit_is p h = shl_exact 1 p width (omega arith) (omega arith) ∙ omega arith

-- a set below place p, and p or not, lies below the next place
pub below_next : (p s r : ℕ) (passes : Bool) → s < 2 ^ p → r ≡ s + cond passes (2 ^ p) 0 → r < 2 ^ (p + 1)
below_next p s r true h e = omega (arith, pow_more 2 p)
below_next p s r false h e = omega (arith, pow_more 2 p)

-- and is that of the places up to it that pass
pub grows : (f : ℕ → Bool) (p s r : ℕ) (passes : Bool) → s ≡ collect p f → r ≡ s + cond passes (2 ^ p) 0 → passes ≡ f p
    → r ≡ collect (p + 1) f
unfolding collect
grows f p s r passes e g t = rw (add-one p) (g ∙ ap₂ (λ (n : ℕ) (b : Bool). n + cond b (2 ^ p) 0) e t)

-- all its members are below p
pub grows_below : (f : ℕ → Bool) (p s : ℕ) → s ≡ collect p f → s < 2 ^ p
grows_below f p s e = subst (λ (n : ℕ). n < 2 ^ p) (sym e) (collect_lt p f)

-- at the end it is that of all places that pass
pub grown : (f : ℕ → Bool) (p s : ℕ) → s ≡ collect p f → (w : ℕ) → p ≤ w → w ≤ p → s ≡ collect w f
grown f p s e w h k = e ∙ ap (λ (n : ℕ). collect n f) (omega arith)

-- a place is free where its word is 0
abbrev pub free_word : List ℕ → ℕ → Bool
free_word ws p = eqb (word ws (number_at + p)) 0

pub free_words : (ws : List ℕ) → collect place_count (free_word ws) ≡ free_places (unpack ws)
unfolding free_places
free_words ws =
    collect_same place_count (free_word ws) (λ p. is_free (place (unpack ws).live p))
    (λ p h. sym (ap is_free (place_read ws p h)))
