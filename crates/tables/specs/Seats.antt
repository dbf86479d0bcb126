-- The place that a scan of the places finds, and the set of the used places that a scan collects.
-- Rests on Test and on basics. Assumes nothing.
use Rattle.std.specs.Prelude.{◌≡◌, Bool, not, List, ℕ, ◌+◌, ◌*◌, ◌%◌, ◌^◌, ◌≤◌, ◌<◌, eqb}
use Rattle.std.proofs.Math.Path.{refl, ap}
use Rattle.std.proofs.Common.{sym, ◌∙◌, ⊎_elim, mod-eq_of_lt, one-mul, add-one, pow_mono}
use Rattle.std.proofs.Math.Bool.{true, false, cond}
use native.Mathlib.Omega.{arith}
use Rattle.std.proofs.Math.Dec.{T}
use Rattle.std.proofs.Math.Pow.{pow-lt}
use Rattle.rules.specs.Tests.{lowest}
use Rattle.rules.specs.Sets.{width, collect}
use Rattle.rules.specs.Tables.{place_count}
use Rattle.rules.specs.Layout.{number_at, word}
use Rattle.basics.specs.Logic.{equal_says, cond_true, cond_false}
use Rattle.basics.specs.Ranges.{lowest_is, one_lowest, same_or_other}
use Rattle.basics.specs.Sets.{collect_lt}
use Rattle.tables.specs.Test.{number_in, seat_in, used_in, Unlogged}

-- place p is x's
abbrev pub has_seat : List ℕ → ℕ → ℕ → Bool
has_seat ws x p = eqb (word ws (number_at + p)) x

module _ (ws : List ℕ) (x : ℕ) where
  pub seat_nobody : x ≡ 0 → seat_in ws x ≡ place_count
  unfolding seat_in
  seat_nobody e = cond_true (eqb x 0) place_count (lowest place_count (has_seat ws x)) ((equal_says x 0).1 e)

  module _ (somebody : x ≡ 0 → ⊥) where
    pub seat_somebody : seat_in ws x ≡ lowest place_count (has_seat ws x)
    unfolding seat_in
    seat_somebody =
        cond_false (eqb x 0) place_count (lowest place_count (has_seat ws x)) (λ t. somebody ((equal_says x 0).0 t))

    module _ (p : ℕ) (passed : (q : ℕ) → q < p → word ws (number_at + q) ≡ x → ⊥) where
      scanned : p ≤ place_count → (p < place_count → word ws (number_at + p) ≡ x) → p ≡ seat_in ws x
      scanned h f =
          one_lowest place_count (has_seat ws x) (has_seat ws x) p (lowest place_count (has_seat ws x)) (λ q k t. t) (λ q k t. t)
          (record {
            at_most = h;
            none_below = λ q k t. passed q k ((equal_says (word ws (number_at + q)) x).0 t);
            passes = λ k. (equal_says (word ws (number_at + p)) x).1 (f k);
          })
          (lowest_is place_count (has_seat ws x))
          ∙ sym seat_somebody

      pub seat_found : p < place_count → word ws (number_at + p) ≡ x → p ≡ seat_in ws x
      seat_found h e = scanned (omega arith) (λ k. e)

      pub seat_none : p ≡ place_count → place_count ≡ seat_in ws x
      seat_none e = sym e ∙ scanned (omega arith) (λ k. absurd (omega arith))

  pub seat_le : seat_in ws x ≤ place_count
  seat_le =
      ⊎_elim
      (λ e. omega (arith, seat_nobody e))
      (λ d. omega (arith, seat_somebody d, (lowest_is place_count (has_seat ws x)).at_most))
      (same_or_other x 0)

  -- who has a place is somebody, and is there
  pub seat_of_somebody : seat_in ws x < place_count → x ≡ 0 → ⊥
  seat_of_somebody h e = omega (arith, seat_nobody e)

  pub seat_there : seat_in ws x < place_count → word ws (number_at + seat_in ws x) ≡ x
  seat_there h =
      let e = seat_somebody (seat_of_somebody h) in
      let k : lowest place_count (has_seat ws x) < place_count = omega arith in
      ap (λ (p : ℕ). word ws (number_at + p)) e
      ∙ (equal_says (word ws (number_at + lowest place_count (has_seat ws x))) x).0 ((lowest_is place_count (has_seat ws x)).passes k)

-- nobody is both logged and at a place, where no transaction of a place is logged
pub not_both : (ws : List ℕ) → Unlogged ws → (x : ℕ) → 0 < number_in ws x → seat_in ws x < place_count → ⊥
not_both ws u x n s =
    let there = seat_there ws x s in
    let z = u (seat_in ws x) s (λ e. seat_of_somebody ws x s (sym there ∙ e)) in
    omega (arith, ap (number_in ws) there)

-- ---- the used places

-- place q is used
abbrev pub is_used : List ℕ → ℕ → Bool
is_used ws q = not (eqb (word ws (number_at + q)) 0)

module _ (ws : List ℕ) (q : ℕ) where
  pub used_more : (word ws (number_at + q) ≡ 0 → ⊥) → collect (q + 1) (is_used ws) ≡ collect q (is_used ws) + 2 ^ q
  unfolding collect
  used_more d = rw (add-one q) (go (eqb (word ws (number_at + q)) 0) (λ t. d ((equal_says (word ws (number_at + q)) 0).0 t)))
    where
      go : (b : Bool) → (T b → ⊥) → collect q (is_used ws) + cond (not b) (2 ^ q) 0 ≡ collect q (is_used ws) + 2 ^ q
      go true f = absurd (f tt)
      go false f = refl

  pub used_same : word ws (number_at + q) ≡ 0 → collect (q + 1) (is_used ws) ≡ collect q (is_used ws)
  unfolding collect
  used_same e = rw (add-one q) (go (eqb (word ws (number_at + q)) 0) ((equal_says (word ws (number_at + q)) 0).1 e))
    where
      go : (b : Bool) → T b → collect q (is_used ws) + cond (not b) (2 ^ q) 0 ≡ collect q (is_used ws)
      go true t = omega arith
      go false t = absurd t

  -- the scan is through
  pub used_all : q ≡ width → collect q (is_used ws) ≡ used_in ws
  unfolding used_in
  used_all e = ap (λ (w : ℕ). collect w (is_used ws)) e

-- the one member q, as the code makes it
pub one_bit : (q : ℕ) → q < width → 1 * 2 ^ q % 2 ^ 64 ≡ 2 ^ q
one_bit q h = mod-eq_of_lt (rw (one-mul (2 ^ q)) (pow-lt {i = q} {j = 64} (omega arith))) ∙ one-mul (2 ^ q)

module _ (ws : List ℕ) (q used : ℕ) (below : q < width) (so_far : used ≡ collect q (is_used ws)) where
  -- one used place more: the sum fits, and is what is to be collected
  pub used_fits : used + 1 * 2 ^ q % 2 ^ 64 < 2 ^ 64
  used_fits =
      omega (arith, one_bit q below, collect_lt q (is_used ws), so_far, pow_mono {i = q} {j = 32} (omega arith))

  pub used_added : (word ws (number_at + q) ≡ 0 → ⊥) → used + 1 * 2 ^ q % 2 ^ 64 ≡ collect (q + 1) (is_used ws)
  used_added d = omega (arith, one_bit q below, used_more ws q d)

  pub used_left : word ws (number_at + q) ≡ 0 → used ≡ collect (q + 1) (is_used ws)
  used_left e = so_far ∙ sym (used_same ws q e)
