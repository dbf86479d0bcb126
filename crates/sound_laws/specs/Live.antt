-- Who is live and at which place: what `is_live` and `place_of` say, and when a change of the places leaves them as
-- they are for a transaction.
-- Rests on the rules' Tables, on basics and on Means. Assumes nothing.
use Rattle.std.specs.Prelude.{◌≡◌, refl, Bool, not, ◌&&◌, ◌⊎◌, List, ℕ, ◌<◌, T, ltb}
use Rattle.std.proofs.Common.{ap, sym, ◌∙◌, inl, inr, lt_of_le_of_lt, arith}
use Rattle.rules.specs.Tests.{lowest}
use Rattle.rules.specs.Tables.{Txn, Live, Tables, txn, nobody, same, place_count, place, place_of, is_live}
use Rattle.basics.specs.Logic.{and_says, not_says, equal_says, below_says, passes_or_fails}
use Rattle.basics.specs.Ranges.{lowest_is, lowest_at, one_lowest}
use Rattle.sound_laws.specs.Means.{Used, Sound}

-- a transaction is its number
pub same_txn : (x y : Txn) → x.num ≡ y.num → x ≡ y
same_txn x y e = ap txn e

-- the transaction x is at place p
pub record At (ls : List Live) (x : Txn) (p : ℕ) : Type 0 where
  pub somebody : x.num ≡ 0 → ⊥
  pub below : p < place_count
  pub there : (place ls p).number.num ≡ x.num

-- no two places have one transaction
abbrev pub Once : List Live → Type 0
Once ls =
    (p q : ℕ) → p < place_count → q < place_count → Used (place ls p) → (place ls p).number.num ≡ (place ls q).number.num → p ≡ q

pub live_at : (ls : List Live) (x : Txn) → T (is_live ls x) → At ls x (place_of ls x)
unfolding is_live place_of
live_at ls x t =
    let f : ℕ → Bool = λ p. same (place ls p).number x in
    let b = (and_says (not (same x nobody)) (ltb (lowest place_count f) place_count)).0 t in
    let h = (below_says (lowest place_count f) place_count).0 b.1 in
    record {
      somebody = λ e. (not_says (same x nobody)).0 b.0 ((equal_says x.num 0).1 e);
      below = h;
      there = (equal_says (place ls (lowest place_count f)).number.num x.num).0 ((lowest_is place_count f).passes h);
    }

pub at_live : (ls : List Live) (x : Txn) (p : ℕ) → At ls x p → T (is_live ls x)
unfolding is_live place_of
at_live ls x p a =
    let f : ℕ → Bool = λ q. same (place ls q).number x in
    let l = lowest_at place_count f p a.below ((equal_says (place ls p).number.num x.num).1 a.there) in
    (and_says (not (same x nobody)) (ltb (lowest place_count f) place_count)).1 (
      (not_says (same x nobody)).1 (λ t. a.somebody ((equal_says x.num 0).0 t)),
      (below_says (lowest place_count f) place_count).1 (lt_of_le_of_lt l.0 a.below),
    )

-- a used place is its transaction's
pub used_at : (ls : List Live) (p : ℕ) → p < place_count → Used (place ls p) → At ls (place ls p).number p
used_at ls p h u = record { somebody = u; below = h; there = refl }

pub place_at : (ls : List Live) → Once ls → (x : Txn) (p : ℕ) → At ls x p → place_of ls x ≡ p
place_at ls o x p a =
    let l = live_at ls x (at_live ls x p a) in
    o (place_of ls x) p l.below a.below (λ e. a.somebody (sym l.there ∙ e)) (l.there ∙ sym a.there)

-- nobody is live under the number 0
pub nobody_not_live : (ls : List Live) (x : Txn) → x.num ≡ 0 → T (is_live ls x) → ⊥
nobody_not_live ls x e t = (live_at ls x t).somebody e

-- sound tables have each transaction at one place
pub once : (t : Tables) → Sound t → Once t.live
once t s p q h k u e = go (passes_or_fails (ltb p q)) (passes_or_fails (ltb q p))
  where
    go : T (ltb p q) ⊎ (T (ltb p q) → ⊥) → T (ltb q p) ⊎ (T (ltb q p) → ⊥) → p ≡ q
    go (inl a) b = absurd ((s.place_ok q k).once p ((below_says p q).0 a) (λ z. u (e ∙ z)) (sym e))
    go (inr a) (inl b) = absurd ((s.place_ok p h).once q ((below_says q p).0 b) u e)
    go (inr a) (inr b) =
        let c : p < q → ⊥ = λ j. a ((below_says p q).1 j) in
        let d : q < p → ⊥ = λ j. b ((below_says q p).1 j) in
        omega arith

-- places that agree on who has x's number agree on where x is
pub place_same : (ls ms : List Live) (x : Txn)
    → ((p : ℕ) → p < place_count → (place ls p).number.num ≡ x.num → (place ms p).number.num ≡ x.num)
    → ((p : ℕ) → p < place_count → (place ms p).number.num ≡ x.num → (place ls p).number.num ≡ x.num)
    → place_of ls x ≡ place_of ms x
unfolding place_of
place_same ls ms x f g =
    let a : ℕ → Bool = λ p. same (place ls p).number x in
    let b : ℕ → Bool = λ p. same (place ms p).number x in
    one_lowest place_count a b (lowest place_count a) (lowest place_count b)
    (λ p h t. (equal_says (place ms p).number.num x.num).1 (f p h ((equal_says (place ls p).number.num x.num).0 t)))
    (λ p h t. (equal_says (place ls p).number.num x.num).1 (g p h ((equal_says (place ms p).number.num x.num).0 t)))
    (lowest_is place_count a)
    (lowest_is place_count b)

pub live_same : (ls ms : List Live) (x : Txn) → place_of ls x ≡ place_of ms x → is_live ls x ≡ is_live ms x
unfolding is_live
live_same ls ms x e = ap (λ (n : ℕ). not (same x nobody) && ltb n place_count) e
