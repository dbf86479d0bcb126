-- Those that fall with a transaction are exactly that one and those that reach it through dependencies, directly or
-- through others: both directions, against the plain relation.
-- Rests on the rules' Falls, on basics and on Rounds. Assumes nothing.
use Rattle.std.specs.Prelude.{◌≡◌, refl, ◌↔◌, List, ℕ, ◌<◌, T, eqb}
use Rattle.std.proofs.Common.{sym, subst, inr}
use Rattle.rules.specs.Sets.{has, collect}
use Rattle.rules.specs.Tables.{Live, place_count, place}
use Rattle.rules.specs.Falls.{fallen}
use Rattle.basics.specs.Logic.{equal_says}
use Rattle.basics.specs.Sets.{has_collect, meets_of}
use Rattle.falls_laws.specs.Rounds.{round_says, rounds_keep, rounds_only, rounds_closed}

-- the transaction at place q reaches the one at p: it is the same one, or it depends on one that reaches it
pub data Reaches (ls : List Live) (p : ℕ) : ℕ → Type 0 where
  itself : Reaches ls p p
  through : (q r : ℕ) → r < place_count → T (has (place ls q).depends r) → Reaches ls p r → Reaches ls p q

-- the set of one place, and its member
abbrev only : ℕ → ℕ
only p = collect place_count (λ q. eqb q p)

only_says : (p q : ℕ) → q < place_count → T (has (only p) q) ↔ (q ≡ p)
only_says p q h =
    let e = has_collect place_count (λ i. eqb i p) q h in
    (λ t. (equal_says q p).0 (subst T e t), λ d. subst T (sym e) ((equal_says q p).1 d))

-- the transaction itself falls
pub falls_itself : (ls : List Live) (p : ℕ) → p < place_count → T (has (fallen ls p) p)
unfolding fallen
falls_itself ls p h = rounds_keep ls (only p) place_count p h ((only_says p p h).1 refl)

-- whoever depends on one that falls, falls
pub falls_along : (ls : List Live) (p : ℕ) → p < place_count → (q r : ℕ) → q < place_count → r < place_count
    → T (has (place ls q).depends r) → T (has (fallen ls p) r) → T (has (fallen ls p) q)
unfolding fallen
falls_along ls p h q r k m d t =
    rounds_closed ls (only p) p h ((only_says p p h).1 refl) q k
    ((round_says ls (fallen ls p) q k).1 (inr (meets_of (place ls q).depends (fallen ls p) r m d t)))

-- whoever falls reaches it
pub fallen_reach : (ls : List Live) (p : ℕ) → p < place_count
    → (q : ℕ) → q < place_count → T (has (fallen ls p) q) → Reaches ls p q
unfolding fallen
fallen_reach ls p h q k t =
    rounds_only ls (only p) (Reaches ls p)
    (λ i m u. subst (Reaches ls p) (sym ((only_says p i m).0 u)) itself)
    (λ i r. through i r)
    place_count q k t

-- whoever reaches it falls
pub reach_fallen : (ls : List Live) (p : ℕ) → p < place_count
    → (q : ℕ) → q < place_count → Reaches ls p q → T (has (fallen ls p) q)
reach_fallen ls p h q k itself = falls_itself ls p h
reach_fallen ls p h q k (through _ r m d x) = falls_along ls p h q r k m d (reach_fallen ls p h r m x)
