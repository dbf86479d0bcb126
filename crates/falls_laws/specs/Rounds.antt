-- Rounds of taking in dependents: what a round adds, that its members stay, and that as many rounds as there are places
-- leave nothing to add.
-- Rests on the rules' Falls, and on basics. Assumes nothing.
use Rattle.std.proofs.Common.{sym, lt_irrefl, lt_of_lt_of_le, arith}
use Rattle.std.proofs.Math.Path.{subst}
use Rattle.std.specs.Prelude.{Bool, true, false, ◌||◌, ◌⊎◌, ◌↔◌, List}
use Rattle.std.proofs.Math.Logic.{inl, inr, ⊎_elim}
use Prim.Native.Nat.{ℕ, zero, suc, ◌<◌}
use Rattle.std.proofs.Math.Dec.{T}
use Rattle.rules.specs.Tests.{◌⇒◌, count}
use Rattle.rules.specs.Sets.{has, within, meets}
use Rattle.rules.specs.Tables.{Live, place_count, place}
use Rattle.rules.specs.Falls.{and_dependents, rounds}
use Rattle.basics.specs.Logic.{or_says, passes_or_fails}
use Rattle.basics.specs.Ranges.{not_every, count_le, count_strictly_more}
use Rattle.basics.specs.Sets.{has_collect, within_says, meets_of, meets_at}

-- the first of an implication that fails holds, and the second does not
implies_fails : (a b : Bool) → (T (a ⇒ b) → ⊥) → T a × (T b → ⊥)
implies_fails true true f = absurd (f tt)
implies_fails true false f = (tt, λ t. t)
implies_fails false b f = absurd (f tt)

module _ (ls : List Live) where
  -- the members after a round: those before it, and those that depend on one of them
  pub round_says : (s q : ℕ) → q < place_count
      → T (has (and_dependents ls s) q) ↔ (T (has s q) ⊎ T (meets (place ls q).depends s))
  unfolding and_dependents
  round_says s q h =
      let e = has_collect place_count (λ p. has s p || meets (place ls p).depends s) q h in
      let o = or_says (has s q) (meets (place ls q).depends s) in
      (λ t. o.0 (subst T e t), λ d. subst T (sym e) (o.1 d))

  -- a round leaves s as it is: whoever depends on one of s is one of s
  abbrev pub Closed : ℕ → Type 0
  Closed s = (q : ℕ) → q < place_count → T (has (and_dependents ls s) q) → T (has s q)

  -- a round after one that added nothing adds nothing
  closed_again : (s : ℕ) → Closed s → Closed (and_dependents ls s)
  closed_again s c q h t =
      ⊎_elim (λ u. u)
      (λ u. let w = meets_at (place ls q).depends (and_dependents ls s) u in
      (round_says s q h).1 (inr (meets_of (place ls q).depends s w.0 w.1 w.2 (c w.0 w.1 w.3))))
      ((round_says (and_dependents ls s) q h).0 t)

  -- a round adds nothing, or the members become more
  closed_or_more : (s : ℕ) → Closed s ⊎ (count place_count (has s) < count place_count (has (and_dependents ls s)))
  unfolding within
  closed_or_more s = go (passes_or_fails (within (and_dependents ls s) s))
    where
      go : T (within (and_dependents ls s) s) ⊎ (T (within (and_dependents ls s) s) → ⊥)
          → Closed s ⊎ (count place_count (has s) < count place_count (has (and_dependents ls s)))
      go (inl t) = inl ((within_says (and_dependents ls s) s).0 t)
      go (inr f) =
          let w = not_every place_count (λ i. has (and_dependents ls s) i ⇒ has s i) f in
          let g = implies_fails (has (and_dependents ls s) w.0) (has s w.0) w.2 in
          inr
          (count_strictly_more place_count (has s) (has (and_dependents ls s)) (λ i h t. (round_says s i h).1 (inl t))
          w.0 w.1 g.0 g.1)

  module _ (s : ℕ) where
    -- members stay
    pub rounds_keep : (n q : ℕ) → q < place_count → T (has s q) → T (has (rounds n ls s) q)
    unfolding rounds
    rounds_keep zero q h t = t
    rounds_keep (suc n) q h t = (round_says (rounds n ls s) q h).1 (inl (rounds_keep n q h t))

    -- what holds of all in s, and of whoever depends on one of whom it holds, holds of all that the rounds take in
    pub rounds_only : (P : ℕ → Type 0) → ((q : ℕ) → q < place_count → T (has s q) → P q)
        → ((q r : ℕ) → r < place_count → T (has (place ls q).depends r) → P r → P q)
        → (n q : ℕ) → q < place_count → T (has (rounds n ls s) q) → P q
    unfolding rounds
    rounds_only P f g zero q h t = f q h t
    rounds_only P f g (suc n) q h t =
        ⊎_elim (rounds_only P f g n q h)
        (λ u. let w = meets_at (place ls q).depends (rounds n ls s) u in
        g q w.0 w.1 w.2 (rounds_only P f g n w.0 w.1 w.3))
        ((round_says (rounds n ls s) q h).0 t)

    -- after n rounds nothing is left to add, or there are more than n members
    closed_or_many : (n : ℕ) → 0 < count place_count (has s)
        → Closed (rounds n ls s) ⊎ (n < count place_count (has (rounds n ls s)))
    unfolding rounds
    closed_or_many zero h = inr h
    closed_or_many (suc n) h =
        let r = rounds n ls s in
        ⊎_elim (λ c. inl (closed_again r c))
        (λ k. ⊎_elim (λ c. inl (closed_again r c)) (λ m. inr (omega arith)) (closed_or_more r))
        (closed_or_many n h)

    -- as many rounds as there are places leave nothing to add to a set with a member
    pub rounds_closed : (p : ℕ) → p < place_count → T (has s p) → Closed (rounds place_count ls s)
    rounds_closed p h t =
        ⊎_elim (λ c. c)
        (λ k. absurd (lt_irrefl place_count (lt_of_lt_of_le k (count_le place_count (has (rounds place_count ls s))))))
        (closed_or_many place_count
        (omega (arith, count_strictly_more place_count (λ i. false) (has s) (λ i m u. absurd u) p h t (λ u. u))))
