-- Which reason comes first in each part of the orders, in the terms that code tests, each test after those before it
-- failed: what a call that names a transaction and an object is refused for, and then a read, a write or a prepare.
-- Rests on the rules' Answers, on answers_laws, sound_laws and Facts. Assumes nothing.
use Rattle.std.specs.Prelude.{◌≡◌, refl, false, List, [], ◌∷◌, ℕ, ◌≤◌, ◌<◌, T, length}
use Rattle.std.proofs.Common.{subst, inl, inr, arith}
use Rattle.rules.specs.Sets.{has}
use Rattle.rules.specs.Tables.{Txn, Tables, object_count, chain_room, object, is_live, sets_of, chain}
use Rattle.rules.specs.Sound.{sound}
use Rattle.rules.specs.Answers.{is_commit, same_kind, Call, Refusal, no_such_object, never_given_out, no_longer_live, after_a_prepare, lost, wait, died, not_accessed, prepared_before, chain_full, asker, holder, fact}
use Rattle.basics.specs.Lists.{All}
use Rattle.basics.specs.Sets.{has_zero}
use Rattle.answers_laws.specs.Exactly.{IsFirst}
use Rattle.sound_laws.specs.Means.{means}
use Rattle.sound_laws.specs.Live.{same_txn}
use Rattle.decisions.specs.Facts.{live_given_out, gone_says, prepared_says, lost_says, wait_says, died_says, not_accessed_says, prepared_before_says, chain_full_says}

-- ---- the parts: for naming a transaction, for naming an object and a transaction, and after that

abbrev pub living : List Refusal
living = never_given_out ∷ no_longer_live ∷ []

abbrev pub naming : List Refusal
naming = no_such_object ∷ living

abbrev pub access_rest : List Refusal
access_rest = after_a_prepare ∷ lost ∷ wait ∷ died ∷ []

abbrev pub prepare_rest : List Refusal
prepare_rest = not_accessed ∷ prepared_before ∷ lost ∷ chain_full ∷ []

module _ (t : Tables) (c : Call) where
  abbrev x : ℕ
  x = c.who.num

  abbrev o : ℕ
  o = c.what.num

  abbrev h : ℕ
  h = (holder t c).num

  abbrev first : List Refusal → Refusal → Type 0
  first = IsFirst (λ q. fact q t c)

  abbrev nothing : List Refusal → Type 0
  nothing = All (λ q. T (fact q t c) → ⊥)

  -- ---- a transaction that was given out and is live

  pub living_none : T (sound t) → T (is_live t.live c.who) → nothing living
  living_none s l = (live_given_out t c s l, (λ u. (gone_says t c).0 u l, tt))

  pub never_first : T (fact never_given_out t c) → first living never_given_out
  never_first u = inl (refl, u)

  pub gone_first : (T (fact never_given_out t c) → ⊥) → (T (is_live t.live c.who) → ⊥) → first living no_longer_live
  gone_first given g = inr (given, inl (refl, (gone_says t c).1 g))

  -- ---- read and write of an object by a live transaction

  pub prepared_first : ((asker t c).prepared ≡ 0 → ⊥) → first access_rest after_a_prepare
  prepared_first f = inl (refl, (prepared_says t c).1 f)

  module _ (s : T (sound t)) (not_commit : same_kind c.kind is_commit ≡ false) (below : o < object_count)
      (none_prepared : (asker t c).prepared ≡ 0) where
    prepare_fails : T (fact after_a_prepare t c) → ⊥
    prepare_fails u = (prepared_says t c).0 u none_prepared

    unprepared : T (has (asker t c).prepared o) → ⊥
    unprepared m = has_zero o (subst (λ (d : ℕ). T (has d o)) none_prepared m)

    pub lost_first : T (has (asker t c).accessed o) → (h ≡ x → ⊥) → first access_rest lost
    lost_first a d = inr (prepare_fails, inl (refl, (lost_says t c not_commit).1 ((a, unprepared), d)))

    pub held_none : T (has (asker t c).accessed o) → h ≡ x → nothing access_rest
    held_none a e =
        (prepare_fails, ((λ u. ((lost_says t c not_commit).0 u).1 e), ((λ u. ((wait_says t c).0 u).0.1 e), ((λ u. ((died_says t c).0 u).0.1 e), tt))))

    module _ (new : T (has (asker t c).accessed o) → ⊥) where
      not_lost : T (fact lost t c) → ⊥
      not_lost u = new ((lost_says t c not_commit).0 u).0.0

      pub free_none : h ≡ 0 → nothing access_rest
      free_none e = (prepare_fails, (not_lost, ((λ u. ((wait_says t c).0 u).0.0 e), ((λ u. ((died_says t c).0 u).0.0 e), tt))))

      -- a holder is another: one that holds the object accessed it
      other : (h ≡ 0 → ⊥) → h ≡ x → ⊥
      other z e =
          new (subst (λ (y : Txn). T (has (sets_of t.live y).accessed o)) (same_txn (holder t c) c.who e)
          (((means t s).object_ok o below).holder_accessed z))

      pub wait_first : (h ≡ 0 → ⊥) → x < h → first access_rest wait
      wait_first z k = inr (prepare_fails, inr (not_lost, inl (refl, (wait_says t c).1 ((z, other z), k))))

      pub died_first : (h ≡ 0 → ⊥) → h ≤ x → first access_rest died
      died_first z k =
          inr (prepare_fails, inr (not_lost, inr ((λ u. let w = ((wait_says t c).0 u).1 in omega arith), inl (refl, (died_says t c).1 ((z, other z), less (other z))))))
        where
          less : (h ≡ x → ⊥) → h < x
          less d = omega arith

  -- ---- prepare of an object by a live transaction

  pub not_accessed_first : (T (has (asker t c).accessed o) → ⊥) → first prepare_rest not_accessed
  not_accessed_first f = inl (refl, (not_accessed_says t c).1 f)

  module _ (not_commit : same_kind c.kind is_commit ≡ false) (accessed : T (has (asker t c).accessed o)) where
    was_accessed : T (fact not_accessed t c) → ⊥
    was_accessed u = (not_accessed_says t c).0 u accessed

    pub prepared_before_first : T (has (asker t c).prepared o) → first prepare_rest prepared_before
    prepared_before_first m = inr (was_accessed, inl (refl, (prepared_before_says t c).1 m))

    module _ (open_still : T (has (asker t c).prepared o) → ⊥) where
      before_fails : T (fact prepared_before t c) → ⊥
      before_fails u = open_still ((prepared_before_says t c).0 u)

      pub lost_at_prepare : (h ≡ x → ⊥) → first prepare_rest lost
      lost_at_prepare d = inr (was_accessed, inr (before_fails, inl (refl, (lost_says t c not_commit).1 ((accessed, open_still), d))))

      module _ (holds : h ≡ x) where
        lost_fails : T (fact lost t c) → ⊥
        lost_fails u = ((lost_says t c not_commit).0 u).1 holds

        pub full_first : chain_room ≤ length (chain (object t c.what)) → T (has (asker t c).written o) → first prepare_rest chain_full
        full_first k w = inr (was_accessed, inr (before_fails, inr (lost_fails, inl (refl, (chain_full_says t c).1 (k, w)))))

        pub prepare_none : (chain_room ≤ length (chain (object t c.what)) → T (has (asker t c).written o) → ⊥) → nothing prepare_rest
        prepare_none f = (was_accessed, (before_fails, (lost_fails, ((λ u. let w = (chain_full_says t c).0 u in f w.0 w.1), tt))))
