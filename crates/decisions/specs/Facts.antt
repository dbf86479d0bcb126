-- What the fact of each refusal says, in the terms that code tests: numbers and sets of the tables.
-- Rests on the rules' Answers, on basics and sound_laws. Assumes nothing.
use Rattle.std.specs.Prelude.{◌≡◌, true, false, cond, ◌&&◌, ◌↔◌, ltb, length}
use Rattle.std.proofs.Common.{sym, arith}
use Rattle.std.proofs.Math.Path.{subst}
use Rattle.std.proofs.Math.Bool.{Bool, not}
use Rattle.std.proofs.Math.Logic.{⊎_elim, Iff.rfl as iff_rfl}
use Prim.Native.Nat.{ℕ, ◌^◌, ◌≤◌, ◌<◌}
use Rattle.std.proofs.Math.Dec.{T}
use Rattle.rules.specs.Tests.{◌⇒◌, some_below, lowest}
use Rattle.rules.specs.Sets.{width, has, collect, within}
use Rattle.rules.specs.Tables.{Tables, nobody, same, object_count, place_count, chain_room, log_room, last_number, object, place, is_free, is_live, chain}
use Rattle.rules.specs.Sound.{sound}
use Rattle.rules.specs.Steps.{free_places}
use Rattle.rules.specs.Answers.{is_crash, is_commit, same_kind, Call, unsound, no_such_object, never_given_out, no_longer_live, after_a_prepare, lost, wait, died, not_accessed, prepared_before, chain_full, unprepared, unsaved, dependency_live, log_full, places_full, numbers_spent, asker, holder, is_unprepared, is_unsaved, is_missing, is_lost, is_out_of_range, fact}
use Rattle.basics.specs.Logic.{and_says, or_says, not_says, equal_says, at_most_says, below_says}
use Rattle.basics.specs.Ranges.{every_at, every_of, not_every, some_at, some_of, lowest_at, lowest_is}
use Rattle.basics.specs.Sets.{has_collect, has_zero, collect_lt, no_member, within_says}
use Rattle.sound_laws.specs.Means.{means}
use Rattle.sound_laws.specs.Known.{live_given}

-- a test that says something, and its negation
ruleset tells = (and_says, or_says, not_says, equal_says, at_most_says, below_says)

not_below : (m n : ℕ) → T (not (ltb m n)) ↔ (n ≤ m)
not_below m n = (
  λ t. let f : m < n → ⊥ = λ k. (not_says (ltb m n)).0 t ((below_says m n).1 k) in omega arith,
  λ h. (not_says (ltb m n)).1 (λ u. let k = (below_says m n).0 u in omega arith),
)

module _ (t : Tables) (c : Call) where
  abbrev x : ℕ
  x = c.who.num

  abbrev o : ℕ
  o = c.what.num

  -- sound tables are not refused as unsound
  pub not_unsound : T (sound t) → T (fact unsound t c) → ⊥
  unfolding fact
  not_unsound s u = (not_says (sound t)).0 u s

  pub object_says : same_kind c.kind is_crash ≡ false → T (fact no_such_object t c) ↔ (object_count ≤ o)
  unfolding fact is_out_of_range
  object_says e = subst (λ (b : Bool). T (cond b (not (ltb c.value (2 ^ width))) (not (ltb o object_count))) ↔ (object_count ≤ o)) (sym e) (not_below o object_count)

  pub set_says : same_kind c.kind is_crash ≡ true → T (fact no_such_object t c) ↔ (2 ^ width ≤ c.value)
  unfolding fact is_out_of_range
  set_says e = subst (λ (b : Bool). T (cond b (not (ltb c.value (2 ^ width))) (not (ltb o object_count))) ↔ (2 ^ width ≤ c.value)) (sym e) (not_below c.value (2 ^ width))

  -- a live transaction was given out
  pub live_given_out : T (sound t) → T (is_live t.live c.who) → T (fact never_given_out t c) → ⊥
  unfolding fact
  live_given_out s l u =
      let given = live_given t (means t s) c.who l in
      ⊎_elim (λ w. let e = (equal_says x 0).0 w in omega arith) (λ w. let k = (not_below x t.next.num).0 w in omega arith)
      ((or_says (same c.who nobody) (not (ltb x t.next.num))).0 u)

  pub gone_says : T (fact no_longer_live t c) ↔ (T (is_live t.live c.who) → ⊥)
  unfolding fact
  gone_says = not_says (is_live t.live c.who)

  pub prepared_says : T (fact after_a_prepare t c) ↔ ((asker t c).prepared ≡ 0 → ⊥)
  unfolding fact
  prepared_says = simp tells iff_rfl

  -- lost at read, write or prepare
  pub lost_says : same_kind c.kind is_commit ≡ false
      → T (fact lost t c) ↔ ((T (has (asker t c).accessed o) × (T (has (asker t c).prepared o) → ⊥)) × ((holder t c).num ≡ x → ⊥))
  unfolding fact is_lost
  lost_says e =
      subst
      (λ (b : Bool). T (cond b (some_below object_count (is_missing t c)) (is_unprepared t c o && not (same (holder t c) c.who)))
      ↔ ((T (has (asker t c).accessed o) × (T (has (asker t c).prepared o) → ⊥)) × ((holder t c).num ≡ x → ⊥)))
      (sym e)
      (simp tells iff_rfl)

  pub wait_says : T (fact wait t c) ↔ ((((holder t c).num ≡ 0 → ⊥) × ((holder t c).num ≡ x → ⊥)) × (x < (holder t c).num))
  unfolding fact
  wait_says = simp tells iff_rfl

  pub died_says : T (fact died t c) ↔ ((((holder t c).num ≡ 0 → ⊥) × ((holder t c).num ≡ x → ⊥)) × ((holder t c).num < x))
  unfolding fact
  died_says = simp tells iff_rfl

  pub not_accessed_says : T (fact not_accessed t c) ↔ (T (has (asker t c).accessed o) → ⊥)
  unfolding fact
  not_accessed_says = not_says (has (asker t c).accessed o)

  pub prepared_before_says : T (fact prepared_before t c) ↔ T (has (asker t c).prepared o)
  unfolding fact
  prepared_before_says = iff_rfl

  pub chain_full_says : T (fact chain_full t c) ↔ ((chain_room ≤ length (chain (object t c.what))) × T (has (asker t c).written o))
  unfolding fact
  chain_full_says = simp tells iff_rfl

  pub dependency_says : T (fact dependency_live t c) ↔ ((asker t c).depends ≡ 0 → ⊥)
  unfolding fact
  dependency_says = simp tells iff_rfl

  pub log_full_says : T (fact log_full t c) ↔ (log_room ≤ length t.log)
  unfolding fact
  log_full_says = at_most_says log_room (length t.log)

  pub spent_says : T (fact numbers_spent t c) ↔ (last_number < t.next.num)
  unfolding fact
  spent_says = below_says last_number t.next.num

-- ---- facts over all objects or places

-- some number below the bound passes exactly where the lowest one that does is below it
some_says_lowest : (n : ℕ) (f : ℕ → Bool) → T (some_below n f) ↔ (lowest n f < n)
some_says_lowest n f = (
  λ u. let w = some_at n f u in let l = (lowest_at n f w.0 w.1 w.2).0 in omega (arith, w.1),
  λ h. some_of n f (lowest n f) h ((lowest_is n f).passes h),
)

-- where the first test does not lead to the second, it passes and the second fails
leads_not : (p q : Bool) → (T (p ⇒ q) → ⊥) → T (p && not q)
leads_not true true f = f tt
leads_not true false f = tt
leads_not false q f = absurd (f tt)

not_within : (a r : ℕ) → (T (within a r) → ⊥) → T (some_below object_count (λ i. has a i && not (has r i)))
unfolding within
not_within a r f =
    let k = not_every width (λ i. has a i ⇒ has r i) f in
    some_of object_count (λ i. has a i && not (has r i)) k.0 k.1 (leads_not (has a k.0) (has r k.0) k.2)

module _ (t : Tables) (c : Call) where
  -- an accessed object is unprepared exactly where accessed does not lie within prepared
  pub unprepared_says : T (fact unprepared t c) ↔ (T (within (asker t c).accessed (asker t c).prepared) → ⊥)
  unfolding fact
  unprepared_says =
      let a = (asker t c).accessed in
      let r = (asker t c).prepared in (
        λ u w.
            let k = some_at object_count (λ i. has a i && not (has r i)) u in
            let b = (and_says (has a k.0) (not (has r k.0))).0 k.2 in
            (not_says (has r k.0)).0 b.1 ((within_says a r).0 w k.0 k.1 b.0),
        λ f. not_within a r f,
      )

  pub missing_says : same_kind c.kind is_commit ≡ true → T (fact lost t c) ↔ (lowest object_count (is_missing t c) < object_count)
  unfolding fact is_lost
  missing_says e =
      subst
      (λ (b : Bool). T (cond b (some_below object_count (is_missing t c)) (is_unprepared t c c.what.num && not (same (holder t c) c.who))) ↔ (lowest object_count (is_missing t c) < object_count))
      (sym e)
      (some_says_lowest object_count (is_missing t c))

  pub unsaved_says : T (fact unsaved t c) ↔ (lowest object_count (is_unsaved t c) < object_count)
  unfolding fact
  unsaved_says = some_says_lowest object_count (is_unsaved t c)

  -- no place is free exactly where the set of free places is empty
  pub full_says : T (fact places_full t c) ↔ (free_places t ≡ 0)
  unfolding fact free_places
  full_says =
      let f : ℕ → Bool = λ p. is_free (place t.live p) in (
        λ u. no_member place_count (collect place_count f) (collect_lt place_count f)
            (λ p h m. (not_says (f p)).0 (every_at place_count (λ q. not (f q)) u p h) (subst T (has_collect place_count f p h) m)),
        λ e. every_of place_count (λ q. not (f q)) (λ p h. (not_says (f p)).1 (λ m. has_zero p (subst (λ (n : ℕ). T (has n p)) e (subst T (sym (has_collect place_count f p h)) m)))),
      )
