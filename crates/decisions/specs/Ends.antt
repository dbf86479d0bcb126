-- Which reason comes first at start and crash, at the calls that name an object alone, and at commit once its transaction
-- is live, in the terms that code tests, each test after those before it failed.
-- Rests on the rules' Answers, on answers_laws and Facts. Assumes nothing.
use Rattle.std.specs.Prelude.{◌≡◌, refl, false, true, List, [], ◌∷◌, ℕ, ◌^◌, ◌≤◌, ◌<◌, T, length}
use Rattle.std.proofs.Common.{inl, inr, arith}
use Rattle.rules.specs.Tests.{lowest}
use Rattle.rules.specs.Sets.{width, within}
use Rattle.rules.specs.Tables.{Tables, object_count, log_room, last_number}
use Rattle.rules.specs.Steps.{free_places}
use Rattle.rules.specs.Answers.{is_crash, is_commit, same_kind, Call, Refusal, no_such_object, lost, unprepared, unsaved, dependency_live, log_full, places_full, numbers_spent, asker, is_missing, is_unsaved, fact}
use Rattle.basics.specs.Lists.{All}
use Rattle.answers_laws.specs.Exactly.{IsFirst}
use Rattle.decisions.specs.Facts.{object_says, set_says, unprepared_says, missing_says, unsaved_says, dependency_says, log_full_says, spent_says, full_says}

-- what commit asks of a live transaction
abbrev pub commit_rest : List Refusal
commit_rest = unprepared ∷ lost ∷ unsaved ∷ dependency_live ∷ log_full ∷ []

module _ (t : Tables) (c : Call) where
  abbrev o : ℕ
  o = c.what.num

  abbrev first : List Refusal → Refusal → Type 0
  first = IsFirst (λ q. fact q t c)

  abbrev nothing : List Refusal → Type 0
  nothing = All (λ q. T (fact q t c) → ⊥)

  -- ---- start

  pub spent_first : last_number < t.next.num → first (numbers_spent ∷ places_full ∷ []) numbers_spent
  spent_first k = inl (refl, (spent_says t c).1 k)

  pub full_first : t.next.num ≤ last_number → free_places t ≡ 0 → first (numbers_spent ∷ places_full ∷ []) places_full
  full_first k e = inr ((λ u. let w = (spent_says t c).0 u in omega arith), inl (refl, (full_says t c).1 e))

  pub start_none : t.next.num ≤ last_number → (free_places t ≡ 0 → ⊥) → nothing (numbers_spent ∷ places_full ∷ [])
  start_none k e = ((λ u. let w = (spent_says t c).0 u in omega arith), ((λ u. e ((full_says t c).0 u)), tt))

  -- ---- an object; crash: a set

  pub object_first : (rest : List Refusal) → same_kind c.kind is_crash ≡ false → object_count ≤ o → first (no_such_object ∷ rest) no_such_object
  object_first rest d k = inl (refl, (object_says t c d).1 k)

  pub object_none : same_kind c.kind is_crash ≡ false → o < object_count → nothing (no_such_object ∷ [])
  object_none d k = ((λ u. let w = (object_says t c d).0 u in omega arith), tt)

  pub set_first : same_kind c.kind is_crash ≡ true → 2 ^ width ≤ c.value → first (no_such_object ∷ []) no_such_object
  set_first d k = inl (refl, (set_says t c d).1 k)

  pub set_none : same_kind c.kind is_crash ≡ true → c.value < 2 ^ width → nothing (no_such_object ∷ [])
  set_none d k = ((λ u. let w = (set_says t c d).0 u in omega arith), tt)

  -- ---- commit of a live transaction

  pub unprepared_first : (T (within (asker t c).accessed (asker t c).prepared) → ⊥) → first commit_rest unprepared
  unprepared_first f = inl (refl, (unprepared_says t c).1 f)

  module _ (is : same_kind c.kind is_commit ≡ true) (all_prepared : T (within (asker t c).accessed (asker t c).prepared)) where
    prepared_fails : T (fact unprepared t c) → ⊥
    prepared_fails u = (unprepared_says t c).0 u all_prepared

    pub missing_first : lowest object_count (is_missing t c) < object_count → first commit_rest lost
    missing_first k = inr (prepared_fails, inl (refl, (missing_says t c is).1 k))

    module _ (none_missing : object_count ≤ lowest object_count (is_missing t c)) where
      missing_fails : T (fact lost t c) → ⊥
      missing_fails u = let w = (missing_says t c is).0 u in omega arith

      pub unsaved_first : lowest object_count (is_unsaved t c) < object_count → first commit_rest unsaved
      unsaved_first k = inr (prepared_fails, inr (missing_fails, inl (refl, (unsaved_says t c).1 k)))

      module _ (all_saved : object_count ≤ lowest object_count (is_unsaved t c)) where
        unsaved_fails : T (fact unsaved t c) → ⊥
        unsaved_fails u = let w = (unsaved_says t c).0 u in omega arith

        pub dependency_first : ((asker t c).depends ≡ 0 → ⊥) → first commit_rest dependency_live
        dependency_first d = inr (prepared_fails, inr (missing_fails, inr (unsaved_fails, inl (refl, (dependency_says t c).1 d))))

        module _ (none_left : (asker t c).depends ≡ 0) where
          dependency_fails : T (fact dependency_live t c) → ⊥
          dependency_fails u = (dependency_says t c).0 u none_left

          pub log_full_first : log_room ≤ length t.log → first commit_rest log_full
          log_full_first k = inr (prepared_fails, inr (missing_fails, inr (unsaved_fails, inr (dependency_fails, inl (refl, (log_full_says t c).1 k)))))

          pub commit_none : length t.log < log_room → nothing commit_rest
          commit_none k =
              (prepared_fails, (missing_fails, (unsaved_fails, (dependency_fails, ((λ u. let w = (log_full_says t c).0 u in omega arith), tt)))))
