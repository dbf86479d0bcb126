-- Who is logged and under which number: what `is_logged` and `log_number` say, and how one record more changes them.
-- Rests on the rules' Tables, on basics, Means and Live. Assumes nothing.
use Rattle.std.specs.Prelude.{◌≡◌, Bool, List, [], ◌∷◌, ◌++◌, get_or}
use Rattle.std.proofs.Math.Path.{ap, sym, subst}
use Rattle.std.proofs.Common.{◌∙◌, ⊎_elim, lt_of_le_of_lt, length-append}
use Prim.Native.Nat.{ℕ, suc, ◌-◌, ◌≤◌, ◌<◌}
use native.Mathlib.Omega.{arith}
use Rattle.std.proofs.Math.Dec.{T}
use Rattle.std.proofs.Math.ListN.{length, get_or-append}
use Rattle.std.proofs.Math.Seq.{get_or-append_seam}
use Rattle.rules.specs.Tests.{lowest}
use Rattle.rules.specs.Tables.{Txn, lsn, nobody, same, record_at, log_number, is_logged}
use Rattle.basics.specs.Logic.{equal_says, at_most_says}
use Rattle.basics.specs.Ranges.{IsLowest, lowest_is, lowest_at, one_lowest, below_suc}
use Rattle.basics.specs.Lists.{All, All-at}
use Rattle.sound_laws.specs.Live.{same_txn}

-- record i + 1 names x
pub record Names (rs : List Txn) (x : Txn) (i : ℕ) : Type 0 where
  pub below : i < length rs
  pub there : get_or rs i nobody ≡ x

module _ (rs : List Txn) (x : Txn) where
  abbrev named_by : ℕ → Bool
  named_by i = same (get_or rs i nobody) x

  pub logged_at : T (is_logged rs x) → Names rs x ((log_number rs x).num - 1)
  unfolding is_logged log_number
  logged_at t =
      let h : lowest (length rs) named_by < length rs = (at_most_says (suc (lowest (length rs) named_by)) (length rs)).0 t in
      let e : suc (lowest (length rs) named_by) - 1 ≡ lowest (length rs) named_by = omega arith in
      record {
        below = rw e h;
        there =
            rw e
            (same_txn (get_or rs (lowest (length rs) named_by) nobody) x
            ((equal_says (get_or rs (lowest (length rs) named_by) nobody).num x.num).0 ((lowest_is (length rs) named_by).passes h)));
      }

  pub names_logged : (i : ℕ) → Names rs x i → T (is_logged rs x)
  unfolding is_logged log_number
  names_logged i n =
      let l = lowest_at (length rs) named_by i n.below ((equal_says (get_or rs i nobody).num x.num).1 (ap (λ (y : Txn). y.num) n.there)) in
      (at_most_says (suc (lowest (length rs) named_by)) (length rs)).1 (lt_of_le_of_lt l.0 n.below)

  -- a log number is at least 1, and of a logged transaction at most the log's length
  pub number_positive : 1 ≤ (log_number rs x).num
  unfolding log_number
  number_positive = omega arith

  pub number_at_most : T (is_logged rs x) → (log_number rs x).num ≤ length rs
  unfolding is_logged
  number_at_most t = (at_most_says (log_number rs x).num (length rs)).0 t

-- the record of a logged transaction's log number names it
pub record_names : (rs : List Txn) (x : Txn) → T (is_logged rs x) → record_at rs (log_number rs x) ≡ x
record_names rs x t = (logged_at rs x t).there

-- what holds of each record's transaction holds of each logged one
pub of_logged : (P : Txn → Type 0) (rs : List Txn) (x : Txn) → All P rs → T (is_logged rs x) → P x
of_logged P rs x h t =
    let n = logged_at rs x t in
    subst P n.there (All-at P rs ((log_number rs x).num - 1) nobody h n.below)

-- ---- one record more

module _ (rs : List Txn) (y : Txn) where
  more : List Txn
  more = rs ++ y ∷ []

  length_more : length (rs ++ y ∷ []) ≡ suc (length rs)
  length_more = simp length-append (omega arith)

  old_record : (i : ℕ) → i < length rs → get_or (rs ++ y ∷ []) i nobody ≡ get_or rs i nobody
  old_record i h = get_or-append rs (y ∷ []) nobody i h

  new_record : get_or (rs ++ y ∷ []) (length rs) nobody ≡ y
  new_record = get_or-append_seam rs y [] nobody

  pub logged_more : (x : Txn) → T (is_logged rs x) → T (is_logged (rs ++ y ∷ []) x)
  logged_more x t =
      let n = logged_at rs x t in
      names_logged (rs ++ y ∷ []) x ((log_number rs x).num - 1)
      (record { below = omega (arith, length_more, n.below); there = old_record ((log_number rs x).num - 1) n.below ∙ n.there })

  pub logged_new : T (is_logged (rs ++ y ∷ []) y)
  logged_new = names_logged (rs ++ y ∷ []) y (length rs) (record { below = omega (arith, length_more); there = new_record })

  pub logged_before : (x : Txn) → (x.num ≡ y.num → ⊥) → T (is_logged (rs ++ y ∷ []) x) → T (is_logged rs x)
  logged_before x d t =
      let n = logged_at (rs ++ y ∷ []) x t in
      let i = (log_number (rs ++ y ∷ []) x).num - 1 in
      let h : i < suc (length rs) = omega (arith, length_more, n.below) in
      ⊎_elim
      (λ k. names_logged rs x i (record { below = k; there = sym (old_record i k) ∙ n.there }))
      (λ e. absurd (d (ap (λ (z : Txn). z.num) (sym n.there ∙ ap (λ (j : ℕ). get_or (rs ++ y ∷ []) j nobody) e ∙ new_record))))
      (below_suc i (length rs) h)

  -- the number of an old record stays, and that of the new one is the next
  abbrev IsNumber : List Txn → Txn → ℕ → Type 0
  IsNumber qs x r = IsLowest (length qs) (λ i. same (get_or qs i nobody) x) r

  pub number_stays : (x : Txn) → T (is_logged rs x) → log_number (rs ++ y ∷ []) x ≡ log_number rs x
  unfolding log_number is_logged
  number_stays x t =
      let r = lowest (length rs) (λ i. same (get_or rs i nobody) x) in
      let low = lowest_is (length rs) (λ i. same (get_or rs i nobody) x) in
      let h : r < length rs = (at_most_says (suc r) (length rs)).0 t in
      let low' : IsNumber (rs ++ y ∷ []) x r =
      record {
        at_most = omega (arith, length_more);
        none_below = λ i k u. low.none_below i k (subst (λ (z : Txn). T (same z x)) (old_record i (omega arith)) u);
        passes = λ k. subst (λ (z : Txn). T (same z x)) (sym (old_record r h)) (low.passes h);
      } in
      ap (λ (n : ℕ). lsn (suc n))
      (one_lowest (length (rs ++ y ∷ [])) (λ i. same (get_or (rs ++ y ∷ []) i nobody) x) (λ i. same (get_or (rs ++ y ∷ []) i nobody) x)
      (lowest (length (rs ++ y ∷ [])) (λ i. same (get_or (rs ++ y ∷ []) i nobody) x)) r (λ i k u. u) (λ i k u. u)
      (lowest_is (length (rs ++ y ∷ [])) (λ i. same (get_or (rs ++ y ∷ []) i nobody) x)) low')

  pub number_next : (T (is_logged rs y) → ⊥) → (log_number (rs ++ y ∷ []) y).num ≡ suc (length rs)
  unfolding log_number
  number_next f =
      let low' : IsNumber (rs ++ y ∷ []) y (length rs) =
      record {
        at_most = omega (arith, length_more);
        none_below = λ i k u. f (names_logged rs y i (record { below = k; there = sym (old_record i k) ∙ same_txn (get_or (rs ++ y ∷ []) i nobody) y ((equal_says (get_or (rs ++ y ∷ []) i nobody).num y.num).0 u) }));
        passes = λ k. (equal_says (get_or (rs ++ y ∷ []) (length rs) nobody).num y.num).1 (ap (λ (z : Txn). z.num) new_record);
      } in
      ap suc
      (one_lowest (length (rs ++ y ∷ [])) (λ i. same (get_or (rs ++ y ∷ []) i nobody) y) (λ i. same (get_or (rs ++ y ∷ []) i nobody) y)
      (lowest (length (rs ++ y ∷ [])) (λ i. same (get_or (rs ++ y ∷ []) i nobody) y)) (length rs) (λ i k u. u) (λ i k u. u)
      (lowest_is (length (rs ++ y ∷ [])) (λ i. same (get_or (rs ++ y ∷ []) i nobody) y)) low')
