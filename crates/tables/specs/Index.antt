-- An index of the log by buckets: for each bucket its last record, for each record the one before it in its bucket; how a
-- record is put into it, and how a walk down a bucket finds a transaction's log number.
-- Rests on the rules' Layout, on basics and on Highest. Assumes nothing.
use Rattle.std.specs.Prelude.{◌≡◌, refl, Bool, List, ℕ, suc, ◌+◌, ◌-◌, ◌%◌, ◌≤◌, ◌<◌, T, eqb, length, get_or, set, replicate}
use Rattle.std.proofs.Math.Path.{ap, sym}
use Rattle.std.proofs.Common.{◌∙◌, subst, ⊎_elim, le_refl, not-suc-le-zero, add-one, length-set, get_or-set_same, get_or-set_other}
use native.Mathlib.Omega.{arith}
use Rattle.std.proofs.lemmas.List.{length-replicate, get_or-replicate}
use Rattle.rules.specs.Tables.{log_room}
use Rattle.rules.specs.Layout.{log_at, word_count, word}
use Rattle.basics.specs.Logic.{equal_says}
use Rattle.basics.specs.Ranges.{below_suc, same_or_other}
use Rattle.tables.specs.Highest.{highest, highest_here, highest_below, highest_le, highest_passes, highest_within}

-- the transaction of record i + 1
abbrev pub key : List ℕ → ℕ → ℕ
key ws i = word ws (log_at + i)

-- record i + 1 names x
abbrev pub names : List ℕ → ℕ → ℕ → Bool
names ws x i = eqb (key ws i) x

-- how many buckets there are, and the bucket of a number
abbrev pub buckets : ℕ
buckets = 1024

abbrev pub bucket_of : ℕ → ℕ
bucket_of x = x % buckets

-- record i + 1 is in bucket b
abbrev pub in_bucket : List ℕ → ℕ → ℕ → Bool
in_bucket ws b i = eqb (bucket_of (key ws i)) b

-- the log number of x among the first n records, the last of several, or 0 where none names it
abbrev pub number_among : List ℕ → ℕ → ℕ → ℕ
number_among ws n x = highest n (names ws x)

-- the index of the first n records
pub record Index (ws : List ℕ) (n : ℕ) (head before : List ℕ) : Type 0 where
  pub head_size : length head ≡ buckets
  pub before_size : length before ≡ log_room
  pub heads : (b : ℕ) → b < buckets → get_or head b 0 ≡ highest n (in_bucket ws b)
  pub befores : (i : ℕ) → i < n → get_or before i 0 ≡ highest i (in_bucket ws (bucket_of (key ws i)))

-- and the words are of the right count, and the records have room in them
pub record IndexOf (ws : List ℕ) (n : ℕ) (head before : List ℕ) : Type 0 where
  pub right_length : length ws ≡ word_count
  pub count_fits : n ≤ log_room
  pub index : Index ws n head before

-- a bucket's last record is one of those indexed
pub head_low : (ws : List ℕ) (n : ℕ) (head before : List ℕ) → Index ws n head before → (b : ℕ) → b < buckets → get_or head b 0 ≤ n
head_low ws n head before index b h = omega (arith, index.heads b h, highest_le (in_bucket ws b) n)

-- an index of no records
pub no_records : (ws : List ℕ) → Index ws 0 (replicate buckets 0) (replicate log_room 0)
unfolding highest
no_records ws =
    record {
      head_size = length-replicate {A = ℕ} buckets 0;
      before_size = length-replicate {A = ℕ} log_room 0;
      heads = λ b h. get_or-replicate {A = ℕ} buckets b 0 0 h;
      befores = λ i h. absurd (not-suc-le-zero h);
    }

-- and of words of the right count
pub of_no_records : (ws : List ℕ) → length ws ≡ word_count → IndexOf ws 0 (replicate buckets 0) (replicate log_room 0)
of_no_records ws right = record { right_length = right; count_fits = omega arith; index = no_records ws }

-- one record more
module _ (ws : List ℕ) (n : ℕ) (head before : List ℕ) (index : Index ws n head before) (b : ℕ) (here : b ≡ bucket_of (key ws n)) where
  new_heads : (c : ℕ) → c < buckets → get_or (set head b (suc n)) c 0 ≡ highest (suc n) (in_bucket ws c)
  new_heads c h =
      ⊎_elim
      (λ e.
      ap (λ (k : ℕ). get_or (set head b (suc n)) k 0) e
      ∙ get_or-set_same head b (suc n) 0 (omega (arith, index.head_size))
      ∙ sym (highest_here (in_bucket ws c) n ((equal_says (bucket_of (key ws n)) c).1 (sym here ∙ sym e))))
      (λ d.
      get_or-set_other head b c (suc n) 0 d
      ∙ index.heads c h
      ∙ sym (highest_below (in_bucket ws c) n (λ t. d (sym (here ∙ (equal_says (bucket_of (key ws n)) c).0 t)))))
      (same_or_other c b)

  new_befores : n < log_room → (i : ℕ) → i < suc n
      → get_or (set before n (get_or head b 0)) i 0 ≡ highest i (in_bucket ws (bucket_of (key ws i)))
  new_befores room i h =
      ⊎_elim
      (λ k.
      let d : i ≡ n → ⊥ = λ e. omega arith in
      get_or-set_other before n i (get_or head b 0) 0 d ∙ index.befores i k)
      (λ e.
      ap (λ (k : ℕ). get_or (set before n (get_or head b 0)) k 0) e
      ∙ get_or-set_same before n (get_or head b 0) 0 (omega (arith, index.before_size))
      ∙ index.heads b (omega arith)
      ∙ ap (λ (c : ℕ). highest n (in_bucket ws c)) here
      ∙ ap (λ (k : ℕ). highest k (in_bucket ws (bucket_of (key ws k)))) (sym e))
      (below_suc i n h)

  pub one_more : n < log_room → Index ws (n + 1) (set head b (n + 1)) (set before n (get_or head b 0))
  one_more room =
      rw (add-one n)
      (record {
        head_size = length-set head b (suc n) ∙ index.head_size;
        before_size = length-set before n (get_or head b 0) ∙ index.before_size;
        heads = new_heads;
        befores = new_befores room;
      })

-- and of words of the right count
pub of_one_more : (ws : List ℕ) (n : ℕ) (head before : List ℕ) → IndexOf ws n head before → (b : ℕ) → b ≡ bucket_of (key ws n)
    → n < log_room → IndexOf ws (n + 1) (set head b (n + 1)) (set before n (get_or head b 0))
of_one_more ws n head before of b here room =
    record {
      right_length = of.right_length;
      count_fits = omega arith;
      index = one_more ws n head before of.index b here room;
    }

-- ---- walking a bucket

-- a walk that looks for x has come down to the record numbered by the place: what is left to find is at or below it, and
-- it is in x's bucket
pub record Walk (ws : List ℕ) (n x place : ℕ) : Type 0 where
  pub low : place ≤ n
  pub left : number_among ws n x ≡ number_among ws place x
  pub same_bucket : (i : ℕ) → place ≡ suc i → bucket_of (key ws i) ≡ bucket_of x

module _ (ws : List ℕ) (n x : ℕ) where
  -- whoever has the number is in its bucket
  in_its_bucket : (b : ℕ) → b ≡ bucket_of x → (i : ℕ) → T (names ws x i) → T (in_bucket ws b i)
  in_its_bucket b e i t =
      (equal_says (bucket_of (key ws i)) b).1 (ap bucket_of ((equal_says (key ws i) x).0 t) ∙ sym e)

  -- down from the records below m, by their highest of the bucket
  walk_down : (m b place : ℕ) → m ≤ n → b ≡ bucket_of x → number_among ws n x ≡ number_among ws m x
      → place ≡ highest m (in_bucket ws b) → Walk ws n x place
  walk_down m b place h e l p =
      record {
        low = omega (arith, highest_le (in_bucket ws b) m);
        left =
            l
            ∙ highest_within (names ws x) (in_bucket ws b) (in_its_bucket b e) m
            ∙ ap (λ (k : ℕ). number_among ws k x) (sym p);
        same_bucket = λ i q.
            (equal_says (bucket_of (key ws i)) b).0 (highest_passes (in_bucket ws b) m i (sym p ∙ q)) ∙ e;
      }

  module _ (head before : List ℕ) (index : Index ws n head before) where
    pub walk_starts : (b place : ℕ) → b ≡ bucket_of x → place ≡ get_or head b 0 → Walk ws n x place
    walk_starts b place e p = walk_down n b place (le_refl n) e refl (p ∙ index.heads b (omega arith))

    pub walk_goes_on : (i : ℕ) → Walk ws n x (suc i) → (key ws i ≡ x → ⊥) → Walk ws n x (get_or before i 0)
    walk_goes_on i w d =
        walk_down i (bucket_of (key ws i)) (get_or before i 0) (omega (arith, w.low)) (w.same_bucket i refl)
        (w.left ∙ highest_below (names ws x) i (λ t. d ((equal_says (key ws i) x).0 t)))
        (index.befores i w.low)

  pub walk_finds : (i : ℕ) → Walk ws n x (suc i) → key ws i ≡ x → suc i ≡ number_among ws n x
  walk_finds i w e = sym (w.left ∙ highest_here (names ws x) i ((equal_says (key ws i) x).1 e))

  pub walk_ends : (place : ℕ) → place ≤ 0 → Walk ws n x place → 0 ≡ number_among ws n x
  unfolding highest
  walk_ends place z w = sym (w.left ∙ ap (λ (k : ℕ). number_among ws k x) (let e : place ≡ 0 = omega arith in e))

-- the same at a place that is not written as a successor
module _ (ws : List ℕ) (n x place : ℕ) (up : 0 < place) (w : Walk ws n x place) where
  place_suc : suc (place - 1) ≡ place
  place_suc = omega arith

  place_word : word ws (place + 1) ≡ key ws (place - 1)
  place_word = ap (word ws) (omega arith)

  pub found : word ws (place + 1) ≡ x → place ≡ number_among ws n x
  found e =
      sym place_suc ∙ walk_finds ws n x (place - 1) (subst (Walk ws n x) (sym place_suc) w) (sym place_word ∙ e)

  pub not_found : (head before : List ℕ) → Index ws n head before → (word ws (place + 1) ≡ x → ⊥)
      → Walk ws n x (get_or before (place - 1) 0)
  not_found head before index d =
      walk_goes_on ws n x head before index (place - 1) (subst (Walk ws n x) (sym place_suc) w) (λ e. d (place_word ∙ e))

  pub falls_by_one : (head before : List ℕ) → Index ws n head before → get_or before (place - 1) 0 < place
  falls_by_one head before index =
      let e = index.befores (place - 1) (omega (arith, w.low)) in
      omega (arith, highest_le (in_bucket ws (bucket_of (key ws (place - 1)))) (place - 1))

  pub falls_far : (head before : List ℕ) → Index ws n head before → n ≤ log_room → get_or before (place - 1) 0 < 1024
  falls_far head before index room = omega (arith, falls_by_one head before index, w.low)
