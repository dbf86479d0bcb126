-- A loop that writes words, turn by turn, and what it leaves of packed tables where turn i sets element i of one of
-- their lists.
-- Rests on the rules' Tests and Layout, on basics and words_laws. Assumes nothing.
use Rattle.std.specs.Prelude.{◌≡◌, ◌⊎◌, List, T, ltb, length, set}
use Rattle.std.proofs.Math.Path.{refl, ap}
use Rattle.std.proofs.Common.{sym, ◌∙◌, inl, inr, le_refl, not-suc-le-zero, add-one, arith, ltb→lt, lt→ltb}
use Rattle.std.proofs.Math.Logic.{⊎_elim}
use Prim.Native.Nat.{ℕ, zero, suc, ◌+◌, ◌≤◌, ◌<◌}
use Rattle.std.proofs.Math.ListN.{get_or, length-set}
use Rattle.std.proofs.Math.Seq.{get_or-set_same, get_or-set_other}
use Rattle.rules.specs.Tests.{row}
use Rattle.rules.specs.Tables.{Tables}
use Rattle.rules.specs.Layout.{word_count, pack}
use Rattle.basics.specs.Logic.{passes_or_fails}
use Rattle.basics.specs.Ranges.{below_suc}
use Rattle.words_laws.specs.Parts.{row_is}

-- ---- numbers

-- a number reaches another, or is below it
pub reaches : (m n : ℕ) → (n ≤ m) ⊎ (m < n)
reaches m n = go (passes_or_fails (ltb m n))
  where
    go : T (ltb m n) ⊎ (T (ltb m n) → ⊥) → (n ≤ m) ⊎ (m < n)
    go (inl t) = inr (ltb→lt m n t)
    go (inr f) = let g : m < n → ⊥ = λ k. f (lt→ltb m n k) in inl (omega arith)

-- ---- one step after another

-- what a step leaves of the words that another left
pub after : (g : List ℕ → List ℕ) {ws vs us : List ℕ} → vs ≡ ws → us ≡ g vs → us ≡ g ws
after g e f = f ∙ ap g e

-- ---- loops as the code writes them

-- the words after n turns, of which turn i is `f i`
unfoldable pub loop : ℕ → (ℕ → List ℕ → List ℕ) → List ℕ → List ℕ
loop zero f ws = ws
loop (suc n) f ws = f n (loop n f ws)

-- the words after so many turns, which a record says so that its laws are found at it
pub record Turned (f : ℕ → List ℕ → List ℕ) (ws vs : List ℕ) (i : ℕ) : Type 0 where
  pub left : vs ≡ loop i f ws

module _ {f : ℕ → List ℕ → List ℕ} {ws : List ℕ} where
  pub turned_none : Turned f ws ws 0
  unfolding loop
  turned_none = record { left = refl }

  -- one turn more, as the code counts
  pub turned_more : {vs us : List ℕ} {i : ℕ} → Turned f ws vs i → us ≡ f i vs → Turned f ws us (i + 1)
  unfolding loop
  turned_more {vs} {us} {i} t r = record { left = r ∙ ap (f i) t.left ∙ ap (λ (k : ℕ). loop k f ws) (sym (add-one i)) }

  pub turned_all : {vs : List ℕ} {i n : ℕ} → Turned f ws vs i → i ≡ n → vs ≡ loop n f ws
  turned_all t e = t.left ∙ ap (λ (k : ℕ). loop k f ws) e

-- of n turns i are over: the words are those that they leave, and as many as ever
pub record Turning (n : ℕ) (f : ℕ → List ℕ → List ℕ) (ws vs : List ℕ) (i : ℕ) : Type 0 where
  pub at_most : i ≤ n
  pub size : length vs ≡ word_count
  pub left : vs ≡ loop i f ws

module _ {n : ℕ} {f : ℕ → List ℕ → List ℕ} {ws : List ℕ} where
  pub turning_none : length ws ≡ word_count → Turning n f ws ws 0
  turning_none e = record { at_most = omega arith; size = e; left = turned_none.left }

  pub turning_more : {vs us : List ℕ} {i : ℕ} → Turning n f ws vs i → i < n → length us ≡ length vs → us ≡ f i vs
      → Turning n f ws us (i + 1)
  turning_more t h e r =
      record { at_most = omega arith; size = e ∙ t.size; left = (turned_more (record { left = t.left }) r).left }

  pub turning_all : {vs : List ℕ} {i : ℕ} → Turning n f ws vs i → n ≤ i → vs ≡ loop n f ws
  turning_all {vs} {i} t h = turned_all (record { left = t.left }) (omega arith)

-- ---- a list of which each turn sets one element

module _ {A : Type 0} (d : A) (g : ℕ → A → A) (xs : List A) where
  -- the list after n turns, of which turn i puts `g i` of element i in its place
  unfoldable pub turns : ℕ → List A
  turns zero = xs
  turns (suc n) = set (turns n) n (g n (get_or xs n d))

  pub turns_length : (n : ℕ) → length (turns n) ≡ length xs
  unfolding turns
  turns_length zero = refl
  turns_length (suc n) = length-set (turns n) n (g n (get_or xs n d)) ∙ turns_length n

  -- an element whose turn has not come is as it was
  pub turns_after : (n i : ℕ) → n ≤ i → get_or (turns n) i d ≡ get_or xs i d
  unfolding turns
  turns_after zero i h = refl
  turns_after (suc n) i h =
      get_or-set_other (turns n) n i (g n (get_or xs n d)) d (omega arith) ∙ turns_after n i (omega arith)

  -- and one whose turn has come is as its turn put it
  turns_before : (n i : ℕ) → i < n → n ≤ length xs → get_or (turns n) i d ≡ g i (get_or xs i d)
  unfolding turns
  turns_before zero i h k = absurd (not-suc-le-zero h)
  turns_before (suc n) i h k =
      ⊎_elim
      (λ j. get_or-set_other (turns n) n i (g n (get_or xs n d)) d (omega arith) ∙ turns_before n i j (omega arith))
      (λ e.
      ap (λ (m : ℕ). get_or (set (turns n) n (g n (get_or xs n d))) m d) e
      ∙ get_or-set_same (turns n) n (g n (get_or xs n d)) d (omega (arith, turns_length n))
      ∙ ap (λ (m : ℕ). g m (get_or xs m d)) (sym e))
      (below_suc i n h)

  -- after a turn for each element the list is the row of what the turns put
  pub turns_row : (n : ℕ) → length xs ≡ n → turns n ≡ row n (λ i. g i (get_or xs i d))
  turns_row n e =
      sym
      (row_is n (λ i. g i (get_or xs i d)) d (turns n) (turns_length n ∙ e)
      (λ i h. sym (turns_before n i h (omega arith))))

  module _
      (into : List A → Tables)
      (f : ℕ → List ℕ → List ℕ)
      (step : (i : ℕ) (ys : List A) → i < length xs → length ys ≡ length xs → get_or ys i d ≡ get_or xs i d
      → f i (pack (into ys)) ≡ pack (into (set ys i (g i (get_or xs i d))))) where
    -- words that hold the tables with xs, after turns each of which writes one element anew
    pub loop_turns : (n : ℕ) → n ≤ length xs → loop n f (pack (into xs)) ≡ pack (into (turns n))
    unfolding loop turns
    loop_turns zero h = refl
    loop_turns (suc n) h =
        ap (f n) (loop_turns n (omega arith))
        ∙ step n (turns n) (omega arith) (turns_length n) (turns_after n n (le_refl n))

    pub loop_row : (n : ℕ) → length xs ≡ n → loop n f (pack (into xs)) ≡ pack (into (row n (λ i. g i (get_or xs i d))))
    loop_row n e = loop_turns n (omega arith) ∙ ap (λ (ys : List A). pack (into ys)) (turns_row n e)
