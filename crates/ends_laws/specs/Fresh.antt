-- Words that are zero but for the next number, which is 1, are fresh tables.
-- Rests on the rules' Layout, on words_laws. Assumes nothing.
use Rattle.std.specs.Prelude.{◌≡◌, refl, List, ℕ, zero, suc, ◌+◌, ◌-◌, ◌*◌, ◌<◌, ◌≤◌, ◌++◌, length, get_or, set, replicate, take}
use Rattle.std.proofs.Common.{ap, sym, ◌∙◌, ⊎_elim, arith, length-set, get_or-set_same, get_or-set_other}
use Rattle.std.proofs.Math.ListN.{get_or-append}
use Rattle.std.proofs.lemmas.List.{length-replicate, length-take, get_or-take, get_or-append_right}
use Rattle.rules.specs.Tables.{Object, Live, obj, object_count, place_count, chain_room, fresh_object, free_place, fresh, object, place, chain}
use Rattle.rules.specs.Layout.{word_count, no_entry, pack, word}
use Rattle.basics.specs.Ranges.{below_suc}
use Rattle.words_laws.specs.Says.{Column, number, accessed, written, prepared, depends, stable_value, stable_writer, stable_number, holder, working, saved_count, queued_count, start, cell, says_packed}
use Rattle.ends_laws.specs.Loops.{reaches}

-- the first of n words is 1, and zero the others
abbrev pub OneFirst : List ℕ → ℕ → Type 0
OneFirst ws n = (word ws 0 ≡ 1) × ((k : ℕ) → 0 < k → k < n → word ws k ≡ 0)

-- the first two words
pub one_first_start : (ws : List ℕ) → 1 < length ws → OneFirst (set (set ws 0 1) 1 0) 2
one_first_start ws h = (
  get_or-set_other (set ws 0 1) 1 0 0 0 (omega arith) ∙ get_or-set_same ws 0 1 0 (omega arith),
  λ k l m.
      let e : k ≡ 1 = omega arith in
      ap (λ (i : ℕ). word (set (set ws 0 1) 1 0) i) e
      ∙ get_or-set_same (set ws 0 1) 1 0 0 (simp length-set h),
)

-- one zero more
pub one_first_more : (ws : List ℕ) (n m z : ℕ) → m ≡ suc n → z ≡ 0 → 0 < n → n < length ws → OneFirst ws n
    → OneFirst (set ws n z) m
one_first_more ws n m z r e h k o = (
  get_or-set_other ws n 0 z 0 (omega arith) ∙ o.0,
  λ j l below.
      ⊎_elim
      (λ g. get_or-set_other ws n j z 0 (omega arith) ∙ o.1 j l g)
      (λ g. ap (λ (i : ℕ). word (set ws n z) i) g ∙ get_or-set_same ws n z 0 k ∙ e)
      (below_suc j n (omega arith)),
)

pub get_or_replicate : {A : Type 0} (n : ℕ) (a : A) (i : ℕ) → get_or (replicate n a) i a ≡ a
get_or_replicate zero a i = refl
get_or_replicate (suc n) a zero = refl
get_or_replicate (suc n) a (suc i) = get_or_replicate n a i

-- zeros written behind the words so far
pub one_first_zeros : (ws ys rest : List ℕ) (a k m : ℕ) → ys ≡ replicate k 0 → m ≡ a + k → 0 < a → a ≤ length ws → OneFirst ws a
    → OneFirst (take a ws ++ (ys ++ rest)) m
one_first_zeros ws ys rest a k m zeros all some within o = (
  before 0 some ∙ o.0,
  λ j l below.
      ⊎_elim
      (λ g. ap (λ (zs : List ℕ). word (take a ws ++ (zs ++ rest)) j) zeros ∙ here j g (omega arith))
      (λ g. before j g ∙ o.1 j l g)
      (reaches j a),
)
  where
    front : length (take a ws) ≡ a
    front = omega (arith, length-take a ws)

    before : (j : ℕ) → j < a → word (take a ws ++ (ys ++ rest)) j ≡ word ws j
    before j h = get_or-append (take a ws) (ys ++ rest) 0 j (omega (arith, front)) ∙ get_or-take a ws j 0 h

    here : (j : ℕ) → a ≤ j → j < a + k → word (take a ws ++ (replicate k 0 ++ rest)) j ≡ 0
    here j g h =
        get_or-append_right (take a ws) (replicate k 0 ++ rest) a j 0 front g
        ∙ get_or-append (replicate k 0) rest 0 (j - a) (omega (arith, length-replicate {A = ℕ} k 0))
        ∙ get_or_replicate k 0 (j - a)

fresh_place : (p : ℕ) → place fresh.live p ≡ free_place
unfolding fresh
fresh_place p = get_or_replicate place_count free_place p

fresh_there : (i : ℕ) → object fresh (obj i) ≡ fresh_object
unfolding fresh
fresh_there i = get_or_replicate object_count fresh_object i

zero_cell : (c : Column) (i : ℕ) → cell fresh c i ≡ 0
zero_cell number i = ap (λ (l : Live). l.number.num) (fresh_place i)
zero_cell accessed i = ap (λ (l : Live). l.accessed) (fresh_place i)
zero_cell written i = ap (λ (l : Live). l.written) (fresh_place i)
zero_cell prepared i = ap (λ (l : Live). l.prepared) (fresh_place i)
zero_cell depends i = ap (λ (l : Live). l.depends) (fresh_place i)
zero_cell stable_value i = ap (λ (b : Object). b.stable.value) (fresh_there i)
zero_cell stable_writer i = ap (λ (b : Object). b.stable.writer.num) (fresh_there i)
zero_cell stable_number i = ap (λ (b : Object). b.stable.at.num) (fresh_there i)
zero_cell holder i = ap (λ (b : Object). b.holder.num) (fresh_there i)
zero_cell working i = ap (λ (b : Object). b.working) (fresh_there i)
zero_cell saved_count i = ap (λ (b : Object). length b.saved) (fresh_there i)
zero_cell queued_count i = ap (λ (b : Object). length b.queued) (fresh_there i)

start_within : (c : Column) → (0 < start c) × (start c < 867)
start_within number = omega arith
start_within accessed = omega arith
start_within written = omega arith
start_within prepared = omega arith
start_within depends = omega arith
start_within stable_value = omega arith
start_within stable_writer = omega arith
start_within stable_number = omega arith
start_within holder = omega arith
start_within working = omega arith
start_within saved_count = omega arith
start_within queued_count = omega arith

pub fresh_packs : (ws : List ℕ) → length ws ≡ word_count → OneFirst ws word_count → ws ≡ pack fresh
unfolding fresh
fresh_packs ws e o =
    sym
    (says_packed ws fresh e
    (record {
      next = o.0;
      log_count = o.1 1 (omega arith) (omega arith);
      log = λ i h. o.1 (2 + i) (omega arith) (omega arith);
      column = λ c i h.
          let w = start_within c in
          o.1 (start c + i) (omega arith) (omega arith) ∙ sym (zero_cell c i);
      chain_value = λ i j h k.
          o.1 (898 + (chain_room * i + j)) (omega arith) (omega arith)
          ∙ ap (λ (b : Object). (get_or (chain b) j no_entry).value) (sym (fresh_there i));
      chain_writer = λ i j h k.
          o.1 (1154 + (chain_room * i + j)) (omega arith) (omega arith)
          ∙ ap (λ (b : Object). (get_or (chain b) j no_entry).writer.num) (sym (fresh_there i));
    }))
