-- A run of words made of rows, one after another: where each row begins, and that a run is known by its rows' words.
-- Rests on the rules' Tests, on Logic and Ranges. Assumes nothing.
use Rattle.std.specs.Prelude.{◌≡◌, refl, ◌⊎◌, length, get_or, take, drop, T, ltb}
use Rattle.std.proofs.Math.Path.{ap, sym}
use Rattle.std.proofs.Common.{◌∙◌, inl, inr, le_refl, add-zero, add-suc, arith, length-append, length-drop, get_or-append-add, get_or-take, get_or-drop, length-take-le, take_all, take-add, ext_get_or, ltb→lt, lt→ltb}
use mathlib.Core.List.{List, [], ◌∷◌, ◌++◌, append_assoc, append-nil}
use Prim.Native.Nat.{ℕ, zero, suc, ◌+◌, ◌≤◌, ◌<◌}
use Rattle.std.proofs.Math.ListN.{get_or-append, get_or-eq_default}
use Rattle.rules.specs.Tests.{row}
use Rattle.basics.specs.Logic.{passes_or_fails}
use Rattle.basics.specs.Ranges.{length_row, getD_row}

-- ---- a row at any index

module _ {A : Type 0} where
  -- inside its bound a row's element is as given, and past it the stand-in
  pub row_or_default : (n : ℕ) (f : ℕ → A) (i : ℕ) (d x : A) → (i < n → f i ≡ x) → (n ≤ i → d ≡ x)
      → get_or (row n f) i d ≡ x
  row_or_default n f i d x inside past = go (passes_or_fails (ltb i n))
    where
      go : T (ltb i n) ⊎ (T (ltb i n) → ⊥) → get_or (row n f) i d ≡ x
      go (inl t) = let h : i < n = ltb→lt i n t in getD_row n f i d h ∙ inside h
      go (inr g) =
          let h : i < n → ⊥ = λ k. g (lt→ltb i n k) in
          get_or-eq_default (row n f) d {n = i} (rw (length_row n f) (omega arith)) ∙ past (omega arith)

  -- a row, and the row that goes on from it
  pub row_more : (n m : ℕ) (f : ℕ → A) → row n f ++ row m (λ j. f (n + j)) ≡ row (n + m) f
  unfolding row
  row_more n zero f = append-nil (row n f) ∙ ap (λ (k : ℕ). row k f) (sym (add-zero n))
  row_more n (suc m) f =
      sym (append_assoc (row n f) (row m (λ j. f (n + j))) (f (n + m) ∷ []))
      ∙ ap (λ (l : List A). l ++ f (n + m) ∷ []) (row_more n m f)
      ∙ ap (λ (k : ℕ). row k f) (sym (add-suc n m))

  -- a row is the list of its length that has its elements
  pub row_is : (n : ℕ) (f : ℕ → A) (d : A) (xs : List A) → length xs ≡ n → ((i : ℕ) → i < n → f i ≡ get_or xs i d)
      → row n f ≡ xs
  row_is n f d xs e same =
      let l : length (row n f) ≡ n = length_row n f in
      ext_get_or d (row n f) xs (l ∙ sym e)
      (λ i h.
      let k : i < n = omega arith in
      getD_row n f i d k ∙ same i k)

-- ---- rows one after another

-- a row to come: how many words, and which
pub record Part : Type 0 where
  pub size : ℕ
  pub at : ℕ → ℕ

-- the row of f 0, f 1, and so on below n
abbrev pub part : ℕ → (ℕ → ℕ) → Part
part n f = record { size = n; at = f }

-- the words so far, and then the rows
abbrev pub extend : List ℕ → List Part → List ℕ
extend xs [] = xs
extend xs (p ∷ ps) = extend (xs ++ row p.size p.at) ps

-- where the rows end that begin at the given place
abbrev pub end_of : ℕ → List Part → ℕ
end_of off [] = off
end_of off (p ∷ ps) = end_of (off + p.size) ps

-- from the given place on, the words are those of the rows
abbrev pub Agrees : List ℕ → ℕ → List Part → Type 0
Agrees ws off [] = Unit {0}
Agrees ws off (p ∷ ps) = ((i : ℕ) → i < p.size → get_or ws (off + i) 0 ≡ p.at i) × Agrees ws (off + p.size) ps

infixr 10 ◌then◌
-- one row's words, and then the others'
abbrev pub ◌then◌ : {A B : Type 0} → A → B → A × B
a then b = (a, b)

length_one_more : (xs : List ℕ) (p : Part) → length (xs ++ row p.size p.at) ≡ length xs + p.size
length_one_more xs p = simp (length-append, length_row)

-- the rows end where they should
pub extend_length : (xs : List ℕ) (ps : List Part) → length (extend xs ps) ≡ end_of (length xs) ps
extend_length xs [] = refl
extend_length xs (p ∷ ps) =
    extend_length (xs ++ row p.size p.at) ps ∙ ap (λ (n : ℕ). end_of n ps) (length_one_more xs p)

-- the words so far stay
pub extend_front : (xs : List ℕ) (ps : List Part) (i : ℕ) → i < length xs → get_or (extend xs ps) i 0 ≡ get_or xs i 0
extend_front xs [] i h = refl
extend_front xs (p ∷ ps) i h =
    extend_front (xs ++ row p.size p.at) ps i (rw (length_one_more xs p) (omega arith))
    ∙ get_or-append xs (row p.size p.at) 0 i h

-- the words of the rows stand where they should
pub extend_agrees : (xs : List ℕ) (ps : List Part) → Agrees (extend xs ps) (length xs) ps
extend_agrees xs [] = tt
extend_agrees xs (p ∷ ps) = (
  λ i h.
      extend_front (xs ++ row p.size p.at) ps (length xs + i) (rw (length_one_more xs p) (omega arith))
      ∙ get_or-append-add xs (row p.size p.at) i 0
      ∙ getD_row p.size p.at i 0 h,
  rw (length_one_more xs p) at (extend_agrees (xs ++ row p.size p.at) ps),
)

end_after : (off : ℕ) (ps : List Part) → off ≤ end_of off ps
end_after off [] = le_refl off
end_after off (p ∷ ps) = omega (arith, end_after (off + p.size) ps)

-- words that agree with the rows, and end where they do, are the rows
pub agrees_extend : (ws : List ℕ) (off : ℕ) (ps : List Part) → Agrees ws off ps → end_of off ps ≡ length ws
    → extend (take off ws) ps ≡ ws
agrees_extend ws off [] a e = take_all off ws (omega arith)
agrees_extend ws off (p ∷ ps) a e =
    ap (λ (l : List ℕ). extend (take off ws ++ l) ps) same_row
    ∙ ap (λ (l : List ℕ). extend l ps) (sym (take-add off p.size ws))
    ∙ agrees_extend ws (off + p.size) ps a.1 e
  where
    fits : p.size ≤ length (drop off ws)
    fits = rw (length-drop off ws) (omega (arith, end_after (off + p.size) ps))

    same_row : row p.size p.at ≡ take p.size (drop off ws)
    same_row =
        row_is p.size p.at 0 (take p.size (drop off ws)) (length-take-le p.size (drop off ws) fits)
        (λ i h. sym (get_or-take p.size (drop off ws) i 0 h ∙ get_or-drop off ws i 0 ∙ a.0 i h))
