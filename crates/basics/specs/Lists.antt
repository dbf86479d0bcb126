-- Tests over a list's elements as what they say, and how they fare under `++`, `keep`, `leading` and one element more.
-- Rests on the rules' Tests and on Logic. Assumes nothing.
use Rattle.std.specs.Prelude.{◌≡◌, Bool, ◌⊎◌, ◌↔◌, ℕ, zero, suc, ◌<◌, length, get_or}
use Rattle.std.proofs.Math.Path.{refl, ap, subst}
use Rattle.std.proofs.Common.{sym, ◌∙◌, inl, inr, not-suc-le-zero, zero-lt-suc, arith}
use Rattle.std.proofs.Math.Bool.{true, false, cond}
use mathlib.Core.List.{List, [], ◌∷◌, ◌++◌}
use Rattle.std.proofs.Math.Dec.{T}
use Rattle.rules.specs.Tests.{all, neighbours, keep, leading, after_leading, last_or}
use Rattle.basics.specs.Logic.{and_says, passes_or_fails, cond_true, cond_false}

module _ {A : Type 0} where
  -- ---- every element

  abbrev pub All : (A → Type 0) → List A → Type 0
  All P [] = Unit {0}
  All P (x ∷ xs) = P x × All P xs

  pub all_says : (p : A → Bool) (xs : List A) → T (all p xs) ↔ All (λ x. T (p x)) xs
  unfolding all
  all_says p [] = (λ t. t, λ t. t)
  all_says p (x ∷ xs) =
      let s = and_says (p x) (all p xs) in
      let r = all_says p xs in
      (λ t. ((s.0 t).0, r.0 (s.0 t).1), λ q. s.1 (q.0, r.1 q.1))

  pub All-map : {P Q : A → Type 0} → ((x : A) → P x → Q x) → (xs : List A) → All P xs → All Q xs
  All-map f [] h = tt
  All-map f (x ∷ xs) h = (f x h.0, All-map f xs h.1)

  pub All-zip : {P Q R : A → Type 0} → ((x : A) → P x → Q x → R x) → (xs : List A) → All P xs → All Q xs → All R xs
  All-zip f [] h k = tt
  All-zip f (x ∷ xs) h k = (f x h.0 k.0, All-zip f xs h.1 k.1)

  pub All-append : (P : A → Type 0) (xs ys : List A) → All P (xs ++ ys) ↔ (All P xs × All P ys)
  All-append P [] ys = (λ h. (tt, h), λ h. h.1)
  All-append P (x ∷ xs) ys =
      let r = All-append P xs ys in
      (λ h. ((h.0, (r.0 h.1).0), (r.0 h.1).1), λ h. (h.0.0, r.1 (h.0.1, h.1)))

  pub All-at : (P : A → Type 0) (xs : List A) (i : ℕ) (d : A) → All P xs → i < length xs → P (get_or xs i d)
  All-at P [] i d h k = absurd (not-suc-le-zero k)
  All-at P (x ∷ xs) zero d h k = h.0
  All-at P (x ∷ xs) (suc i) d h k = All-at P xs i d h.1 (omega arith)

  -- ---- every two neighbours

  abbrev pub Neighbours : (A → A → Type 0) → List A → Type 0
  Neighbours R [] = Unit {0}
  Neighbours R (x ∷ []) = Unit {0}
  Neighbours R (x ∷ y ∷ ys) = R x y × Neighbours R (y ∷ ys)

  pub neighbours_says : (p : A → A → Bool) (xs : List A) → T (neighbours p xs) ↔ Neighbours (λ x y. T (p x y)) xs
  unfolding neighbours
  neighbours_says p [] = (λ t. t, λ t. t)
  neighbours_says p (x ∷ []) = (λ t. t, λ t. t)
  neighbours_says p (x ∷ y ∷ ys) =
      let s = and_says (p x y) (neighbours p (y ∷ ys)) in
      let r = neighbours_says p (y ∷ ys) in
      (λ t. ((s.0 t).0, r.0 (s.0 t).1), λ q. s.1 (q.0, r.1 q.1))

  -- a relation that follows from another for elements of a kind
  pub Neighbours-map : {P : A → Type 0} {R S : A → A → Type 0} → ((x y : A) → P x → P y → R x y → S x y)
      → (xs : List A) → All P xs → Neighbours R xs → Neighbours S xs
  Neighbours-map f [] h r = tt
  Neighbours-map f (x ∷ []) h r = tt
  Neighbours-map f (x ∷ y ∷ ys) h r = (f x y h.0 h.1.0 r.0, Neighbours-map f (y ∷ ys) h.1 r.1)

  pub Neighbours-zip : {P : A → Type 0} {Q R S : A → A → Type 0} → ((x y : A) → P x → P y → Q x y → R x y → S x y)
      → (xs : List A) → All P xs → Neighbours Q xs → Neighbours R xs → Neighbours S xs
  Neighbours-zip f [] h q r = tt
  Neighbours-zip f (x ∷ []) h q r = tt
  Neighbours-zip f (x ∷ y ∷ ys) h q r =
      (f x y h.0 h.1.0 q.0 r.0, Neighbours-zip f (y ∷ ys) h.1 q.1 r.1)

  module _ (R : A → A → Type 0) where
    pub Neighbours-tail : (x : A) (xs : List A) → Neighbours R (x ∷ xs) → Neighbours R xs
    Neighbours-tail x [] r = tt
    Neighbours-tail x (y ∷ ys) r = r.1

    pub Neighbours-front : (xs ys : List A) → Neighbours R (xs ++ ys) → Neighbours R xs
    Neighbours-front [] ys r = tt
    Neighbours-front (x ∷ []) ys r = tt
    Neighbours-front (x ∷ y ∷ xs) ys r = (r.0, Neighbours-front (y ∷ xs) ys r.1)

    pub Neighbours-back : (xs ys : List A) → Neighbours R (xs ++ ys) → Neighbours R ys
    Neighbours-back [] ys r = r
    Neighbours-back (x ∷ xs) ys r = Neighbours-back xs ys (Neighbours-tail x (xs ++ ys) r)

    -- one element more at the end, which goes with the last one before it
    pub Neighbours-more : (d : A) (xs : List A) (y : A) → Neighbours R xs → (0 < length xs → R (last_or d xs) y)
        → Neighbours R (xs ++ y ∷ [])
    unfolding last_or
    Neighbours-more d [] y r h = tt
    Neighbours-more d (x ∷ []) y r h = (h (zero-lt-suc 0), tt)
    Neighbours-more d (x ∷ z ∷ zs) y r h = (r.0, Neighbours-more x (z ∷ zs) y r.1 (λ k. h (zero-lt-suc (suc (length zs)))))

  -- ---- the last element

  pub last_more : (d : A) (xs : List A) (y : A) → last_or d (xs ++ y ∷ []) ≡ y
  unfolding last_or
  last_more d [] y = refl
  last_more d (x ∷ xs) y = last_more x xs y

  pub last_append : (d : A) (xs ys : List A) → last_or d (xs ++ ys) ≡ last_or (last_or d xs) ys
  unfolding last_or
  last_append d [] ys = refl
  last_append d (x ∷ xs) ys = last_append x xs ys

  -- the last of a list that is not empty is whatever the stand-in
  pub last_any : (d e : A) (xs : List A) → 0 < length xs → last_or d xs ≡ last_or e xs
  unfolding last_or
  last_any d e [] h = absurd (not-suc-le-zero h)
  last_any d e (x ∷ xs) h = refl

  pub All-last : (P : A → Type 0) (d : A) (xs : List A) → P d → All P xs → P (last_or d xs)
  unfolding last_or
  All-last P d [] h k = h
  All-last P d (x ∷ xs) h k = All-last P x xs k.0 k.1

  -- ---- keep

  module _ (p : A → Bool) where
    pub keep_true : (x : A) (xs : List A) → T (p x) → keep p (x ∷ xs) ≡ x ∷ keep p xs
    unfolding keep
    keep_true x xs t = cond_true (p x) (x ∷ keep p xs) (keep p xs) t

    pub keep_false : (x : A) (xs : List A) → (T (p x) → ⊥) → keep p (x ∷ xs) ≡ keep p xs
    unfolding keep
    keep_false x xs f = cond_false (p x) (x ∷ keep p xs) (keep p xs) f

    pub keep_append : (xs ys : List A) → keep p (xs ++ ys) ≡ keep p xs ++ keep p ys
    unfolding keep
    keep_append [] ys = refl
    keep_append (x ∷ xs) ys = go (p x) (keep_append xs ys)
      where
        go : (b : Bool) → keep p (xs ++ ys) ≡ keep p xs ++ keep p ys
            → cond b (x ∷ keep p (xs ++ ys)) (keep p (xs ++ ys)) ≡ cond b (x ∷ keep p xs) (keep p xs) ++ keep p ys
        go true e = ap (λ (l : List A). x ∷ l) e
        go false e = e

    -- all pass: all are kept; none passes: none is
    pub keep_all : (xs : List A) → All (λ x. T (p x)) xs → keep p xs ≡ xs
    unfolding keep
    keep_all [] h = refl
    keep_all (x ∷ xs) h = keep_true x xs h.0 ∙ ap (λ (l : List A). x ∷ l) (keep_all xs h.1)

    pub keep_none : (xs : List A) → All (λ x. T (p x) → ⊥) xs → keep p xs ≡ []
    unfolding keep
    keep_none [] h = refl
    keep_none (x ∷ xs) h = keep_false x xs h.0 ∙ keep_none xs h.1

    -- what is kept passes
    pub keep_pass : (xs : List A) → All (λ x. T (p x)) (keep p xs)
    unfolding keep
    keep_pass [] = tt
    keep_pass (x ∷ xs) = go (passes_or_fails (p x)) (keep_pass xs)
      where
        go : T (p x) ⊎ (T (p x) → ⊥) → All (λ y. T (p y)) (keep p xs) → All (λ y. T (p y)) (cond (p x) (x ∷ keep p xs) (keep p xs))
        go (inl t) h = subst (All (λ y. T (p y))) (sym (cond_true (p x) (x ∷ keep p xs) (keep p xs) t)) (t, h)
        go (inr f) h = subst (All (λ y. T (p y))) (sym (cond_false (p x) (x ∷ keep p xs) (keep p xs) f)) h

    -- and what holds of all holds of what is kept
    pub All-keep : (P : A → Type 0) (xs : List A) → All P xs → All P (keep p xs)
    unfolding keep
    All-keep P [] h = tt
    All-keep P (x ∷ xs) h = go (p x) (All-keep P xs h.1)
      where
        go : (b : Bool) → All P (keep p xs) → All P (cond b (x ∷ keep p xs) (keep p xs))
        go true k = (h.0, k)
        go false k = k

    -- where whoever passes has only such before it, and the last passes, all do
    pub pass_before : (d : A) (xs : List A) → Neighbours (λ e f. T (p f) → T (p e)) xs → T (p (last_or d xs)) → All (λ x. T (p x)) xs
    unfolding last_or
    pass_before d [] r t = tt
    pass_before d (x ∷ []) r t = (t, tt)
    pass_before d (x ∷ y ∷ ys) r t = let h = pass_before x (y ∷ ys) r.1 t in (r.0 h.0, h)

    -- where whoever passes has only such before it, those that fail are the end of the list
    pub fail_on : (x : A) (xs : List A) → Neighbours (λ e f. T (p f) → T (p e)) (x ∷ xs) → (T (p x) → ⊥) → All (λ e. T (p e) → ⊥) (x ∷ xs)
    fail_on x [] r f = (f, tt)
    fail_on x (y ∷ ys) r f = (f, fail_on y ys r.1 (λ t. f (r.0 t)))

    -- so what is kept is the beginning
    pub keep_front : (xs : List A) → Neighbours (λ e f. T (p f) → T (p e)) xs → (ys : List A) × (xs ≡ keep p xs ++ ys)
    unfolding keep
    keep_front [] r = ([], refl)
    keep_front (x ∷ xs) r = go (passes_or_fails (p x)) (keep_front xs (Neighbours-tail (λ e f. T (p f) → T (p e)) x xs r))
      where
        go : T (p x) ⊎ (T (p x) → ⊥) → (ys : List A) × (xs ≡ keep p xs ++ ys) → (ys : List A) × (x ∷ xs ≡ keep p (x ∷ xs) ++ ys)
        go (inl t) w = (w.0, ap (λ (l : List A). x ∷ l) w.1 ∙ ap (λ (l : List A). l ++ w.0) (sym (keep_true x xs t)))
        go (inr f) w = (x ∷ xs, ap (λ (l : List A). l ++ x ∷ xs) (sym (keep_none (x ∷ xs) (fail_on x xs r f))))

    -- ---- leading

    pub leading_split : (xs : List A) → xs ≡ leading p xs ++ after_leading p xs
    unfolding leading after_leading
    leading_split [] = refl
    leading_split (x ∷ xs) = go (p x) (leading_split xs)
      where
        go : (b : Bool) → xs ≡ leading p xs ++ after_leading p xs
            → x ∷ xs ≡ cond b (x ∷ leading p xs) [] ++ cond b (after_leading p xs) (x ∷ xs)
        go true e = ap (λ (l : List A). x ∷ l) e
        go false e = refl

    -- where all pass, none is left after the leading ones
    pub after_leading_none : (xs : List A) → All (λ x. T (p x)) xs → after_leading p xs ≡ []
    unfolding after_leading
    after_leading_none [] h = refl
    after_leading_none (x ∷ xs) h = cond_true (p x) (after_leading p xs) (x ∷ xs) h.0 ∙ after_leading_none xs h.1

    pub leading_pass : (xs : List A) → All (λ x. T (p x)) (leading p xs)
    unfolding leading
    leading_pass [] = tt
    leading_pass (x ∷ xs) = go (p x) (λ t. t) (leading_pass xs)
      where
        go : (b : Bool) → (T b → T (p x)) → All (λ y. T (p y)) (leading p xs) → All (λ y. T (p y)) (cond b (x ∷ leading p xs) [])
        go true f h = (f tt, h)
        go false f h = tt

    -- where whoever passes has only such before it, nobody after the leading ones passes
    pub after_leading_fail : (xs : List A) → Neighbours (λ e f. T (p f) → T (p e)) xs → All (λ x. T (p x) → ⊥) (after_leading p xs)
    unfolding after_leading
    after_leading_fail [] r = tt
    after_leading_fail (x ∷ xs) r =
        go (passes_or_fails (p x)) (after_leading_fail xs (Neighbours-tail (λ e f. T (p f) → T (p e)) x xs r))
      where
        go : T (p x) ⊎ (T (p x) → ⊥) → All (λ y. T (p y) → ⊥) (after_leading p xs)
            → All (λ y. T (p y) → ⊥) (cond (p x) (after_leading p xs) (x ∷ xs))
        go (inl t) h = subst (All (λ y. T (p y) → ⊥)) (sym (cond_true (p x) (after_leading p xs) (x ∷ xs) t)) h
        go (inr f) h = subst (All (λ y. T (p y) → ⊥)) (sym (cond_false (p x) (after_leading p xs) (x ∷ xs) f)) (fail_on x xs r f)
