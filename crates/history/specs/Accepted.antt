-- What a history says was written, as one event more is told: only a write that is done changes it, for its
-- transaction and object; and replaying a log asks for nothing but what its transactions wrote last.
-- Rests on the rules' History and on basics. Assumes nothing.
use Rattle.std.specs.Prelude.{◌≡◌, Bool, true, false, cond, ◌&&◌, List, [], ◌∷◌, ◌++◌, ℕ}
use Rattle.std.proofs.Math.Path.{refl, fun_ext}
use Rattle.std.proofs.Common.{ap, sym, ◌∙◌}
use Rattle.std.proofs.Math.Option.{Option, none, some}
use Rattle.rules.specs.Tables.{Txn, Obj, same}
use Rattle.rules.specs.Answers.{is_write, Call, Answer}
use Rattle.rules.specs.History.{Event, is_done, same_object, is_of, value_of, last_value, last_accepted, or_else, replay}
use Rattle.basics.specs.Logic.{and_says, equal_says, cond_true, cond_false}
use Rattle.basics.specs.Lists.{All}

-- what each transaction wrote last to each object
abbrev pub Heard : Type 0
Heard = Txn → Obj → Option ℕ

-- ---- one event more

-- what x wrote last to object o, once an event is told, where it was s before
abbrev once_told : Event → Txn → Obj → Option ℕ → Option ℕ
once_told e x o s =
    cond (is_done is_write e.asks e.answer && is_of x o e.asks) (some (value_of e.asks)) s

last_more : (s : Option ℕ) (h : List Event) (e : Event) (x : Txn) (o : Obj)
    → last_value s (h ++ e ∷ []) x o ≡ once_told e x o (last_value s h x o)
unfolding last_value
last_more s [] e x o = refl
last_more s (g ∷ h) e x o = last_more (once_told g x o s) h e x o

-- an event that is no write done changes nothing
pub told_nothing : (h : List Event) (e : Event) → is_done is_write e.asks e.answer ≡ false
    → last_accepted h ≡ last_accepted (h ++ e ∷ [])
told_nothing h e f =
    fun_ext λ x. fun_ext λ o.
    sym
    (last_more none h e x o
    ∙ ap (λ (b : Bool). cond (b && is_of x o e.asks) (some (value_of e.asks)) (last_accepted h x o)) f)

-- what was written, with x's value for object o now v
unfoldable pub and_accepts : Heard → Txn → Obj → ℕ → Heard
and_accepts a x o v y p = cond (same x y && same_object o p) (some v) (a y p)

-- a write that is done sets its transaction's value for its object
pub told_write : (h : List Event) (c : Call) (r : Answer) → is_done is_write (some c) r ≡ true
    → and_accepts (last_accepted h) c.who c.what c.value
    ≡ last_accepted (h ++ record { asks = some c; answer = r } ∷ [])
unfolding and_accepts is_of
told_write h c r f =
    fun_ext λ x. fun_ext λ o.
    sym
    (last_more none h (record { asks = some c; answer = r }) x o
    ∙ ap (λ (b : Bool). cond (b && is_of x o (some c)) (some c.value) (last_accepted h x o)) f)

module _ (a : Heard) (x : Txn) (o : Obj) (v : ℕ) where
  -- x's value for object o is v
  pub accepts_here : and_accepts a x o v x o ≡ some v
  unfolding and_accepts
  accepts_here =
      cond_true (same x x && same_object o o) (some v) (a x o)
      ((and_says (same x x) (same_object o o)).1
      ((equal_says x.num x.num).1 refl, (equal_says o.num o.num).1 refl))

  -- another transaction's is as it was
  pub accepts_other : (y : Txn) (p : Obj) → (y.num ≡ x.num → ⊥) → and_accepts a x o v y p ≡ a y p
  unfolding and_accepts
  accepts_other y p d =
      cond_false (same x y && same_object o p) (some v) (a y p)
      (λ u. d (sym ((equal_says x.num y.num).0 ((and_says (same x y) (same_object o p)).0 u).0)))

  -- and so is another object's
  pub accepts_elsewhere : (y : Txn) (p : Obj) → (p.num ≡ o.num → ⊥) → and_accepts a x o v y p ≡ a y p
  unfolding and_accepts
  accepts_elsewhere y p d =
      cond_false (same x y && same_object o p) (some v) (a y p)
      (λ u. d (sym ((equal_says o.num p.num).0 ((and_says (same x y) (same_object o p)).0 u).1)))

-- ---- replaying

-- what an object holds when each transaction of a list in turn writes over v what it wrote last, which f says
unfoldable pub replayed : (Txn → Option ℕ) → ℕ → List Txn → ℕ
replayed f v [] = v
replayed f v (x ∷ xs) = replayed f (or_else v (f x)) xs

-- the history's replay is one of them
pub replay_is : (h : List Event) (v : ℕ) (xs : List Txn) (o : Obj)
    → replay h v xs o ≡ replayed (λ x. last_accepted h x o) v xs
unfolding replay replayed
replay_is h v [] o = refl
replay_is h v (x ∷ xs) o = replay_is h (or_else v (last_accepted h x o)) xs o

-- one transaction more writes over what the others left
pub replayed_more : (f : Txn → Option ℕ) (v : ℕ) (xs : List Txn) (x : Txn)
    → replayed f v (xs ++ x ∷ []) ≡ or_else (replayed f v xs) (f x)
unfolding replayed
replayed_more f v [] x = refl
replayed_more f v (y ∷ xs) x = replayed_more f (or_else v (f y)) xs x

-- only what the listed transactions wrote counts
pub replayed_same : (f g : Txn → Option ℕ) (v : ℕ) (xs : List Txn) → All (λ x. f x ≡ g x) xs
    → replayed f v xs ≡ replayed g v xs
unfolding replayed
replayed_same f g v [] e = refl
replayed_same f g v (x ∷ xs) e =
    ap (λ (r : Option ℕ). replayed f (or_else v r) xs) e.0 ∙ replayed_same f g (or_else v (g x)) xs e.1
