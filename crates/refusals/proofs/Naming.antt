-- Calls that name an object and a transaction, read, write and prepare: refused for not naming them, or for what comes after.
-- And what the words of the transaction's place say.
-- Rests on the rules' Answers and Layout, on decisions, and on Readings and Deciding. Assumes nothing.
use mathlib.Core.Path.{◌≡◌, refl, ap, subst, ◌∙◌}
use mathlib.Core.Bool.{Bool, true, false}
use mathlib.Core.List.{List, ◌∷◌, ◌++◌}
use mathlib.Core.Option.{Option, some}
use Prim.Native.Nat.{ℕ}
use lib.Dec.{T}
use Rattle.std.specs.Prelude.{Ok, Err}
use Rattle.rules.specs.Sets.{has}
use Rattle.rules.specs.Tables.{Txn, Obj}
use Rattle.rules.specs.Tables as rules
use Rattle.rules.specs.Answers.{Kind, is_read, is_write, is_prepare, is_crash, is_commit, kind_number, same_kind, Refusal, unsound, order, refusal}
use Rattle.rules.specs.Layout.{unpack, live_in, sound_words}
use Rattle.lent.specs.declared.Tables as lent
use Rattle.lent.specs.Held.{held}
use Rattle.calls.specs.Meaning.{txn_of, object_of, refusal_of, IsLive}
use Rattle.calls.specs.declared.existing.Object.{Object}
use Rattle.calls.specs.declared.existing.Live.{Live}
use Rattle.calls.specs.declared.Refusal as calls
use Rattle.decisions.specs.Orders.{naming, access_rest, prepare_rest}
use Rattle.refusals.specs.Reasons.{calling, FirstOf, Names}
use Rattle.refusals.proofs.Readings.{set_passes, unset_fails, asker, asker_read}
use Rattle.refusals.proofs.Deciding.{after, before, decides}

-- a kind of call that names an object and a transaction
pub record Asks (k : Kind) (rest : List Refusal) : Type 0 where
  pub no_crash : same_kind k is_crash ≡ false
  pub no_commit : same_kind k is_commit ≡ false
  pub in_order : order k ≡ unsound ∷ (naming ++ rest)

pub reads : Asks is_read access_rest
unfolding kind_number order
reads = record { no_crash = refl; no_commit = refl; in_order = refl }

pub writes : Asks is_write access_rest
unfolding kind_number order
writes = record { no_crash = refl; no_commit = refl; in_order = refl }

pub prepares : Asks is_prepare prepare_rest
unfolding kind_number order
prepares = record { no_crash = refl; no_commit = refl; in_order = refl }

module _ (t : lent.Tables) {x : Txn} {o : Obj} {k : Kind} {rest : List Refusal} (a : Asks k rest) (v : ℕ) where
  -- it does not name them
  pub unnamed : {w : calls.Refusal} → Names (held t) x o (Err w) → some (refusal_of w) ≡ refusal (held t) (calling k x o v)
  unnamed {w} n =
      decides t.words.now (calling k x o v) (naming ++ rest) t.sound a.in_order (some (refusal_of w))
      (before t.words.now (calling k x o v) naming rest (refusal_of w) (n.first_of k a.no_crash v))

  -- it does, and what comes after tells the reason
  pub then : {l : Live} {j : Object} → Names (held t) x o (Ok (l, j)) → (r : Option Refusal) → FirstOf (held t) (calling k (txn_of l.who) (object_of j) v) rest r
      → r ≡ refusal (held t) (calling k x o v)
  then {l} {j} n r f =
      decides t.words.now (calling k x o v) (naming ++ rest) t.sound a.in_order r
      (after t.words.now (calling k x o v) naming rest (n.first_of k a.no_crash v) r
      (subst (λ (y : Txn). FirstOf (held t) (calling k y o v) rest r) n.found.1
      (subst (λ (q : Obj). FirstOf (held t) (calling k (txn_of l.who) q v) rest r) n.found.2 f)))

-- ---- a live transaction, at its place

pub record Alive (ws : List ℕ) (l : Live) : Type 0 where
  pub sound_run : T (sound_words ws)
  pub there : IsLive (unpack ws) l

pub alive : (t : lent.Tables) → {x : Txn} {o : Obj} {l : Live} {j : Object} → Names (held t) x o (Ok (l, j)) → Alive t.words.now l
alive t n = record { sound_run = t.sound; there = n.found.0 }

-- the words of its place are its sets
pub asker_is : {ws : List ℕ} {l : Live} → Alive ws l → live_in ws l.place.num ≡ asker ws l
asker_is {ws} {l} n = asker_read ws n.sound_run l n.there

-- a flag that says whether an object is a member of one of its sets
module _ {ws : List ℕ} {l : Live} (n : Alive ws l) (o : ℕ) (set : rules.Live → ℕ) (f : Bool) (tested : f ≡ has (set (live_in ws l.place.num)) o) where
  tested_so : f ≡ has (set (asker ws l)) o
  tested_so = tested ∙ ap (λ (q : rules.Live). has (set q) o) (asker_is n)

  pub member : f ≡ true → T (has (set (asker ws l)) o)
  member = set_passes f (has (set (asker ws l)) o) tested_so

  pub other : f ≡ false → T (has (set (asker ws l)) o) → ⊥
  other = unset_fails f (has (set (asker ws l)) o) tested_so
