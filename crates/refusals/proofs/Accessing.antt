-- Read and write of an object by a live transaction, in the terms of the words and flags that the code tests.
-- Rests on the rules' Answers and Layout, on decisions, and on Deciding and Naming. Assumes nothing.
use mathlib.Core.Path.{◌≡◌, ap, sym, ◌∙◌}
use mathlib.Core.Bool.{Bool, true, false}
use mathlib.Core.List.{List}
use mathlib.Core.Option.{Option, none, some}
use Prim.Native.Nat.{ℕ, ◌+◌, ◌≤◌, ◌<◌}
use native.Mathlib.Omega.{arith}
use lib.Dec.{T}
use Rattle.rules.specs.Sets.{has}
use Rattle.rules.specs.Tables.{Tables, object}
use Rattle.rules.specs.Tables as rules
use Rattle.rules.specs.Sound.{sound}
use Rattle.rules.specs.Answers.{Kind, is_read, is_write, Call, Refusal, after_a_prepare, lost, wait, died, refusal}
use Rattle.rules.specs.Layout.{accessed_at, prepared_at, word, unpack}
use Rattle.words_laws.specs.Words.{unpacked_sound}
use Rattle.lent.specs.declared.Tables as lent
use Rattle.lent.specs.Held.{held as tables_in}
use Rattle.calls.specs.Meaning.{txn_of, object_of}
use Rattle.std.specs.Prelude.{Ok, Err}
use Rattle.rules.specs.Tables.{Obj}
use Rattle.calls.specs.declared.Refusal as calls
use Rattle.calls.specs.declared.Txn.{Txn}
use Rattle.calls.specs.declared.existing.Object.{Object}
use Rattle.calls.specs.declared.existing.Live.{Live}
use Rattle.decisions.specs.Orders.{access_rest, prepared_first, lost_first, held_none, free_none, wait_first, died_first}
use Rattle.refusals.specs.Reasons.{RefusesAccess, Names, calling, FirstOf}
use Rattle.refusals.proofs.Readings.{asker}
use Rattle.refusals.proofs.Deciding.{because, no_reason}
use Rattle.refusals.proofs.Naming.{Asks, Alive, reads, writes, unnamed, then, asker_is, member, other}

-- read and write have one order, so they are refused for one reason
module _ (t : lent.Tables) {x : rules.Txn} {o : Obj} where
  pub neither : {w : calls.Refusal} → Names (tables_in t) x o (Err w) → RefusesAccess (tables_in t) x o (Err w)
  neither n v = (unnamed t reads 0 n, unnamed t writes v n)

  pub both : {l : Live} {j : Object} → Names (tables_in t) x o (Ok (l, j)) → (r : Option Refusal)
      → ((k : Kind) → Asks k access_rest → (v : ℕ) → FirstOf (tables_in t) (calling k (txn_of l.who) (object_of j) v) access_rest r)
      → (v : ℕ) → (r ≡ refusal (tables_in t) (calling is_read x o 0)) × (r ≡ refusal (tables_in t) (calling is_write x o v))
  both n r f v = (then t reads 0 n r (f is_read reads 0), then t writes v n r (f is_write writes v))

prepared_read : {ws : List ℕ} {l : Live} → Alive ws l → word ws (prepared_at + l.place.num) ≡ (asker ws l).prepared
prepared_read n = ap (λ (q : rules.Live). q.prepared) (asker_is n)

pub after_prepare : {ws : List ℕ} {l : Live} → Alive ws l → (o : Object) (k : Kind) (v : ℕ) → (word ws (prepared_at + l.place.num) ≡ 0 → ⊥)
    → FirstOf (unpack ws) (calling k (txn_of l.who) (object_of o) v) access_rest (some after_a_prepare)
after_prepare {ws} {l} n o k v f =
    because ws (calling k (txn_of l.who) (object_of o) v) access_rest after_a_prepare
    (prepared_first (unpack ws) (calling k (txn_of l.who) (object_of o) v) (λ z. f (prepared_read n ∙ z)))

-- the transaction has prepared nothing, h holds the object, and a flag says whether the transaction accessed it
pub record Unprepared (ws : List ℕ) (l : Live) (o : Object) (h : Txn) (f : Bool) : Type 0 where
  pub alive : Alive ws l
  pub none_prepared : word ws (prepared_at + l.place.num) ≡ 0
  pub held_by : txn_of h ≡ (object (unpack ws) (object_of o)).holder
  pub tested : f ≡ has (word ws (accessed_at + l.place.num)) o.num

module _ {ws : List ℕ} {l : Live} {o : Object} {h : Txn} {f : Bool} (u : Unprepared ws l o h f) {k : Kind} (a : Asks k access_rest) (v : ℕ) where
  abbrev t : Tables
  t = unpack ws

  abbrev s : T (sound t)
  s = unpacked_sound ws u.alive.sound_run

  abbrev c : Call
  c = calling k (txn_of l.who) (object_of o) v

  holder_is : h.num ≡ (object t (object_of o)).holder.num
  holder_is = ap (λ (y : rules.Txn). y.num) u.held_by

  clear : (asker ws l).prepared ≡ 0
  clear = sym (prepared_read u.alive) ∙ u.none_prepared

  accessed : f ≡ true → T (has (asker ws l).accessed o.num)
  accessed = member u.alive o.num (λ q. q.accessed) f u.tested

  pub held : f ≡ true → h.num ≡ l.who.num → FirstOf (unpack ws) c access_rest none
  held e i = no_reason ws c access_rest (held_none t c s a.no_commit o.exists clear (accessed e) (sym holder_is ∙ i))

  pub lost_lock : f ≡ true → (h.num ≡ l.who.num → ⊥) → FirstOf (unpack ws) c access_rest (some lost)
  lost_lock e i =
      because ws c access_rest lost (lost_first t c s a.no_commit o.exists clear (accessed e) (λ z. i (holder_is ∙ z)))

  module _ (e : f ≡ false) where
    new : T (has (asker ws l).accessed o.num) → ⊥
    new = other u.alive o.num (λ q. q.accessed) f u.tested e

    pub free : h.num ≡ 0 → FirstOf (unpack ws) c access_rest none
    free i = no_reason ws c access_rest (free_none t c s a.no_commit o.exists clear new (sym holder_is ∙ i))

    module _ (somebody : h.num ≡ 0 → ⊥) where
      pub waits : l.who.num < h.num → FirstOf (unpack ws) c access_rest (some wait)
      waits i =
          because ws c access_rest wait
          (wait_first t c s a.no_commit o.exists clear new (λ z. somebody (holder_is ∙ z)) (omega (arith, holder_is)))

      pub dies : h.num ≤ l.who.num → FirstOf (unpack ws) c access_rest (some died)
      dies i =
          because ws c access_rest died
          (died_first t c s a.no_commit o.exists clear new (λ z. somebody (holder_is ∙ z)) (omega (arith, holder_is)))
