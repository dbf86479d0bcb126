-- Prepare of an object by a live transaction, in the terms of the words and flags that the code tests.
-- Rests on the rules' Answers and Layout, on decisions, and on Readings, Deciding and Naming. Assumes nothing.
use mathlib.Core.Path.{◌≡◌, ap, sym, ◌∙◌}
use mathlib.Core.Bool.{Bool, true, false}
use mathlib.Core.List.{List}
use mathlib.Core.Option.{none, some}
use Prim.Native.Nat.{ℕ, ◌+◌, ◌≤◌, ◌<◌}
use native.Mathlib.Omega.{arith}
use lib.Dec.{T}
use lib.ListN.{length}
use Rattle.rules.specs.Sets.{has}
use Rattle.rules.specs.Tables.{Tables, chain_room, object, chain}
use Rattle.rules.specs.Tables as rules
use Rattle.rules.specs.Answers.{is_prepare, Call, lost, not_accessed, prepared_before, chain_full}
use Rattle.rules.specs.Layout.{accessed_at, written_at, prepared_at, word, unpack}
use Rattle.words_laws.specs.Fits.{chain_count_in}
use Rattle.calls.specs.Meaning.{txn_of, object_of}
use Rattle.calls.specs.declared.Txn.{Txn}
use Rattle.calls.specs.declared.existing.Object.{Object}
use Rattle.calls.specs.declared.existing.Live.{Live}
use Rattle.decisions.specs.Orders.{prepare_rest, not_accessed_first, prepared_before_first, lost_at_prepare, full_first, prepare_none}
use Rattle.refusals.specs.Reasons.{calling, FirstOf}
use Rattle.refusals.proofs.Readings.{asker, chain_length}
use Rattle.refusals.proofs.Deciding.{because, no_reason}
use Rattle.refusals.proofs.Naming.{Alive, prepares, member, other}

module _ {ws : List ℕ} {l : Live} (n : Alive ws l) (o : Object) where
  abbrev t : Tables
  t = unpack ws

  abbrev c : Call
  c = calling is_prepare (txn_of l.who) (object_of o) 0

  -- by a flag that says whether the transaction accessed the object
  module _ (f : Bool) (tested : f ≡ has (word ws (accessed_at + l.place.num)) o.num) where
    pub unaccessed : f ≡ false → FirstOf (unpack ws) c prepare_rest (some not_accessed)
    unaccessed e =
        because ws c prepare_rest not_accessed (not_accessed_first t c (other n o.num (λ q. q.accessed) f tested e))

    pub was_accessed : f ≡ true → T (has (asker ws l).accessed o.num)
    was_accessed e = member n o.num (λ q. q.accessed) f tested e

  -- and by one that says whether it prepared it
  module _ (accessed : T (has (asker ws l).accessed o.num)) (f : Bool) (tested : f ≡ has (word ws (prepared_at + l.place.num)) o.num) where
    pub twice : f ≡ true → FirstOf (unpack ws) c prepare_rest (some prepared_before)
    twice e =
        because ws c prepare_rest prepared_before
        (prepared_before_first t c prepares.no_commit accessed (member n o.num (λ q. q.prepared) f tested e))

    pub not_yet : f ≡ false → T (has (asker ws l).prepared o.num) → ⊥
    not_yet = other n o.num (λ q. q.prepared) f tested

-- the transaction accessed the object and has not prepared it, and h holds it
pub record Open (ws : List ℕ) (l : Live) (o : Object) (h : Txn) : Type 0 where
  pub alive : Alive ws l
  pub accessed : T (has (asker ws l).accessed o.num)
  pub open_still : T (has (asker ws l).prepared o.num) → ⊥
  pub held_by : txn_of h ≡ (object (unpack ws) (object_of o)).holder

module _ {ws : List ℕ} {l : Live} {o : Object} {h : Txn} (u : Open ws l o h) where
  abbrev tables : Tables
  tables = unpack ws

  abbrev call : Call
  call = calling is_prepare (txn_of l.who) (object_of o) 0

  holder_is : h.num ≡ (object tables (object_of o)).holder.num
  holder_is = ap (λ (y : rules.Txn). y.num) u.held_by

  pub lost_before : (h.num ≡ l.who.num → ⊥) → FirstOf (unpack ws) call prepare_rest (some lost)
  lost_before d =
      because ws call prepare_rest lost
      (lost_at_prepare tables call prepares.no_commit u.accessed u.open_still (λ z. d (holder_is ∙ z)))

  -- by a flag that says whether it wrote it
  module _ (holds : h.num ≡ l.who.num) (f : Bool) (tested : f ≡ has (word ws (written_at + l.place.num)) o.num) where
    entry_count : chain_count_in ws o.num ≡ length (chain (object tables (object_of o)))
    entry_count = chain_length ws u.alive.sound_run o.num o.exists

    pub full : f ≡ true → chain_room ≤ chain_count_in ws o.num → FirstOf (unpack ws) call prepare_rest (some chain_full)
    full w m =
        because ws call prepare_rest chain_full
        (full_first tables call prepares.no_commit u.accessed u.open_still (sym holder_is ∙ holds)
        (omega (arith, entry_count)) (member u.alive o.num (λ q. q.written) f tested w))

    done : (chain_room ≤ length (chain (object tables (object_of o))) → T (has (asker ws l).written o.num) → ⊥) → FirstOf (unpack ws) call prepare_rest none
    done m =
        no_reason ws call prepare_rest
        (prepare_none tables call prepares.no_commit u.accessed u.open_still (sym holder_is ∙ holds) m)

    pub room : chain_count_in ws o.num < chain_room → FirstOf (unpack ws) call prepare_rest none
    room m = done (λ k w. omega (arith, entry_count))

    pub unwritten : f ≡ false → FirstOf (unpack ws) call prepare_rest none
    unwritten w = done (λ k m. other u.alive o.num (λ q. q.written) f tested w m)
