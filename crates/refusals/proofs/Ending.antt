-- Abort and commit, which name a transaction: refused for not naming a live one, or for what comes after.
-- Rests on the rules' Answers and Layout, on decisions, and on Readings, Deciding and Naming. Assumes nothing.
use mathlib.Core.Path.{◌≡◌, refl, ap, sym, subst, ◌∙◌}
use mathlib.Core.Bool.{Bool, true, false}
use mathlib.Core.List.{List, [], ◌∷◌, ◌++◌}
use mathlib.Core.Option.{Option, none, some}
use Prim.Native.Nat.{ℕ, ◌+◌, ◌≤◌, ◌<◌}
use native.Mathlib.Omega.{arith}
use lib.Dec.{T}
use lib.ListN.{length}
use Rattle.std.specs.Prelude.{Ok, Err}
use Rattle.rules.specs.Tests.{lowest}
use Rattle.rules.specs.Sets.{within}
use Rattle.rules.specs.Tables.{Txn, Tables, obj, object_count, log_room}
use Rattle.rules.specs.Tables as rules
use Rattle.rules.specs.Answers.{Kind, is_commit, is_abort, kind_number, same_kind, Call, Refusal, unsound, unprepared, lost, unsaved, dependency_live, log_full, is_missing, is_unsaved, order, refusal}
use Rattle.rules.specs.Layout.{log_count_at, accessed_at, prepared_at, depends_at, word, unpack}
use Rattle.lent.specs.declared.Tables as lent
use Rattle.lent.specs.Held.{held}
use Rattle.calls.specs.Meaning.{txn_of, refusal_of}
use Rattle.calls.specs.declared.existing.Live.{Live}
use Rattle.calls.specs.declared.Refusal as calls
use Rattle.decisions.specs.Orders.{living}
use Rattle.decisions.specs.Ends as ends
use Rattle.decisions.specs.Ends.{commit_rest}
use Rattle.refusals.specs.Reasons.{calling, FirstOf, Lives}
use Rattle.refusals.proofs.Readings.{set_passes, unset_fails, saying, asker}
use Rattle.refusals.proofs.Deciding.{because, no_reason, after, before, decides}
use Rattle.refusals.proofs.Naming.{Alive, asker_is}

-- a kind of call that names a transaction alone, and has it live
pub record Ends (k : Kind) (rest : List Refusal) : Type 0 where
  pub in_order : order k ≡ unsound ∷ (living ++ rest)

pub aborts : Ends is_abort []
unfolding order
aborts = record { in_order = refl }

pub commits : Ends is_commit commit_rest
unfolding order
commits = record { in_order = refl }

abbrev pub ending : Kind → Txn → Call
ending k x = calling k x (obj 0) 0

module _ (t : lent.Tables) {x : Txn} {k : Kind} {rest : List Refusal} (e : Ends k rest) where
  -- it is not live
  pub unlive : {w : calls.Refusal} → Lives (held t) x (Err w) → some (refusal_of w) ≡ refusal (held t) (ending k x)
  unlive {w} n =
      decides t.words.now (ending k x) (living ++ rest) t.sound e.in_order (some (refusal_of w))
      (before t.words.now (ending k x) living rest (refusal_of w) (n.first_of k (obj 0) 0))

  -- it is, and what comes after tells the reason
  pub then : {l : Live} → Lives (held t) x (Ok l) → (r : Option Refusal) → FirstOf (held t) (ending k (txn_of l.who)) rest r → r ≡ refusal (held t) (ending k x)
  then n r f =
      decides t.words.now (ending k x) (living ++ rest) t.sound e.in_order r
      (after t.words.now (ending k x) living rest (n.first_of k (obj 0) 0) r (subst (λ (y : Txn). FirstOf (held t) (ending k y) rest r) n.found.1 f))

pub alive : (t : lent.Tables) → {x : Txn} {l : Live} → Lives (held t) x (Ok l) → Alive t.words.now l
alive t n = record { sound_run = t.sound; there = n.found.0 }

-- ---- commit of a live transaction, in the terms of the words and flags that the code tests

commit_kind : same_kind is_commit is_commit ≡ true
unfolding kind_number
commit_kind = refl

module _ {ws : List ℕ} {l : Live} (n : Alive ws l) where
  abbrev c : Call
  c = ending is_commit (txn_of l.who)

  -- by a flag that says whether every accessed object is prepared
  module _ (f : Bool) (tested : f ≡ within (word ws (accessed_at + l.place.num)) (word ws (prepared_at + l.place.num))) where
    tested_so : f ≡ within (asker ws l).accessed (asker ws l).prepared
    tested_so = tested ∙ ap (λ (q : rules.Live). within q.accessed q.prepared) (asker_is n)

    pub not_prepared : f ≡ false → FirstOf (unpack ws) c commit_rest (some unprepared)
    not_prepared e =
        because ws c commit_rest unprepared
        (ends.unprepared_first (unpack ws) c (unset_fails f (within (asker ws l).accessed (asker ws l).prepared) tested_so e))

    pub all_prepared : f ≡ true → T (within (asker ws l).accessed (asker ws l).prepared)
    all_prepared e = set_passes f (within (asker ws l).accessed (asker ws l).prepared) tested_so e

  pub missing : T (within (asker ws l).accessed (asker ws l).prepared) → (m : ℕ) → m ≡ lowest object_count (is_missing (unpack ws) c) → m < object_count
      → FirstOf (unpack ws) c commit_rest (some lost)
  missing prepared m first i =
      because ws c commit_rest lost (ends.missing_first (unpack ws) c commit_kind prepared (omega arith))

-- every accessed object is prepared, every written one has its entry, and one number tells the first that is not saved
pub record Whole (ws : List ℕ) (l : Live) (u : ℕ) : Type 0 where
  pub alive : Alive ws l
  pub prepared : T (within (asker ws l).accessed (asker ws l).prepared)
  pub none_missing : object_count ≤ lowest object_count (is_missing (unpack ws) (ending is_commit (txn_of l.who)))
  pub first_unsaved : u ≡ lowest object_count (is_unsaved (unpack ws) (ending is_commit (txn_of l.who)))

module _ {ws : List ℕ} {l : Live} {u : ℕ} (w : Whole ws l u) where
  abbrev tables : Tables
  tables = unpack ws

  abbrev call : Call
  call = ending is_commit (txn_of l.who)

  pub queued_still : u < object_count → FirstOf (unpack ws) call commit_rest (some unsaved)
  queued_still j =
      because ws call commit_rest unsaved
      (ends.unsaved_first tables call commit_kind w.prepared w.none_missing (omega (arith, w.first_unsaved)))

  module _ (j : object_count ≤ u) where
    saved : object_count ≤ lowest object_count (is_unsaved tables call)
    saved = omega (arith, w.first_unsaved)

    depends_read : word ws (depends_at + l.place.num) ≡ (asker ws l).depends
    depends_read = ap (λ (q : rules.Live). q.depends) (asker_is w.alive)

    pub depends_still : (word ws (depends_at + l.place.num) ≡ 0 → ⊥) → FirstOf (unpack ws) call commit_rest (some dependency_live)
    depends_still d =
        because ws call commit_rest dependency_live
        (ends.dependency_first tables call commit_kind w.prepared w.none_missing saved (λ z. d (depends_read ∙ z)))

    module _ (d : word ws (depends_at + l.place.num) ≡ 0) where
      count_read : word ws log_count_at ≡ length tables.log
      count_read = (saying ws w.alive.sound_run).log_count

      pub full : log_room ≤ word ws log_count_at → FirstOf (unpack ws) call commit_rest (some log_full)
      full m =
          because ws call commit_rest log_full
          (ends.log_full_first tables call commit_kind w.prepared w.none_missing saved (sym depends_read ∙ d) (omega (arith, count_read)))

      pub commit_done : word ws log_count_at < log_room → FirstOf (unpack ws) call commit_rest none
      commit_done m =
          no_reason ws call commit_rest
          (ends.commit_none tables call commit_kind w.prepared w.none_missing saved (sym depends_read ∙ d) (omega (arith, count_read)))
