-- What is known of a call by the reason of its refusal: the reasons before it in the order do not hold.
-- Rests on the rules' Answers, on answers_laws, sound_laws and decisions. Assumes nothing.
use mathlib.Core.Path.{◌≡◌, refl, subst}
use mathlib.Core.Bool.{false}
use mathlib.Core.Logic.{◌⊎◌, inl, inr}
use mathlib.Core.Option.{some}
use Prim.Native.Nat.{ℕ, ◌≤◌, ◌<◌}
use native.Mathlib.Omega.{arith}
use lib.Dec.{T}
use Rattle.rules.specs.Tables.{Tables, object_count, is_live}
use Rattle.rules.specs.Answers.{Kind, is_start, is_read, is_write, is_prepare, is_save, is_commit, is_abort, is_settle, is_crash, is_restart, is_status, is_look, kind_number, same_kind, Call, Refusal, no_such_object, no_longer_live, lost, wait, died, unprepared, unsaved, dependency_live, number_of, order, fact, refusal}
use Rattle.answers_laws.specs.Exactly.{Refused, Allowed, refused_or_done, refused_holds, refused_why, done_why}
use Rattle.sound_laws.specs.Kept.{passed, precedes, before_fails, live_before_lost, live_before_died}
use Rattle.decisions.specs.Facts.{object_says}

-- the transaction is known to be live where these are the reasons, and the object to be one
abbrev Before : Kind → Type 0
Before k =
    T (precedes no_longer_live unprepared (order k))
    × T (precedes no_longer_live unsaved (order k))
    × T (precedes no_longer_live dependency_live (order k))
    × T (precedes no_such_object wait (order k))
    × T (precedes no_such_object died (order k))

before : (k : Kind) → Before k
unfolding order number_of
before is_start = (tt, tt, tt, tt, tt)
before is_read = (tt, tt, tt, tt, tt)
before is_write = (tt, tt, tt, tt, tt)
before is_prepare = (tt, tt, tt, tt, tt)
before is_save = (tt, tt, tt, tt, tt)
before is_commit = (tt, tt, tt, tt, tt)
before is_abort = (tt, tt, tt, tt, tt)
before is_settle = (tt, tt, tt, tt, tt)
before is_crash = (tt, tt, tt, tt, tt)
before is_restart = (tt, tt, tt, tt, tt)
before is_status = (tt, tt, tt, tt, tt)
before is_look = (tt, tt, tt, tt, tt)

-- a reason is in the order where it does not precede itself; no crash waits or dies
abbrev Within : Refusal → Kind → Type 0
Within r k = T (precedes r r (order k)) → ⊥

no_crash : (k : Kind) → Within wait k ⊎ Within died k → same_kind k is_crash ≡ false
unfolding order number_of kind_number
no_crash is_start f = refl
no_crash is_read f = refl
no_crash is_write f = refl
no_crash is_prepare f = refl
no_crash is_save f = refl
no_crash is_commit f = refl
no_crash is_abort f = refl
no_crash is_settle f = refl
no_crash is_crash (inl f) = absurd (f tt)
no_crash is_crash (inr f) = absurd (f tt)
no_crash is_restart f = refl
no_crash is_status f = refl
no_crash is_look f = refl

module _ (t : Tables) (c : Call) where
  refused_for : (r : Refusal) → some r ≡ refusal t c → Refused t c r
  refused_for r e = go (refused_or_done t c)
    where
      go : ((q : Refusal) × Refused t c q) ⊎ Allowed t c → Refused t c r
      go (inl w) =
          let why = refused_why t c w.0 w.1 in
          let same : w.0 ≡ r = cc in
          subst (Refused t c) same w.1
      go (inr h) =
          let why = done_why t c h in
          let z : ◌≡◌ {A = ℕ} 0 1 = cc in
          absurd (omega arith)

  live_for : (r : Refusal) → T (precedes no_longer_live r (order c.kind)) → some r ≡ refusal t c → T (is_live t.live c.who)
  unfolding fact
  live_for r first e =
      passed (is_live t.live c.who)
      (before_fails (λ q. fact q t c) no_longer_live r (order c.kind) (refused_for r e) first)

  pub lost_live : some lost ≡ refusal t c → T (is_live t.live c.who)
  lost_live = live_for lost (live_before_lost c.kind)

  pub died_live : some died ≡ refusal t c → T (is_live t.live c.who)
  died_live = live_for died (live_before_died c.kind)

  pub unprepared_live : some unprepared ≡ refusal t c → T (is_live t.live c.who)
  unprepared_live = live_for unprepared (before c.kind).0

  pub unsaved_live : some unsaved ≡ refusal t c → T (is_live t.live c.who)
  unsaved_live = live_for unsaved (before c.kind).1

  pub dependency_live_live : some dependency_live ≡ refusal t c → T (is_live t.live c.who)
  dependency_live_live = live_for dependency_live (before c.kind).2

  object_for : (r : Refusal) → T (precedes no_such_object r (order c.kind)) → some r ≡ refusal t c
      → (Within r c.kind → same_kind c.kind is_crash ≡ false) → c.what.num < object_count
  object_for r first e none_crashed =
      let f : Refused t c r = refused_for r e in
      let not_first : Within r c.kind = λ u. before_fails (λ q. fact q t c) r r (order c.kind) f u (refused_holds t c r f) in
      let one : object_count ≤ c.what.num → ⊥ =
      λ h. before_fails (λ q. fact q t c) no_such_object r (order c.kind) f first ((object_says t c (none_crashed not_first)).1 h) in
      omega arith

  pub wait_object : some wait ≡ refusal t c → c.what.num < object_count
  wait_object e = object_for wait (before c.kind).3 e (λ f. no_crash c.kind (inl f))

  pub died_object : some died ≡ refusal t c → c.what.num < object_count
  died_object e = object_for died (before c.kind).4 e (λ f. no_crash c.kind (inr f))
