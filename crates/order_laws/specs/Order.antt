-- Whoever's version a logged transaction found is itself, nobody, or earlier in the log; and if all live transactions
-- are ready, one of them waits for nobody.
-- Rests on the rules' Truth, on answers_laws, sound_laws, growth, Changes, Earlier and Waits. Assumes nothing.
use Rattle.std.specs.Prelude.{◌≡◌, false, not, List, [], ◌∷◌, ◌++◌, ℕ, T, eqb}
use Rattle.std.proofs.Common.{ap, sym, ◌∙◌, subst, inl, inr, ⊎_elim}
use Rattle.std.proofs.Math.Option.{Option, some}
use Rattle.rules.specs.Tests.{all}
use Rattle.rules.specs.Tables.{Txn, Obj, Tables, place_count, fresh, place, is_free, sets_of}
use Rattle.rules.specs.Answers.{Kind, is_start, is_read, is_write, is_prepare, is_save, is_commit, is_abort, is_settle, is_crash, is_restart, is_status, is_look, kind_number, Call, dependency_live, number_of, fact, done_leaves, call}
use Rattle.rules.specs.Session.{asked}
use Rattle.rules.specs.Runs.{commits}
use Rattle.rules.specs.History.{may_ask, tables_after, is_done, is_access, found}
use Rattle.rules.specs.Truth.{Asks, grown, FoundIsEarlier, Progress}
use Rattle.basics.specs.Logic.{and_says, or_says, not_says, equal_says}
use Rattle.basics.specs.Ranges.{some_at}
use Rattle.answers_laws.specs.Exactly.{refused_holds, refused_exactly, done_exactly, done_leaves_so}
use Rattle.sound_laws.specs.Means.{Used, Sound, means}
use Rattle.sound_laws.specs.Live.{at_live, used_at, place_at, once}
use Rattle.growth.specs.Growth.{asked_sound, carried, grown_so, grown_sound, after_both, asks_both}
use Rattle.order_laws.specs.Changes.{read_accesses, write_accesses, change}
use Rattle.order_laws.specs.Earlier.{After, after_change, FoundAfter, read_after, write_after}
use Rattle.order_laws.specs.Waits.{NoCircle, fresh_waits, waits_change, someone_unbound}

-- a read or write that is done finds a version of the transaction itself, of nobody, or of one that it came after
access_after : (t : Tables) → Sound t → (k : Kind) (x : Txn) (o : Obj) (v : ℕ)
    → let c : Call = record { kind = k; who = x; what = o; value = v } in
    T (is_access (some c) (call t c).answer) → FoundAfter t (call t c).tables x o
unfolding is_done kind_number done_leaves
access_after t s is_start x o v a = absurd a
access_after t s is_read x o v a =
    let c : Call = record { kind = is_read; who = x; what = o; value = v } in
    let n = (call t c).answer.number in
    let f = (done_exactly t c).0 ((equal_says n 0).0 (⊎_elim (λ u. u) (λ u. absurd u) ((or_says (eqb n 0) false).0 a))) in
    subst (λ (u : Tables). FoundAfter t u x o) (sym (done_leaves_so t c f))
    (read_after t s x o.num (read_accesses t s x o v f).may)
access_after t s is_write x o v a =
    let c : Call = record { kind = is_write; who = x; what = o; value = v } in
    let f = (done_exactly t c).0 ((equal_says (call t c).answer.number 0).0 a) in
    subst (λ (u : Tables). FoundAfter t u x o) (sym (done_leaves_so t c f))
    (write_after t s x o.num (write_accesses t s x o v f).may v)
access_after t s is_prepare x o v a = absurd a
access_after t s is_save x o v a = absurd a
access_after t s is_commit x o v a = absurd a
access_after t s is_abort x o v a = absurd a
access_after t s is_settle x o v a = absurd a
access_after t s is_crash x o v a = absurd a
access_after t s is_restart x o v a = absurd a
access_after t s is_status x o v a = absurd a
access_after t s is_look x o v a = absurd a

-- and so it stays over whatever is asked from then on
later_after : (cs ds : List (Option Call)) (c : Call) (y : Txn) → Asks (cs ++ some c ∷ ds)
    → After (call (grown cs) c).tables c.who y → After (grown (cs ++ some c ∷ ds)) c.who y
unfolding tables_after asked all
later_after cs ds c y m a =
    let both = asks_both cs (some c ∷ ds) m in
    let rest = (and_says (may_ask (some c)) (all may_ask ds)).0 both.1 in
    let sound = asked_sound (grown cs) (some c) rest.0 (grown_sound cs both.0) in
    subst (λ (u : Tables). After u c.who y) (sym (after_both fresh cs (some c ∷ ds)))
    (carried (λ u h. After u c.who y)
    (λ u h b s n w. after_change u c.who y w (means u s) (asked u b).tables (change u (means u s) b))
    ds (call (grown cs) c).tables [] sound rest.1 a)

-- whatever version a logged transaction found was its own, the fresh zero, or one of a transaction earlier in the log
pub found_is_earlier : FoundIsEarlier
found_is_earlier cs ds c m a g =
    let y = found (grown cs) c.who c.what in
    let s = means (grown cs) (grown_sound cs (asks_both cs (some c ∷ ds) m).0) in
    ⊎_elim inl
    (λ w. inr (⊎_elim inl (λ h. inr ((later_after cs ds c y m h).once_logged g)) w))
    (access_after (grown cs) s c.kind c.who c.what c.value a)

-- dependencies never go in a circle
grown_waits : (cs : List (Option Call)) → Asks cs → NoCircle (grown cs).live
grown_waits cs m =
    grown_so (λ u h. NoCircle u.live)
    (λ u h b s n w. waits_change u w (means u s) (asked u b).tables (change u (means u s) b)) fresh_waits cs m

-- a transaction without dependencies is not refused for one
not_for_dependency : (t : Tables) (x : Txn) → (sets_of t.live x).depends ≡ 0
    → (call t (commits x.num)).answer.number ≡ number_of dependency_live → ⊥
unfolding fact
not_for_dependency t x e a =
    let c = commits x.num in
    let u = refused_holds t c dependency_live ((refused_exactly t c dependency_live).0 a) in
    (not_says (eqb (sets_of t.live x).depends 0)).0 u ((equal_says (sets_of t.live x).depends 0).1 e)

-- if there are live transactions and all are ready, the commit of one of them is not refused for a live dependency;
-- that they are ready is not even needed for it
pub progress : Progress
progress cs m ready p =
    let t = grown cs in
    let s = means t (grown_sound cs m) in
    let w = some_at place_count (λ q. not (is_free (place t.live q))) p in
    let used : Used (place t.live w.0) = simp (not_says, equal_says) at w.2 in
    let r = someone_unbound t s w.0 w.1 used ((grown_waits cs m).all_end w.0 w.1) in
    let x = (place t.live r.its_place).number in
    let at = used_at t.live r.its_place r.below r.used in
    let there = place_at t.live (once t s) x r.its_place at in (
      x,
      at_live t.live x r.its_place at,
      not_for_dependency t x (ap (λ (q : ℕ). (place t.live q).depends) there ∙ r.unbound),
    )
