-- The log is the truth: objects after a restart, the log's transactions, the numbers given, what a read gives.
-- Rests on the rules' Truth, on growth and sound_laws, and on the files beside this one. Assumes nothing.
use Rattle.std.specs.Prelude.{◌≡◌, refl, cond, List, [], ◌∷◌, ◌++◌, ℕ, suc, ◌-◌, T, length, get_or}
use Rattle.std.proofs.Common.{ap, sym, ◌∙◌, subst, append_assoc, append-nil, arith}
use Rattle.std.proofs.Math.Option.{Option, some}
use Rattle.std.proofs.Math.Seq.{get_or-append_seam}
use Rattle.rules.specs.Tests.{row, keep, last_or}
use Rattle.rules.specs.Tables.{Txn, Object, Tables, obj, nobody, fresh, fresh_object, object_count, object, is_live, log_number, is_logged}
use Rattle.rules.specs.Sound.{sound, logged_once, holds}
use Rattle.rules.specs.Steps.{unlocked, chained, settled, durable, restart, status, look}
use Rattle.rules.specs.Answers.{Kind, is_read, is_commit, Call, done_value, call}
use Rattle.rules.specs.Session.{asked}
use Rattle.rules.specs.History.{history, is_done, committed, last_accepted}
use Rattle.rules.specs.Truth.{Asks, grown, told, only_durable, ObjectsHoldReplay, LogIsCommitted, NumberIsRecord, ReadGivesFound, DurableIsEnough, NeverUndone}
use Rattle.basics.specs.Logic.{cond_true, cond_false}
use Rattle.basics.specs.Ranges.{getD_row, row_same}
use Rattle.basics.specs.Rules.{every_rule}
use Rattle.answers_laws.specs.Exactly.{Allowed, done_gives}
use Rattle.sound_laws.specs.Means.{Sound, means}
use Rattle.sound_laws.specs.Logged.{logged_more, number_stays}
use Rattle.sound_laws.specs.Known.{logged_not_live}
use Rattle.growth.specs.Growth.{grown_sound, after_both, asks_both}
use Rattle.history.specs.Log.{was_done, log_after}
use Rattle.history.specs.Accepted.{replay_is}
use Rattle.history.specs.Stored.{restart_true, restart_saved}
use Rattle.history.specs.Invariant.{value_left}
use Rattle.history.specs.Found.{read_gives}
use Rattle.history.specs.Carried.{read_access, grown_truthful}

-- a restart reads only what is durable
pub durable_is_enough : DurableIsEnough
unfolding restart only_durable durable
durable_is_enough t =
    let left : ℕ → Object = λ i. let b = object t (obj i) in chained (unlocked b) b.saved [] in
    ap (λ (bs : List Object). record { next = t.next; log = t.log; live = (restart t).live; objects = bs })
    (row_same object_count
    (λ i. settled t.log (durable t.log (get_or (row object_count left) i fresh_object)))
    (λ i. settled t.log (durable t.log (object t (obj i))))
    (λ i h. ap (λ (b : Object). settled t.log (durable t.log b)) (getD_row object_count left i fresh_object h)))

-- the log has just the transactions told "committed", in order, each once
pub log_is_committed : LogIsCommitted
unfolding fresh holds
log_is_committed cs m = (log_after fresh cs, every_rule (grown cs) (grown_sound cs m) logged_once)

-- the log after more was asked
log_later : (cs ds : List (Option Call)) → (grown (cs ++ ds)).log ≡ (grown cs).log ++ committed (history (grown cs) ds)
log_later cs ds = ap (λ (t : Tables). t.log) (after_both fresh cs ds) ∙ log_after (grown cs) ds

-- the number that a commit is given is the number of its record
pub number_is_record : NumberIsRecord
unfolding done_value committed history asked
number_is_record cs ds c m d = rw (value, here, grows) (get_or-append_seam log c.who later nobody)
  where
    log : List Txn
    log = (grown cs).log

    later : List Txn
    later = committed (history (call (grown cs) c).tables ds)

    done : (c.kind ≡ is_commit) × Allowed (grown cs) c
    done = was_done (grown cs) c is_commit d

    value : (call (grown cs) c).answer.value ≡ suc (length log)
    value = done_gives (grown cs) c done.1 ∙ ap (λ (k : Kind). done_value k (grown cs) c) done.0

    here : suc (length log) - 1 ≡ length log
    here = omega arith

    grows : (grown (cs ++ some c ∷ ds)).log ≡ log ++ c.who ∷ later
    grows =
        log_later cs (some c ∷ ds)
        ∙ ap (λ (l : List Txn). log ++ l)
        (cond_true (is_done is_commit (some c) (call (grown cs) c).answer) (c.who ∷ later) later d)

-- x is logged in the first log, and under the number that it has in the second
abbrev LoggedAs : List Txn → List Txn → Txn → Type 0
LoggedAs qs rs x = T (is_logged qs x) × (log_number qs x ≡ log_number rs x)

-- records stay where they are as the log grows
stays_logged : (rs ys : List Txn) (x : Txn) → T (is_logged rs x) → LoggedAs (rs ++ ys) rs x
stays_logged rs [] x g = subst (λ (l : List Txn). LoggedAs l rs x) (sym (append-nil rs)) (g, refl)
stays_logged rs (y ∷ ys) x g =
    let r = stays_logged (rs ++ y ∷ []) ys x (logged_more rs y x g) in
    subst (λ (l : List Txn). LoggedAs l rs x) (append_assoc rs (y ∷ []) ys) (r.0, r.1 ∙ number_stays rs y x g)

-- a logged transaction of sound tables has the status 2
logged_status : (t : Tables) → T (sound t) → (x : Txn) → T (is_logged t.log x) → status t x ≡ 2
unfolding status
logged_status t s x g =
    cond_false (is_live t.live x) 1 (cond (is_logged t.log x) 2 3) (logged_not_live t (means t s) x g)
    ∙ cond_true (is_logged t.log x) 2 3 g

-- a committed transaction stays committed, under its number
pub never_undone : NeverUndone
never_undone cs ds m x g =
    let before = (grown cs).log in
    let stays = stays_logged before (committed (history (grown cs) ds)) x g in
    let r = subst (λ (l : List Txn). LoggedAs l before x) (sym (log_later cs ds)) stays in
    (r.0, r.1, logged_status (grown (cs ++ ds)) (grown_sound (cs ++ ds) m) x r.0)

-- after a restart each object holds what replaying the log gives
pub objects_hold_replay : ObjectsHoldReplay
unfolding look restart last_or keep
objects_hold_replay cs m i k =
    let t = grown cs in
    let b = object (restart t) (obj i) in
    let after = restart_true (last_accepted (told cs)) t (means t (grown_sound cs m)) (grown_truthful cs m) in
    ap (value_left t.log b) (sym (restart_saved t i k))
    ∙ (after.objects i k).settled
    ∙ sym (replay_is (told cs) 0 t.log (obj i))

-- a read gives what the transaction whose version it finds wrote last
pub read_gives_found : ReadGivesFound
unfolding done_value
read_gives_found cs c m d =
    done_gives t c done.1
    ∙ ap (λ (k : Kind). done_value k t c) done.0
    ∙ read_gives (last_accepted (told cs)) t s (grown_truthful cs asks) c.who c.what.num
    (read_access t s c.who c.what c.value allowed)
  where
    t : Tables
    t = grown cs

    asks : Asks cs
    asks = (asks_both cs (some c ∷ []) m).0

    s : Sound t
    s = means t (grown_sound cs asks)

    done : (c.kind ≡ is_read) × Allowed t c
    done = was_done t c is_read d

    allowed : Allowed t (record { kind = is_read; who = c.who; what = c.what; value = c.value })
    allowed =
        subst (λ (k : Kind). Allowed t (record { kind = k; who = c.who; what = c.what; value = c.value }))
        done.0 done.1
