-- `acts::status` meets its contract: a transaction that is not live is committed exactly where its log number is one of the
-- log's.
-- Assumes nothing.
use Rattle.std.proofs.Common.{◌≡◌, ap, sym, subst, ◌∙◌, Bool, true, false, cond, ◌≤◌, ◌<◌, arith, T, length}
use Rattle.std.proofs.lemmas.Bool.Decides.{nat_tests}
use Rattle.rules.specs.Tables.{Tables, Txn, Lsn, txn, log_number, is_live, is_logged}
use Rattle.rules.specs.Steps.{status}
use Rattle.rules.specs.Layout.{unpack}
use Rattle.basics.specs.Logic.{at_most_says, is_true, is_false, cond_true, cond_false}
use Rattle.words_laws.specs.Words.{sound_words_say}
use Rattle.lookups.specs.Places.{seat_number}
use Rattle.lookups.proofs.Living.{placed_somewhere, somewhere_below, below_live, live_below}
use Rattle.acts.proofs.status.Goals.{Else-is_some, Start}
use Rattle.acts.proofs.status.Goals as goal

module _ (t : Tables) (x : Txn) where
  live_status : T (is_live t.live x) → 1 ≡ status t x
  unfolding status
  live_status l = sym (cond_true (is_live t.live x) 1 (cond (is_logged t.log x) 2 3) l)

  module _ (g : T (is_live t.live x) → ⊥) where
    by_log : (b : Bool) → is_logged t.log x ≡ b → cond b 2 3 ≡ status t x
    unfolding status
    by_log b e = sym (cond_false (is_live t.live x) 1 (cond (is_logged t.log x) 2 3) g ∙ ap (λ (a : Bool). cond a 2 3) e)

    logged_status : (log_number t.log x).num ≤ length t.log → 2 ≡ status t x
    unfolding is_logged
    logged_status h = by_log true (is_true (is_logged t.log x) ((at_most_says (log_number t.log x).num (length t.log)).1 h))

    gone_status : length t.log < (log_number t.log x).num → 3 ≡ status t x
    unfolding is_logged
    gone_status h =
        by_log false
        (is_false (is_logged t.log x) (λ u. let k = (at_most_says (log_number t.log x).num (length t.log)).0 u in omega arith))

-- it has no place
gone : (c : Else-is_some)
    → let start : Start = (goal.at.Else-is_some c).Start in
    T (is_live (unpack start.args.s.now.tables.words.now).live (txn start.args.s.now.who.num)) → ⊥
gone c l =
    let start : Start = (goal.at.Else-is_some c).Start in
    let s = start.args.s.now in
    let t = unpack start.args.s.now.tables.words.now in
    let some = placed_somewhere s.seat (below_live t.live (txn s.who.num) (seat_number s.seat) s.seated l) in
    subst T (sym some ∙ sym c.is_some.ensures ∙ c.if-is_some.false) tt

pub returns-then-is_some : goal.returns-then-is_some
returns-then-is_some c = let t = unpack c.args.s.now.tables.words.now in
    let x = txn c.args.s.now.who.num in
    let seat = c.args.s.now.seat in
    live_status t x
    (live_below t.live x (seat_number seat) c.args.s.now.seated (somewhere_below seat (sym c.is_some.ensures ∙ c.if-is_some.true)))

pub returns-then-logged : goal.returns-then-logged
returns-then-logged c = let t = unpack c.args.s.now.tables.words.now in
    logged_status t (txn c.args.s.now.who.num) (gone (goal.at.returns-then-logged c).Else-is_some)
    (grind (arith, nat_tests, ap (λ (n : Lsn). n.num) c.log_number-number.ensures, (sound_words_say c.args.s.now.tables.words.now c.args.s.now.tables.sound).log_count))

pub returns-else-logged : goal.returns-else-logged
returns-else-logged c = let t = unpack c.args.s.now.tables.words.now in
    gone_status t (txn c.args.s.now.who.num) (gone (goal.at.returns-else-logged c).Else-is_some)
    (grind (arith, nat_tests, ap (λ (n : Lsn). n.num) c.log_number-number.ensures, (sound_words_say c.args.s.now.tables.words.now c.args.s.now.tables.sound).log_count))
