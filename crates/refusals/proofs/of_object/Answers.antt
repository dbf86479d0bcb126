-- `refusals::of_object` meets its contract. Sound words refuse such a call only for its object's number.
-- Assumes nothing.
use Rattle.std.proofs.Common.{◌≡◌, refl, false, List, [], ◌∷◌, ℕ, ◌≤◌, ◌<◌, T}
use Rattle.std.proofs.Math.Option.{none, some}
use Rattle.rules.specs.Tables.{object_count}
use Rattle.rules.specs.Answers.{Kind, is_save, is_settle, is_look, is_crash, kind_number, same_kind, Call, unsound, no_such_object, order, refusal}
use Rattle.rules.specs.Layout.{unpack, sound_words}
use Rattle.decisions.specs.Ends.{object_first, object_none}
use Rattle.refusals.specs.Reasons.{asking}
use Rattle.refusals.proofs.Deciding.{because, no_reason, decides}
use Rattle.refusals.proofs.of_object.Goals as goal

module _ (ws : List ℕ) (s : T (sound_words ws)) (o : ℕ) (k : Kind) (no_crash : same_kind k is_crash ≡ false) (in_order : order k ≡ unsound ∷ no_such_object ∷ []) where
  abbrev call : Call
  call = asking k 0 o 0

  an_object : o < object_count → none ≡ refusal (unpack ws) call
  an_object h = decides ws call (no_such_object ∷ []) s in_order none (no_reason ws call (no_such_object ∷ []) (object_none (unpack ws) call no_crash h))

  past_objects : object_count ≤ o → some no_such_object ≡ refusal (unpack ws) call
  past_objects h =
      decides ws call (no_such_object ∷ []) s in_order (some no_such_object)
      (because ws call (no_such_object ∷ []) no_such_object (object_first (unpack ws) call [] no_crash h))

pub returns-then-is_object : goal.returns-then-is_object
unfolding order kind_number
returns-then-is_object c = λ ws s.
    let o : ℕ = c.args.o.num in
    let h : o < object_count = c.if-is_object.true in
    (an_object ws s o is_save refl refl h, an_object ws s o is_settle refl refl h, an_object ws s o is_look refl refl h)

pub returns-else-is_object : goal.returns-else-is_object
unfolding order kind_number
returns-else-is_object c = λ ws s.
    let o : ℕ = c.args.o.num in
    let h : object_count ≤ o = c.if-is_object.false in
    (past_objects ws s o is_save refl refl h, past_objects ws s o is_settle refl refl h, past_objects ws s o is_look refl refl h)
