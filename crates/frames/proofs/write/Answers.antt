-- `frames::write` meets its contract: in front of what stays of the room are the line feed, the value's digits and the
-- number's.
-- Assumes nothing.
use Rattle.std.proofs.Common.{◌≡◌, ap, ap₂, ◌∙◌, List, ◌∷◌, ◌++◌, ℕ, ◌≤◌, arith, length, take, drop, set, length-take, length-drop, length-take-le, length-set}
use Rattle.std.proofs.lemmas.List.{drop-set}
use Rattle.std.proofs.lemmas.Slice.{take-put_mid_below}
use borrow.Rule.Slice.PartMut.{put_mid, post_of}
use lib.Seq.{drop_at, drop-drop}
use Rattle.rules.specs.Frames.{line_feed, digits, write_answer}
use Rattle.frames.proofs.write.Goals as goal

module _ (room : List ℕ) (h : 19 ≤ length room) where
  -- the room once the line feed is written
  abbrev ended : List ℕ
  ended = set room 18 line_feed

  number_length : (value : List ℕ) → length (take 2 (put_mid 2 16 ended value)) ≡ 2
  number_length value =
      let long : 2 ≤ length ended = simp length-set (omega arith) in
      ap length (take-put_mid_below 2 16 ended value 2 (omega arith) long) ∙ length-take-le 2 ended long

  value_length : length (take 16 (drop 2 ended)) ≡ 16
  value_length = simp (length-take, length-drop, length-set) (omega arith)

  behind_number : (value : List ℕ) → drop 2 (put_mid 2 16 ended value) ≡ value ++ line_feed ∷ drop 19 room
  behind_number value =
      let long : length (take 2 ended) ≡ 2 = length-take-le 2 ended (simp length-set (omega arith)) in
      drop_at (take 2 ended) (value ++ post_of 2 16 ended) 2 long
      ∙ ap (λ l. value ++ l) (drop-drop 16 2 ended ∙ drop-set room 18 line_feed (omega arith))

pub returns : goal.returns
unfolding write_answer digits
returns c = let room = c.args.room.now in
    let answer = c.args.answer in
    let value : c.put.new.room ≡ digits 16 answer.value = c.put.ensures ∙ ap (λ n. digits n answer.value) (value_length room c.requires) in
    let number : c.put-2.new.room ≡ digits 2 answer.number
    = c.put-2.ensures ∙ ap (λ n. digits n answer.number) (number_length room c.requires c.put.new.room)
    in
    ap₂ (λ a b. a ++ b) number (behind_number room c.requires c.put.new.room ∙ ap (λ v. v ++ line_feed ∷ drop 19 room) value)
