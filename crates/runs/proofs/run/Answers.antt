use Rattle.std.proofs.Common.{◌≡◌, ap, ◌∙◌, List, [], ◌++◌, ℕ, ◌+◌, ◌-◌, ◌*◌, ◌≤◌, arith, length, take, drop, length-drop, take_all, drop_of_length-le, append-nil}
use borrow.Rule.Slice.PartMut.{put_mid, post_of}
use Rattle.runs.specs.Stepped.{Stepped}
use Rattle.runs.proofs.Through.{begun, stays_sound, room_length, one_more, all_answered, room_filled}
use Rattle.runs.proofs.run.Goals.{After-step-used, At-loop-used}
use Rattle.runs.proofs.run.Goals as goal

-- what the invariant gives at the loop's head
room_kept : (c : At-loop-used) → length c.loop-used.answers ≡ length c.args.answers.now
room_kept c = room_length _ _ _ c.requires _ _ _ _ c.loop-used.invariant

-- the part from a place on is all the rest
the_rest : (l : List ℕ) (at : ℕ) → take (length l - at) (drop at l) ≡ drop at l
the_rest l at = take_all (length l - at) (drop at l) (rw length-drop (omega arith))

-- and what is put in its place ends the list
put_rest : (l r : List ℕ) (at : ℕ) → put_mid at (length l - at) l r ≡ take at l ++ r
put_rest l r at =
    let nothing : post_of at (length l - at) l ≡ [] = drop_of_length-le (drop at l) {i = length l - at} (rw length-drop (omega arith)) in
    ap (λ s. take at l ++ (r ++ s)) nothing ∙ rw append-nil

-- a step on the parts from two places on is one on the rest of the text and of the room
on_rest : (ws text room : List ℕ) (at to n : ℕ) (vs filled : List ℕ)
    → Stepped ws (take (length text - at) (drop at text)) (take (length room - to) (drop to room)) n vs filled
    → Stepped ws (drop at text) (drop to room) n vs filled
on_rest ws text room at to n vs filled step = rw (the_rest text at, the_rest room to) at step

-- what a turn's step did
stepped : (c : After-step-used)
    → Stepped c.loop-used.words (drop c.loop-used.used c.args.calls.now) (drop (19 * c.loop-used.lines) c.loop-used.answers)
    c.step-used.result c.step-used.new.words c.step-used.new.room
stepped c = on_rest _ c.args.calls.now c.loop-used.answers c.loop-used.used (19 * c.loop-used.lines) _ _ _ c.step-used.ensures

pub loop-used-init : goal.loop-used-init
loop-used-init c = begun _ _ _ c.requires

pub returns-then-answers-at : goal.returns-then-answers-at
returns-then-answers-at c = let head : At-loop-used = (goal.at.returns-then-answers-at c).At-loop-used in
    room_filled _ _ _ c.requires _ _ _ _ c.loop-used.invariant (omega (arith, room_kept head))

pub step-used-requires : goal.step-used-requires
step-used-requires c = let head : At-loop-used = (goal.at.step-used-requires c).At-loop-used in
    let room : 19 * c.loop-used.lines + 19 ≤ length c.loop-used.answers = omega arith in (
      stays_sound _ _ _ c.requires _ _ _ _ c.loop-used.invariant,
      rw the_rest (rw length-drop (omega arith)),
      rw the_rest (rw length-drop (omega arith)),
    )

pub loop-used-preserved : goal.loop-used-preserved
loop-used-preserved c = let step : After-step-used = (goal.at.loop-used-preserved c).After-step-used in
    let head : At-loop-used = (goal.at.loop-used-preserved c).At-loop-used in
    let room_left : 19 * c.loop-used.lines + 19 ≤ length c.args.answers.now = omega (arith, room_kept head) in
    rw (put_rest c.loop-used.answers c.step-used.new.room (19 * c.loop-used.lines))
    (one_more _ _ _ c.requires _ _ _ _ c.loop-used.invariant _ _ _ room_left (stepped step))

pub returns : goal.returns
returns c = all_answered _ _ _ c.requires _ _ _ _ c.loop-used.invariant c.loop-used-test.false
