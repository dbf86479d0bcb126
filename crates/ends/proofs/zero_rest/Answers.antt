-- `ends::zero_rest` meets its contract. The zeros stand behind the log.
-- Assumes nothing.
use Rattle.std.proofs.Common.{List, ℕ, ◌≡◌, ◌∙◌, ap, arith, rules, length, take, drop, replicate, length-take, length-drop}
use borrow.Rule.Slice.PartMut.{post_of}
use Rattle.rules.specs.Layout.{word_count}
use Rattle.ends_laws.specs.Fresh.{one_first_zeros}
use Rattle.ends.proofs.zero_rest.Goals as goal

pub returns : goal.returns
returns c = let ws : List ℕ = c.args.words.now in
    let size : length (take 896 (drop 514 ws)) ≡ 896 =
    omega (arith, length-take 896 (drop 514 ws), length-drop 514 ws) in
    let zeros : c.fill.new.self ≡ replicate 896 0 =
    c.fill.ensures.after (search rules) ∙ ap (λ (n : ℕ). replicate n 0) size in
    one_first_zeros ws _ (post_of 514 896 ws) 514 896 word_count zeros (omega arith) (omega arith) (omega arith) c.requires.1
