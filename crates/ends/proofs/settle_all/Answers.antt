use Rattle.std.proofs.Common.{List, subst, ◌≡◌, ap, sym, ◌∙◌, ℕ, arith, T}
use Rattle.rules.specs.Tables.{object_count}
use Rattle.rules.specs.Layout.{sound_words, pack, unpack}
use Rattle.words_laws.specs.Words.{words_again}
use Rattle.ends_laws.specs.Restart.{settle_first}
use Rattle.ends_laws.specs.Leaves.{still_sound, settle_next}
use Rattle.ends.proofs.settle_all.Goals as goal

pub loop-i-init : goal.loop-i-init
unfolding settle_first
loop-i-init c = (omega arith, sym (words_again c.args.words.now c.requires))

pub settle-requires : goal.settle-requires
settle-requires c = let turn = c.loop-i in
    subst (λ (vs : List ℕ). T (sound_words vs)) (sym turn.invariant.1)
    (still_sound c.args.words.now c.requires turn.i (omega arith))

pub loop-i-preserved : goal.loop-i-preserved
loop-i-preserved c = let turn = c.loop-i in (
  omega arith,
  settle_next c.args.words.now c.requires turn.i (omega arith) turn.invariant.1
      c.settle.ensures.1,
)

pub returns : goal.returns
returns c = let turn = c.loop-i in
    let all : turn.i ≡ object_count = omega arith in
    turn.invariant.1 ∙ ap (λ (n : ℕ). pack (settle_first n (unpack c.args.words.now))) all
