-- `ends::commit` meets its contract. It is what its three callees leave, one after another, which `commit_leaves` says
-- is the step.
-- Assumes nothing.
use Rattle.std.proofs.Common.{List, subst, sym, ◌∙◌, ℕ, ◌+◌, ◌<◌, ◌^◌, arith}
use Rattle.rules.specs.Sets.{width}
use Rattle.rules.specs.Layout.{word, depends_at}
use Rattle.ends_laws.specs.Leaves.{size, log_count_is, commit_leaves, depends_fit}
use Rattle.ends.proofs.commit.Goals as goal

pub add_record-requires : goal.add_record-requires
add_record-requires c = let ws : List ℕ = c.args.words.now in
    (size ws c.requires.0, omega (arith, log_count_is ws c.requires.0))

pub strike_all-requires : goal.strike_all-requires
strike_all-requires c = let call = c.add_record in
    let ws : List ℕ = c.args.words.now in
    let pre = c.requires in (
      call.auto.words ∙ size ws pre.0,
      λ q h. subst (λ (vs : List ℕ). word vs (depends_at + q) < 2 ^ width) (sym call.ensures)
          (depends_fit ws pre.0 _ pre.2 q h),
    )

pub free_place-requires : goal.free_place-requires
free_place-requires c = c.strike_all.auto.words ∙ c.add_record.auto.words ∙ size c.args.words.now c.requires.0

pub returns : goal.returns
returns c = let pre = c.requires in
    let live = c.args.live in
    commit_leaves c.args.words.now pre.0 live.who.num pre.2 live.place.num pre.1.0 pre.1.1
    c.add_record.ensures c.strike_all.ensures c.free_place.ensures
