-- `ends::settle` meets its contract. Where none leaves, the words are those of the step already; else `settle-leaves-
-- some` says that they become so.
-- Assumes nothing.
use Rattle.std.proofs.Common.{List, ap, sym, ◌∙◌, ℕ, arith}
use Rattle.rules.specs.Tables.{Lsn, txn, log_number}
use Rattle.rules.specs.Layout.{unpack}
use Rattle.ends_laws.specs.Settle.{settle_number_most}
use Rattle.ends_laws.specs.Leaves.{size, settle_number_is, settle_leaves_none, settle_leaves_some}
use Rattle.ends.proofs.settle.Goals as goal

pub settle_number-k-requires : goal.settle_number-k-requires
settle_number-k-requires c = size c.args.words.now c.requires

pub returns-then-k-eq0 : goal.returns-then-k-eq0
returns-then-k-eq0 c = let settle_number_call = c.settle_number-k in
    let ws : List ℕ = c.args.words.now in
    let o = c.args.o in (
      sym c.if-k-eq0.true ∙ settle_number_call.ensures ∙ settle_number_is ws c.requires o.num o.exists,
      settle_leaves_none ws c.requires o.num o.exists (sym settle_number_call.ensures ∙ c.if-k-eq0.true),
    )

pub writer_at-last-requires : goal.writer_at-last-requires
writer_at-last-requires c = let most = settle_number_most c.args.words.now c.args.o.num in
    (size c.args.words.now c.requires, omega arith)

pub settle_object-requires : goal.settle_object-requires
settle_object-requires c = let ws : List ℕ = c.args.words.now in
    let most = settle_number_most ws c.args.o.num in
    (size ws c.requires, omega arith, omega arith, omega arith)

pub returns : goal.returns
returns c = let settle_number_call = c.settle_number-k in
    let log_number_call = c.log_number-n in
    let ws : List ℕ = c.args.words.now in
    let o = c.args.o in (
      settle_number_call.ensures ∙ settle_number_is ws c.requires o.num o.exists,
      c.settle_object.ensures
          ∙ settle_leaves_some ws c.requires o.num o.exists settle_number_call.result log_number_call.result.num
          settle_number_call.ensures
          (omega arith)
          (ap (λ (n : Lsn). n.num) log_number_call.ensures
          ∙ ap (λ (y : ℕ). (log_number (unpack ws).log (txn y)).num) c.writer_at-last.ensures),
    )
