-- `tables::objects::other_writer` meets its contract: none of the earlier entries is of this one's writer. Assumes nothing.
use Rattle.std.proofs.Common.{sym, ◌∙◌, subst}
use Rattle.std.specs.Prelude.{T}
use Rattle.lookups.proofs.Writers.{wrote_none_says}
use Rattle.tables.proofs.objects.other_writer.Goals as goal

pub returns : goal.returns
returns c = let x = c.writer_at-x.ensures in
    let none = wrote_none_says c.args.words.now c.args.o.num c.args.j c.writer_at-x.result.num in
    record {
      says = λ t k h e. none.0 (subst T c.wrote_none.ensures t) k h (e ∙ sym x);
      shows = λ f. subst T (sym c.wrote_none.ensures) (none.1 (λ k h e. f k h (e ∙ x)));
    }
