use Rattle.std.proofs.Common.{◌≡◌, length, sym, subst, arith}
use Rattle.cq_value.specs.Tables.{Pair}
use Rattle.std.specs.List.{AllByRecursion}
use Rattle.cq_columnar.specs.Chunks.{column, IsValue}
use Rattle.cq_columnar.proofs.WritingLaws.{column_more, by_columns, one_more}
use Rattle.cq_columnar.proofs.encoding.push_columns.Goals as goal

pub loop-place-preserved : goal.loop-place-preserved
loop-place-preserved c =
    let rows = c.args.rows.now in
    let i = c.loop-place.place in
    record {
      bytes = rw c.in_ok-push_column.ensures.bytes (column_more i c.args.columns rows c.loop-place.out.items c.args.out.now.items c.loop-place-test.true c.loop-place.invariant.bytes);
      are = one_more (λ k. AllByRecursion IsValue (column rows k)) i c.loop-place.invariant.are c.in_ok-push_column.ensures.are;
    }

pub returns-clause-are : goal.returns-clause-are
returns-clause-are c =
    let rows = c.args.rows.now in
    let fits = c.ranges.columns.fits in
    record {
      width = omega (arith, fits, c.requires.columns);
      values = by_columns rows c.args.columns (subst (λ n. AllByRecursion (λ (p : Pair). length p.1 ≡ n) rows) (sym c.requires.columns) c.requires.fit.even) (λ k l. c.loop-place.invariant.are k (omega (arith, l, c.loop-place-test.false)));
    }
