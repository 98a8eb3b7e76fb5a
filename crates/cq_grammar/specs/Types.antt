-- The types of syntax trees, their layers and folds, in one place for files that need many.
pub use Rattle.cq_grammar.specs.declared.expr.AddOperator.{AddOperator}
pub use Rattle.cq_grammar.specs.declared.expr.Added.{Added, out-Added, roll-Added}
pub use Rattle.cq_grammar.specs.declared.expr.Aggregate.{Aggregate}
pub use Rattle.cq_grammar.specs.declared.expr.Arm.{Arm, out-Arm, roll-Arm}
pub use Rattle.cq_grammar.specs.declared.expr.Chained.{Chained, out-Chained, roll-Chained}
pub use Rattle.cq_grammar.specs.declared.expr.Comparison.{Comparison}
pub use Rattle.cq_grammar.specs.declared.expr.Expr.{Expr, roll-Expr}
pub use Rattle.cq_grammar.specs.declared.expr.Expr.TheFolds.{fold-Added, fold-Arm, fold-Chained, fold-Expr, fold-From, fold-GroupBy, fold-Having, fold-Item}
pub use Rattle.cq_grammar.specs.declared.expr.Expr.TheFolds.{fold-Join, fold-Multiplied, fold-OrderKey, fold-Relation, fold-Select, fold-Test, fold-roll-Added}
pub use Rattle.cq_grammar.specs.declared.expr.Expr.TheFolds.{fold-roll-Arm, fold-roll-Chained, fold-roll-Expr, fold-roll-From, fold-roll-GroupBy}
pub use Rattle.cq_grammar.specs.declared.expr.Expr.TheFolds.{fold-roll-Having, fold-roll-Item, fold-roll-Join, fold-roll-Multiplied, fold-roll-OrderKey}
pub use Rattle.cq_grammar.specs.declared.expr.Expr.TheFolds.{fold-roll-Relation, fold-roll-Select, fold-roll-Test, fold_out-Added, fold_out-Arm}
pub use Rattle.cq_grammar.specs.declared.expr.Expr.TheFolds.{fold_out-Chained, fold_out-Expr, fold_out-From, fold_out-GroupBy, fold_out-Having}
pub use Rattle.cq_grammar.specs.declared.expr.Expr.TheFolds.{fold_out-Multiplied, fold_out-OrderKey, fold_out-Select, ind-Expr, ind-Select, map-Added, map-Arm}
pub use Rattle.cq_grammar.specs.declared.expr.Expr.TheFolds.{map-Chained, map-Expr, map-From, map-GroupBy, map-Having, map-Item, map-Join, map-Multiplied}
pub use Rattle.cq_grammar.specs.declared.expr.Expr.TheFolds.{map-OrderKey, map-Relation, map-Select, map-Test}
pub use Rattle.cq_grammar.specs.declared.expr.Expr.TheOpen.{Added-F, Arm-F, Chained-F, Expr-F, From-F, GroupBy-F, Having-F, Item-F, Join-F, Multiplied-F}
pub use Rattle.cq_grammar.specs.declared.expr.Expr.TheOpen.{OrderKey-F, Relation-F, Select-F, Test-F}
pub use Rattle.cq_grammar.specs.declared.expr.Multiplied.{Multiplied, out-Multiplied, roll-Multiplied}
pub use Rattle.cq_grammar.specs.declared.expr.MultiplyOperator.{MultiplyOperator}
pub use Rattle.cq_grammar.specs.declared.expr.NullTest.{NullTest}
pub use Rattle.cq_grammar.specs.declared.expr.Test.{Test, out-Test, roll-Test}
pub use Rattle.cq_grammar.specs.declared.kind.Kind.{Kind}
pub use Rattle.cq_grammar.specs.declared.name.Name.{Name}
pub use Rattle.cq_grammar.specs.declared.query.CommonTable.{CommonTable}
pub use Rattle.cq_grammar.specs.declared.query.Count.{Count}
pub use Rattle.cq_grammar.specs.declared.query.Direction.{Direction}
pub use Rattle.cq_grammar.specs.declared.query.From.{From, out-From, roll-From}
pub use Rattle.cq_grammar.specs.declared.query.GroupBy.{GroupBy, out-GroupBy, roll-GroupBy}
pub use Rattle.cq_grammar.specs.declared.query.Having.{Having, out-Having, roll-Having}
pub use Rattle.cq_grammar.specs.declared.query.Item.{Item, roll-Item}
pub use Rattle.cq_grammar.specs.declared.query.Join.{Join, roll-Join}
pub use Rattle.cq_grammar.specs.declared.query.OrderKey.{OrderKey, out-OrderKey, roll-OrderKey}
pub use Rattle.cq_grammar.specs.declared.query.Query.{Query}
pub use Rattle.cq_grammar.specs.declared.query.Relation.{Relation, roll-Relation}
pub use Rattle.cq_grammar.specs.declared.query.Select.{Select, out-Select, roll-Select}
pub use Rattle.cq_grammar.specs.declared.rule.Rule.{Rule}
pub use Rattle.cq_grammar.specs.declared.statement.Argument.{Argument}
pub use Rattle.cq_grammar.specs.declared.statement.Ast.{Ast}
pub use Rattle.cq_grammar.specs.declared.statement.ColumnDef.{ColumnDef}
pub use Rattle.cq_grammar.specs.declared.statement.CopyOption.{CopyOption}
pub use Rattle.cq_grammar.specs.declared.statement.Literal.{Literal}
pub use Rattle.cq_grammar.specs.declared.statement.RowValues.{RowValues}
pub use Rattle.cq_grammar.specs.declared.statement.SetClause.{SetClause}
pub use Rattle.cq_grammar.specs.declared.statement.SettingValue.{SettingValue}
pub use Rattle.cq_grammar.specs.declared.statement.TypeName.{TypeName}
