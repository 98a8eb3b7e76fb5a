use Rattle.std.proofs.Common.{rules, ap, sym, ◌∙◌}
use Rattle.cq_tree.specs.declared.query.Query.{out-Query}
use Rattle.cq_meaning.specs.Queries.{columns_in}
use Rattle.cq_relations.proofs.FromNodes.{columns_sub, columns_cross, columns_inner, columns_left}
use Rattle.cq_relations.proofs.walk.+count_columns.Goals as goal

pub returns-in-Sub : goal.returns-in-Sub
returns-in-Sub t c = c.from-in-Sub.ensures ∙ (ap (λ q. (out-Query q).shown) c.get.ensures ∙ (sym (columns_sub c.in-Sub.q) ∙ ap columns_in (sym c.in-Sub.is)))

pub returns-in_ok-count_columns-in-Cross-2 : goal.returns-in_ok-count_columns-in-Cross-2
returns-in_ok-count_columns-in-Cross-2 t c = rw (c.in-Cross.is, columns_cross) (search rules)

pub returns-in_ok-count_columns-in-Inner-2 : goal.returns-in_ok-count_columns-in-Inner-2
returns-in_ok-count_columns-in-Inner-2 t c = rw (c.in-Inner.is, columns_inner) (search rules)

pub returns-in_ok-count_columns-in-Left-2 : goal.returns-in_ok-count_columns-in-Left-2
returns-in_ok-count_columns-in-Left-2 t c = rw (c.in-Left.is, columns_left) (search rules)
