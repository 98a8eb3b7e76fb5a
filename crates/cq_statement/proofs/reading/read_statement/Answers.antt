use Rattle.std.proofs.Common.{rules}
use Rattle.cq_statement.proofs.MeaningLaws.{means_one}
use Rattle.cq_statement.proofs.ParsingLaws.{unread, read_by}
use Rattle.cq_statement.proofs.reading.read_statement.Goals as goal

pub returns-in_err-tree-clause-reading : goal.returns-in_err-tree-clause-reading
returns-in_err-tree-clause-reading c = let h = unread c.args.text.now c.args.catalog.now.tables c.in_err-tree.field-0.0 c.in_err-tree.ensures in search (rules, h)

pub returns-clause-reading : goal.returns-clause-reading
returns-clause-reading c = read_by c.args.text.now c.args.catalog.now.tables c.in_ok-tree.tree c.bind_all.result c.in_ok-tree.ensures c.bind_all.ensures

pub returns-in_err-tree-clause-one : goal.returns-in_err-tree-clause-one
returns-in_err-tree-clause-one c = means_one c.args.text.now c.args.catalog.now.tables

pub returns-clause-one : goal.returns-clause-one
returns-clause-one c = means_one c.args.text.now c.args.catalog.now.tables
