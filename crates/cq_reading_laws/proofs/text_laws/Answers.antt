use Rattle.cq_reading_laws.proofs.WrittenTexts.{text_writes_bound, text_queries_bound, texts_explained_bound, text_statements_bound, texts_explained_whole}
use Rattle.cq_reading_laws.proofs.text_laws.Goals as goal

pub returns-clause-writes : goal.returns-clause-writes
returns-clause-writes c = text_writes_bound

pub returns-clause-queries : goal.returns-clause-queries
returns-clause-queries c = text_queries_bound

pub returns-clause-explained : goal.returns-clause-explained
returns-clause-explained c = texts_explained_bound

pub returns-clause-statements : goal.returns-clause-statements
returns-clause-statements c = text_statements_bound

pub returns-clause-explained_whole : goal.returns-clause-explained_whole
returns-clause-explained_whole c = texts_explained_whole
