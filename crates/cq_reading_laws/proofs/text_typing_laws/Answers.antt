use Rattle.cq_reading_laws.proofs.TextTypingTexts.{text_queries_typed, texts_explained_typed, text_writes_typed}
use Rattle.cq_reading_laws.proofs.text_typing_laws.Goals as goal

pub returns-clause-queries : goal.returns-clause-queries
returns-clause-queries c = text_queries_typed

pub returns-clause-explained : goal.returns-clause-explained
returns-clause-explained c = texts_explained_typed

pub returns-clause-writes : goal.returns-clause-writes
returns-clause-writes c = text_writes_typed
