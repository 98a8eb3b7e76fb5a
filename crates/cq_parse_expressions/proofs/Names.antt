-- Another name of a rule of the grammar's reader, for an attribute: there the word `test` would be taken for a test's.
pub use Rattle.cq_grammar.specs.Descent.{test as in_or_between}
