-- Parts of a FROM as readings of their own.
use Rattle.std.specs.Prelude.{ℕ, List, ◌++◌}
use Rattle.cq_tree.specs.declared.expression.Cond.{Cond}
use Rattle.cq_tree.specs.declared.query.FromTree.{FromTree, Cross}
use Rattle.cq_grammar.specs.declared.name.Name.{Name}
use Rattle.cq_reading.specs.declared.bound.Relations.{Relations}
use Rattle.cq_reading.specs.Steps.{Reading, give, ◌then◌}
use Rattle.cq_reading.specs.Scopes.{World}
use Rattle.cq_reading.specs.Parts.{Part, RelationPart, SelectPart}
use Rattle.cq_reading.specs.Relations.{one_more, subquery_relation, joined_on, both}

-- a subquery under an alias, behind relations of these names
abbrev pub subquery_reading : SelectPart → Name → World → List (List ℕ) → Reading Relations
subquery_reading select alias w names = one_more names (select w then subquery_relation alias names)

-- a relation that is joined on a condition to those before it
abbrev pub joined_reading : (FromTree → FromTree → Cond → FromTree) → RelationPart → Part → World → List (List ℕ) → ℕ → Relations → Reading Relations
joined_reading make relation on w names first a = relation w (names ++ a.names) then joined_on w first make on a

abbrev pub crossed_reading : RelationPart → World → List (List ℕ) → Relations → Reading Relations
crossed_reading relation w names a = relation w (names ++ a.names) then (λ b. give (both Cross a b))
