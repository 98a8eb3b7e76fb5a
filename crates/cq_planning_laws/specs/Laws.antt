-- The laws.
use Rattle.std.specs.Prelude.{◌≡◌, ◌↔◌, true, ℕ, map, List, [], ◌∷◌, length, Some, slice_index_or}
use Rattle.std.specs.List.{AllByRecursion}
use Rattle.cq_value.specs.declared.value.Value.{Value}
use Rattle.cq_tree.specs.declared.expression.Op.TheVariants.{Eq}
use Rattle.cq_tree.specs.declared.expression.Expr.{Column, Literal}
use Rattle.cq_tree.specs.declared.expression.Cond.{Cond, Compare}
use Rattle.cq_tree.specs.declared.query.Query.{Query}
use Rattle.cq_tree.specs.declared.write.ShardOp.{ShardOp}
use Rattle.cq_tree.specs.declared.statement.Statement.TheVariants as statement
use Rattle.cq_meaning.specs.Lists.{Has}
use Rattle.cq_meaning.specs.Values.{Row, Tables}
use Rattle.cq_meaning.specs.Effects.{table_of}
use Rattle.cq_meaning.specs.Results.{Answers}
use Rattle.cq_meaning.specs.declared.Columns.{Columns}
use Rattle.cq_meaning.specs.Widths.{table_bits}
use Rattle.cq_meaning_laws.specs.WholeRules.{IsBoundStatement}
use Rattle.cq_catalog.specs.Contents.{Contents}
use Rattle.cq_catalog.specs.Placement.{place_at}
use Rattle.cq_catalog.specs.Whole.{IsWhole}
use Rattle.cq_catalog.specs.declared.info.Place.TheVariants.{Local}
use Rattle.cq_meaning.specs.Chains.{halved}
use Rattle.cq_planning.specs.Conjuncts.{in_list}
use Rattle.cq_planning.specs.Classes.{Connected, first_of_class}
use Rattle.cq_planning.specs.ValueSets.{ascending, IsAscending, IsAscendingSet}
use Rattle.cq_planning.specs.Occurrences.{Occurrence, occurrences_of}
use Rattle.cq_planning.specs.Touched.{among, touched}
use Rattle.cq_planning.specs.Database.{Held, whole, CanHold, Narrows, IsLarge, shape_in}
use Rattle.cq_planning.specs.Reaching.{IsTouchedBy}
use Rattle.cq_planning_laws.specs.Laid.{IsColumnOf, IsLaidStatement}
use Rattle.cq_planning.specs.Simple.{GivesSimply}

-- a condition is what the binder makes of `x IN (literals)`, with these values
abbrev pub IsIn : Cond → ℕ → List Value → Type 0
IsIn c x [] = ⊥
IsIn c x (v ∷ vs) = c ≡ halved true (map (λ w. Compare Eq (Column x) (Literal w)) (v ∷ vs))

-- that, and nothing else, counts as an IN
abbrev pub InsAreExact : Type 0
InsAreExact = (c : Cond) (x : ℕ) (vs : List Value) → (in_list c ≡ Some (x, vs)) ↔ IsIn c x vs

-- the values that a conjunct says are in ascending order, each once
abbrev pub ValuesAscend : Type 0
ValuesAscend = (vs : List Value) → IsAscending (ascending vs) × ((v : Value) → Has (ascending vs) v ↔ Has vs v)

-- so are those of the value set of each occurrence of a table
abbrev pub SetsAscend : Type 0
SetsAscend = (c : Contents) (q : Query) → AllByRecursion (λ (o : Occurrence). IsAscendingSet o.values) (occurrences_of c q)

-- two columns have the same first column exactly where equalities connect them
abbrev pub ClassesConnect : Type 0
ClassesConnect = (pairs : List (ℕ × ℕ)) (x y : ℕ) → (first_of_class pairs x ≡ first_of_class pairs y) ↔ Connected pairs x y

-- the groups that a write touches are groups of its table, of which are all rows that it inserts or keeps
abbrev pub WritesTouch : Type 0
WritesTouch = (c : Contents) (op : ShardOp) → IsWhole c → (place_at c (table_of op) ≡ Local → ⊥) → IsTouchedBy c (touched c (statement.Write op)) op

-- what the binder lets through is laid over the catalogue, where distribution columns are columns of their tables
abbrev pub BoundIsLaid : Type 0
BoundIsLaid = (cs : Columns) (c : Contents) (q : Query) → ((t : ℕ) → length (table_bits cs.tables t) ≡ length (shape_in c t).kinds) → ((t : ℕ) → IsColumnOf (length (shape_in c t).kinds) (place_at c t)) →
    IsBoundStatement cs q → IsLaidStatement c (λ i. length (slice_index_or cs.results i [])) q

-- an answer over what the touched groups hold alone is one over the whole, whatever legal contents the other groups have
abbrev pub QueriesNarrow : Type 0
QueriesNarrow = (c : Contents) (widths : ℕ → ℕ) (q : Query) → IsWhole c → IsLaidStatement c widths q →
    (rows : List Row) → Narrows c (touched c (statement.Select q)) (λ db. Answers q db rows)

-- the groups that a query doesn't touch don't matter: over legal contents that are the same in the touched groups its answers are the same
abbrev pub UntouchedAreFree : Type 0
UntouchedAreFree = (c : Contents) (widths : ℕ → ℕ) (q : Query) → IsWhole c → IsLaidStatement c widths q →
    (held other : Held) → ((g : ℕ) → CanHold c g (held g)) → ((g : ℕ) → CanHold c g (other g)) →
    ((g table : ℕ) → among g (touched c (statement.Select q)) ≡ true → held g table ≡ other g table) →
    (rows : List Row) → Answers q (whole c held) rows → Answers q (whole c other) rows

-- a group that is too large over the touched groups alone is too large over the whole
abbrev pub LargeNarrows : Type 0
LargeNarrows = (c : Contents) (widths : ℕ → ℕ) (q : Query) → IsWhole c → IsLaidStatement c widths q → GivesSimply c q →
    Narrows c (touched c (statement.Select q)) (IsLarge q)
