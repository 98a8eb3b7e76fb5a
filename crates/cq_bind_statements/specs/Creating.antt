-- A table that is created, once its columns and its key are read.
use Rattle.std.specs.Prelude.{ℕ, List, length, nat_lt}
use Rattle.cq_catalog.specs.declared.info.TableInfo.{TableInfo}
use Rattle.cq_grammar.specs.declared.name.Name.{Name}
use Rattle.cq_tree.specs.declared.statement.Statement.{Statement}
use Rattle.cq_tree.specs.declared.statement.Statement.TheVariants as statement
use Rattle.cq_value.specs.declared.schema.Column.{Column}
use Rattle.cq_reading.specs.declared.error.BindError.TheVariants as error
use Rattle.cq_reading.specs.declared.error.Limited.TheVariants as limited
use Rattle.cq_reading.specs.Steps.{Reading, give, provided}

abbrev pub created : List TableInfo → Name → List Column → List ℕ → Reading Statement
created tables name columns places = provided (nat_lt (length tables) 64) (error.Limit limited.Tables 64) (give (statement.CreateTable name.text columns places))
