-- Which kind of statement each kind of tree is read as.
use Rattle.std.proofs.Common.{◌≡◌, ℕ, Bool, true, false, if◌then◌else◌, List, [], Option, Result, Ok, Err, subst}
use Rattle.std.specs.Prelude.{⊤, length, nat_lt, not, bytes_eq, codes}
use Rattle.std.specs.List.{list_any}
use Rattle.cq_value.specs.declared.value.Value.{Value}
use Rattle.cq_value.specs.declared.schema.Column as schema
use Rattle.cq_grammar.specs.declared.name.Name.{Name}
use Rattle.cq_grammar.specs.declared.expr.Expr.{Expr}
use Rattle.cq_grammar.specs.declared.statement.ColumnDef.{ColumnDef}
use Rattle.cq_grammar.specs.declared.statement.RowValues.{RowValues}
use Rattle.cq_grammar.specs.declared.statement.SetClause.{SetClause}
use Rattle.cq_grammar.specs.declared.statement.CopyOption.{CopyOption}
use Rattle.cq_grammar.specs.declared.statement.Ast.{Ast}
use Rattle.cq_grammar.specs.declared.statement.SettingValue.{SettingValue}
use Rattle.cq_grammar.specs.declared.statement.Argument.{Argument}
use Rattle.cq_grammar.specs.declared.statement.Ast.TheVariants as ast
use Rattle.cq_grammar.specs.declared.statement.SettingValue.TheVariants as settings
use Rattle.cq_tree.specs.declared.write.ShardOp.{ShardOp}
use Rattle.cq_tree.specs.declared.write.ShardOp.TheVariants.{Insert, Update, Remove}
use Rattle.cq_tree.specs.declared.statement.Statement.{Statement}
use Rattle.cq_tree.specs.declared.statement.Statement.TheVariants as statement
use Rattle.cq_catalog.specs.declared.info.TableInfo.{TableInfo}
use Rattle.cq_catalog.specs.Contents.{number_of}
use Rattle.cq_reading.specs.declared.bound.Found.{Found}
use Rattle.cq_reading.specs.declared.error.BindError.{BindError}
use Rattle.cq_reading.specs.declared.error.BindError.TheVariants as error
use Rattle.cq_reading.specs.declared.error.Limited.TheVariants as limited
use Rattle.cq_reading.specs.Widths.{is_some}
use Rattle.cq_reading.specs.Steps.{Reading, give, refuse, follow, ◌then◌, provided, through}
use Rattle.cq_reading.specs.Statements as st

abbrev pub EndsIf : (Statement → Type 0) → Result (Statement × Found) BindError → Type 0
EndsIf F (Ok p) = F p.0
EndsIf F (Err e) = ⊤

-- each statement that the walk gives is so
pub record Ends (F : Statement → Type 0) (r : Reading Statement) : Type 0 where
  pub holds : (found : Found) → EndsIf F (r found)

given : (F : Statement → Type 0) (s : Statement) → F s → Ends F (give s)
given F s h = record { holds = λ found. h }

refused : (F : Statement → Type 0) (e : BindError) → Ends F (refuse e)
refused F e = record { holds = λ found. tt }

module _ (F : Statement → Type 0) where
  follow_ends : {A : Type 0} (o : Result (A × Found) BindError) (next : A → Reading Statement) → ((a : A) → Ends F (next a)) → EndsIf F (follow o next)
  follow_ends (Ok p) next h = (h p.0).holds p.1
  follow_ends (Err e) next h = tt

  then_ends : {A : Type 0} (r : Reading A) (next : A → Reading Statement) → ((a : A) → Ends F (next a)) → Ends F (r then next)
  then_ends r next h = record { holds = λ found. follow_ends (r found) next h }

  provided_ends : (t : Bool) (e : BindError) (r : Reading Statement) → Ends F r → Ends F (provided t e r)
  provided_ends true e r h = h
  provided_ends false e r h = refused F e

  if_ends : (t : Bool) (a b : Reading Statement) → Ends F a → Ends F b → Ends F (if t then a else b)
  if_ends true a b h k = h
  if_ends false a b h k = k

  outcome_is : (o : Result (Statement × Found) BindError) (s : Statement) → EndsIf F o → st.outcome o ≡ Ok s → F s
  outcome_is (Ok p) s h is = let e : p.0 ≡ s = cc is in subst F e h
  outcome_is (Err e) s h is = absurd (cc is)

-- ---- kinds of statements

abbrev pub IsSelect : Statement → Type 0
IsSelect (statement.Select q) = ⊤
IsSelect s = ⊥

abbrev pub IsExplained : Statement → Type 0
IsExplained (statement.Explain q) = ⊤
IsExplained s = ⊥

abbrev pub IsWrite : Statement → Type 0
IsWrite (statement.Write op) = ⊤
IsWrite s = ⊥

abbrev pub IsInsert : ShardOp → Type 0
IsInsert (Insert table rows) = ⊤
IsInsert (Update table filter_ sets) = ⊥
IsInsert (Remove table filter_) = ⊥

-- without expressions
abbrev pub IsPlain : Statement → Type 0
IsPlain (statement.Select q) = ⊥
IsPlain (statement.Explain q) = ⊥
IsPlain (statement.Write op) = IsInsert op
IsPlain s = ⊤

abbrev pub IsKindOf : Ast → Statement → Type 0
IsKindOf (ast.Update table sets filter at) = IsWrite
IsKindOf (ast.Delete table filter at) = IsWrite
IsKindOf (ast.Explain query at) = IsExplained
IsKindOf (ast.Query query) = IsSelect
IsKindOf a = IsPlain

-- ---- what each tree is read as

number_plain : (which greatest : ℕ) (v : SettingValue) → Ends IsPlain (st.number_setting which greatest v)
number_plain which greatest (settings.Number n at) = provided_ends IsPlain _ _ _ (given IsPlain _ tt)
number_plain which greatest (settings.On at) = refused IsPlain _
number_plain which greatest (settings.Off at) = refused IsPlain _

switch_plain : (which : ℕ) (v : SettingValue) → Ends IsPlain (st.switch_setting which v)
switch_plain which (settings.Number n at) = refused IsPlain _
switch_plain which (settings.On at) = given IsPlain _ tt
switch_plain which (settings.Off at) = given IsPlain _ tt

setting_plain : (space name : Name) (v : SettingValue) → Ends IsPlain (st.setting space name v)
setting_plain space name v =
    if_ends IsPlain _ _ _ (refused IsPlain _)
    (if_ends IsPlain _ _ _ (switch_plain 0 v)
    (if_ends IsPlain _ _ _ (number_plain 1 128 v)
    (if_ends IsPlain _ _ _ (number_plain 2 64 v) (refused IsPlain _))))

distribution_plain : (arguments : List Argument) → Ends IsPlain (st.distribution arguments)
distribution_plain arguments = then_ends IsPlain _ _ (λ o. given IsPlain _ tt)

reference_plain : (arguments : List Argument) → Ends IsPlain (st.reference arguments)
reference_plain arguments = then_ends IsPlain _ _ (λ u. given IsPlain _ tt)

moving_plain : (arguments : List Argument) → Ends IsPlain (st.moving arguments)
moving_plain arguments =
    let shard = st.number_in (st.argument_at arguments 0) in
    let moved : ℕ → ℕ → Statement = λ from to. statement.Move shard from to in
    let named = st.with_arguments st.no_option arguments tt in
    let rest : ℕ → ℕ → Reading Statement = λ from to. named then (λ u. give (moved from to)) in
    let last = λ (from : ℕ). st.small_number (st.argument_at arguments 2) then (λ (to : ℕ). rest from to) in
    then_ends IsPlain (st.small_number (st.argument_at arguments 1)) last
    (λ from. then_ends IsPlain (st.small_number (st.argument_at arguments 2)) (rest from)
    (λ to. then_ends IsPlain named (λ u. give (moved from to)) (λ u. given IsPlain (moved from to) tt)))

rebalance_plain : (arguments : List Argument) (make : Bool → Statement) → ((b : Bool) → IsPlain (make b)) → Ends IsPlain (st.with_arguments st.rebalance_option arguments false then (λ b. give (make b)))
rebalance_plain arguments make h = then_ends IsPlain _ _ (λ b. given IsPlain _ (h b))

call_plain : (function : Name) (arguments : List Argument) → Ends IsPlain (st.call function arguments)
call_plain function arguments =
    if_ends IsPlain (bytes_eq function.text (codes "create_distributed_table")) _ _ (distribution_plain arguments)
    (if_ends IsPlain (bytes_eq function.text (codes "create_reference_table")) _ _ (reference_plain arguments)
    (if_ends IsPlain (bytes_eq function.text (codes "citus_move_shard_placement")) _ _ (moving_plain arguments)
    (if_ends IsPlain (bytes_eq function.text (codes "rebalance_table_shards")) _ _ (rebalance_plain arguments statement.Rebalance (λ b. tt))
    (rebalance_plain arguments statement.RebalancePlan (λ b. tt)))))

creation_plain : (tables : List TableInfo) (name : Name) (defs : List ColumnDef) (key : List Name) → Ends IsPlain (st.creation tables name defs key)
creation_plain tables name defs key =
    let small = nat_lt (length tables) 64 in
    let many = error.Limit limited.Tables 64 in
    let made : List schema.Column → List ℕ → Statement = λ columns places. statement.CreateTable name.text columns places in
    let last = λ (columns : List schema.Column). st.key_of columns defs key then (λ (places : List ℕ). provided small many (give (made columns places))) in
    provided_ends IsPlain (not (is_some (number_of tables name.text))) (error.NameTaken name.text) (through st.with_created defs [] then last)
    (then_ends IsPlain (through st.with_created defs []) last (λ columns.
    then_ends IsPlain (st.key_of columns defs key) (λ (places : List ℕ). provided small many (give (made columns places))) (λ places.
    provided_ends IsPlain small many (give (made columns places)) (given IsPlain (made columns places) tt))))

insertion_plain : (tables : List TableInfo) (table : Name) (columns : List Name) (rows : List RowValues) → Ends IsPlain (st.insertion tables table columns rows)
insertion_plain tables table columns rows =
    let read = λ (p : st.Target) (is : List ℕ). through (st.with_row (st.write_context (st.among tables []) []) p.1 is) rows [] in
    let made : st.Target → List (List Value) → Statement = λ p values. statement.Write (Insert p.0 values) in
    let last = λ (p : st.Target) (is : List ℕ). read p is then (λ (values : List (List Value)). give (made p values)) in
    let more = λ (p : st.Target). st.columns_of p.1.columns columns then last p in
    then_ends IsPlain (st.target_of tables table) more (λ p.
    then_ends IsPlain (st.columns_of p.1.columns columns) (last p) (λ is.
    then_ends IsPlain (read p is) (λ (values : List (List Value)). give (made p values)) (λ values. given IsPlain (made p values) tt)))

write_given : (r : Reading ShardOp) → Ends IsWrite (r then (λ op. give (statement.Write op)))
write_given r = then_ends IsWrite r (λ op. give (statement.Write op)) (λ op. given IsWrite (statement.Write op) tt)

update_write : (tables : List TableInfo) (table : Name) (sets : List SetClause) (filter : Option Expr) → Ends IsWrite (st.update tables table sets filter)
update_write tables table sets filter =
    then_ends IsWrite (st.target_of tables table) (λ p. st.update_of (st.among tables []) p.0 p.1 sets filter then (λ op. give (statement.Write op)))
    (λ p. write_given (st.update_of (st.among tables []) p.0 p.1 sets filter))

deletion_write : (tables : List TableInfo) (table : Name) (filter : Option Expr) → Ends IsWrite (st.deletion tables table filter)
deletion_write tables table filter =
    then_ends IsWrite (st.target_of tables table) (λ p. st.deletion_of (st.among tables []) p.0 p.1 filter then (λ op. give (statement.Write op)))
    (λ p. write_given (st.deletion_of (st.among tables []) p.0 p.1 filter))

copying_plain : (tables : List TableInfo) (table : Name) (columns : List Name) (opts : List CopyOption) → Ends IsPlain (st.copying tables table columns opts)
copying_plain tables table columns opts =
    let made : st.Target → List ℕ → Statement = λ p is. statement.Copy p.0 is (list_any st.is_csv opts) (list_any st.is_header opts) in
    then_ends IsPlain (st.target_of tables table) (λ p. st.columns_of p.1.columns columns then (λ (is : List ℕ). give (made p is)))
    (λ p. then_ends IsPlain (st.columns_of p.1.columns columns) (λ (is : List ℕ). give (made p is)) (λ is. given IsPlain (made p is) tt))

ends : (tables : List TableInfo) (a : Ast) → Ends (IsKindOf a) (st.statement_of tables a)
ends tables (ast.Create name columns key at) = creation_plain tables name columns key
ends tables (ast.Insert table columns rows at) = insertion_plain tables table columns rows
ends tables (ast.Update table sets filter at) = update_write tables table sets filter
ends tables (ast.Delete table filter at) = deletion_write tables table filter
ends tables (ast.Copy table columns spelled opts at) = copying_plain tables table columns opts
ends tables (ast.Set space name spelled v at) = setting_plain space name v
ends tables (ast.Explain q at) =
    then_ends IsExplained (st.query_of tables q) (λ bound. give (statement.Explain bound)) (λ bound. given IsExplained (statement.Explain bound) tt)
ends tables (ast.Call function arguments at) = call_plain function arguments
ends tables (ast.Query q) = then_ends IsSelect (st.query_of tables q) (λ bound. give (statement.Select bound)) (λ bound. given IsSelect (statement.Select bound) tt)

pub kind_of : (tables : List TableInfo) (a : Ast) (s : Statement) → st.reading tables a ≡ Ok s → IsKindOf a s
kind_of tables a s is =
    let start : Found = record { results = st.ctes_in a; blocks = 0; subs = []; aggs = [] } in
    outcome_is (IsKindOf a) (st.statement_of tables a start) s ((ends tables a).holds start) is
