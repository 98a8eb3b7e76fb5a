-- Between two phases of a script each distribution column is a column of its table.
use Rattle.std.proofs.Common.{◌≡◌, ◌<◌, zero, suc, ℕ, Bool, false, List, [], ◌∷◌, ◌++◌, length, refl, sym, ap, ◌∙◌, subst, arith, Some, None, Option, slice_get, position, append-nil}
use Rattle.std.specs.Prelude.{option_and_then, unwrap_or, is_none}
use Rattle.std.proofs.lemmas.List.{length-map}
use Rattle.std.proofs.lemmas.List.Quantifiers.{position-Some}
use Rattle.cq_value.specs.declared.schema.Column.{Column}
use Rattle.cq_value.specs.declared.schema.Kind.{Kind}
use Rattle.cq_value.specs.declared.schema.With.{With}
use Rattle.cq_catalog.specs.Contents.{Contents, number_of, table_named, place_in, columns_in, key_in, with_place, shape_of}
use Rattle.cq_catalog.specs.Creation.{refusal_if, with_table}
use Rattle.cq_catalog.specs.Distribution.{column_named, column_refusal, lacks, target_refusal, room_refusal, local_refusal, decision_of, distribution_refusal, distributed_at, distributed_by, with_reference}
use Rattle.cq_catalog.specs.declared.decision.Target.{Target}
use Rattle.cq_catalog.specs.declared.decision.Target.TheVariants.{Joins, Opens}
use Rattle.cq_catalog.specs.declared.error.CatalogError.{CatalogError}
use Rattle.cq_catalog.specs.declared.error.CatalogError.TheVariants.{UnknownColumn, KeyLacksColumn}
use Rattle.cq_catalog.specs.declared.info.Place.{Place}
use Rattle.cq_catalog.specs.declared.info.Place.TheVariants.{Local, Distributed, Reference}
use Rattle.cq_catalog.specs.declared.info.TableInfo.{TableInfo}
use Rattle.cq_tree.specs.declared.journal.Who.{Who}
use Rattle.cq_tree.specs.declared.statement.Statement.{Statement}
use Rattle.cq_tree.specs.declared.statement.Statement.TheVariants as statement
use Rattle.cq_answer.specs.declared.answer.Answer.{Answer}
use Rattle.cq_answer.specs.declared.answer.Answer.TheVariants as answer
use Rattle.cq_answer.specs.declared.answer.Tag.{Tag}
use Rattle.cq_answer.specs.declared.answered.Answered.{Answered}
use Rattle.cq_planning_laws.specs.Laid.{IsColumnOf}
use Rattle.cq_journal.specs.Records.{Journal}
use Rattle.cq_history.specs.Run.{Run, Rules, Environment, first, after, environment_from}
use Rattle.cq_history.specs.Standing.{Yields, Runs, distribution_fault}
use Rattle.cq_history.specs.Deeds.{Deed, Phase, Does, in_deed}
use Rattle.cq_history.specs.Phases.{who_of, environment_at, AreInScriptOrder, IsAllowed}
use Rattle.cq_history.specs.Log.{IsDone}
use Rattle.cq_history.proofs.Catalogs.{catalog_before}
use Rattle.std.specs.List.{AllByRecursion}
use Rattle.cq_history.proofs.Moving.{failed_keeps_catalog}
use Rattle.cq_bound_laws.specs.Laws.{HasColumns, ColumnsStand}
use Rattle.cq_history.proofs.Given.{IsGiven, given_yields, given_runs, none_before}
use Rattle.cq_history.proofs.Tables.{first_none, not_refused}

-- ---- lists of tables

abbrev HasColumn : Option TableInfo → Type 0
HasColumn o = IsColumnOf (length (shape_of o).kinds) (place_in o)

one_more : (ts : List TableInfo) (t : TableInfo) → HasColumn (Some t) → ((i : ℕ) → HasColumn (slice_get ts i)) → (i : ℕ) → HasColumn (slice_get (ts ++ t ∷ []) i)
one_more [] t own h zero = own
one_more [] t own h (suc i) = tt
one_more (u ∷ ts) t own h zero = h 0
one_more (u ∷ ts) t own h (suc i) = one_more ts t own (λ j. h (suc j)) i

one_placed : (ts : List TableInfo) (n : ℕ) (p : Place) → ((t : TableInfo) → slice_get ts n ≡ Some t → IsColumnOf (length (shape_of (Some t)).kinds) p) → ((i : ℕ) → HasColumn (slice_get ts i)) → (i : ℕ) → HasColumn (slice_get (with_place ts n p) i)
one_placed [] n p own h i = h i
one_placed (t ∷ ts) zero p own h zero = own t refl
one_placed (t ∷ ts) zero p own h (suc i) = h (suc i)
one_placed (t ∷ ts) (suc n) p own h zero = h 0
one_placed (t ∷ ts) (suc n) p own h (suc i) = one_placed ts n p own (λ j. h (suc j)) i

-- ---- the column by which a table is distributed

found_below : (columns : List Column) (test : Column → Bool) (o : Option ℕ) → position test columns ≡ o → is_none o ≡ false → unwrap_or o 0 < length columns
found_below columns test None is h = absurd (cc h)
found_below [] test (Some k) is h = absurd (cc is)
found_below (c ∷ cs) test (Some k) is h = (position-Some test (c ∷ cs) k c is).0

column_below : (columns : List Column) (name : List ℕ) → column_refusal columns name ≡ None → unwrap_or (column_named columns name) 0 < length columns
column_below columns name h = found_below columns _ (column_named columns name) refl (not_refused (is_none (column_named columns name)) (UnknownColumn name) h)

of_table : (tables : List TableInfo) (o : Option ℕ) (name : List ℕ) → column_refusal (columns_in (option_and_then (slice_get tables) o)) name ≡ None →
    (t : TableInfo) → slice_get tables (unwrap_or o 0) ≡ Some t → unwrap_or (column_named (columns_in (option_and_then (slice_get tables) o)) name) 0 < length t.columns
of_table tables None name h t is = absurd (omega (arith, column_below [] name h))
of_table tables (Some n) name h t is =
    subst (λ (u : Option TableInfo). unwrap_or (column_named (columns_in u) name) 0 < length t.columns) (sym is) (column_below t.columns name (ap (λ (u : Option TableInfo). column_refusal (columns_in u) name) (sym is) ∙ h))

module _ (c : Contents) (columns : HasColumns c) where
  created : (name : List ℕ) (cs : List Column) (key : List ℕ) → HasColumns (with_table c name cs key)
  created name cs key = one_more c.tables (record { name = name; columns = cs; key = key; place = Local }) tt columns

  referenced : (table : List ℕ) → HasColumns (with_reference c table)
  referenced table = one_placed c.tables (unwrap_or (number_of c.tables table) 0) (Reference c.groups c.next_shard) (λ t is. tt) columns

  distributed_to : (table column : ℕ) (kind : Kind) (target : Target) → ((t : TableInfo) → slice_get c.tables table ≡ Some t → column < length (shape_of (Some t)).kinds) → HasColumns (distributed_at c table column kind target)
  distributed_to table column kind (Joins colocation) own = one_placed c.tables table (Distributed column colocation c.next_shard) own columns
  distributed_to table column kind (Opens count joinable) own = one_placed c.tables table (Distributed column (length c.colocations) c.next_shard) own columns

  distributed : (table column : List ℕ) (count : Option ℕ) (beside : With) (default : ℕ) → distribution_refusal c table column count beside default ≡ None → HasColumns (distributed_by c (decision_of c table column count beside default))
  distributed table column count beside default h =
      let info = table_named c.tables table in
      let d = decision_of c table column count beside default in
      let rest : List (Option CatalogError) =
      refusal_if (lacks (key_in info) d.column) (KeyLacksColumn table) ∷ (target_refusal c d.kind count beside default ∷ (room_refusal c.groups d.target ∷ [])) in
      let one = first_none (local_refusal c.tables table) (column_refusal (columns_in info) column ∷ rest) h in
      let two = first_none (column_refusal (columns_in info) column) rest one.1 in
      distributed_to d.table d.column d.kind d.target (λ t is.
      subst (λ n. d.column < n) (sym (length-map t.columns (λ (x : Column). x.kind))) (of_table c.tables (number_of c.tables table) column two.0 t is))

-- ---- statements

module _ (rules : Rules) (run : Run) (e : Environment) (p : Phase) (who : Who) (d : Deed) (columns : HasColumns e.catalog) where
  runs : (s : Statement) (a : Answer) → IsGiven a → Does rules run e p who d (Some s) a → Runs (rules.touched e.catalog s) run e (in_deed p e.catalog d) s a
  runs s a g h = given_runs (rules.refusal e s) (rules.touched e.catalog s) run e (in_deed p e.catalog d) s a g h.stands

  after_distribution : (table column : List ℕ) (count : Option ℕ) (beside : With) (done : Answer → Type 0) (a : Answer) → IsGiven a → (nodes : ℕ → ℕ) → Yields (distribution_fault run e.catalog e.retired nodes e.settings.shard_count table column count beside) done a →
      HasColumns (distributed_by e.catalog (decision_of e.catalog table column count beside e.settings.shard_count))
  after_distribution table column count beside done a g nodes y =
      distributed e.catalog columns table column count beside e.settings.shard_count (none_before (distribution_refusal e.catalog table column count beside e.settings.shard_count) _ (given_yields _ done a g y))

  after_tag : (s : Statement) (t : Tag) → Does rules run e p who d (Some s) (answer.Tag t) → HasColumns (after e (Some s) (answer.Tag t)).catalog
  after_tag (statement.CreateTable name cs key) t h = created e.catalog columns name cs key
  after_tag (statement.Distribute table column count beside) t h = let r = runs (statement.Distribute table column count beside) (answer.Tag t) tt h in after_distribution table column count beside _ (answer.Tag t) tt r.1 r.3
  after_tag (statement.Reference table) t h = referenced e.catalog columns table
  after_tag (statement.Setting which value) t h = columns
  after_tag (statement.Select q) t h = columns
  after_tag (statement.Write op) t h = columns
  after_tag (statement.Copy table cs csv header) t h = columns
  after_tag (statement.Explain q) t h = columns
  after_tag (statement.Move shard from to) t h = columns
  after_tag (statement.Rebalance by_size) t h = columns
  after_tag (statement.RebalancePlan by_size) t h = columns

  after_table : (s : Statement) (names : _) (rows : _) → Does rules run e p who d (Some s) (answer.Table names rows) → HasColumns (after e (Some s) (answer.Table names rows)).catalog
  after_table (statement.CreateTable name cs key) names rows h = created e.catalog columns name cs key
  after_table (statement.Distribute table column count beside) names rows h =
      let r = runs (statement.Distribute table column count beside) (answer.Table names rows) tt h in after_distribution table column count beside _ (answer.Table names rows) tt r.1 r.3
  after_table (statement.Reference table) names rows h = referenced e.catalog columns table
  after_table (statement.Setting which value) names rows h = columns
  after_table (statement.Select q) names rows h = columns
  after_table (statement.Write op) names rows h = columns
  after_table (statement.Copy table cs csv header) names rows h = columns
  after_table (statement.Explain q) names rows h = columns
  after_table (statement.Move shard from to) names rows h = columns
  after_table (statement.Rebalance by_size) names rows h = columns
  after_table (statement.RebalancePlan by_size) names rows h = columns

  after_any : (bound : Option Statement) (a : Answer) → Does rules run e p who d bound a → HasColumns (after e bound a).catalog
  after_any None (answer.Tag t) h = columns
  after_any None (answer.Table names rows) h = columns
  after_any bound (answer.Failed f) h = subst HasColumns (sym (failed_keeps_catalog e bound f)) columns
  after_any (Some s) (answer.Tag t) h = after_tag s t h
  after_any (Some s) (answer.Table names rows) h = after_table s names rows h

-- a list with its next item in front
pushed : (front : List Answered) (a : Answered) (more : List Answered) → (front ++ a ∷ []) ++ more ≡ front ++ a ∷ more
pushed [] a more = refl
pushed (x ∷ front) a more = ap (λ (v : List Answered). x ∷ v) (pushed front a more)

-- answer by answer, behind those before
after_all : (rules : Rules) (run : Run) (all : List Answered) (last : Contents) (journals : List Journal) → AreInScriptOrder all → AllByRecursion IsAllowed all → (front rest : List Answered) → all ≡ front ++ rest →
    AllByRecursion (IsDone rules run all last journals) rest → HasColumns (environment_from (first run) front).catalog → HasColumns (environment_from (first run) all).catalog
after_all rules run all last journals script allowed front [] is done h = subst (λ (v : List Answered). HasColumns (environment_from (first run) v).catalog) (sym (is ∙ append-nil front)) h
after_all rules run all last journals script allowed front (a ∷ more) is done h =
    let so = subst (λ (v : List Answered). ((environment_at run v a.phase).catalog ≡ (environment_from (first run) front).catalog)
    × ((after (environment_at run v a.phase) a.bound a.answer).catalog ≡ (environment_from (first run) (front ++ a ∷ [])).catalog)) (sym is)
    (catalog_before run front a more (subst AreInScriptOrder is script) (subst (AllByRecursion IsAllowed) is allowed)) in
    let here : HasColumns (environment_at run all a.phase).catalog = subst HasColumns (sym so.0) h in
    after_all rules run all last journals script allowed (front ++ a ∷ []) more (is ∙ sym (pushed front a more)) done.1
    (subst HasColumns so.1 (after_any rules run (environment_at run all a.phase) done.0.phase (who_of a) done.0.deed here a.bound a.answer done.0.does))

pub columns_stand : ColumnsStand
columns_stand rules run e answers journals c =
    subst (λ (v : Environment). HasColumns v.catalog) (sym c.environment) (after_all rules run answers e.catalog journals c.log.script c.log.allowed [] answers refl c.done (λ table. tt))
