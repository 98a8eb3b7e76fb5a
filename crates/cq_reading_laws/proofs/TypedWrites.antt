-- UPDATE and DELETE are well typed.
use Rattle.std.proofs.Common.{◌≡◌, ℕ, zero, suc, ◌+◌, ◌<◌, Bool, true, false, not, List, [], ◌∷◌, ◌++◌, map, length, refl, sym, ap, ◌∙◌, subst, arith, Option, None, Some, Result, Ok, Err}
use Rattle.std.specs.Prelude.{⊤, slice_get, slice_index_or, position, bytes_eq, nat_eq}
use Rattle.std.specs.List.{AllByRecursion, list_any}
use Rattle.std.proofs.lemmas.List.Quantifiers.{position-Some}
use Rattle.cq_value.proofs.Lists.{all_more}
use Rattle.cq_value.proofs.Truths.{and_left, and_right}
use Rattle.cq_value.specs.declared.schema.Column as schema
use Rattle.cq_value.specs.declared.schema.Kind.{Kind}
use Rattle.cq_value.specs.declared.schema.Kind.TheVariants as kind
use Rattle.cq_catalog.specs.declared.info.TableInfo.{TableInfo}
use Rattle.cq_catalog.specs.Contents.{number_of, is_local}
use Rattle.cq_grammar.specs.declared.name.Name.{Name}
use Rattle.cq_grammar.specs.declared.expr.Expr.{Expr}
use Rattle.cq_grammar.specs.declared.statement.SetClause.{SetClause}
use Rattle.cq_tree.specs.declared.expression.Cond.{Cond, Always}
use Rattle.cq_tree.specs.declared.expression.Expr as tree
use Rattle.cq_tree.specs.declared.write.Set.{Set}
use Rattle.cq_tree.specs.declared.write.ShardOp.{ShardOp}
use Rattle.cq_tree.specs.declared.write.ShardOp.TheVariants.{Update, Remove}
use Rattle.cq_tree.specs.declared.statement.Statement.{Statement}
use Rattle.cq_tree.specs.declared.statement.Statement.TheVariants as statement
use Rattle.cq_reading.specs.declared.bound.Found.{Found}
use Rattle.cq_reading.specs.declared.bound.Source.{Source}
use Rattle.cq_reading.specs.declared.bound.Bound.{Bound}
use Rattle.cq_reading.specs.declared.error.BindError.{BindError}
use Rattle.cq_reading.specs.declared.bound.Bound.TheVariants.{Value, Truth}
use Rattle.cq_reading.specs.declared.bound.Type.TheVariants as type
use Rattle.cq_reading.specs.declared.error.BindError.TheVariants as error
use Rattle.cq_reading.specs.Steps.{Reading, give, provided, follow, ◌then◌, through}
use Rattle.cq_reading.specs.Widths.{ValueType, kind_type, expr_of}
use Rattle.cq_reading.specs.Scopes.{Context, table_sources}
use Rattle.cq_reading.specs.Expressions.{reads}
use Rattle.cq_reading.specs.Walk.{part_of}
use Rattle.cq_reading.specs.Statements as st
use Rattle.cq_reading_laws.specs.Typing.{AreAlike, AllFit, type_over, IsTyped}
use Rattle.cq_reading_laws.specs.TypedQueries.{Types, table_types, results_of, HaveResults, IsTypedWrite}
use Rattle.cq_reading_laws.specs.Reach.{HasKind, TablesTyped, Onward}
use Rattle.cq_reading_laws.specs.Written.{written_expr}
use Rattle.cq_reading_laws.specs.WriteLaws.{table_of, written_filter, written_sets}
use Rattle.cq_reading_laws.specs.TypingLaws.{UpdatesTyped, DeletionsTyped}
use Rattle.cq_reading_laws.proofs.Standing.{no_truth}
use Rattle.cq_reading_laws.proofs.TypedForms.{OfType, fits_same, alike_below}
use Rattle.cq_reading_laws.proofs.TypedKeeping.{Setting, Given, Good, Later, AllLater, Run, RunIf, Fine, now, on, gives, where_fit, onwards, through_all}
use Rattle.cq_reading_laws.proofs.TypedParts.{Reached}
use Rattle.cq_reading_laws.proofs.TypedFrom.{columns_fit, sources_at, source_kinds}
use Rattle.cq_reading_laws.proofs.TypedLists.{CondFine, condition_typed}
use Rattle.cq_reading_laws.proofs.TypedTree.{expression_typed}

abbrev begun : Found
begun = record { results = 0; blocks = 0; subs = []; aggs = [] }

abbrev IsNone : {A : Type 0} → Option A → Type 0
IsNone None = ⊤
IsNone (Some a) = ⊥

-- ---- the columns of the table

abbrev kinds : List schema.Column → List ValueType
kinds cols = map (λ (c : schema.Column). kind_type c.kind) cols

kinds_length : (cols : List schema.Column) → length (kinds cols) ≡ length cols
kinds_length [] = refl
kinds_length (c ∷ cols) = ap suc (kinds_length cols)

-- a column in place has the type of its kind
kind_of_column : (cols : List schema.Column) (i : ℕ) (t : TableInfo) → t.columns ≡ cols → i < length cols → (k : Kind) → k ≡ st.kind_at t i → slice_index_or (kinds t.columns) i type.Null ≡ kind_type k
kind_of_column cols i t is l k same = goal
  where
    at : (cols : List schema.Column) (i : ℕ) → i < length cols → (c : schema.Column) × ((slice_get cols i ≡ Some c) × (slice_index_or (kinds cols) i type.Null ≡ kind_type c.kind))
    at [] i l = absurd (omega (arith, l))
    at (c ∷ cols) zero l = (c, (refl, refl))
    at (c ∷ cols) (suc i) l = at cols i (omega (arith, l))

    goal : slice_index_or (kinds t.columns) i type.Null ≡ kind_type k
    goal = let p = at t.columns i (subst (λ cs. i < length cs) (sym is) l) in p.1.1 ∙ ap kind_type (sym (same ∙ kind_found p.0 p.1.0))
      where
        kind_found : (c : schema.Column) → slice_get t.columns i ≡ Some c → st.kind_at t i ≡ c.kind
        kind_found c e = rw e refl

alike_column : (ts : List ValueType) (k : Kind) (b : Bound) → OfType ts b → st.fits_column k b ≡ true → AreAlike (kind_type k) (type_over ts (expr_of b))
alike_column ts k (Value e t w) of h = alike_below (kind_type k) (type_over ts e) (kind_type k) t (fits_same (kind_type k)) of h
alike_column ts k (Truth c) of h = absurd (no_truth h)

module _ (cs : Types) (tables : List TableInfo) (fit : TablesTyped cs tables) (i : ℕ) (t : TableInfo) (there : slice_get tables i ≡ Some t) where
  abbrev ts : List ValueType
  ts = table_types cs i

  -- no results are there
  abbrev z : Setting
  z = record { types = record { tables = cs.tables; results = [] }; base = 0; columns = ts; reach = 0; asked = false }

  abbrev cx : Context
  cx = st.write_context (st.among tables []) (table_sources t.name t)

  are : ts ≡ kinds t.columns
  are = fit i t there

  have : (n : ℕ) (s : Source) → slice_get (table_sources t.name t) n ≡ Some s → HasKind ts (0 + n) s
  have n s is =
      let e : 0 + n ≡ n = omega arith in
      subst (λ j. HasKind ts j s) (sym e) (sources_at ts (table_sources t.name t) (subst (λ us. AllFit us (source_kinds (table_sources t.name t))) (sym are) (columns_fit t.name t.columns)) n s is)

  reached : Reached z cx
  reached = record { world = record { tables = fit; commons = λ j c none. absurd (subst (λ o. IsNone o) none tt) }; reach = refl; columns = have }

  good : Good z begun
  good = record { typed = record { numbered = refl; subs = λ g. tt; aggs = λ g. tt }; steady = λ e. tt }

  abbrev C : Found → Cond → Type 0
  C found c = Later (CondFine z cx reached) found c

  filter_fine : (filter : Option Expr) (found : Found) → written_filter filter ≡ true → Run z cx C found (st.filter_in cx filter found)
  filter_fine None found w = gives z cx C found Always (λ later l g. tt)
  filter_fine (Some e) found w = condition_typed z cx reached (part_of e) found (expression_typed e w) (λ a m. absurd (no_truth m))

  -- ---- sets

  abbrev SetFine : Found → Set → Type 0
  SetFine later s = Given z later → IsTyped ts [] s.value × AreAlike (slice_index_or ts s.column type.Null) (type_over ts s.value) × (s.column < length ts)

  abbrev SS : Found → List Set → Type 0
  SS found sets = AllLater z cx SetFine found sets

  unfoldable IsColumn : Found → ℕ → Type 0
  IsColumn later n = n < length t.columns

  column_fine : (before : List ℕ) (name : Name) (n : Option ℕ) (found : Found) → position (λ (c : schema.Column). bytes_eq c.name name.text) t.columns ≡ n → Run z cx IsColumn found (st.column_in before name n found)
  unfolding IsColumn
  column_fine before name None found is = λ good. tt
  column_fine before name (Some n) found is = where_fit z cx IsColumn found (not (list_any (nat_eq n) before)) (error.Ambiguous name.at) (give n) (λ e. gives z cx IsColumn found n
      (position-Some (λ (c : schema.Column). bytes_eq c.name name.text) t.columns n (record { name = []; kind = kind.Text }) is).0)

  set_column_fine : (before : List Set) (name : Name) (found : Found) → Run z cx IsColumn found (st.set_column t before name found)
  set_column_fine before name found =
      let names = map (λ (b : Set). b.column) before in
      onwards z cx IsColumn IsColumn found (st.column_of t.columns names name found) _ (column_fine names name (position (λ (c : schema.Column). bytes_eq c.name name.text) t.columns) found refl) (λ n mid l there_is.
      where_fit z cx IsColumn mid (not (st.is_key_column t n)) (error.KeyColumn name.at) (give n) (λ e. gives z cx IsColumn mid n there_is))

  abbrev ValueFine : Kind → Found → tree.Expr → Type 0
  ValueFine k later e = (Given z later → IsTyped ts [] e) × AreAlike (kind_type k) (type_over ts e)

  set_value_fine : (k : Kind) (e : Expr) (found : Found) → written_expr e ≡ true → Run z cx (Later (ValueFine k)) found (st.set_value cx k e found)
  set_value_fine k e found w = onwards z cx (Later (Fine z cx)) (Later (ValueFine k)) found (reads (part_of e) cx found) _ (expression_typed e w z cx reached (λ a m. absurd (no_truth m)) found) (λ b mid l g.
      where_fit z cx (Later (ValueFine k)) mid (st.fits_column k b) (error.Type (part_of e).at) (give (expr_of b))
      (λ f. gives z cx (Later (ValueFine k)) mid (expr_of b) (λ later m. ((g later m).expression, alike_column ts k b (g later m).of f))))

  set_fine : (before : List Set) (s : SetClause) (found : Found) → written_expr s.value ≡ true → SS found before → Run z cx SS found (st.with_set cx t before s found)
  unfolding IsColumn
  set_fine before s found w h =
      onwards z cx IsColumn SS found (st.set_column t before s.column found) _ (set_column_fine before s.column found) (λ n m1 l1 there_is.
      onwards z cx (Later (ValueFine (st.kind_at t n))) SS m1 (st.set_value cx (st.kind_at t n) s.value m1) _ (set_value_fine (st.kind_at t n) s.value m1 w) (λ e m2 l2 g.
      let next : Set = record { column = n; value = e } in
      let kind_is : slice_index_or ts n type.Null ≡ kind_type (st.kind_at t n) = ap (λ us. slice_index_or us n type.Null) are ∙ kind_of_column t.columns n t refl there_is (st.kind_at t n) refl in
      let below : n < length ts = subst (λ us. n < length us) (sym are) (subst (λ m. n < m) (sym (kinds_length t.columns)) there_is) in
      gives z cx SS m2 (before ++ next ∷ []) (λ later l. all_more (SetFine later) before next (h later (on found m1 later l1 (on m1 m2 later l2 l)))
      (λ given. ((g later l).0 given, subst (λ u. AreAlike u (type_over ts e)) (sym kind_is) (g later l).1, below)))))

  set_steps : (sets : List SetClause) (found : Found) → written_sets sets ≡ true → AllByRecursion (λ s. (before : List Set) (f : Found) → Onward found f → SS f before → Run z cx SS f (st.with_set cx t before s f)) sets
  set_steps [] found w = tt
  set_steps (s ∷ more) found w = ((λ before f l h. set_fine before s f (and_left _ _ w) h), set_steps more found (and_right _ _ w))

  sets_fine : (sets : List SetClause) (found : Found) → written_sets sets ≡ true → Run z cx SS found (through (st.with_set cx t) sets [] found)
  sets_fine sets found w = through_all z cx SS (st.with_set cx t) sets [] found (set_steps sets found w) (λ later l. tt)

  -- ---- the writes

  all_given : {A : Type 0} (G : Type 0) (P : A → Type 0) (xs : List A) → AllByRecursion (λ x. G → P x) xs → G → AllByRecursion P xs
  all_given G P [] h g = tt
  all_given G P (x ∷ xs) h g = (h.0 g, all_given G P xs h.1 g)

  abbrev OpFine : Found → ShardOp → Type 0
  OpFine later op = Given z later → IsTypedWrite (table_types cs (table_of op)) op

  deletion_of_fine : (filter : Option Expr) (found : Found) → written_filter filter ≡ true → Run z cx OpFine found (st.deletion_of (st.among tables []) i t filter found)
  deletion_of_fine filter found w =
      onwards z cx C OpFine found (st.filter_in cx filter found) (λ c. give (Remove i c)) (filter_fine filter found w) (λ c end m g. gives z cx OpFine end (Remove i c) (g end (now end)))

  update_of_fine : (sets : List SetClause) (filter : Option Expr) (found : Found) → written_sets sets ≡ true → written_filter filter ≡ true → Run z cx OpFine found (st.update_of (st.among tables []) i t sets filter found)
  update_of_fine sets filter found v w =
      onwards z cx SS OpFine found (through (st.with_set cx t) sets [] found) _ (sets_fine sets found v) (λ bound m2 l2 g.
      onwards z cx C OpFine m2 (st.filter_in cx filter m2) (λ c. give (Update i c bound)) (filter_fine filter m2 w) (λ c m3 l3 h.
      gives z cx OpFine m3 (Update i c bound) (λ given. (h m3 (now m3) given, all_given (Given z m3) _ bound (g m3 l3) given))))

  -- no IN subquery is found
  ended : (o : Result (ShardOp × Found) BindError) → RunIf z cx OpFine begun o → (op : ShardOp) (new : Found) → o ≡ Ok (op, new) → IsTypedWrite (table_types cs (table_of op)) op
  ended o h op new is =
      let r = subst (RunIf z cx OpFine begun) is h in
      r.2 (subst (λ qs. HaveResults z.types 0 (results_of z.types qs)) (sym (r.1.no_subs refl)) tt)

-- ---- statements

abbrev WriteIf : Types → Result (Statement × Found) BindError → Type 0
WriteIf cs (Ok p) = (op : ShardOp) → p.0 ≡ statement.Write op → IsTypedWrite (table_types cs (table_of op)) op
WriteIf cs (Err e) = ⊤

abbrev op_in : ShardOp → Statement → ShardOp
op_in d (statement.Write op) = op
op_in d _ = d

of_op : (cs : Types) (o : Result (ShardOp × Found) BindError) → ((op : ShardOp) (new : Found) → o ≡ Ok (op, new) → IsTypedWrite (table_types cs (table_of op)) op) → WriteIf cs (follow o (λ op. give (statement.Write op)))
of_op cs (Ok p) h = λ op is. subst (λ x. IsTypedWrite (table_types cs (table_of x)) x) (ap (op_in p.0) is) (h p.0 p.1 refl)
of_op cs (Err e) h = tt

module _ (cs : Types) (tables : List TableInfo) (next : ℕ → TableInfo → Reading Statement) (h : (i : ℕ) (t : TableInfo) → slice_get tables i ≡ Some t → WriteIf cs (next i t begun)) where
  of_table : (name : Name) (i : ℕ) (t : Option TableInfo) → slice_get tables i ≡ t → WriteIf cs (follow (st.target_in name i t begun) (λ p. next p.0 p.1))
  of_table name i None is = tt
  of_table name i (Some t) is = of_place (not (is_local t.place)) (error.LocalTable name.at)
    where
      of_place : (b : Bool) (e : BindError) → WriteIf cs (follow {A = st.Target} (provided b e (give (i, t)) begun) (λ p. next p.0 p.1))
      of_place true e = h i t is
      of_place false e = tt

  of_name : (name : Name) (i : Option ℕ) → WriteIf cs (follow (st.target_at tables name i begun) (λ p. next p.0 p.1))
  of_name name None = tt
  of_name name (Some i) = of_table name i (slice_get tables i) refl

abbrev result_in : Statement → Result Statement BindError → Statement
result_in s (Ok t) = t
result_in s (Err e) = s

unfoldable IsOk : Result Statement BindError → Type 0
IsOk (Ok s) = ⊤
IsOk (Err e) = ⊥

written_op : (cs : Types) (op : ShardOp) (o : Result (Statement × Found) BindError) → WriteIf cs o → st.outcome o ≡ Ok (statement.Write op) → IsTypedWrite (table_types cs (table_of op)) op
unfolding IsOk
written_op cs op (Err e) h is = absurd (subst IsOk (sym is) tt)
written_op cs op (Ok p) h is = h op (ap (result_in p.0) is)

pub deletions_typed : DeletionsTyped
deletions_typed cs tables table filter at op fit w is =
    written_op cs op (st.deletion tables table filter begun)
    (of_name cs tables (λ i t. st.deletion_of (st.among tables []) i t filter then (λ op. give (statement.Write op)))
    (λ i t there. of_op cs (st.deletion_of (st.among tables []) i t filter begun)
    (λ op new e. ended cs tables fit i t there (st.deletion_of (st.among tables []) i t filter begun) (deletion_of_fine cs tables fit i t there filter begun w (good cs tables fit i t there)) op new e))
    table (number_of tables table.text)) is

pub updates_typed : UpdatesTyped
updates_typed cs tables table sets filter at op fit v w is =
    written_op cs op (st.update tables table sets filter begun)
    (of_name cs tables (λ i t. st.update_of (st.among tables []) i t sets filter then (λ op. give (statement.Write op)))
    (λ i t there. of_op cs (st.update_of (st.among tables []) i t sets filter begun)
    (λ op new e. ended cs tables fit i t there (st.update_of (st.among tables []) i t sets filter begun) (update_of_fine cs tables fit i t there sets filter begun v w (good cs tables fit i t there)) op new e))
    table (number_of tables table.text)) is
