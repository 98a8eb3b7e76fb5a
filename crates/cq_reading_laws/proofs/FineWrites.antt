-- UPDATE and DELETE are what the engine asks for.
use Rattle.std.proofs.Common.{◌≡◌, ℕ, ◌+◌, ◌<◌, Bool, true, not, List, [], ◌∷◌, ◌++◌, map, length, refl, sym, ap, ◌∙◌, subst, arith, Option, None, Some, Result, Ok, Err}
use Rattle.std.specs.Prelude.{⊤, slice_get, position, bytes_eq, nat_eq}
use Rattle.std.specs.List.{AllByRecursion, list_any}
use Rattle.std.proofs.lemmas.List.Quantifiers.{position-Some}
use Rattle.cq_value.specs.declared.schema.Column as schema
use Rattle.cq_value.specs.declared.schema.Kind.{Kind}
use Rattle.cq_value.specs.declared.schema.Kind.TheVariants as kind
use Rattle.std.proofs.Common.{suc}
use Rattle.cq_value.proofs.Lists.{append_nil}
use Rattle.cq_value.proofs.Truths.{and_left, and_right}
use Rattle.cq_catalog.specs.declared.info.TableInfo.{TableInfo}
use Rattle.cq_catalog.specs.Contents.{number_of, is_local}
use Rattle.cq_grammar.specs.declared.name.Name.{Name}
use Rattle.cq_grammar.specs.declared.expr.Expr.{Expr}
use Rattle.cq_grammar.specs.declared.statement.SetClause.{SetClause}
use Rattle.cq_tree.specs.declared.expression.Cond.{Cond, Always}
use Rattle.cq_tree.specs.declared.expression.Expr as tree
use Rattle.cq_tree.specs.declared.write.Set.{Set}
use Rattle.cq_tree.specs.declared.write.ShardOp.{ShardOp}
use Rattle.cq_tree.specs.declared.write.ShardOp.TheVariants.{Update, Remove}
use Rattle.cq_tree.specs.declared.statement.Statement.{Statement}
use Rattle.cq_tree.specs.declared.statement.Statement.TheVariants as statement
use Rattle.cq_meaning.specs.declared.Columns.{Columns}
use Rattle.cq_meaning.specs.Widths.{bits_of_kind, table_bits, IsBound, IsBoundCondition, IsBoundWrite}
use Rattle.cq_reading.specs.declared.bound.Found.{Found}
use Rattle.cq_reading.specs.declared.bound.Bound.{Bound}
use Rattle.cq_reading.specs.declared.error.BindError.{BindError}
use Rattle.cq_reading.specs.declared.error.BindError.TheVariants as error
use Rattle.cq_reading.specs.Steps.{Reading, give, provided, follow, through}
use Rattle.cq_reading.specs.Widths.{expr_of, cond_of, is_truth}
use Rattle.cq_reading.specs.Scopes.{Context, table_sources}
use Rattle.cq_reading.specs.Expressions.{reads}
use Rattle.cq_reading.specs.Walk.{part_of}
use Rattle.cq_reading.specs.Statements as st
use Rattle.cq_reading_laws.specs.Bounds.{Stands, HasBits, HaveBits}
use Rattle.cq_reading_laws.specs.Worlds.{SourcesFit}
use Rattle.cq_reading_laws.specs.Written.{written_expr}
use Rattle.cq_reading_laws.specs.WriteLaws.{table_of, written_filter, written_sets, TablesFit, UpdatesBound, DeletionsBound}
use Rattle.cq_reading_laws.proofs.Keeping as keep
use Rattle.cq_reading_laws.proofs.FineFrom.{columns_fit, sources_have}
use Rattle.cq_reading_laws.proofs.FineWalk.{results_grow, expressions_bound}

-- no more results
abbrev Same : Found → Found → Type 0
Same f g = g.results ≡ f.results

now : (f : Found) → Same f f
now f = refl

on : (f g h : Found) → Same f g → Same g h → Same f h
on f g h l m = m ∙ l

abbrev Kept : {A : Type 0} → (Found → A → Type 0) → Found → Result (A × Found) BindError → Type 0
Kept H found o = keep.Kept Same now on H found o

abbrev Later : {A : Type 0} → (Found → A → Type 0) → Found → A → Type 0
Later H found a = keep.Lasting Same now on H found a

gives : {A : Type 0} (H : Found → A → Type 0) (found : Found) (a : A) → Later H found a → Kept H found (give a found)
gives = keep.kept_give Same now on

where_fit : {A : Type 0} (H : Found → A → Type 0) (found : Found) (t : Bool) (e : BindError) (r : Reading A) → (t ≡ true → Kept H found (r found)) → Kept H found (provided t e r found)
where_fit = keep.kept_provided Same now on

onwards : {A B : Type 0} (G : Found → A → Type 0) (H : Found → B → Type 0) (found : Found) (o : Result (A × Found) BindError) (f : A → Reading B)
    → Kept G found o → ((a : A) (mid : Found) → Same found mid → Later G mid a → Kept H mid (f a mid)) → Kept H found (follow o f)
onwards = keep.kept_then Same now on

-- ---- the table

module _ (cs : Columns) (tables : List TableInfo) (fit : TablesFit cs tables) where
  abbrev IsThere : Found → st.Target → Type 0
  IsThere later p = slice_get tables p.0 ≡ Some p.1

  in_there : (name : Name) (i : ℕ) (t : Option TableInfo) (found : Found) → slice_get tables i ≡ t → Kept IsThere found (st.target_in name i t found)
  in_there name i None found is = tt
  in_there name i (Some t) found is = where_fit IsThere found (not (is_local t.place)) (error.LocalTable name.at) (give (i, t)) (λ e. gives IsThere found (i, t) (λ later l. is))

  at_there : (name : Name) (i : Option ℕ) (found : Found) → Kept IsThere found (st.target_at tables name i found)
  at_there name None found = tt
  at_there name (Some i) found = in_there name i (slice_get tables i) found refl

  module _ (i : ℕ) (t : TableInfo) (there : slice_get tables i ≡ Some t) where
    abbrev ks : List ℕ
    ks = table_bits cs.tables i

    abbrev cx : Context
    cx = st.write_context (st.among tables []) (table_sources t.name t)

    have : HaveBits ks cx
    have n c is = subst (λ js. HasBits js (0 + n) c) (append_nil ks)
        (sources_have [] ks [] (table_sources t.name t) (subst (λ js. SourcesFit js (table_sources t.name t)) (sym (fit i t there)) (columns_fit t.name t.columns)) n c is)

    abbrev Fine : Found → Bound → Type 0
    Fine later b = Stands ks later.results b

    read_fine : (e : Expr) (found : Found) (o : Result (Bound × Found) BindError) → written_expr e ≡ true → reads (part_of e) cx found ≡ o → Kept Fine found o
    read_fine e found (Err x) w is = tt
    read_fine e found (Ok p) w is =
        ((results_grow cx e found p.1 p.0 is).1 refl, λ later l. expressions_bound ks cx e found p.1 p.0 later.results w have refl refl is (omega (arith, l)))

    abbrev CondFine : Found → Cond → Type 0
    CondFine later c = IsBoundCondition ks later.results c

    filter_fine : (filter : Option Expr) (found : Found) → written_filter filter ≡ true → Kept CondFine found (st.filter_in cx filter found)
    filter_fine None found w = gives CondFine found Always (λ later l. tt)
    filter_fine (Some e) found w = onwards Fine CondFine found (reads (part_of e) cx found) (λ b. provided (is_truth b) (error.Type (part_of e).at) (give (cond_of b))) (read_fine e found (reads (part_of e) cx found) w refl) (λ b mid l g.
        where_fit CondFine mid (is_truth b) (error.Type (part_of e).at) (give (cond_of b)) (λ t. gives CondFine mid (cond_of b) (λ later m. (g later m).condition)))

    map_length : (cols : List schema.Column) → length (map (λ c. bits_of_kind c.kind) cols) ≡ length cols
    map_length [] = refl
    map_length (c ∷ cols) = ap suc (map_length cols)

    unfoldable IsColumn : Found → ℕ → Type 0
    IsColumn later n = n < length ks

    column_fine : (before : List ℕ) (name : Name) (n : Option ℕ) (found : Found) → position (λ (c : schema.Column). bytes_eq c.name name.text) t.columns ≡ n → Kept IsColumn found (st.column_in before name n found)
    unfolding IsColumn
    column_fine before name None found is = tt
    column_fine before name (Some n) found is = where_fit IsColumn found (not (list_any (nat_eq n) before)) (error.Ambiguous name.at) (give n) (λ e. gives IsColumn found n (λ later l.
        let p = position-Some (λ (c : schema.Column). bytes_eq c.name name.text) t.columns n (record { name = []; kind = kind.Text }) is in
        let q : length ks ≡ length t.columns = ap length (fit i t there) ∙ map_length t.columns in omega (arith, p.0, q)))

    abbrev SetFine : Found → Set → Type 0
    SetFine later s = IsBound ks later.results s.value × (s.column < length ks)

    abbrev SetsFine : Found → List Set → Type 0
    SetsFine later sets = AllByRecursion (SetFine later) sets

    one_more : (later : Found) (sets : List Set) (s : Set) → SetsFine later sets → SetFine later s → SetsFine later (sets ++ s ∷ [])
    one_more later [] s h k = (k, tt)
    one_more later (x ∷ sets) s h k = (h.0, one_more later sets s h.1 k)

    set_column_fine : (before : List Set) (name : Name) (found : Found) → Kept IsColumn found (st.set_column t before name found)
    set_column_fine before name found =
        let names = map (λ (b : Set). b.column) before in
        onwards IsColumn IsColumn found (st.column_of t.columns names name found) _ (column_fine names name (position (λ (c : schema.Column). bytes_eq c.name name.text) t.columns) found refl) (λ n mid l there_is.
        where_fit IsColumn mid (not (st.is_key_column t n)) (error.KeyColumn name.at) (give n) (λ e. gives IsColumn mid n there_is))

    abbrev ValueFine : Found → tree.Expr → Type 0
    ValueFine later e = IsBound ks later.results e

    set_value_fine : (k : Kind) (e : Expr) (found : Found) → written_expr e ≡ true → Kept ValueFine found (st.set_value cx k e found)
    set_value_fine k e found w = onwards Fine ValueFine found (reads (part_of e) cx found) _ (read_fine e found (reads (part_of e) cx found) w refl) (λ b mid l g.
        where_fit ValueFine mid (st.fits_column k b) (error.Type (part_of e).at) (give (expr_of b)) (λ f. gives ValueFine mid (expr_of b) (λ later m. (g later m).expression)))

    set_fine : (before : List Set) (s : SetClause) (found : Found) → written_expr s.value ≡ true → Later SetsFine found before → Kept SetsFine found (st.with_set cx t before s found)
    unfolding IsColumn
    set_fine before s found w h =
        onwards IsColumn SetsFine found (st.set_column t before s.column found) _ (set_column_fine before s.column found) (λ n m1 l1 there_is.
        onwards ValueFine SetsFine m1 (st.set_value cx (st.kind_at t n) s.value m1) _ (set_value_fine (st.kind_at t n) s.value m1 w) (λ e m2 l2 g.
        let next : Set = record { column = n; value = e } in
        gives SetsFine m2 (before ++ next ∷ []) (λ later l. one_more later before next (h later (on found m1 later l1 (on m1 m2 later l2 l))) (g later l, there_is m1 refl))))

    set_steps : (sets : List SetClause) (found : Found) → written_sets sets ≡ true → AllByRecursion (λ s. (before : List Set) (f : Found) → Same found f → Later SetsFine f before → Kept SetsFine f (st.with_set cx t before s f)) sets
    set_steps [] found w = tt
    set_steps (s ∷ more) found w = ((λ before f l h. set_fine before s f (and_left _ _ w) h), set_steps more found (and_right _ _ w))

    sets_fine : (sets : List SetClause) (found : Found) → written_sets sets ≡ true → Kept SetsFine found (through (st.with_set cx t) sets [] found)
    sets_fine sets found w = keep.kept_through Same now on SetsFine (st.with_set cx t) sets [] found (set_steps sets found w) (λ later l. tt)

  abbrev OpFine : Found → ShardOp → Type 0
  OpFine later op = later.results ≡ 0 → IsBoundWrite (table_bits cs.tables (table_of op)) op

  deletion_of_fine : (i : ℕ) (t : TableInfo) (filter : Option Expr) (found : Found) → slice_get tables i ≡ Some t → written_filter filter ≡ true → Kept OpFine found (st.deletion_of (st.among tables []) i t filter found)
  deletion_of_fine i t filter found is w =
      onwards (CondFine i t is) OpFine found (st.filter_in (st.write_context (st.among tables []) (table_sources t.name t)) filter found) (λ c. give (Remove i c)) (filter_fine i t is filter found w) (λ c end m g.
      gives OpFine end (Remove i c) (λ later n e. subst (λ k. IsBoundCondition (table_bits cs.tables i) k c) e (g later n)))

  update_of_fine : (i : ℕ) (t : TableInfo) (sets : List SetClause) (filter : Option Expr) (found : Found) → slice_get tables i ≡ Some t → written_sets sets ≡ true → written_filter filter ≡ true → Kept OpFine found (st.update_of (st.among tables []) i t sets filter found)
  update_of_fine i t sets filter found is v w =
      let cx = st.write_context (st.among tables []) (table_sources t.name t) in
      onwards (SetsFine i t is) OpFine found (through (st.with_set cx t) sets [] found) _ (sets_fine i t is sets found v) (λ bound m2 l2 g.
      onwards (CondFine i t is) OpFine m2 (st.filter_in cx filter m2) (λ c. give (Update i c bound)) (filter_fine i t is filter m2 w) (λ c m3 l3 h.
      gives OpFine m3 (Update i c bound) (λ later n zero. (
        subst (λ k. IsBoundCondition (table_bits cs.tables i) k c) zero (h later n),
        subst (λ k. AllByRecursion (λ (s : Set). IsBound (table_bits cs.tables i) k s.value × (s.column < length (table_bits cs.tables i))) bound) zero (g later (on m2 m3 later l3 n)),
      ))))

  abbrev WriteFine : Found → Statement → Type 0
  WriteFine later (statement.Write op) = OpFine later op
  WriteFine later _ = ⊤

  as_write : (found : Found) (o : Result (ShardOp × Found) BindError) → Kept OpFine found o → Kept WriteFine found (follow o (λ op. give (statement.Write op)))
  as_write found o h = onwards OpFine WriteFine found o (λ op. give (statement.Write op)) h (λ op mid l g. gives WriteFine mid (statement.Write op) g)

  deletion_fine : (table : Name) (filter : Option Expr) (found : Found) → written_filter filter ≡ true → Kept WriteFine found (st.deletion tables table filter found)
  deletion_fine table filter found w =
      onwards IsThere WriteFine found (st.target_of tables table found) _ (at_there table (number_of tables table.text) found) (λ p mid l is.
      as_write mid (st.deletion_of (st.among tables []) p.0 p.1 filter mid) (deletion_of_fine p.0 p.1 filter mid (is mid refl) w))

  update_fine : (table : Name) (sets : List SetClause) (filter : Option Expr) (found : Found) → written_sets sets ≡ true → written_filter filter ≡ true → Kept WriteFine found (st.update tables table sets filter found)
  update_fine table sets filter found v w =
      onwards IsThere WriteFine found (st.target_of tables table found) _ (at_there table (number_of tables table.text) found) (λ p mid l is.
      as_write mid (st.update_of (st.among tables []) p.0 p.1 sets filter mid) (update_of_fine p.0 p.1 sets filter mid (is mid refl) v w))

abbrev statement_in : Statement → Result Statement BindError → Statement
statement_in s (Ok t) = t
statement_in s (Err e) = s

unfoldable IsOk : Result Statement BindError → Type 0
IsOk (Ok s) = ⊤
IsOk (Err e) = ⊥

written_op : (op : ShardOp) (o : Result (Statement × Found) BindError) (H : Found → Statement → Type 0) (start : Found) → Kept H start o → st.outcome o ≡ Ok (statement.Write op) → (new : Found) × Same start new × H new (statement.Write op)
unfolding IsOk
written_op op (Err e) H start h is = absurd (subst IsOk (sym is) tt)
written_op op (Ok p) H start h is =
    let e : p.0 ≡ statement.Write op = ap (statement_in p.0) is in
    (p.1, h.0, subst (λ s. H p.1 s) e (h.1 p.1 (now p.1)))

pub deletions_bound : DeletionsBound
deletions_bound cs tables table filter at op fit w is =
    let start : Found = record { results = 0; blocks = 0; subs = []; aggs = [] } in
    let r = written_op op (st.deletion tables table filter start) (WriteFine cs tables fit) start (deletion_fine cs tables fit table filter start w) is in
    r.2 r.1

pub updates_bound : UpdatesBound
updates_bound cs tables table sets filter at op fit v w is =
    let start : Found = record { results = 0; blocks = 0; subs = []; aggs = [] } in
    let r = written_op op (st.update tables table sets filter start) (WriteFine cs tables fit) start (update_fine cs tables fit table sets filter start v w) is in
    r.2 r.1
