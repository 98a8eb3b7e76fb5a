-- A text in a session of a block: what it is bound to there, it is bound to outside, and that may stand in a block.
use Rattle.std.proofs.Common.{◌≡◌, inl, inr, ℕ, zero, suc, ◌≤◌, true, false, List, [], Option, Some, Result, Ok, Err, sym, ◌∙◌, ap, subst, arith}
use Rattle.std.specs.Prelude.{⊤, codes, bytes_eq}
use Rattle.std.proofs.lemmas.Slice.Eq.{bytes_eq-Decides}
use Rattle.cq_value.proofs.Truths.{two_ways}
use Rattle.cq_tree.specs.declared.statement.Statement.{Statement}
use Rattle.cq_tree.specs.declared.statement.Statement.TheVariants as statement
use Rattle.cq_tree.specs.declared.write.ShardOp.TheVariants.{Insert}
use Rattle.cq_catalog.specs.declared.info.TableInfo.{TableInfo}
use Rattle.cq_grammar.specs.declared.name.Name.{Name}
use Rattle.cq_grammar.specs.declared.expr.Expr.{Expr}
use Rattle.cq_grammar.specs.declared.query.Query as grammar
use Rattle.cq_grammar.specs.declared.statement.Ast.{Ast}
use Rattle.cq_grammar.specs.declared.statement.Ast.TheVariants as ast
use Rattle.cq_grammar.specs.declared.statement.Argument.{Argument}
use Rattle.cq_grammar.specs.declared.statement.CopyOption.{CopyOption}
use Rattle.cq_grammar.specs.declared.statement.RowValues.{RowValues}
use Rattle.cq_grammar.specs.declared.statement.SetClause.{SetClause}
use Rattle.cq_reading.specs.Steps.{through}
use Rattle.cq_reading.specs.Statements as st
use Rattle.cq_answer.specs.declared.fault.Fault.{Fault}
use Rattle.cq_answer.specs.declared.fault.Fault.TheVariants as fault
use Rattle.cq_statement.specs.Blocks.{may_be_in_block}
use Rattle.cq_statement.specs.Finding.{Reads}
use Rattle.cq_statement.specs.Meanings.{IsTree, Means, IsBarred, MeansInBlock}
use Rattle.cq_statement.specs.Reading.{reading_of, reading_in_block}
use Rattle.cq_history.specs.Phases.{MayBeInBlock}
use Rattle.cq_bound_laws.proofs.Yields.{Yields, yields_give, yields_behind, yields_outcome}
use Rattle.cq_session.specs.Responses.{MeansFor, reading_for, with_data, is_copy, IsThere}
use Rattle.cq_session.proofs.Copies.{stands_for, there_in}

-- ---- what is bound in a session is bound outside

module _ (text : List ℕ) (tables : List TableInfo) where
  means_outside : (session : ℕ) (read : Result Statement Fault) → MeansFor session text tables read → (read ≡ Err fault.NotInBlock → ⊥) → Means text tables read
  means_outside zero read m allowed = m
  means_outside (suc session) read (inl m) allowed = absurd (allowed m.1)
  means_outside (suc session) read (inr m) allowed = m.1

  -- with its data
  pub bound_outside : (session : ℕ) (bytes : List ℕ) (s : Statement) (read : Result Statement Fault) → MeansFor session text tables read → with_data bytes tables read ≡ Ok s → Means text tables read
  bound_outside session bytes s read m is = means_outside session read m (λ barred. absurd (cc (subst (λ (r : Result Statement Fault). with_data bytes tables r ≡ Ok s) barred is)))

  -- and without
  pub there_for : (session : ℕ) (s : Statement) (read : Result Statement Fault) → MeansFor session text tables read → Reads read (Ok s) → IsThere tables s
  there_for session s read m is = there_in text tables s read (means_outside session read m (λ barred. absurd (cc (barred, is)))) is

-- ---- a session's reading is that of a block, or that outside

module _ (text : List ℕ) (tables : List TableInfo) where
  -- what a session reads, as it means it
  abbrev IsRead : ℕ → Result Statement Fault → Type 0
  IsRead session r = Reads (reading_for session text tables) r × MeansFor session text tables (reading_for session text tables)

  pub read_outside : (session : ℕ) (r : Result Statement Fault) → session ≡ 0 → Reads (reading_of text tables) r → Means text tables (reading_of text tables) → IsRead session r
  read_outside session r is reads means = subst (λ (n : ℕ). IsRead n r) (sym is) (reads, means)

  pub read_inside : (session : ℕ) (r : Result Statement Fault) → 1 ≤ session → Reads (reading_in_block text tables) r → MeansInBlock text tables (reading_in_block text tables) → IsRead session r
  read_inside zero r low reads means = absurd (omega (arith, low))
  read_inside (suc session) r low reads means = (reads, means)

-- ---- and it may stand in a block, where its tree may

-- a COPY may be read in a block, where the INSERT of its rows stands for it
abbrev MayBeRead : Statement → Type 0
MayBeRead (statement.Copy table columns csv header) = ⊤
MayBeRead s = MayBeInBlock (Some s)

module _ (tables : List TableInfo) where
  queries : (q : grammar.Query) → Yields MayBeRead (st.selection tables q)
  queries q = yields_behind MayBeRead (st.query_of tables q) _ (λ bound. yields_give MayBeRead (statement.Select bound) tt)

  insertions : (table : Name) (columns : List Name) (rows : List RowValues) → Yields MayBeRead (st.insertion tables table columns rows)
  insertions table columns rows =
      yields_behind MayBeRead (st.target_of tables table) _ (λ p.
      yields_behind MayBeRead (st.columns_of p.1.columns columns) _ (λ is.
      yields_behind MayBeRead (through (st.with_row (st.write_context (st.among tables []) []) p.1 is) rows []) _ (λ values. yields_give MayBeRead (statement.Write (Insert p.0 values)) tt)))

  updates : (table : Name) (sets : List SetClause) (filter : Option Expr) → Yields MayBeRead (st.update tables table sets filter)
  updates table sets filter =
      yields_behind MayBeRead (st.target_of tables table) _ (λ p.
      yields_behind MayBeRead (st.update_of (st.among tables []) p.0 p.1 sets filter) _ (λ op. yields_give MayBeRead (statement.Write op) tt))

  deletions : (table : Name) (filter : Option Expr) → Yields MayBeRead (st.deletion tables table filter)
  deletions table filter =
      yields_behind MayBeRead (st.target_of tables table) _ (λ p.
      yields_behind MayBeRead (st.deletion_of (st.among tables []) p.0 p.1 filter) _ (λ op. yields_give MayBeRead (statement.Write op) tt))

  copies : (table : Name) (columns : List Name) (options : List CopyOption) → Yields MayBeRead (st.copying tables table columns options)
  copies table columns options =
      yields_behind MayBeRead (st.target_of tables table) _ (λ p.
      yields_behind MayBeRead (st.columns_of p.1.columns columns) _ (λ is. yields_give MayBeRead (statement.Copy p.0 is _ _) tt))

  moves : (arguments : List Argument) → Yields MayBeRead (st.moving arguments)
  moves arguments =
      yields_behind MayBeRead (st.small_number (st.argument_at arguments 1)) _ (λ from.
      yields_behind MayBeRead (st.small_number (st.argument_at arguments 2)) _ (λ to.
      yields_behind MayBeRead (st.with_arguments st.no_option arguments tt) _ (λ u. yields_give MayBeRead (statement.Move _ from to) tt)))

  calls : (function : Name) (arguments : List Argument) → bytes_eq function.text (codes "citus_move_shard_placement") ≡ true → Yields MayBeRead (st.call function arguments)
  calls function arguments is =
      subst (λ (t : List ℕ). Yields MayBeRead (st.call (record { text = t; at = function.at }) arguments)) (sym ((bytes_eq-Decides function.text (codes "citus_move_shard_placement")).0 is)) (moves arguments)

  allowed : (a : Ast) → may_be_in_block a ≡ true → Yields MayBeRead (st.statement_of tables a)
  allowed (ast.Query q) may = queries q
  allowed (ast.Insert table columns rows at) may = insertions table columns rows
  allowed (ast.Update table sets filter at) may = updates table sets filter
  allowed (ast.Delete table filter at) may = deletions table filter
  allowed (ast.Copy table columns spelled options at) may = copies table columns options
  allowed (ast.Call function arguments at) may = calls function arguments may
  allowed (ast.Create name columns key at) may = absurd (cc may)
  allowed (ast.Set space name spelled v at) may = absurd (cc may)
  allowed (ast.Explain q at) may = absurd (cc may)

  allowed_read : (a : Ast) (s : Statement) → may_be_in_block a ≡ true → st.reading tables a ≡ Ok s → MayBeRead s
  allowed_read a s may is = yields_outcome MayBeRead (st.statement_of tables a) _ s (allowed a may) is

no_copy_read : (s : Statement) → is_copy (Ok s) ≡ false → MayBeRead s → MayBeInBlock (Some s)
no_copy_read (statement.Copy table columns csv header) none may = absurd (cc none)
no_copy_read (statement.CreateTable name columns key) none may = may
no_copy_read (statement.Distribute table column count beside) none may = may
no_copy_read (statement.Reference table) none may = may
no_copy_read (statement.Setting which value) none may = may
no_copy_read (statement.Select q) none may = may
no_copy_read (statement.Write op) none may = may
no_copy_read (statement.Explain q) none may = may
no_copy_read (statement.Move shard from to) none may = may
no_copy_read (statement.Rebalance by_size) none may = may
no_copy_read (statement.RebalancePlan by_size) none may = may

module _ (text bytes : List ℕ) (tables : List TableInfo) (s : Statement) where
  -- of a text that isn't barred
  allowed_tree : (IsBarred text → ⊥) → IsTree text tables (Ok s) → MayBeRead s
  allowed_tree free t = elim (two_ways (may_be_in_block t.tree)) [
    | inl may ↦ allowed_read tables t.tree s may t.reads
    | inr not ↦ absurd (free (record { found = t.found; lexed = t.lexed; tree = t.tree; spelled = t.spelled; barred = not }))
  ]

  pub allowed_with : (session : ℕ) (read : Result Statement Fault) → MeansFor session text tables read → with_data bytes tables read ≡ Ok s → 1 ≤ session → MayBeInBlock (Some s)
  allowed_with zero read m is low = absurd (omega (arith, low))
  allowed_with (suc session) read (inl m) is low = absurd (cc (subst (λ (r : Result Statement Fault). with_data bytes tables r ≡ Ok s) m.1 is))
  allowed_with (suc session) read (inr m) is low = elim (stands_for bytes tables read s is) [
    | inl x ↦ subst (λ (t : Statement). MayBeInBlock (Some t)) (sym x.is) tt
    | inr x ↦ no_copy_read s (ap is_copy (sym x.0) ∙ x.1) (allowed_tree m.0 (subst (Means text tables) x.0 m.1))
  ]
