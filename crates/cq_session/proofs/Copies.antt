-- A text with its data: what it stands for, and how its answer is written.
use Rattle.std.proofs.Common.{nat_eq, ◌≡◌, ◌⊎◌, inl, inr, ℕ, Bool, true, false, List, [], ◌∷◌, ◌++◌, Option, None, Some, Result, Ok, Err, refl, sym, ◌∙◌, ap, subst}
use Rattle.std.specs.Prelude.{cond, filter, nat_lt, slice_get}
use Rattle.std.proofs.lemmas.List.Elements.{filter-append}
use Rattle.std.specs.List.{AllByRecursion}
use Rattle.cq_value.proofs.Lists.{all_weaker}
use Rattle.cq_value.proofs.Truths.{two_ways}
use Rattle.cq_tree.specs.declared.journal.Who.{Who}
use Rattle.cq_tree.specs.declared.statement.Statement.{Statement}
use Rattle.cq_tree.specs.declared.statement.Statement.TheVariants as statement
use Rattle.cq_tree.specs.declared.write.ShardOp.TheVariants.{Insert}
use Rattle.cq_catalog.specs.declared.info.TableInfo.{TableInfo}
use Rattle.cq_catalog.specs.Contents.{Contents}
use Rattle.cq_catalog.specs.Whole.{IsWhole}
use Rattle.cq_grammar.specs.declared.statement.Ast.{Ast}
use Rattle.cq_reading.specs.Statements.{reading}
use Rattle.cq_journal.specs.Records.{Journal}
use Rattle.cq_answer.specs.declared.answer.Answer.{Answer}
use Rattle.cq_answer.specs.declared.answer.Answer.TheVariants as answer
use Rattle.cq_answer.specs.declared.answer.Tag.TheVariants as tag
use Rattle.cq_answer.specs.declared.answered.Answered.{Answered}
use Rattle.cq_answer.specs.declared.fault.Fault.{Fault}
use Rattle.cq_answer.specs.declared.fault.Fault.TheVariants as fault
use Rattle.cq_copy.specs.declared.error.CopyError.{CopyError}
use Rattle.cq_copy.specs.declared.error.CopyError.TheVariants as copying
use Rattle.cq_copy.specs.Rows.{Row, Gives}
use Rattle.cq_copy.specs.Data.{rows_of}
use Rattle.cq_statement.specs.Finding.{Reads}
use Rattle.cq_statement.specs.Meanings.{Means}
use Rattle.cq_history.specs.Run.{Run, Rules, Environment}
use Rattle.cq_history.specs.Computable.{IsComputable}
use Rattle.cq_history.specs.Faults.{range_in, NamesBelow}
use Rattle.cq_history.specs.Log.{IsAnswered}
use Rattle.cq_history.specs.Phases.{phase_in}
use Rattle.cq_history.proofs.Copying.{copy_is_answered}
use Rattle.cq_store.specs.Stores.{StoreState}
use Rattle.cq_group.specs.declared.group.GroupState.{GroupState}
use Rattle.cq_group.specs.Groups.{stores_of, entries_of}
use Rattle.cq_cluster.specs.Accounts.{moved_by, AccountsByPhases, later_phases, AreAccounted, Retires}
use Rattle.cq_cluster.proofs.PhaseLaws.{alike_by_phases}
use Rattle.cq_cluster.specs.declared.retired.Retired.{Retired}
use Rattle.cq_bound_laws.specs.Laws.{HasColumns}
use Rattle.cq_bound_laws.proofs.Statements.{copies_are_there}
use Rattle.cq_bound_laws.proofs.Copies.{copies_fit, inserts_compute}
use Rattle.cq_cluster.specs.declared.cluster.Cluster.{Cluster}
use Rattle.cq_cluster.specs.Steady.{NamesNode, SparesSteady}
use Rattle.cq_coordinator.specs.Coordination.{IsNoCopy, NeedsNoData}
use Rattle.cq_session.specs.Responses.{fault_of_copy, insertion, insertion_into, with_data, is_copy, IsThere, tagged, IsTagged}
use Rattle.cq_session.proofs.ReadingLaws.{computable_read}

-- ---- data

reads_same : {A : Type 0} (read : Result A Fault) (f : Fault) → read ≡ Err f → Reads read (Err f)
reads_same read fault.Memory e = tt
reads_same read f e = e

-- the rows that data make, or their fault
pub insertion_read : (table : ℕ) (rows : List Row) (defined : Result (List Row) CopyError) → Gives (Ok rows) defined → Reads (insertion table defined) (Ok (statement.Write (Insert table rows)))
insertion_read table rows defined h = ap (insertion table) h

pub insertion_refused : (table : ℕ) (e : CopyError) (defined : Result (List Row) CopyError) → Gives (Err e) defined → Reads (insertion table defined) (Err (fault_of_copy e))
insertion_refused table (copying.Columns row found) defined h = ap (insertion table) (h (λ e. cc))
insertion_refused table (copying.BadValue row column) defined h = ap (insertion table) (h (λ e. cc))
insertion_refused table (copying.Encoding row) defined h = ap (insertion table) (h (λ e. cc))
insertion_refused table copying.Memory defined h = tt

-- a text's fault is that of the text with its data
pub refused_with : (bytes : List ℕ) (tables : List TableInfo) (read : Result Statement Fault) (f : Fault) → Reads read (Err f) → Reads (with_data bytes tables read) (Err f)
refused_with bytes tables read fault.Memory h = tt
refused_with bytes tables read f h = subst (λ (r : Result Statement Fault). Reads (with_data bytes tables r) (Err f)) (sym h) refl

-- a text with its data, by whether it is a COPY
pub by_cases : (bytes : List ℕ) (tables : List TableInfo) (P : Result Statement Fault → Result Statement Fault → Type 0) →
    ((table : ℕ) (columns : List ℕ) (csv header : Bool) → P (Ok (statement.Copy table columns csv header)) (insertion_into (slice_get tables table) table columns csv header bytes)) →
    ((read : Result Statement Fault) → is_copy read ≡ false → P read read) → (read : Result Statement Fault) → P read (with_data bytes tables read)
by_cases bytes tables P h k (Ok (statement.Copy table columns csv header)) = h table columns csv header
by_cases bytes tables P h k (Ok (statement.CreateTable name columns key)) = k (Ok (statement.CreateTable name columns key)) refl
by_cases bytes tables P h k (Ok (statement.Distribute table column count beside)) = k (Ok (statement.Distribute table column count beside)) refl
by_cases bytes tables P h k (Ok (statement.Reference table)) = k (Ok (statement.Reference table)) refl
by_cases bytes tables P h k (Ok (statement.Setting which value)) = k (Ok (statement.Setting which value)) refl
by_cases bytes tables P h k (Ok (statement.Select q)) = k (Ok (statement.Select q)) refl
by_cases bytes tables P h k (Ok (statement.Write op)) = k (Ok (statement.Write op)) refl
by_cases bytes tables P h k (Ok (statement.Explain q)) = k (Ok (statement.Explain q)) refl
by_cases bytes tables P h k (Ok (statement.Move shard from to)) = k (Ok (statement.Move shard from to)) refl
by_cases bytes tables P h k (Ok (statement.Rebalance by_size)) = k (Ok (statement.Rebalance by_size)) refl
by_cases bytes tables P h k (Ok (statement.RebalancePlan by_size)) = k (Ok (statement.RebalancePlan by_size)) refl
by_cases bytes tables P h k (Err f) = k (Err f) refl

-- ---- what a text with its data stands for

-- it is the INSERT of the rows of a COPY's data
pub record IsInsertion (bytes : List ℕ) (tables : List TableInfo) (read : Result Statement Fault) (s : Statement) : Type 0 where
  pub table : ℕ
  pub columns : List ℕ
  pub csv : Bool
  pub header : Bool
  pub copy : read ≡ Ok (statement.Copy table columns csv header)
  pub info : TableInfo
  pub there : slice_get tables table ≡ Some info
  pub rows : List Row
  pub given : rows_of bytes info columns csv header ≡ Ok rows
  pub is : s ≡ statement.Write (Insert table rows)

same_ok : {A : Type 0} (a b : A) → Path (Result A Fault) (Ok a) (Ok b) → a ≡ b
same_ok a b e = cc

module _ (bytes : List ℕ) (tables : List TableInfo) where
  -- or what the text alone stands for, which is no COPY
  abbrev StandsFor : Result Statement Fault → Statement → Type 0
  StandsFor read s = IsInsertion bytes tables read s ⊎ ((read ≡ Ok s) × (is_copy read ≡ false))

  of_copy : (table : ℕ) (columns : List ℕ) (csv header : Bool) (s : Statement) → insertion_into (slice_get tables table) table columns csv header bytes ≡ Ok s → IsInsertion bytes tables (Ok (statement.Copy table columns csv header)) s
  of_copy table columns csv header s is = by_table (slice_get tables table) refl is
    where
      by_rows : (t : TableInfo) (r : Result (List Row) CopyError) → slice_get tables table ≡ Some t → rows_of bytes t columns csv header ≡ r → insertion table r ≡ Ok s → IsInsertion bytes tables (Ok (statement.Copy table columns csv header)) s
      by_rows t (Ok rows) at given is = record {
        table = table;
        columns = columns;
        csv = csv;
        header = header;
        copy = refl;
        info = t;
        there = at;
        rows = rows;
        given = given;
        is = sym (same_ok (statement.Write (Insert table rows)) s is);
      }
      by_rows t (Err e) at given is = absurd (cc is)

      by_table : (o : Option TableInfo) → slice_get tables table ≡ o → insertion_into o table columns csv header bytes ≡ Ok s → IsInsertion bytes tables (Ok (statement.Copy table columns csv header)) s
      by_table None at is = absurd (cc is)
      by_table (Some t) at is = by_rows t (rows_of bytes t columns csv header) at refl is

  pub stands_for : (read : Result Statement Fault) (s : Statement) → with_data bytes tables read ≡ Ok s → StandsFor read s
  stands_for read s = by_cases bytes tables (λ (r w : Result Statement Fault). w ≡ Ok s → StandsFor r s) (λ table columns csv header is. inl (of_copy table columns csv header s is)) (λ r none is. inr (is, none)) read

-- a COPY that is read names a table that there is
there_read : (tables : List TableInfo) (a : Ast) (s : Statement) → reading tables a ≡ Ok s → IsThere tables s
there_read tables a (statement.Copy table columns csv header) is = (copies_are_there tables a table columns csv header is).0
there_read tables a (statement.CreateTable name columns key) is = tt
there_read tables a (statement.Distribute table column count beside) is = tt
there_read tables a (statement.Reference table) is = tt
there_read tables a (statement.Setting which value) is = tt
there_read tables a (statement.Select q) is = tt
there_read tables a (statement.Write op) is = tt
there_read tables a (statement.Explain q) is = tt
there_read tables a (statement.Move shard from to) is = tt
there_read tables a (statement.Rebalance by_size) is = tt
there_read tables a (statement.RebalancePlan by_size) is = tt

pub there_in : (text : List ℕ) (tables : List TableInfo) (s : Statement) (read : Result Statement Fault) → Means text tables read → Reads read (Ok s) → IsThere tables s
there_in text tables s read means is = let m = subst (Means text tables) is means in there_read tables m.tree s m.reads

-- it can be computed and planned
pub computable_with : (c : Contents) (text bytes : List ℕ) (s : Statement) (read : Result Statement Fault) → IsWhole c → HasColumns c → Means text c.tables read → with_data bytes c.tables read ≡ Ok s → IsComputable c s
computable_with c text bytes s read whole columns means is = elim (stands_for bytes c.tables read s is) [
  | inl x ↦
      let m = subst (Means text c.tables) x.copy means in
      let shared = (copies_are_there c.tables m.tree x.table x.columns x.csv x.header m.reads).1 in
      subst (IsComputable c) (sym x.is) (inserts_compute c x.table x.rows whole shared (copies_fit c.tables x.table x.info bytes x.columns x.csv x.header x.rows x.there x.given))
  | inr x ↦ computable_read c text s read whole columns means x.0
]

-- it has no data behind it
no_copy : (s : Statement) → is_copy (Ok s) ≡ false → NeedsNoData s
no_copy (statement.Copy table columns csv header) h = absurd (cc h)
no_copy (statement.CreateTable name columns key) h = tt
no_copy (statement.Distribute table column count beside) h = tt
no_copy (statement.Reference table) h = tt
no_copy (statement.Setting which value) h = tt
no_copy (statement.Select q) h = tt
no_copy (statement.Write op) h = tt
no_copy (statement.Explain q) h = tt
no_copy (statement.Move shard from to) h = tt
no_copy (statement.Rebalance by_size) h = tt
no_copy (statement.RebalancePlan by_size) h = tt

pub no_data_with : (tables : List TableInfo) (bytes : List ℕ) (s : Statement) (read : Result Statement Fault) → with_data bytes tables read ≡ Ok s → NeedsNoData s
no_data_with tables bytes s read is = elim (stands_for bytes tables read s is) [
  | inl x ↦ subst NeedsNoData (sym x.is) tt
  | inr x ↦ no_copy s (ap is_copy (sym x.0) ∙ x.1)
]

-- ---- its answer

-- a write answered as a COPY
answered_copy : (rules : Rules) (run : Run) (e next : Environment) (who : Who) (old new : List Journal) (table : ℕ) (rows : List Row) (s : Statement) (b : Bool) (a : Answer) → s ≡ statement.Write (Insert table rows) →
    IsAnswered rules run e next who old new (Some s) a → IsAnswered rules run e next who old new (Some s) (tagged b a)
answered_copy rules run e next who old new table rows s true a is h =
    subst (λ (t : Statement). IsAnswered rules run e next who old new (Some t) (tagged true a)) (sym is)
    (copy_is_answered rules run e next who old new (Insert table rows) a (subst (λ (t : Statement). IsAnswered rules run e next who old new (Some t) a) is h))
answered_copy rules run e next who old new table rows s false a is h = h

pub answered_with : (rules : Rules) (run : Run) (e next : Environment) (who : Who) (old new : List Journal) (bytes : List ℕ) (tables : List TableInfo) (read : Result Statement Fault) (s : Statement) (copied : Bool) (a : Answer) →
    with_data bytes tables read ≡ Ok s → copied ≡ is_copy read → IsAnswered rules run e next who old new (Some s) a → IsAnswered rules run e next who old new (Some s) (tagged copied a)
answered_with rules run e next who old new bytes tables read s copied a is flag h = elim (stands_for bytes tables read s is) [
  | inl x ↦ answered_copy rules run e next who old new x.table x.rows s copied a x.is h
  | inr x ↦ subst (λ b. IsAnswered rules run e next who old new (Some s) (tagged b a)) (sym (flag ∙ x.1)) h
]

pub tagged_is : (copied : Bool) (a : Answer) → IsNoCopy a → IsTagged copied (tagged copied a)
tagged_is false a h = h
tagged_is true (answer.Table names rows) h = tt
tagged_is true (answer.Failed f) h = tt
tagged_is true (answer.Tag tag.CreateTable) h = tt
tagged_is true (answer.Tag (tag.Insert n)) h = tt
tagged_is true (answer.Tag (tag.Update n)) h = tt
tagged_is true (answer.Tag (tag.Delete n)) h = tt
tagged_is true (answer.Tag (tag.Copy n)) h = tt
tagged_is true (answer.Tag tag.Setting) h = tt

pub failed_is_tagged : (copied : Bool) (f : Fault) → IsTagged copied (answer.Failed f)
failed_is_tagged true f = tt
failed_is_tagged false f = tt

-- ---- the stores that it names, which are those that the answer as it was names

range_tagged : (node shard : ℕ) (copied : Bool) (a : Answer) → range_in node shard (tagged copied a) ≡ range_in node shard a
range_tagged node shard false a = refl
range_tagged node shard true (answer.Tag t) = refl
range_tagged node shard true (answer.Table names rows) = refl
range_tagged node shard true (answer.Failed f) = refl

below_tagged : (next : ℕ) (copied : Bool) (a : Answer) → NamesBelow next a → NamesBelow next (tagged copied a)
below_tagged next false a h = h
below_tagged next true (answer.Tag t) h = tt
below_tagged next true (answer.Table names rows) h = h
below_tagged next true (answer.Failed f) h = h

-- so the counts of faults account for it
module _ (answers : List Answered) (a : Answered) (copied : Bool) (given : Answer) (is : a.answer ≡ tagged copied given) where
  abbrev as_given : Answered
  as_given = record a { answer = given }

  phase_with : (n : ℕ) (before : List Answered) → phase_in (before ++ as_given ∷ []) n ≡ phase_in (before ++ a ∷ []) n
  phase_with n [] = refl
  phase_with n (c ∷ before) = elim (two_ways (nat_eq c.statement n)) [ inl y ↦ rw y refl | inr z ↦ rw z (phase_with n before) ]

  later_with : (n : ℕ) (s : StoreState) → AccountsByPhases (later_phases n (answers ++ as_given ∷ [])) s → AccountsByPhases (later_phases n (answers ++ a ∷ [])) s
  later_with n s h = subst (λ k. AccountsByPhases (filter (λ (c : Answered). nat_lt k c.phase) (answers ++ a ∷ [])) s) (phase_with n answers) (behind (phase_in (answers ++ as_given ∷ []) n) h)
    where
      one : (rest : List Answered) (later : Bool) → AccountsByPhases (rest ++ cond later (as_given ∷ []) []) s → AccountsByPhases (rest ++ cond later (a ∷ []) []) s
      one rest true k = alike_by_phases as_given a (refl, λ node shard. ap (range_in node shard) is ∙ range_tagged node shard copied given) rest s k
      one rest false k = k

      behind : (k : ℕ) → AccountsByPhases (filter (λ (c : Answered). nat_lt k c.phase) (answers ++ as_given ∷ [])) s → AccountsByPhases (filter (λ (c : Answered). nat_lt k c.phase) (answers ++ a ∷ [])) s
      behind k accounts =
          let later : Answered → Bool = λ c. nat_lt k c.phase in
          subst (λ v. AccountsByPhases v s) (sym (filter-append later answers (a ∷ []))) (one (filter later answers) (nat_lt k a.phase) (subst (λ v. AccountsByPhases v s) (filter-append later answers (as_given ∷ [])) accounts))

  below_with : (next : ℕ) (before : List Answered) → AllByRecursion (λ (c : Answered). NamesBelow next c.answer) (before ++ as_given ∷ []) → AllByRecursion (λ (c : Answered). NamesBelow next c.answer) (before ++ a ∷ [])
  below_with next [] h = (subst (NamesBelow next) (sym is) (below_tagged next copied given h.0), tt)
  below_with next (c ∷ before) h = (h.0, below_with next before h.1)

pub accounted_with : {X : Type 0} (state : X → StoreState) (c : Contents) (answers : List Answered) (a : Answered) (copied : Bool) (given : Answer) (groups : List (GroupState X)) → a.answer ≡ tagged copied given →
    AreAccounted state c (answers ++ record a { answer = given } ∷ []) groups → AreAccounted state c (answers ++ a ∷ []) groups
accounted_with {X = X} state c answers a copied given groups is h = record {
  stores = λ i g at.
      let n = moved_by (entries_of g) in
      all_weaker (λ (x : X). AccountsByPhases (later_phases n (answers ++ record a { answer = given } ∷ [])) (state x)) (λ (x : X). AccountsByPhases (later_phases n (answers ++ a ∷ [])) (state x))
      (λ x accounts. later_with answers a copied given is n (state x) accounts) (stores_of g) (h.stores i g at);
  below = below_with answers a copied given is c.next_shard answers h.below;
}

-- and so do the retired stores
pub retires_with : {X : Type 0} (who : Who) (copied : Bool) (given : Answer) (old new : List (Retired X)) → Retires who given old new → Retires who (tagged copied given) old new
retires_with who false given old new h = h
retires_with who true (answer.Tag t) old new h = h
retires_with who true (answer.Table names rows) old new h = h
retires_with who true (answer.Failed f) old new h = h

-- and so are the nodes
node_tagged : (copied : Bool) (a : Answer) (node : ℕ) → NamesNode (tagged copied a) node → NamesNode a node
node_tagged false a node h = h
node_tagged true (answer.Tag t) node h = absurd h
node_tagged true (answer.Table names rows) node h = h
node_tagged true (answer.Failed f) node h = h

pub spares_with : {X : Type 0} (state : X → StoreState) (copied : Bool) (given : Answer) (old new : Cluster X) → SparesSteady state given old new → SparesSteady state (tagged copied given) old new
spares_with state copied given old new h = record { keeps = h.keeps; names = λ node was is. h.names node was (node_tagged copied given node is) }
