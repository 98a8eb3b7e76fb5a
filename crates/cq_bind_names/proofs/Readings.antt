-- Readings that begin with a check, and those of a name by what it stands for.
use Rattle.std.proofs.Common.{◌≡◌, ◌<◌, refl, length, get_or, bytes_eq, ℕ, Bool, true, false, List, Option, Some, None, Result, Ok, Err, IfOk, sym, subst}
use Rattle.std.specs.List.{slice_get, position}
use Rattle.cq_bind_names.specs.Worlds.{world_of}
use Rattle.cq_catalog.specs.Contents.{number_of}
use Rattle.cq_catalog.specs.declared.info.TableInfo.{TableInfo}
use Rattle.cq_grammar.specs.declared.name.Name.{Name}
use Rattle.cq_reading.specs.declared.error.BindError.{BindError}
use Rattle.cq_reading.specs.declared.bound.Source.{Source}
use Rattle.cq_reading.specs.declared.bound.Block.{Block}
use Rattle.cq_reading.specs.declared.bound.Relations.{Relations}
use Rattle.cq_reading.specs.declared.bound.Common.{Common}
use Rattle.cq_reading.specs.declared.bound.Bound.{Bound}
use Rattle.cq_reading.specs.declared.bound.Ordered.{Ordered}
use Rattle.cq_value.specs.declared.text.NoMemory.{NoMemory}
use Rattle.cq_tree.specs.declared.query.FromTree.{FromTree, Sub}
use Rattle.cq_reading.specs.Steps.{Reading, provided}
use Rattle.cq_reading.specs.Outcomes.{Binds, Judges}
use Rattle.cq_reading.specs.Scopes.{World, output_sources}
use Rattle.cq_tree.specs.declared.expression.Expr.{Expr}
use Rattle.cq_tree.specs.Equal.{equal_exprs}
use Rattle.cq_reading.specs.Widths.{expr_of}
use Rattle.cq_reading.specs.Selects.{key_at, key_by_value}
use Rattle.cq_reading.specs.Relations.{table_under, table_by, common_under, common_by, relation_by, under, subquery_relation}

pub passed : {A : Type 0} (b : Bool) (e : BindError) (r : Reading A) (o : Result A BindError) → b ≡ true → Judges r o → Judges (provided b e r) o
passed true e r o p h = h
passed false e r o p h = cc

pub refused : {A : Type 0} (b : Bool) (e f : BindError) (r : Reading A) → b ≡ false → f ≡ e → Judges (provided b e r) (Err f)
refused true e f r p q = cc
refused false e f r p q = λ found n. cc

pub by_number : (w : World) (name alias : Name) (names : List (List ℕ)) (ts : List TableInfo) (i : ℕ) (t : TableInfo) (o : Result Relations BindError)
    → ts ≡ w.tables → number_of ts name.text ≡ Some i → slice_get ts i ≡ Some t → Judges (table_under name alias names i (Some t)) o
    → Judges (table_by w name alias names (number_of w.tables name.text)) o
by_number w name alias names ts i t o e p q h = rw (← e, p, q) h

pub by_common : (w : World) (name alias : Name) (names : List (List ℕ)) (cs : List Common) (i : ℕ) (o : Result Relations BindError)
    → cs ≡ w.commons → position (λ d. bytes_eq d.name name.text) cs ≡ Some i → Judges (common_by (world_of cs) alias names i (slice_get cs i)) o
    → Judges (relation_by w name alias names (position (λ d. bytes_eq d.name name.text) w.commons)) o
by_common w name alias names cs i o e p h = rw (← e, p) h

pub by_table : (w : World) (name alias : Name) (names : List (List ℕ)) (cs : List Common) (o : Result Relations BindError)
    → cs ≡ w.commons → position (λ d. bytes_eq d.name name.text) cs ≡ None → Judges (table_by w name alias names (number_of w.tables name.text)) o
    → Judges (relation_by w name alias names (position (λ d. bytes_eq d.name name.text) w.commons)) o
by_table w name alias names cs o e p h = rw (← e, p) h

pub by_parts : (alias : Name) (names : List (List ℕ)) (b : Block) (tree : FromTree) (columns : List Source) (t : Result FromTree NoMemory) (s : Result (List Source) NoMemory) (o : Result Relations BindError)
    → t ≡ Ok tree → s ≡ Ok columns → IfOk t (λ x. x ≡ Sub b.query) → IfOk s (λ x. x ≡ output_sources alias.text b.outputs)
    → Judges (under alias names tree columns b.joined) o → Judges (subquery_relation alias names b) o
by_parts alias names b tree columns t s o p q f g h =
    let e : tree ≡ Sub b.query = subst (λ x. IfOk x (λ y. y ≡ Sub b.query)) p f in
    let d : columns ≡ output_sources alias.text b.outputs = subst (λ x. IfOk x (λ y. y ≡ output_sources alias.text b.outputs)) q g in
    rw (← e, ← d) h

pub by_expression : (shown at : ℕ) (distinct descending : Bool) (o : Ordered) (b : Bound) (e : Expr) (place : Option ℕ) (r : Result Ordered BindError)
    → e ≡ expr_of b → place ≡ position (equal_exprs e) o.items → Judges (key_at 0 distinct descending at o e place) r
    → Judges (key_by_value shown distinct descending at o b) r
by_expression shown at distinct descending o b e place r p q h = rw (← p, ← q) h
