-- Results are only added by the walk over relations and SELECTs.
use Rattle.std.proofs.Common.{◌≡◌, ℕ, ◌+◌, if◌then◌else◌, Bool, true, false, List, [], ◌∷◌, ◌++◌, map, Result, Ok, Err, Option, None, Some, refl, arith, length}
use Rattle.std.specs.Prelude.{⊤, slice_get, nat_lt}
use Rattle.std.specs.List.{AllByRecursion}
use Rattle.cq_grammar.specs.declared.name.Name.{Name}
use Rattle.cq_catalog.specs.declared.info.TableInfo.{TableInfo}
use Rattle.cq_catalog.specs.Contents.{number_of}
use Rattle.cq_tree.specs.declared.expression.Cond.{Cond}
use Rattle.cq_tree.specs.declared.query.FromTree.{FromTree, Cross}
use Rattle.cq_grammar.specs.declared.expr.Expr.TheOpen.{Select-F}
use Rattle.cq_reading.specs.Walk as walk
use Rattle.cq_reading.specs.declared.bound.Found.{Found}
use Rattle.cq_reading.specs.declared.bound.Block.{Block}
use Rattle.cq_reading.specs.declared.bound.Source.{Source}
use Rattle.cq_reading.specs.declared.bound.Common.{Common}
use Rattle.cq_reading.specs.declared.bound.Relations.{Relations}
use Rattle.cq_reading.specs.declared.error.BindError.{BindError}
use Rattle.cq_reading.specs.declared.error.Limited.TheVariants as limited
use Rattle.cq_reading_laws.proofs.Keeping as keep
use Rattle.cq_reading.specs.declared.error.BindError.TheVariants as error
use Rattle.cq_reading.specs.Steps.{Reading, give, ◌then◌, provided}
use Rattle.cq_reading.specs.Scopes.{World}
use Rattle.cq_reading.specs.Parts.{Part, SelectPart, RelationPart, JoinPart, FromPart}
use Rattle.cq_reading.specs.Expressions.{Layer}
use Rattle.cq_reading.specs.Relations as r
use Rattle.cq_reading.specs.Selects as s
use Rattle.cq_reading_laws.proofs.Carrying.{Carries, carrying, carries_give, carries_then, carries_provided, carries_through}
use Rattle.cq_reading_laws.proofs.CarryingParts.{PartCarries}
use Rattle.cq_reading_laws.proofs.CarryingSelects as list
use Rattle.cq_reading_laws.proofs.CarryingSelects.{condition_of_carries}
use Rattle.cq_reading_laws.proofs.CarryingWalk.{PartsCarry}
use Rattle.cq_reading_laws.proofs.Growth.{MoreResults, Grew, Grows, grows_anyway, now, on, growing, growing_in, same_growing}
use Rattle.cq_reading_laws.proofs.GrowthParts.{SelectGrows, SameAggs}

-- ---- relations

under_grows : (name : Name) (names : List (List ℕ)) (tree : FromTree) (columns : List Source) (joined : Bool) → Grows true (r.under name names tree columns joined)
under_grows name names tree columns joined = search carrying

table_under_grows : (name alias : Name) (names : List (List ℕ)) (i : ℕ) (t : Option TableInfo) → Grows true (r.table_under name alias names i t)
table_under_grows name alias names i None = search carrying
table_under_grows name alias names i (Some t) = search (carrying, under_grows)

table_by_grows : (w : World) (name alias : Name) (names : List (List ℕ)) (i : Option ℕ) → Grows true (r.table_by w name alias names i)
table_by_grows w name alias names None = search carrying
table_by_grows w name alias names (Some i) = table_under_grows name alias names i (slice_get w.tables i)

common_by_grows : (w : World) (alias : Name) (names : List (List ℕ)) (i : ℕ) (c : Option Common) → Grows true (r.common_by w alias names i c)
common_by_grows w alias names i None = search carrying
common_by_grows w alias names i (Some c) = search under_grows

relation_by_grows : (w : World) (name alias : Name) (names : List (List ℕ)) (i : Option ℕ) → Grows true (r.relation_by w name alias names i)
relation_by_grows w name alias names None = table_by_grows w name alias names (number_of w.tables name.text)
relation_by_grows w name alias names (Some i) = common_by_grows w alias names i (slice_get w.commons i)

pub table_relation_grows : (w : World) (name alias : Name) (names : List (List ℕ)) → Grows true (r.table_relation w name alias names)
table_relation_grows w name alias names = search (carrying, relation_by_grows)

abbrev pub RelationGrows : RelationPart → Type 0
RelationGrows p = (w : World) (names : List (List ℕ)) → Grows true (p w names)

abbrev pub JoinGrows : JoinPart → Type 0
JoinGrows j = (w : World) (names : List (List ℕ)) (first : ℕ) (a : Relations) → Grows true (j w names first a)

abbrev pub FromGrows : FromPart → Type 0
FromGrows f = (w : World) (names : List (List ℕ)) (first : ℕ) → Grows true (f w names first)

pub subquery_grows : (select : SelectPart) (alias : Name) (w : World) (names : List (List ℕ)) → SelectGrows select → Grows true (r.one_more names (select w then r.subquery_relation alias names))
subquery_grows select alias w names h = carries_provided _ _ _ _ (carries_then _ _ _ (h w).0 (λ block. search under_grows))

pub joined_on_grows : (w : World) (first : ℕ) (make : FromTree → FromTree → Cond → FromTree) (on : Part) (a b : Relations) → PartCarries growing_in on → Grows true (r.joined_on w first make on a b)
joined_on_grows w first make on a b h = carries_then (growing true) (r.condition_of on (r.on_context w first (a.columns ++ b.columns))) (λ c. give (r.both (λ x y. make x y c) a b)) (grows_anyway false (r.condition_of on (r.on_context w first (a.columns ++ b.columns))) (condition_of_carries growing_in same_growing on (r.on_context w first (a.columns ++ b.columns)) h)) (λ c. carries_give (growing true) (r.both (λ x y. make x y c) a b))

pub joins_grow : (w : World) (names : List (List ℕ)) (first : ℕ) (js : List JoinPart) → AllByRecursion JoinGrows js → AllByRecursion (λ j. (a : Relations) → Grows true (r.with_join w names first a j)) js
joins_grow w names first [] h = tt
joins_grow w names first (j ∷ more) h = ((λ a. h.0 w names first a), joins_grow w names first more h.1)

products_grow : (w : World) (fs : List FromPart) → AllByRecursion FromGrows fs → AllByRecursion (λ f. (a : Relations) → Grows true (r.with_product w a f)) fs
products_grow w [] h = tt
products_grow w (f ∷ more) h = ((λ a. carries_then _ _ _ (h.0 w a.names (length a.columns)) (λ b. carries_give _ _)), products_grow w more h.1)

pub from_of_grows : (w : World) (fs : List FromPart) → AllByRecursion FromGrows fs → Grows true (r.from_of w fs)
from_of_grows w [] h = carries_give _ _
from_of_grows w (f ∷ more) h = carries_then _ _ _ (h.0 w [] 0) (λ a. carries_through _ (r.with_product w) more a (products_grow w more h.1))

-- ---- the whole

pub look_grows : Grows true s.look
unfolding Carries
look_grows found = (now true found, λ later l. tt)

in_block_grows : {A : Type 0} (o : Result (A × Found) BindError) (f g : Found) → f.results ≡ g.results → Grew true g o → Grew true f (s.in_block o f)
in_block_grows (Ok p) f g e h = (record { more = omega (arith, e, h.0.more); same = λ e. absurd (grind (arith, e)) }, λ later l. tt)
in_block_grows (Err x) f g e h = tt

pub block_grows : {A : Type 0} (r : Reading A) → Grows true r → Grows true (s.a_block r)
unfolding Carries
block_grows r h found = keep.kept_provided (MoreResults true) (now true) (on true) (λ later a. ⊤) found (nat_lt found.blocks 64) _ (λ f. s.in_block (r (record f { blocks = f.blocks + 1; subs = []; aggs = [] })) f)
    (λ e. in_block_grows (r (record found { blocks = found.blocks + 1; subs = []; aggs = [] })) found (record found { blocks = found.blocks + 1; subs = []; aggs = [] }) refl (h (record found { blocks = found.blocks + 1; subs = []; aggs = [] })))

in_block_aggs : {A : Type 0} (o : Result (A × Found) BindError) (f : Found) → SameAggs f (s.in_block o f)
in_block_aggs (Ok p) f = refl
in_block_aggs (Err e) f = tt

provided_aggs : {A : Type 0} (t : Bool) (e : BindError) (r : Reading A) (f : Found) → SameAggs f (r f) → SameAggs f (provided t e r f)
provided_aggs true e r f h = h
provided_aggs false e r f h = tt

block_aggs : {A : Type 0} (r : Reading A) (found : Found) → SameAggs found (s.a_block r found)
block_aggs r found = provided_aggs (nat_lt found.blocks 64) (error.Limit limited.Blocks 64) (λ f. s.in_block (r (record f { blocks = f.blocks + 1; subs = []; aggs = [] })) f) found (in_block_aggs (r (record found { blocks = found.blocks + 1; subs = []; aggs = [] })) found)

pub cross_grows : (relation : RelationPart) (w : World) (names : List (List ℕ)) (a : Relations) → RelationGrows relation → Grows true (relation w names then (λ b. give (r.both Cross a b)))
cross_grows relation w names a h = carries_then _ _ _ (h w names) (λ b. carries_give _ _)

-- the walk over a SELECT, but for its limit
abbrev pub select_body : Layer Select-F → World → Reading Block
select_body q w =
    r.from_of w q.from then (λ r.
    s.filter_of (s.before_grouping w r true) q.filter then (λ filter.
    s.group_keys (s.before_grouping w r false) (s.targets r.columns q.items) r.joined q.groups then (λ keys.
    s.having_of (s.after_grouping w r (walk.groups q) keys true) r.joined q.having then (λ having.
    s.at_most 512 limited.Outputs (s.read_target (s.after_grouping w r (walk.groups q) keys false)) (s.targets r.columns q.items) then (λ outputs.
    s.order_keys (s.after_grouping w r (walk.groups q) keys false) outputs q.distinct q.order (record { items = map s.item_of outputs; keys = [] }) then (λ order.
    s.look then (λ found. give (walk.block_of q r filter keys having outputs order found))))))))

pub select_step_grows : (q : Layer Select-F) → PartsCarry growing_in q → AllByRecursion FromGrows q.from → SelectGrows (walk.select_step q)
select_step_grows q parts from w =
    let grouping = λ (r : Relations). s.after_grouping w r (walk.groups q) in
    let targets = λ (r : Relations). list.targets_carry growing_in same_growing r.columns q.items parts.items in (
      block_grows _
          (carries_then _ (r.from_of w q.from) _ (from_of_grows w q.from from) (λ r.
          carries_then _ (s.filter_of (s.before_grouping w r true) q.filter) _ (list.filter_carries growing_in same_growing (s.before_grouping w r true) q.filter parts.filter) (λ f.
          carries_then _ (s.group_keys (s.before_grouping w r false) (s.targets r.columns q.items) r.joined q.groups) _ (grows_anyway false _ (list.group_keys_carry growing_in same_growing (s.before_grouping w r false) (s.targets r.columns q.items) r.joined q.groups (targets r) parts.groups)) (λ keys.
          carries_then _ (s.having_of (grouping r keys true) r.joined q.having) _ (list.having_carries growing_in same_growing (grouping r keys true) r.joined q.having parts.having) (λ h.
          carries_then _ (s.at_most 512 limited.Outputs (s.read_target (grouping r keys false)) (s.targets r.columns q.items)) _ (grows_anyway false _ (list.outputs_carry growing_in same_growing (grouping r keys false) (s.targets r.columns q.items) (targets r))) (λ outputs.
          carries_then _ (s.order_keys (grouping r keys false) outputs q.distinct q.order (record { items = map s.item_of outputs; keys = [] })) _ (grows_anyway false _ (list.order_keys_carry growing_in same_growing (grouping r keys false) outputs q.distinct q.order (record { items = map s.item_of outputs; keys = [] }) parts.order)) (λ o.
          carries_then _ s.look _ look_grows (λ found. carries_give _ (walk.block_of q r f keys h outputs o found))))))))),
      λ found. block_aggs (select_body q w) found,
    )
