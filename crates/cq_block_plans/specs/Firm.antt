-- Queries in which what leaves a FROM matters to no relation that stays: it is neither the only distributed relation on the left side of one, nor
-- does one's ON name its distribution column, so that it neither makes a LEFT JOIN co-located nor narrows a right side.
use Rattle.std.specs.Prelude.{◌≡◌, ⊤, ℕ, List, map, nat_eq, Bool, true, false, ◌&&◌, if◌then◌else◌, None}
use Rattle.std.specs.List.{list_any, AllByRecursion}
use Rattle.cq_tree.specs.declared.query.FromTree.{FromTree, Table, Sub', Result, Cross', Inner', Left', end_of-FromTree, more_of-FromTree, end_of-Query, more_of-Query}
use Rattle.cq_tree.specs.declared.query.Query.{Query, Query', Row_of-Query}
use Rattle.cq_tree.specs.declared.query.Query as query
use Rattle.cq_catalog.specs.Contents.{Contents}
use Rattle.cq_planning.specs.Classes.{first_of_class}
use Rattle.cq_planning.specs.Components.{is_loose}
use Rattle.cq_planning.specs.Conjuncts.{conjuncts_of, equalities}
use Rattle.cq_planning.specs.Pushable.{relations}
use Rattle.cq_planning.specs.Relations.{Relation, distribution_of, is_distributed, is_left_in_block, partners}
use Rattle.cq_outline.specs.declared.outline.Leaving.{Leaving}
use Rattle.cq_outline.specs.declared.outline.Leaving.TheVariants.{Alone}
use Rattle.cq_outline.specs.Leaving.{leaves}
use Rattle.cq_pushdown_laws.specs.Pushed.{is_single}

-- a result, which has no distribution column, in the place of a relation
abbrev pub result_for : Relation → Relation
result_for r = record { start = r.start; distribution = None; outer = r.outer }

-- a relation as it stands in the FROM of the block: as a result if it leaves
abbrev pub settled : Leaving → List Relation → Relation → Relation
settled leaving rels r = if leaves leaving rels r then result_for r else r

abbrev pub settled_all : Leaving → List Relation → List Relation
settled_all leaving rels = map (settled leaving rels) rels

-- the distribution column of a relation that leaves
abbrev pub is_of_leaver : Leaving → List Relation → ℕ → Bool
is_of_leaver leaving rels x = list_any (λ (r : Relation). leaves leaving rels r && nat_eq (distribution_of r).column x) rels

-- a distributed right side that stays isn't joined by such a column
abbrev pub IsEven : Leaving → List Relation → Relation → Type 0
IsEven leaving rels r = is_distributed r ≡ true → leaves leaving rels r ≡ false → list_any (is_of_leaver leaving rels) (partners r r.outer) ≡ false

-- without what leaves, the same relations stay, as many LEFT JOINs are loose, and no right side is narrowed less
pub record AreFirm (first : ℕ → ℕ) (rels : List Relation) : Type 0 where
  pub left : AllByRecursion (λ r. is_left_in_block (settled_all Alone rels) (settled Alone rels r) ≡ is_left_in_block rels r) rels
  pub loose : AllByRecursion (λ r. is_loose first (settled_all Alone rels) (settled Alone rels r) ≡ is_loose first rels r) rels
  pub even : AllByRecursion (IsEven Alone rels) rels

abbrev mutual
  -- such are the relations of a query and of each query in it; and the right side of each LEFT JOIN is one relation
  pub IsFirm : Contents → Query → Type 0
  IsFirm c (Query' cs ctes ss subs from filter_ grouped keys aggs having items shown distinct order limit offset names) =
      AreFirm (first_of_class (equalities (conjuncts_of filter_ from))) (relations c from 0 None) × IsFirmFrom c from × EachIsFirm c ctes × EachIsFirm c subs

  pub IsFirmFrom : Contents → FromTree → Type 0
  IsFirmFrom c (Table t n) = ⊤
  IsFirmFrom c (Sub' p (more_of-Query q end_of-Query)) = IsFirm c q
  IsFirmFrom c (Result i n) = ⊤
  IsFirmFrom c (Cross' p (more_of-FromTree a end_of-FromTree) q (more_of-FromTree b end_of-FromTree)) = IsFirmFrom c a × IsFirmFrom c b
  IsFirmFrom c (Inner' p (more_of-FromTree a end_of-FromTree) q (more_of-FromTree b end_of-FromTree) on) = IsFirmFrom c a × IsFirmFrom c b
  IsFirmFrom c (Left' p (more_of-FromTree a end_of-FromTree) q (more_of-FromTree b end_of-FromTree) on) = IsFirmFrom c a × IsFirmFrom c b × (is_single b ≡ true)

  pub EachIsFirm : {n : _} → Contents → Row_of-Query n → Type 0
  EachIsFirm c query.end_of-Query = ⊤
  EachIsFirm c (query.more_of-Query q more) = IsFirm c q × EachIsFirm c more
