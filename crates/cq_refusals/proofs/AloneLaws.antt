-- A query that reads one table alone has no flaws.
use Rattle.std.proofs.Common.{◌≡◌, ℕ, Bool, true, false, not, ◌&&◌, ◌||◌, List, [], ◌∷◌, ◌++◌, Option, Some, None, if◌then◌else◌, refl, sym, ap, ◌∙◌}
use Rattle.std.specs.List.{list_any}
use Rattle.cq_tree.specs.declared.query.FromTree.{Table, Sub', Result, Cross', Inner', Left'}
use Rattle.cq_tree.specs.declared.query.Query.{Query, Query', Row_of-Query, end_of-Query, more_of-Query}
use Rattle.cq_tree.specs.declared.unsupported.Unsupported.{Unsupported}
use Rattle.cq_tree.specs.declared.unsupported.Unsupported.TheVariants.{NeedsRepartition, NoEquality, OuterJoin, LimitWithoutOrder}
use Rattle.cq_catalog.specs.Contents.{Contents}
use Rattle.cq_catalog.specs.Placement.{place_at}
use Rattle.cq_planning.specs.Relations.{Distribution, Relation, distribution_at, distributions, is_plain}
use Rattle.cq_planning.specs.Classes.{first_of_class}
use Rattle.cq_planning.specs.Components.{is_loose}
use Rattle.cq_planning.specs.Refusals.{refusal_of_query, is_cut_loosely}
use Rattle.cq_planning.specs.Blocks.{is_taken_whole, blocks_in_all, each_with_subqueries}
use Rattle.cq_planning.specs.Joins.{are_one_component, needs_repartition, lacks_equality, has_loose_join, has_several_components, are_connected, equalities_of}
use Rattle.cq_planning.specs.Routing.{is_none_of_them}
use Rattle.cq_plan.specs.Alone.{table_alone}
use Rattle.cq_plan.proofs.AloneLaws.{parts}

-- the relation of a table that is a FROM
abbrev relation_alone : Option Distribution → Relation
relation_alone d = record { start = 0; distribution = d; outer = None }

one_component : (first : ℕ → ℕ) (d : Option Distribution) → not (are_one_component first (distributions is_plain (relation_alone d ∷ []))) ≡ false
one_component first None = refl
one_component first (Some d) = refl

none_loose : (first : ℕ → ℕ) (d : Option Distribution) → list_any (is_loose first (relation_alone d ∷ [])) (relation_alone d ∷ []) ≡ false
none_loose first None = refl
none_loose first (Some d) = refl

and_false : (b : Bool) → (b && false) ≡ false
and_false true = refl
and_false false = refl

-- by the flaws of one block
abbrev by_flaws : Bool → Bool → Bool → Option Unsupported
by_flaws a b d = if a || false then Some NeedsRepartition else (if b || false then Some NoEquality else (if d || false then Some OuterJoin else None))

needs_none : (repartition : Bool) (c : Contents) (q : Query) → has_several_components c q ≡ false → needs_repartition repartition c q ≡ false
needs_none repartition c q e = ap (λ b. not (is_taken_whole c q) && (b && (are_connected c q && not repartition))) e ∙ and_false (not (is_taken_whole c q))

lacks_none : (c : Contents) (q : Query) → has_several_components c q ≡ false → lacks_equality c q ≡ false
lacks_none c q e = ap (λ b. not (is_taken_whole c q) && (b && not (are_connected c q))) e ∙ and_false (not (is_taken_whole c q))

no_more : (c : Contents) {n : _} (qs : Row_of-Query n) → is_none_of_them qs ≡ true → blocks_in_all c qs ≡ []
no_more c end_of-Query e = refl
no_more c (more_of-Query q more) e = cc

no_queries : {n : _} (qs : Row_of-Query n) → is_none_of_them qs ≡ true → each_with_subqueries qs ≡ []
no_queries end_of-Query e = refl
no_queries (more_of-Query q more) e = cc

-- the refusal of a query with these blocks and these subqueries
abbrev refusal_over : Bool → Contents → List Query → List Query → Option Unsupported
refusal_over repartition c blocks queries =
    if list_any (needs_repartition repartition c) blocks then Some NeedsRepartition else
    (if list_any (lacks_equality c) blocks then Some NoEquality else
    (if list_any (has_loose_join c) blocks then Some OuterJoin else
    (if list_any is_cut_loosely queries then Some LimitWithoutOrder else None)))

pub alone_has_none : (repartition : Bool) (c : Contents) (q : Query) (t : ℕ) → table_alone q ≡ Some t → None ≡ refusal_of_query repartition c q
alone_has_none repartition c (Query' cs ctes ss subs (Table u n) filter_ grouped keys aggs having items shown distinct order limit offset names) t e =
    let q : Query = Query' cs ctes ss subs (Table u n) filter_ grouped keys aggs having items shown distinct order limit offset names in
    let p = parts (is_none_of_them ctes) (is_none_of_them subs) (Some u) t e in
    let several : has_several_components c q ≡ false = one_component (first_of_class (equalities_of q)) (distribution_at 0 (place_at c u)) in
    let loose : has_loose_join c q ≡ false = ap (λ b. not (is_taken_whole c q) && b) (none_loose (first_of_class (equalities_of q)) (distribution_at 0 (place_at c u))) ∙ and_false (not (is_taken_whole c q)) in
    sym ((λ i. refusal_over repartition c (q ∷ (no_more c ctes p.0 i ++ no_more c subs p.1 i)) (no_queries ctes p.0 i ++ no_queries subs p.1 i))
    ∙ (λ i. by_flaws (needs_none repartition c q several i) (lacks_none c q several i) (loose i)))
alone_has_none repartition c (Query' cs ctes ss subs (Sub' p a) filter_ grouped keys aggs having items shown distinct order limit offset names) t e = let none : None ≡ Some t = (parts (is_none_of_them ctes) (is_none_of_them subs) None t e).2 in cc
alone_has_none repartition c (Query' cs ctes ss subs (Result i n) filter_ grouped keys aggs having items shown distinct order limit offset names) t e = let none : None ≡ Some t = (parts (is_none_of_them ctes) (is_none_of_them subs) None t e).2 in cc
alone_has_none repartition c (Query' cs ctes ss subs (Cross' p a r b) filter_ grouped keys aggs having items shown distinct order limit offset names) t e = let none : None ≡ Some t = (parts (is_none_of_them ctes) (is_none_of_them subs) None t e).2 in cc
alone_has_none repartition c (Query' cs ctes ss subs (Inner' p a r b on) filter_ grouped keys aggs having items shown distinct order limit offset names) t e = let none : None ≡ Some t = (parts (is_none_of_them ctes) (is_none_of_them subs) None t e).2 in cc
alone_has_none repartition c (Query' cs ctes ss subs (Left' p a r b on) filter_ grouped keys aggs having items shown distinct order limit offset names) t e = let none : None ≡ Some t = (parts (is_none_of_them ctes) (is_none_of_them subs) None t e).2 in cc
