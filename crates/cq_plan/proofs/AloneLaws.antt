-- What a query touches that reads one table alone, and what one value of the distribution column touches.
use Rattle.std.proofs.Common.{◌≡◌, ℕ, ◌+◌, ◌<◌, ◌≤◌, ◌&&◌, Bool, true, false, List, [], ◌∷◌, ◌++◌, length, Option, Some, None, nat_eq, refl, sym, ap, ◌∙◌, arith, append-nil, if◌then◌else◌}
use Rattle.std.specs.List.{flat_map}
use Rattle.std.proofs.lemmas.Bool.{le-leb, lt-ltb}
use denote.Hole.Carrier.{hidden}
use Rattle.cq_value.specs.declared.value.Value.{Value}
use Rattle.cq_tree.specs.declared.expression.Cond.{Cond}
use Rattle.cq_tree.specs.declared.query.FromTree.{FromTree, Table, Sub', Result, Cross', Inner', Left'}
use Rattle.cq_tree.specs.declared.query.FromTree.TheBlock.{hidden-the_row-Query-2}
use Rattle.cq_tree.specs.declared.query.FromTree.TheOpen.{Query-F}
use Rattle.cq_tree.specs.declared.query.Query.{Query, Query', out-Query, roll-Query, roll-out-Query, Row_of-Query, end_of-Query, more_of-Query, items-the_row-Query, items_hidden-the_row-Query-2}
use Rattle.cq_tree.specs.declared.statement.Statement.TheVariants as statement
use Rattle.cq_catalog.specs.Contents.{Contents}
use Rattle.cq_catalog.specs.Placement.{place_at, group_of}
use Rattle.cq_catalog.specs.declared.info.Place.{Place}
use Rattle.cq_catalog.specs.declared.info.Place.TheVariants.{Distributed}
use Rattle.cq_planning.specs.Conjuncts.{conjuncts}
use Rattle.cq_planning.specs.ValueSets.{ValueSet, value_set}
use Rattle.cq_planning.specs.Occurrences.{occurrence_of, key_values, occurrences_in, all_with_ins, ins_of_all}
use Rattle.cq_planning.specs.Routing.{is_none_of_them}
use Rattle.cq_planning.specs.Touched.{in_order, groups_of, groups_at, groups_with, touched, touched_by_where}
use Rattle.cq_plan.specs.Alone.{table_of, table_alone}
use Rattle.cq_plan.specs.Touches.{ascends}
use Rattle.cq_plan.proofs.AscendLaws.{in_order_already}

-- ---- what code sees of such a query

none_row : {n : _} (qs : Row_of-Query n) → is_none_of_them qs ≡ nat_eq (length (items-the_row-Query _ qs)) 0
none_row end_of-Query = refl
none_row (more_of-Query q more) = grind arith

none_hidden : (qs : List Query) → is_none_of_them (hidden-the_row-Query-2 qs) ≡ nat_eq (length qs) 0
none_hidden qs = none_row (hidden-the_row-Query-2 qs) ∙ ap (λ (us : List Query). nat_eq (length us) 0) (items_hidden-the_row-Query-2 qs)

alone_rolled : (x : Query-F FromTree Query) → table_alone (roll-Query x) ≡ (if nat_eq (length x.ctes) 0 && nat_eq (length x.subs) 0 then table_of x.from else None)
unfolding roll-Query denote.Hole.Carrier.roll
alone_rolled x = λ i. if none_hidden x.ctes i && none_hidden x.subs i then table_of x.from else None

pub alone_is : (q : Query) → table_alone q ≡ (if nat_eq (length (out-Query q).ctes) 0 && nat_eq (length (out-Query q).subs) 0 then table_of (out-Query q).from else None)
alone_is q = ap table_alone (sym (roll-out-Query q)) ∙ alone_rolled (out-Query q)

-- ---- what it touches

where_whole : (c : Contents) (t : ℕ) (filter_ : Cond) → in_order c (groups_of c (occurrence_of c (value_set [] (conjuncts filter_ ++ [])) 0 t) ++ []) ≡ in_order c (touched_by_where c t filter_)
where_whole c t filter_ = ap (in_order c) (append-nil (groups_of c (occurrence_of c (value_set [] (conjuncts filter_ ++ [])) 0 t)) ∙ ap (λ cs. groups_of c (occurrence_of c (value_set [] cs) 0 t)) (append-nil (conjuncts filter_)))

no_blocks : {n : _} (qs : Row_of-Query n) → is_none_of_them qs ≡ true → all_with_ins qs ≡ []
no_blocks end_of-Query e = refl
no_blocks (more_of-Query q more) e = cc

no_ins : {n : _} (qs : Row_of-Query n) → is_none_of_them qs ≡ true → ins_of_all qs ≡ []
no_ins end_of-Query e = refl
no_ins (more_of-Query q more) e = cc

-- a test of two, and what it gives
pub parts : (a b : Bool) (o : Option ℕ) (t : ℕ) → (if a && b then o else None) ≡ Some t → (a ≡ true) × (b ≡ true) × (o ≡ Some t)
parts true true o t e = (refl, refl, e)
parts true false o t e = cc
parts false b o t e = cc

pub touched_alone_is : (c : Contents) (q : Query) (t : ℕ) → table_alone q ≡ Some t → in_order c (touched_by_where c t (out-Query q).filter) ≡ touched c (statement.Select q)
unfolding out-Query denote.Hole.Carrier.out
touched_alone_is c (Query' cs ctes ss subs (Table u n) filter_ grouped keys aggs having items shown distinct order limit offset names) t e =
    let p = parts (is_none_of_them ctes) (is_none_of_them subs) (Some u) t e in
    let one : Some u ≡ Some t = p.2 in
    let same : u ≡ t = cc in
    ap (λ v. in_order c (touched_by_where c v filter_)) (sym same) ∙ (sym (where_whole c u filter_)
    ∙ sym (λ i. in_order c (flat_map (groups_of c) (flat_map (λ (b : Query). occurrences_in c b []) (no_blocks ctes p.0 i ++ (Query' cs ctes ss subs (Table u n) filter_ grouped keys aggs having items shown distinct order limit offset names ∷ no_ins subs p.1 i))))))
touched_alone_is c (Query' cs ctes ss subs (Sub' p a) filter_ grouped keys aggs having items shown distinct order limit offset names) t e = let none : None ≡ Some t = (parts (is_none_of_them ctes) (is_none_of_them subs) None t e).2 in cc
touched_alone_is c (Query' cs ctes ss subs (Result i n) filter_ grouped keys aggs having items shown distinct order limit offset names) t e = let none : None ≡ Some t = (parts (is_none_of_them ctes) (is_none_of_them subs) None t e).2 in cc
touched_alone_is c (Query' cs ctes ss subs (Cross' p a r b) filter_ grouped keys aggs having items shown distinct order limit offset names) t e = let none : None ≡ Some t = (parts (is_none_of_them ctes) (is_none_of_them subs) None t e).2 in cc
touched_alone_is c (Query' cs ctes ss subs (Inner' p a r b on) filter_ grouped keys aggs having items shown distinct order limit offset names) t e = let none : None ≡ Some t = (parts (is_none_of_them ctes) (is_none_of_them subs) None t e).2 in cc
touched_alone_is c (Query' cs ctes ss subs (Left' p a r b on) filter_ grouped keys aggs having items shown distinct order limit offset names) t e = let none : None ≡ Some t = (parts (is_none_of_them ctes) (is_none_of_them subs) None t e).2 in cc

-- ---- one value

one_ascends : (bound g : ℕ) → g < bound → true ≡ ascends bound (g ∷ []) 0
one_ascends bound g h = let low : 0 ≤ g = omega arith in rw (lt-ltb g bound h, le-leb 0 g low) refl

one_in_order : (c : Contents) (g : ℕ) → g < c.groups → in_order c (g ∷ []) ≡ g ∷ []
one_in_order c g h = sym (in_order_already c (g ∷ []) (g ∷ []) c.groups true refl (one_ascends c.groups g h) refl refl)

pub home_is : (c : Contents) (table at colocation first_shard : ℕ) (filter_ : Cond) (v : Value) (g : ℕ) → place_at c table ≡ Distributed at colocation first_shard →
    value_set [] (conjuncts filter_) at ≡ Some (v ∷ []) → g ≡ group_of c table v → g < c.groups → in_order c (touched_by_where c table filter_) ≡ g ∷ []
home_is c table at colocation first_shard filter_ v g place one is h =
    let start : 0 + at ≡ at = omega arith in
    let set : value_set [] (conjuncts filter_) (0 + at) ≡ Some (v ∷ []) = ap (value_set [] (conjuncts filter_)) start ∙ one in
    let there : touched_by_where c table filter_ ≡ g ∷ [] =
    ap (λ (p : Place). groups_at c table p (key_values (value_set [] (conjuncts filter_)) 0 p)) place ∙ (ap (λ (s : ValueSet). groups_with c table s) set ∙ ap (λ n. n ∷ []) (sym is)) in
    ap (in_order c) there ∙ one_in_order c g h
