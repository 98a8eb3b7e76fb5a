-- What stays of a FROM touches, as a query of its own, what it touched in the original.
use Rattle.std.proofs.Common.{◌≡◌, ℕ, ◌+◌, List, [], ◌∷◌, ◌++◌, map, filter_map, Bool, true, false, not, ◌&&◌, ◌||◌, nat_eq, nat_lt, if◌then◌else◌, Option, None, Some, is_some, inl, inr, refl, sym, ap, subst, ◌∙◌, append-nil}
use Rattle.std.specs.List.{cons_option, list_any, AllByRecursion}
use Rattle.cq_value.specs.declared.value.Value.{Value}
use Rattle.cq_value.proofs.Truths.{two_ways, or_neither, or_right, same_number}
use Rattle.cq_tree.specs.declared.expression.Cond.{Cond}
use Rattle.cq_tree.specs.declared.plan.Planner.{Planner}
use Rattle.cq_tree.specs.declared.query.FromTree.{FromTree, Table, Sub', Result, Cross', Inner', Left', end_of-FromTree, more_of-FromTree, end_of-Query, more_of-Query}
use Rattle.cq_tree.specs.declared.query.Query.{Query, Query'}
use Rattle.cq_meaning.specs.Queries.{columns_in, outputs_of}
use Rattle.cq_meaning.specs.Results.{ins_in_from}
use Rattle.cq_catalog.specs.Contents.{Contents}
use Rattle.cq_catalog.specs.Placement.{place_at}
use Rattle.cq_planning.specs.Conjuncts.{conjuncts, conjuncts_of, equalities}
use Rattle.cq_planning.specs.ValueSets.{ValueSet, value_set}
use Rattle.cq_planning.specs.Narrowing.{distribution_in, met_with, narrowed_by, right_sets, sets_in, given_to}
use Rattle.cq_planning.specs.Occurrences.{Occurrence, occurrence_of, occurrences_from, occurrences_in}
use Rattle.cq_planning.specs.Pushable.{Pushable, pushable, relations, distribution_by}
use Rattle.cq_planning.specs.Relations.{Distribution, OuterJoin, Relation, distribution_at, distribution_of, is_distributed, partner_of, partners}
use Rattle.cq_outline.specs.declared.outline.Leaving.{Leaving}
use Rattle.cq_outline.specs.declared.outline.Leaving.TheVariants.{Nothing, Alone, Rights}
use Rattle.cq_outline.specs.Leaving.{leaves, leaves_subquery, inside}
use Rattle.cq_outline.specs.Tasking.{touch_of, leaving_by}
use Rattle.cq_outline.specs.Outlines.{table_planner, subquery_planner}
use Rattle.cq_pushdown_laws.specs.Pushed.{is_single}
use Rattle.cq_one_plan.specs.declared.plan.Plan.{Plan}
use Rattle.cq_one_plan.specs.declared.plan.Part.{Part}
use Rattle.cq_one_plan.specs.declared.plan.Part.TheVariants.{Stays, Leaves, Asks}
use Rattle.cq_one_plan.specs.Plans.{stays_in, lone_plan, key_of, output_of, output_set, plan_of, parts_from, parts_inside, in_plans}
use Rattle.cq_one_plan.specs.Stays.{leaves_in, leaves_of_all, result_if, from_staying, query_staying, lone_query}
use Rattle.cq_block_plans.specs.Firm.{result_for, settled, is_of_leaver, IsEven, IsFirm, IsFirmFrom}
use Rattle.cq_block_plans.proofs.Staying.{columns_stay, conjuncts_stay, from_relations, pushable_stays, inside_pushable, single_stays}

-- ---- lists

map_append : {X Y : Type 0} (f : X → Y) (xs ys : List X) → map f (xs ++ ys) ≡ map f xs ++ map f ys
map_append f [] ys = refl
map_append f (x ∷ xs) ys = ap (λ us. f x ∷ us) (map_append f xs ys)

stays_append : (xs ys : List Part) → stays_in (xs ++ ys) ≡ stays_in xs ++ stays_in ys
stays_append [] ys = refl
stays_append (Stays table groups ∷ xs) ys = ap (λ us. (table, groups) ∷ us) (stays_append xs ys)
stays_append (Leaves p ∷ xs) ys = stays_append xs ys
stays_append (Asks p ∷ xs) ys = stays_append xs ys

asks_none : (ps : List Plan) → stays_in (map Asks ps) ≡ []
asks_none [] = refl
asks_none (p ∷ ps) = asks_none ps

all_left : (P : Relation → Type 0) (xs ys : List Relation) → AllByRecursion P (xs ++ ys) → AllByRecursion P xs
all_left P [] ys h = tt
all_left P (x ∷ xs) ys h = (h.0, all_left P xs ys h.1)

all_right : (P : Relation → Type 0) (xs ys : List Relation) → AllByRecursion P (xs ++ ys) → AllByRecursion P ys
all_right P [] ys h = h
all_right P (x ∷ xs) ys h = all_right P xs ys h.1

-- ---- relations

-- one relation of a FROM
abbrev single_of : Contents → FromTree → ℕ → Option OuterJoin → Relation
single_of c f start outer = record { start = start; distribution = distribution_in c f start; outer = outer }

single_is : (c : Contents) (f : FromTree) (start : ℕ) (outer : Option OuterJoin) → is_single f ≡ true → relations c f start outer ≡ single_of c f start outer ∷ []
single_is c (Table t n) start outer h = refl
single_is c (Sub' p (more_of-Query q end_of-Query)) start outer h = refl
single_is c (Result i n) start outer h = refl
single_is c (Cross' p (more_of-FromTree a end_of-FromTree) q (more_of-FromTree b end_of-FromTree)) start outer h = cc
single_is c (Inner' p (more_of-FromTree a end_of-FromTree) q (more_of-FromTree b end_of-FromTree) on) start outer h = cc
single_is c (Left' p (more_of-FromTree a end_of-FromTree) q (more_of-FromTree b end_of-FromTree) on) start outer h = cc

-- nothing else has the distribution column of one that leaves
module _ (leaving : Leaving) (rels : List Relation) where
  abbrev IsOwn : Relation → Type 0
  IsOwn r = (x : ℕ) → is_of_leaver leaving rels x ≡ false → leaves leaving rels r ≡ true → nat_eq (distribution_of r).column x ≡ false

  own_by : (rs : List Relation) → ((x : ℕ) → is_of_leaver leaving rels x ≡ false → list_any (λ (r : Relation). leaves leaving rels r && nat_eq (distribution_of r).column x) rs ≡ false) → AllByRecursion IsOwn rs
  own_by [] h = tt
  own_by (r ∷ rs) h = (
    λ x n l. second (leaves leaving rels r) (nat_eq (distribution_of r).column x) l (or_neither (leaves leaving rels r && nat_eq (distribution_of r).column x) _ (h x n)).0,
    own_by rs (λ x n. (or_neither (leaves leaving rels r && nat_eq (distribution_of r).column x) _ (h x n)).1),
  )
    where
      second : (a b : Bool) → a ≡ true → (a && b) ≡ false → b ≡ false
      second true b e h = h
      second false b e h = cc

  all_own : AllByRecursion IsOwn rels
  all_own = own_by rels (λ x n. n)

never_of : (leaving : Leaving) (rels : List Relation) → ((r : Relation) → leaves leaving rels r ≡ false) → (x : ℕ) (rs : List Relation) → list_any (λ (r : Relation). leaves leaving rels r && nat_eq (distribution_of r).column x) rs ≡ false
never_of leaving rels h x [] = refl
never_of leaving rels h x (r ∷ rs) = λ i. (h r i && nat_eq (distribution_of r).column x) || never_of leaving rels h x rs i

none_of : {X : Type 0} (p : X → Bool) → ((x : X) → p x ≡ false) → (xs : List X) → list_any p xs ≡ false
none_of p h [] = refl
none_of p h (x ∷ xs) = λ i. h x i || none_of p h xs i

-- where nothing leaves, or each distributed right side, none that stays is joined by what leaves
evens : (leaving : Leaving) (rels rs : List Relation) → AllByRecursion (IsEven Alone rels) rs → AllByRecursion (IsEven leaving rels) rs
evens leaving rels [] h = tt
evens Nothing rels (r ∷ rs) h = (λ d s. none_of (is_of_leaver Nothing rels) (λ x. never_of Nothing rels (λ r. refl) x rels) (partners r r.outer), evens Nothing rels rs h.1)
evens Alone rels (r ∷ rs) h = h
evens Rights rels (r ∷ rs) h = (λ d s. plain r.outer (is_distributed r) d s, evens Rights rels rs h.1)
  where
    plain : (o : Option OuterJoin) (b : Bool) → b ≡ true → (b && is_some o) ≡ false → list_any (is_of_leaver Rights rels) (partners r o) ≡ false
    plain None b d s = refl
    plain (Some o) true d s = cc
    plain (Some o) false d s = cc

-- ---- value sets

module _ (c : Contents) (leaving : Leaving) (rels : List Relation) where
  abbrev IsFair : Relation → Type 0
  IsFair r = IsEven leaving rels r × IsOwn leaving rels r

  fair_all : (rs : List Relation) → AllByRecursion (IsEven leaving rels) rs → AllByRecursion (IsOwn leaving rels) rs → AllByRecursion IsFair rs
  fair_all [] h k = tt
  fair_all (r ∷ rs) h k = ((h.0, k.0), fair_all rs h.1 k.1)

  -- two sets of columns that differ at the columns of what leaves alone
  abbrev AreLike : (ℕ → ValueSet) → (ℕ → ValueSet) → Type 0
  AreLike s t = (x : ℕ) → is_of_leaver leaving rels x ≡ false → s x ≡ t x

  narrowed_like : (s t : ℕ → ValueSet) (low high y : ℕ) (set : ValueSet) (pairs : List (ℕ × ℕ)) → AreLike s t → list_any (is_of_leaver leaving rels) (filter_map (partner_of low high y) pairs) ≡ false →
      narrowed_by s low high y set pairs ≡ narrowed_by t low high y set pairs
  narrowed_like s t low high y set [] like h = refl
  narrowed_like s t low high y set (e ∷ pairs) like h = by_case (partner_of low high y e) (λ u. narrowed_like s t low high y u pairs like) h
    where
      by_case : (o : Option ℕ) → ((u : ValueSet) → list_any (is_of_leaver leaving rels) (filter_map (partner_of low high y) pairs) ≡ false → narrowed_by s low high y u pairs ≡ narrowed_by t low high y u pairs) →
          list_any (is_of_leaver leaving rels) (cons_option o (filter_map (partner_of low high y) pairs)) ≡ false → narrowed_by s low high y (met_with s o set) pairs ≡ narrowed_by t low high y (met_with t o set) pairs
      by_case None more h = more set h
      by_case (Some x) more h =
          let apart = or_neither (is_of_leaver leaving rels x) (list_any (is_of_leaver leaving rels) (filter_map (partner_of low high y) pairs)) h in
          more (met_with s (Some x) set) apart.1 ∙ ap (λ (u : ValueSet). narrowed_by t low high y (met_with (λ z. u) (Some x) set) pairs) (like x apart.0)

  abbrev first_distribution : List Relation → Option Distribution
  first_distribution [] = None
  first_distribution (r ∷ rs) = r.distribution

  -- the right side of a LEFT JOIN, as it stands there
  module _ (b : FromTree) (low high : ℕ) (on : Cond) (l : ℕ) (single : is_single b ≡ true) (firm : IsFirmFrom c b) where
    abbrev join : Option OuterJoin
    join = Some (record { left = low; equalities = equalities (conjuncts on) })

    abbrev side : Relation
    side = single_of c b high join

    abbrev now : FromTree
    now = from_staying c leaving rels b high join l

    side_stays : distribution_in c now high ≡ (settled leaving rels side).distribution
    side_stays =
        ap first_distribution (sym (single_is c now high join (single_stays c leaving rels b high join l single)) ∙ from_relations c leaving rels b high join l firm ∙ ap (λ rs. map (settled leaving rels) rs) (single_is c b high join single))

    settled_if : (x : Bool) → leaves leaving rels side ≡ x → (settled leaving rels side).distribution ≡ (if x then result_for side else side).distribution
    settled_if x e = ap (λ (y : Bool). (if y then result_for side else side).distribution) e

    -- what stays is narrowed as before
    right_like : (sets s t : ℕ → ValueSet) → AreLike s t → IsFair side → leaves leaving rels side ≡ false → (y : ℕ) →
        right_sets sets s (distribution_in c now high) low high on y ≡ right_sets sets t (distribution_in c b high) low high on y
    right_like sets s t like fair stays y = ap (λ d. right_sets sets s d low high on y) (side_stays ∙ settled_if false stays) ∙ by_case (distribution_in c b high) (λ d. fair.0 d stays)
      where
        by_case : (d : Option Distribution) → (is_some d ≡ true → list_any (is_of_leaver leaving rels) (partners (record { start = high; distribution = d; outer = join }) join) ≡ false) →
            right_sets sets s d low high on y ≡ right_sets sets t d low high on y
        by_case None h = refl
        by_case (Some d) h = at (nat_eq d.column y) refl
          where
            at : (x : Bool) → nat_eq d.column y ≡ x →
                (if x then narrowed_by s low high y (sets y) (equalities (conjuncts on)) else sets y) ≡ (if x then narrowed_by t low high y (sets y) (equalities (conjuncts on)) else sets y)
            at true e = narrowed_like s t low high y (sets y) (equalities (conjuncts on)) like (subst (λ z. list_any (is_of_leaver leaving rels) (filter_map (partner_of low high z) (equalities (conjuncts on))) ≡ false) (same_number d.column y e) (h refl))
            at false e = refl

    -- and what leaves matters to no other column
    right_apart : (sets s t : ℕ → ValueSet) → AreLike s t → IsFair side → AreLike (right_sets sets s (distribution_in c now high) low high on) (right_sets sets t (distribution_in c b high) low high on)
    right_apart sets s t like fair x n = elim (two_ways (leaves leaving rels side)) [
      | inl y ↦
          ap (λ d. right_sets sets s d low high on x) (side_stays ∙ settled_if true y)
          ∙ sym (by_case (distribution_in c b high) (fair.1 x n y))
      | inr stays ↦ right_like sets s t like fair stays x
    ]
      where
        by_case : (d : Option Distribution) → nat_eq (distribution_of (record { start = high; distribution = d; outer = join })).column x ≡ false → right_sets sets t d low high on x ≡ sets x
        by_case None h = refl
        by_case (Some d) h = ap (λ (b : Bool). if b then narrowed_by t low high x (sets x) (equalities (conjuncts on)) else sets x) h

  sides_like : (s t u v : ℕ → ValueSet) (mid mid' : ℕ) → mid ≡ mid' → AreLike s t → AreLike u v → AreLike (λ x. if nat_lt x mid then s x else u x) (λ x. if nat_lt x mid' then t x else v x)
  sides_like s t u v mid mid' e h k x n = λ i. if nat_lt x (e i) then h x n i else k x n i

  sides : (sets : ℕ → ValueSet) (a b : FromTree) (start l : ℕ) → AreLike (sets_in c sets (from_staying c leaving rels a start None l) start) (sets_in c sets a start) →
      AreLike (sets_in c sets (from_staying c leaving rels b (start + columns_in a) None (l + leaves_in a)) (start + columns_in a)) (sets_in c sets b (start + columns_in a)) →
      let fa = from_staying c leaving rels a start None l in let fb = from_staying c leaving rels b (start + columns_in a) None (l + leaves_in a) in
      AreLike (λ x. if nat_lt x (start + columns_in fa) then sets_in c sets fa start x else sets_in c sets fb (start + columns_in fa) x) (λ x. if nat_lt x (start + columns_in a) then sets_in c sets a start x else sets_in c sets b (start + columns_in a) x)
  sides sets a b start l la lb =
      let fa : FromTree = from_staying c leaving rels a start None l in
      let fb : FromTree = from_staying c leaving rels b (start + columns_in a) None (l + leaves_in a) in
      let e : start + columns_in fa ≡ start + columns_in a = ap (λ n. start + n) (columns_stay c leaving rels a start None l) in
      sides_like (sets_in c sets fa start) (sets_in c sets a start) (sets_in c sets fb (start + columns_in fa)) (sets_in c sets b (start + columns_in a)) (start + columns_in fa) (start + columns_in a) e la
      (subst (λ m. AreLike (sets_in c sets fb m) (sets_in c sets b (start + columns_in a))) (sym e) lb)

  side_fair : (b : FromTree) (high : ℕ) (o : Option OuterJoin) → is_single b ≡ true → AllByRecursion IsFair (relations c b high o) → IsFair (single_of c b high o)
  side_fair b high o single fair = (subst (AllByRecursion IsFair) (single_is c b high o single) fair).0

  -- the columns of what stays have the sets that they had
  sets_stay : (sets : ℕ → ValueSet) (f : FromTree) (start : ℕ) (outer : Option OuterJoin) (l : ℕ) → IsFirmFrom c f → AllByRecursion IsFair (relations c f start outer) →
      AreLike (sets_in c sets (from_staying c leaving rels f start outer l) start) (sets_in c sets f start)
  sets_stay sets (Table t n) start outer l firm fair = by_case (leaves leaving rels (record { start = start; distribution = distribution_at start (place_at c t); outer = outer }))
    where
      by_case : (b : Bool) → AreLike (sets_in c sets (result_if b l n (Table t n)) start) sets
      by_case true = λ x h. refl
      by_case false = λ x h. refl
  sets_stay sets (Sub' p (more_of-Query q end_of-Query)) start outer l firm fair = by_case (leaves_subquery leaving rels (record { start = start; distribution = distribution_by start (pushable c q); outer = outer }))
    where
      by_case : (b : Bool) → AreLike (sets_in c sets (result_if b l (outputs_of q) (Sub' p (more_of-Query (query_staying c (inside leaving) q (l + 1)) end_of-Query))) start) sets
      by_case true = λ x h. refl
      by_case false = λ x h. refl
  sets_stay sets (Result i n) start outer l firm fair = λ x h. refl
  sets_stay sets (Cross' p (more_of-FromTree a end_of-FromTree) q (more_of-FromTree b end_of-FromTree)) start outer l firm fair =
      sides sets a b start l (sets_stay sets a start None l firm.0 (all_left IsFair (relations c a start None) (relations c b (start + columns_in a) None) fair))
      (sets_stay sets b (start + columns_in a) None (l + leaves_in a) firm.1 (all_right IsFair (relations c a start None) (relations c b (start + columns_in a) None) fair))
  sets_stay sets (Inner' p (more_of-FromTree a end_of-FromTree) q (more_of-FromTree b end_of-FromTree) on) start outer l firm fair =
      sides sets a b start l (sets_stay sets a start None l firm.0 (all_left IsFair (relations c a start None) (relations c b (start + columns_in a) None) fair))
      (sets_stay sets b (start + columns_in a) None (l + leaves_in a) firm.1 (all_right IsFair (relations c a start None) (relations c b (start + columns_in a) None) fair))
  sets_stay sets (Left' p (more_of-FromTree a end_of-FromTree) q (more_of-FromTree b end_of-FromTree) on) start outer l firm fair =
      let o : Option OuterJoin = Some (record { left = start; equalities = equalities (conjuncts on) }) in
      let fa : FromTree = from_staying c leaving rels a start None l in
      let fb : FromTree = from_staying c leaving rels b (start + columns_in a) o (l + leaves_in a) in
      let e : start + columns_in fa ≡ start + columns_in a = ap (λ n. start + n) (columns_stay c leaving rels a start None l) in
      let la : AreLike (sets_in c sets fa start) (sets_in c sets a start) = sets_stay sets a start None l firm.0 (all_left IsFair (relations c a start None) (relations c b (start + columns_in a) o) fair) in
      let lb : AreLike (right_sets sets (sets_in c sets fa start) (distribution_in c fb (start + columns_in a)) start (start + columns_in a) on) (right_sets sets (sets_in c sets a start) (distribution_in c b (start + columns_in a)) start (start + columns_in a) on) =
      right_apart b start (start + columns_in a) on (l + leaves_in a) firm.2 firm.1 sets (sets_in c sets fa start) (sets_in c sets a start) la
      (side_fair b (start + columns_in a) o firm.2 (all_right IsFair (relations c a start None) (relations c b (start + columns_in a) o) fair)) in
      sides_like (sets_in c sets fa start) (sets_in c sets a start)
      (right_sets sets (sets_in c sets fa start) (distribution_in c fb (start + columns_in fa)) start (start + columns_in fa) on)
      (right_sets sets (sets_in c sets a start) (distribution_in c b (start + columns_in a)) start (start + columns_in a) on)
      (start + columns_in fa) (start + columns_in a) e la
      (subst (λ m. AreLike (right_sets sets (sets_in c sets fa start) (distribution_in c fb m) start m on) (right_sets sets (sets_in c sets a start) (distribution_in c b (start + columns_in a)) start (start + columns_in a) on)) (sym e) lb)

-- ---- what is touched

-- what has left touches nothing, whatever the sets
gone : (c : Contents) (leaving : Leaving) (rels : List Relation) (s t : ℕ → ValueSet) (b : FromTree) (start m : ℕ) (outer : Option OuterJoin) (l : ℕ) → is_single b ≡ true → leaves leaving rels (single_of c b start outer) ≡ true →
    occurrences_from c s (from_staying c leaving rels b start outer l) m ≡ occurrences_from c t (from_staying c leaving rels b start outer l) m
gone c leaving rels s t (Table u n) start m outer l single e =
    ap (λ x. occurrences_from c s (result_if x l n (Table u n)) m) e ∙ sym (ap (λ x. occurrences_from c t (result_if x l n (Table u n)) m) e)
gone c leaving rels s t (Sub' p (more_of-Query q end_of-Query)) start m outer l single e =
    let out : leaves_subquery leaving rels (single_of c (Sub' p (more_of-Query q end_of-Query)) start outer) ≡ true = also leaving (single_of c (Sub' p (more_of-Query q end_of-Query)) start outer) e in
    let kept : FromTree = Sub' p (more_of-Query (query_staying c (inside leaving) q (l + 1)) end_of-Query) in
    ap (λ x. occurrences_from c s (result_if x l (outputs_of q) kept) m) out ∙ sym (ap (λ x. occurrences_from c t (result_if x l (outputs_of q) kept) m) out)
  where
    also : (leaving : Leaving) (r : Relation) → leaves leaving rels r ≡ true → leaves_subquery leaving rels r ≡ true
    also Nothing r h = cc
    also Alone r h = or_right (not (is_distributed r)) (leaves Alone rels r) h
    also Rights r h = or_right (not (is_distributed r)) (leaves Rights rels r) h
gone c leaving rels s t (Result i n) start m outer l single e = refl
gone c leaving rels s t (Cross' p (more_of-FromTree a end_of-FromTree) q (more_of-FromTree b end_of-FromTree)) start m outer l single e = cc
gone c leaving rels s t (Inner' p (more_of-FromTree a end_of-FromTree) q (more_of-FromTree b end_of-FromTree) on) start m outer l single e = cc
gone c leaving rels s t (Left' p (more_of-FromTree a end_of-FromTree) q (more_of-FromTree b end_of-FromTree) on) start m outer l single e = cc

module _ (c : Contents) where
  -- the two sides of a join
  joined_stays : (xs ys : List Part) (os ps : List Occurrence) → stays_in xs ≡ map (touch_of c) os → stays_in ys ≡ map (touch_of c) ps → stays_in (xs ++ ys) ≡ map (touch_of c) (os ++ ps)
  joined_stays xs ys os ps ea eb = stays_append xs ys ∙ ((λ i. ea i ++ eb i) ∙ sym (map_append (touch_of c) os ps))

  mutual
    pub inside_stays : (leaving : Leaving) (q : Query) (outer : List (ℕ × List Value)) (k l : ℕ) → IsFirm c q → stays_in (parts_inside c leaving q outer k l) ≡ map (touch_of c) (occurrences_in c (query_staying c leaving q l) outer)
    inside_stays leaving (Query' cs ctes ss subs from filter_ grouped keys aggs having items shown distinct order limit offset names) outer k l firm =
        let rels : List Relation = relations c from 0 None in
        let lf : ℕ = l + leaves_of_all ctes in
        let xs : List Part = parts_from c leaving rels (value_set outer (conjuncts_of filter_ from)) from 0 None k lf in
        let ys : List Plan = in_plans c (k + ins_in_from from) (lf + leaves_in from) subs in
        stays_append xs (map Asks ys) ∙ (ap (λ us. stays_in xs ++ us) (asks_none ys) ∙ (append-nil (stays_in xs)
        ∙ (from_stays leaving rels (value_set outer (conjuncts_of filter_ from)) from 0 None k lf firm.1 (fair_all c leaving rels rels (evens leaving rels rels firm.0.even) (all_own leaving rels))
        ∙ ap (λ cs. map (touch_of c) (occurrences_from c (value_set outer cs) (from_staying c leaving rels from 0 None lf) 0)) (sym (conjuncts_stay c leaving rels filter_ from lf)))))

    pub from_stays : (leaving : Leaving) (rels : List Relation) (sets : ℕ → ValueSet) (f : FromTree) (start : ℕ) (outer : Option OuterJoin) (k l : ℕ) → IsFirmFrom c f → AllByRecursion (IsFair c leaving rels) (relations c f start outer) →
        stays_in (parts_from c leaving rels sets f start outer k l) ≡ map (touch_of c) (occurrences_from c sets (from_staying c leaving rels f start outer l) start)
    from_stays leaving rels sets (Table t n) start outer k l firm fair = by_case (leaves leaving rels r)
      where
        r : Relation
        r = record { start = start; distribution = distribution_at start (place_at c t); outer = outer }

        o : Occurrence
        o = occurrence_of c sets start t

        lone : Plan
        lone = lone_plan c l (table_planner c (touch_of c o) o.values) (Stays t (touch_of c o).1 ∷ []) (lone_query (Table t n) (key_of (place_at c t)) o.values)

        by_case : (b : Bool) → stays_in ((if b then Leaves lone else Stays t (touch_of c o).1) ∷ []) ≡ map (touch_of c) (occurrences_from c sets (result_if b l n (Table t n)) start)
        by_case true = refl
        by_case false = refl
    from_stays leaving rels sets (Sub' p (more_of-Query q end_of-Query)) start outer k l firm fair =
        by_case (leaves_subquery leaving rels (record { start = start; distribution = distribution_by start (pushable c q); outer = outer }))
        (if is_some (pushable c q) then lone_plan c l planner (parts_inside c (leaving_by planner) q given k (l + 1))
        (lone_query (Sub' p (more_of-Query (query_staying c (leaving_by planner) q (l + 1)) end_of-Query)) (output_of (pushable c q)) (output_set sets start (pushable c q))) else plan_of c l k k (l + 1) q)
        (inside_stays (inside leaving) q given k (l + 1) firm)
      where
        given : List (ℕ × List Value)
        given = given_to sets start (pushable c q)

        planner : Planner
        planner = subquery_planner c (occurrences_in c q given)

        now : Query
        now = query_staying c (inside leaving) q (l + 1)

        by_case : (b : Bool) (lone : Plan) → stays_in (parts_inside c (inside leaving) q given k (l + 1)) ≡ map (touch_of c) (occurrences_in c now given) →
            stays_in (if b then Leaves lone ∷ [] else parts_inside c (inside leaving) q given k (l + 1)) ≡ map (touch_of c) (occurrences_from c sets (result_if b l (outputs_of q) (Sub' p (more_of-Query now end_of-Query))) start)
        by_case true lone e = refl
        by_case false lone e = e ∙ ap (λ (o : Option Pushable). map (touch_of c) (occurrences_in c now (given_to sets start o))) (sym (inside_pushable c leaving q (l + 1) (pushable_stays c q (l + 1) firm)))
    from_stays leaving rels sets (Result i n) start outer k l firm fair = refl
    from_stays leaving rels sets (Cross' p (more_of-FromTree a end_of-FromTree) q (more_of-FromTree b end_of-FromTree)) start outer k l firm fair =
        let ra : List Relation = relations c a start None in
        let rb : List Relation = relations c b (start + columns_in a) None in
        let fa : FromTree = from_staying c leaving rels a start None l in
        let fb : FromTree = from_staying c leaving rels b (start + columns_in a) None (l + leaves_in a) in
        joined_stays (parts_from c leaving rels sets a start None k l) (parts_from c leaving rels sets b (start + columns_in a) None (k + ins_in_from a) (l + leaves_in a))
        (occurrences_from c sets fa start) (occurrences_from c sets fb (start + columns_in fa))
        (from_stays leaving rels sets a start None k l firm.0 (all_left (IsFair c leaving rels) ra rb fair))
        (from_stays leaving rels sets b (start + columns_in a) None (k + ins_in_from a) (l + leaves_in a) firm.1 (all_right (IsFair c leaving rels) ra rb fair)
        ∙ ap (λ n. map (touch_of c) (occurrences_from c sets fb (start + n))) (sym (columns_stay c leaving rels a start None l)))
    from_stays leaving rels sets (Inner' p (more_of-FromTree a end_of-FromTree) q (more_of-FromTree b end_of-FromTree) on) start outer k l firm fair =
        let ra : List Relation = relations c a start None in
        let rb : List Relation = relations c b (start + columns_in a) None in
        let fa : FromTree = from_staying c leaving rels a start None l in
        let fb : FromTree = from_staying c leaving rels b (start + columns_in a) None (l + leaves_in a) in
        joined_stays (parts_from c leaving rels sets a start None k l) (parts_from c leaving rels sets b (start + columns_in a) None (k + ins_in_from a) (l + leaves_in a))
        (occurrences_from c sets fa start) (occurrences_from c sets fb (start + columns_in fa))
        (from_stays leaving rels sets a start None k l firm.0 (all_left (IsFair c leaving rels) ra rb fair))
        (from_stays leaving rels sets b (start + columns_in a) None (k + ins_in_from a) (l + leaves_in a) firm.1 (all_right (IsFair c leaving rels) ra rb fair)
        ∙ ap (λ n. map (touch_of c) (occurrences_from c sets fb (start + n))) (sym (columns_stay c leaving rels a start None l)))
    from_stays leaving rels sets (Left' p (more_of-FromTree a end_of-FromTree) q (more_of-FromTree b end_of-FromTree) on) start outer k l firm fair =
        let o : Option OuterJoin = Some (record { left = start; equalities = equalities (conjuncts on) }) in
        let high : ℕ = start + columns_in a in
        let ra : List Relation = relations c a start None in
        let rb : List Relation = relations c b high o in
        let fa : FromTree = from_staying c leaving rels a start None l in
        let fb : FromTree = from_staying c leaving rels b high o (l + leaves_in a) in
        let sb : ℕ → ValueSet = right_sets sets (sets_in c sets a start) (distribution_in c b high) start high on in
        let tb : ℕ → ValueSet = right_sets sets (sets_in c sets fa start) (distribution_in c fb high) start high on in
        let fair_a = all_left (IsFair c leaving rels) ra rb fair in
        let fair_b = all_right (IsFair c leaving rels) ra rb fair in
        let like = sets_stay c leaving rels sets a start None l firm.0 fair_a in
        let same : occurrences_from c sb fb high ≡ occurrences_from c tb fb high = elim (two_ways (leaves leaving rels (single_of c b high o))) [
          | inl y ↦ gone c leaving rels sb tb b high high o (l + leaves_in a) firm.2 y
          | inr n ↦ ap (λ (u : ℕ → ValueSet). occurrences_from c u fb high) (λ i y. sym (right_like c leaving rels b start high on (l + leaves_in a) firm.2 firm.1 sets (sets_in c sets fa start) (sets_in c sets a start) like (side_fair c leaving rels b high o firm.2 fair_b) n y) i)
        ] in
        joined_stays (parts_from c leaving rels sets a start None k l) (parts_from c leaving rels sb b high o (k + ins_in_from a) (l + leaves_in a))
        (occurrences_from c sets fa start) (occurrences_from c (right_sets sets (sets_in c sets fa start) (distribution_in c fb (start + columns_in fa)) start (start + columns_in fa) on) fb (start + columns_in fa))
        (from_stays leaving rels sets a start None k l firm.0 fair_a)
        (from_stays leaving rels sb b high o (k + ins_in_from a) (l + leaves_in a) firm.1 fair_b
        ∙ (ap (map (touch_of c)) same
        ∙ ap (λ n. map (touch_of c) (occurrences_from c (right_sets sets (sets_in c sets fa start) (distribution_in c fb (start + n)) start (start + n) on) fb (start + n))) (sym (columns_stay c leaving rels a start None l))))
