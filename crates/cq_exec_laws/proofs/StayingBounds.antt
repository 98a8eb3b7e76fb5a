-- What stays of a query, where results stand for the relations that leave it, has the widths of the query, and the binder lets it through.
use Rattle.std.proofs.Common.{◌≡◌, ◌+◌, ◌<◌, ℕ, List, [], ◌∷◌, ◌++◌, map, length, take, Bool, true, false, Option, None, Some, ◌⊎◌, inl, inr, refl, sym, ap, subst, ◌∙◌, append_assoc, arith}
use Rattle.std.specs.Prelude.{slice_index_or, ⊤}
use Rattle.std.specs.List.{AllByRecursion}
use Rattle.std.proofs.Math.Seq.{get_or-append_seam}
use Rattle.std.proofs.lemmas.List.{length-append}
use Rattle.cq_tree.specs.declared.expression.Cond.{Cond}
use Rattle.cq_tree.specs.declared.query.FromTree.{FromTree, Table, Sub', Result, Cross', Inner', Left', end_of-FromTree, more_of-FromTree, end_of-Query, more_of-Query}
use Rattle.cq_tree.specs.declared.query.Query.{Query, Query', Row_of-Query}
use Rattle.cq_tree.specs.declared.query.Query as query
use Rattle.cq_meaning.specs.declared.Columns.{Columns}
use Rattle.cq_meaning.specs.Lists.{Has}
use Rattle.cq_meaning.specs.Queries.{columns_in, outputs_of}
use Rattle.cq_meaning.specs.Widths.{bits, input_bits, table_bits, from_bits, output_bits, IsBoundCondition, AreBoundItems, IsBoundFrom, IsBoundQuery}
use Rattle.cq_meaning_laws.proofs.SafeLaws.{columns_are}
use Rattle.cq_meaning_laws.specs.WholeRules.{Step}
use Rattle.cq_catalog.specs.Contents.{Contents}
use Rattle.cq_planning.specs.Conjuncts.{conjuncts, equalities}
use Rattle.cq_planning.specs.Relations.{OuterJoin, Relation}
use Rattle.cq_planning.specs.Pushable.{relations}
use Rattle.cq_outline.specs.declared.outline.Leaving.{Leaving}
use Rattle.cq_outline.specs.Leaving.{leaves, leaves_subquery, inside}
use Rattle.cq_one_plan.specs.Stays.{leaves_in, leaves_of, leaves_of_all, result_if, from_staying, query_staying}
use Rattle.cq_plan_laws.specs.Scoping.{FromNames, QueryNames, AreScoped}
use Rattle.cq_exec_laws.specs.Bounds.{Extends}
use Rattle.cq_exec_laws.proofs.Widening.{wider_condition, wider_items}

-- ---- lists of widths

-- these stand among all, from place l on
abbrev pub Stand : List (List ℕ) → ℕ → List (List ℕ) → Type 0
Stand all l [] = ⊤
Stand all l (x ∷ xs) = (slice_index_or all l [] ≡ x) × Stand all (l + 1) xs

pub stand_left : (all xs ys : List (List ℕ)) (l : ℕ) → Stand all l (xs ++ ys) → Stand all l xs
stand_left all [] ys l h = tt
stand_left all (x ∷ xs) ys l h = (h.0, stand_left all xs ys (l + 1) h.1)

pub stand_right : (all xs ys : List (List ℕ)) (l n : ℕ) → length xs ≡ n → Stand all l (xs ++ ys) → Stand all (l + n) ys
stand_right all [] ys l n e h = subst (λ m. Stand all m ys) (omega (arith, e)) h
stand_right all (x ∷ xs) ys l n e h =
    let rest = stand_right all xs ys (l + 1) (length xs) refl h.1 in
    let same : l + 1 + length xs ≡ l + n = omega (arith, e) in
    subst (λ m. Stand all m ys) same rest

pub stand_behind : (before xs : List (List ℕ)) → Stand (before ++ xs) (length before) xs
stand_behind before [] = tt
stand_behind before (x ∷ xs) =
    let long : length (before ++ x ∷ []) ≡ length before + 1 = length-append before (x ∷ []) in
    let rest = stand_behind (before ++ x ∷ []) xs in
    (get_or-append_seam before x xs [], subst (λ m. Stand (before ++ x ∷ xs) m xs) long (subst (λ us. Stand us (length (before ++ x ∷ [])) xs) (append_assoc before (x ∷ []) xs) rest))

module _ (cs : Columns) where
  abbrev mutual
    -- the widths of the relations of a FROM, at any depth, in the order of their numbers
    pub relation_bits : FromTree → List (List ℕ)
    relation_bits (Table t n) = table_bits cs.tables t ∷ []
    relation_bits (Sub' p (more_of-Query q end_of-Query)) = output_bits cs q ∷ query_bits q
    relation_bits (Result i n) = slice_index_or cs.results i [] ∷ []
    relation_bits (Cross' p (more_of-FromTree a end_of-FromTree) q (more_of-FromTree b end_of-FromTree)) = relation_bits a ++ relation_bits b
    relation_bits (Inner' p (more_of-FromTree a end_of-FromTree) q (more_of-FromTree b end_of-FromTree) on) = relation_bits a ++ relation_bits b
    relation_bits (Left' p (more_of-FromTree a end_of-FromTree) q (more_of-FromTree b end_of-FromTree) on) = relation_bits a ++ relation_bits b

    pub query_bits : Query → List (List ℕ)
    query_bits (Query' ts ctes ss subs from filter_ grouped keys aggs having items shown distinct order limit offset names) = all_query_bits ctes ++ (relation_bits from ++ all_query_bits subs)

    pub all_query_bits : {n : _} → Row_of-Query n → List (List ℕ)
    all_query_bits query.end_of-Query = []
    all_query_bits (query.more_of-Query q more) = query_bits q ++ all_query_bits more

  mutual
    pub relations_long : (f : FromTree) → length (relation_bits f) ≡ leaves_in f
    relations_long (Table t n) = refl
    relations_long (Sub' p (more_of-Query q end_of-Query)) = let e = query_long q in omega (arith, e)
    relations_long (Result i n) = refl
    relations_long (Cross' p (more_of-FromTree a end_of-FromTree) q (more_of-FromTree b end_of-FromTree)) = length-append (relation_bits a) (relation_bits b) ∙ (λ i. relations_long a i + relations_long b i)
    relations_long (Inner' p (more_of-FromTree a end_of-FromTree) q (more_of-FromTree b end_of-FromTree) on) = length-append (relation_bits a) (relation_bits b) ∙ (λ i. relations_long a i + relations_long b i)
    relations_long (Left' p (more_of-FromTree a end_of-FromTree) q (more_of-FromTree b end_of-FromTree) on) = length-append (relation_bits a) (relation_bits b) ∙ (λ i. relations_long a i + relations_long b i)

    pub query_long : (q : Query) → length (query_bits q) ≡ leaves_of q
    query_long (Query' ts ctes ss subs from filter_ grouped keys aggs having items shown distinct order limit offset names) =
        length-append (all_query_bits ctes) (relation_bits from ++ all_query_bits subs)
        ∙ (λ i. all_long ctes i + (length-append (relation_bits from) (all_query_bits subs) ∙ (λ j. relations_long from j + all_long subs j)) i)

    pub all_long : {n : _} (qs : Row_of-Query n) → length (all_query_bits qs) ≡ leaves_of_all qs
    all_long query.end_of-Query = refl
    all_long (query.more_of-Query q more) = length-append (query_bits q) (all_query_bits more) ∙ (λ i. query_long q i + all_long more i)

-- ---- results that a FROM names

-- they have numbers below n
abbrev mutual
  pub FromBelow : ℕ → FromTree → Type 0
  FromBelow n (Table t m) = ⊤
  FromBelow n (Sub' p (more_of-Query q end_of-Query)) = QueryBelow n q
  FromBelow n (Result i m) = i < n
  FromBelow n (Cross' p (more_of-FromTree a end_of-FromTree) q (more_of-FromTree b end_of-FromTree)) = FromBelow n a × FromBelow n b
  FromBelow n (Inner' p (more_of-FromTree a end_of-FromTree) q (more_of-FromTree b end_of-FromTree) on) = FromBelow n a × FromBelow n b
  FromBelow n (Left' p (more_of-FromTree a end_of-FromTree) q (more_of-FromTree b end_of-FromTree) on) = FromBelow n a × FromBelow n b

  pub QueryBelow : ℕ → Query → Type 0
  QueryBelow n (Query' ts ctes ss subs from filter_ grouped keys aggs having items shown distinct order limit offset names) = FromBelow n from

module _ (P : ℕ → Type 0) (n : ℕ) (few : (i : ℕ) → P i → i < n) where
  mutual
    pub from_below : (f : FromTree) → FromNames P f → FromBelow n f
    from_below (Table t m) h = tt
    from_below (Sub' p (more_of-Query q end_of-Query)) h = query_below q h
    from_below (Result i m) h = few i h
    from_below (Cross' p (more_of-FromTree a end_of-FromTree) q (more_of-FromTree b end_of-FromTree)) h = (from_below a h.0, from_below b h.1)
    from_below (Inner' p (more_of-FromTree a end_of-FromTree) q (more_of-FromTree b end_of-FromTree) on) h = (from_below a h.0, from_below b h.1)
    from_below (Left' p (more_of-FromTree a end_of-FromTree) q (more_of-FromTree b end_of-FromTree) on) h = (from_below a h.0, from_below b h.1)

    pub query_below : (q : Query) → QueryNames P q → QueryBelow n q
    query_below (Query' ts ctes ss subs from filter_ grouped keys aggs having items shown distinct order limit offset names) h = from_below from h.0

abbrev pub StepBelow : ℕ → Step → Type 0
StepBelow n s = QueryBelow n s.query × (s.number < n)

pub steps_below : (P : ℕ → Type 0) (n : ℕ) → ((i : ℕ) → P i → i < n) → (steps : List Step) → AreScoped n P steps → AllByRecursion (StepBelow n) steps
steps_below P n few [] h = tt
steps_below P n few (s ∷ steps) h = ((query_below P n few s.query h.0, h.1), steps_below (λ i. P i ⊎ (i ≡ s.number)) n (λ i k. next i k) steps h.2)
  where
    next : (i : ℕ) → P i ⊎ (i ≡ s.number) → i < n
    next i (inl p) = few i p
    next i (inr e) = subst (λ j. j < n) (sym e) h.1

pub has_below : (n : ℕ) (steps : List Step) → AllByRecursion (StepBelow n) steps → (i : ℕ) → Has (map (λ (s : Step). s.number) steps) i → i < n
has_below n [] h i k = absurd k
has_below n (s ∷ steps) h i (inl e) = subst (λ j. j < n) e h.0.1
has_below n (s ∷ steps) h i (inr k) = has_below n steps h.1 i k

-- ---- what stays

module _ (c : Contents) (cs ds : Columns) (wide : Extends cs ds) where
  -- in the place of a FROM behind columns of these widths there is one with the same widths, which the binder lets through
  abbrev StandsIn : List ℕ → FromTree → FromTree → Type 0
  StandsIn ahead f g = (from_bits ds g ≡ from_bits cs f) × IsBoundFrom ds ahead g

  abbrev StandsInQuery : Query → Query → Type 0
  StandsInQuery q r = (output_bits ds r ≡ output_bits cs q) × IsBoundQuery ds r

  sides_stand : (ahead : List ℕ) (a b f g : FromTree) → StandsIn ahead a f → StandsIn (ahead ++ from_bits cs a) b g →
      (from_bits ds f ++ from_bits ds g ≡ from_bits cs a ++ from_bits cs b) × (IsBoundFrom ds ahead f × IsBoundFrom ds (ahead ++ from_bits ds f) g)
  sides_stand ahead a b f g u v = ((λ i. u.0 i ++ v.0 i), (u.1, subst (λ ks. IsBoundFrom ds (ahead ++ ks) g) (sym u.0) v.1))

  on_stands : (ahead ks js : List ℕ) (on : Cond) → js ≡ ks → IsBoundCondition (ahead ++ ks) (length cs.results) on → IsBoundCondition (ahead ++ js) (length ds.results) on
  on_stands ahead ks js on e h = subst (λ us. IsBoundCondition (ahead ++ us) (length ds.results) on) (sym e) (wider_condition (length cs.results) (length ds.results) wide.counted (ahead ++ ks) on h)

  result_stands : (ahead : List ℕ) (f : FromTree) (l : ℕ) → slice_index_or ds.results l [] ≡ from_bits cs f → columns_in f ≡ length (from_bits cs f) → StandsIn ahead f (Result l (columns_in f))
  result_stands ahead f l e long = (e, long ∙ ap length (sym e))

  mutual
    pub from_stands : (leaving : Leaving) (rels : List Relation) (f : FromTree) (start : ℕ) (outer : Option OuterJoin) (l : ℕ) (ahead : List ℕ) → FromBelow (length cs.results) f → IsBoundFrom cs ahead f →
        Stand ds.results l (relation_bits cs f) → StandsIn ahead f (from_staying c leaving rels f start outer l)
    from_stands leaving rels (Table t n) start outer l ahead below h s = by_cases (leaves leaving rels _)
      where
        by_cases : (b : Bool) → StandsIn ahead (Table t n) (result_if b l n (Table t n))
        by_cases true = result_stands ahead (Table t n) l s.0 h
        by_cases false = let e : table_bits ds.tables t ≡ table_bits cs.tables t = ap (λ us. table_bits us t) wide.tables in (e, h ∙ ap length (sym e))
    from_stands leaving rels (Sub' p (more_of-Query q end_of-Query)) start outer l ahead below h s = by_cases (leaves_subquery leaving rels _) (query_stands (inside leaving) q (l + 1) below h s.1)
      where
        by_cases : (b : Bool) → StandsInQuery q (query_staying c (inside leaving) q (l + 1)) →
            StandsIn ahead (Sub' p (more_of-Query q end_of-Query)) (result_if b l (outputs_of q) (Sub' p (more_of-Query (query_staying c (inside leaving) q (l + 1)) end_of-Query)))
        by_cases true stays = result_stands ahead (Sub' p (more_of-Query q end_of-Query)) l s.0 (columns_are cs ahead (Sub' p (more_of-Query q end_of-Query)) h)
        by_cases false stays = stays
    from_stands leaving rels (Result i n) start outer l ahead below h s = let e = wide.results i below in (e, h ∙ ap length (sym e))
    from_stands leaving rels (Cross' p (more_of-FromTree a end_of-FromTree) q (more_of-FromTree b end_of-FromTree)) start outer l ahead below h s =
        let f : FromTree = from_staying c leaving rels a start None l in
        let g : FromTree = from_staying c leaving rels b (start + columns_in a) None (l + leaves_in a) in
        sides_stand ahead a b f g (from_stands leaving rels a start None l ahead below.0 h.0 (stand_left ds.results (relation_bits cs a) (relation_bits cs b) l s))
        (from_stands leaving rels b (start + columns_in a) None (l + leaves_in a) (ahead ++ from_bits cs a) below.1 h.1
        (stand_right ds.results (relation_bits cs a) (relation_bits cs b) l (leaves_in a) (relations_long cs a) s))
    from_stands leaving rels (Inner' p (more_of-FromTree a end_of-FromTree) q (more_of-FromTree b end_of-FromTree) on) start outer l ahead below h s =
        let f : FromTree = from_staying c leaving rels a start None l in
        let g : FromTree = from_staying c leaving rels b (start + columns_in a) None (l + leaves_in a) in
        let u = sides_stand ahead a b f g (from_stands leaving rels a start None l ahead below.0 h.0 (stand_left ds.results (relation_bits cs a) (relation_bits cs b) l s))
        (from_stands leaving rels b (start + columns_in a) None (l + leaves_in a) (ahead ++ from_bits cs a) below.1 h.1
        (stand_right ds.results (relation_bits cs a) (relation_bits cs b) l (leaves_in a) (relations_long cs a) s)) in
        (u.0, (u.1.0, u.1.1, on_stands ahead (from_bits cs a ++ from_bits cs b) (from_bits ds f ++ from_bits ds g) on u.0 h.2))
    from_stands leaving rels (Left' p (more_of-FromTree a end_of-FromTree) q (more_of-FromTree b end_of-FromTree) on) start outer l ahead below h s =
        let f : FromTree = from_staying c leaving rels a start None l in
        let g : FromTree = from_staying c leaving rels b (start + columns_in a) (Some (record { left = start; equalities = equalities (conjuncts on) })) (l + leaves_in a) in
        let u = sides_stand ahead a b f g (from_stands leaving rels a start None l ahead below.0 h.0 (stand_left ds.results (relation_bits cs a) (relation_bits cs b) l s))
        (from_stands leaving rels b (start + columns_in a) (Some (record { left = start; equalities = equalities (conjuncts on) })) (l + leaves_in a) (ahead ++ from_bits cs a) below.1 h.1
        (stand_right ds.results (relation_bits cs a) (relation_bits cs b) l (leaves_in a) (relations_long cs a) s)) in
        (u.0, (u.1.0, u.1.1, on_stands ahead (from_bits cs a ++ from_bits cs b) (from_bits ds f ++ from_bits ds g) on u.0 h.2))

    pub query_stands : (leaving : Leaving) (q : Query) (l : ℕ) → QueryBelow (length cs.results) q → IsBoundQuery cs q → Stand ds.results l (query_bits cs q) → StandsInQuery q (query_staying c leaving q l)
    query_stands leaving (Query' ts ctes ss subs from filter_ grouped keys aggs having items shown distinct order limit offset names) l below h s =
        let rest : List (List ℕ) = relation_bits cs from ++ all_query_bits cs subs in
        let inner : Stand ds.results (l + leaves_of_all ctes) rest = stand_right ds.results (all_query_bits cs ctes) rest l (leaves_of_all ctes) (all_long cs ctes) s in
        let g : FromTree = from_staying c leaving (relations c from 0 None) from 0 None (l + leaves_of_all ctes) in
        let u = from_stands leaving (relations c from 0 None) from 0 None (l + leaves_of_all ctes) [] below h.0 (stand_left ds.results (relation_bits cs from) (all_query_bits cs subs) (l + leaves_of_all ctes) inner) in
        let items_bound = wider_items (length cs.results) (length ds.results) wide.counted (from_bits cs from) filter_ grouped keys aggs having items h.1 in (
          ap (λ ks. take shown (map (bits (input_bits ks grouped keys aggs)) items)) u.0,
          (u.1, subst (λ ks. AreBoundItems ks (length ds.results) filter_ grouped keys aggs having items) (sym u.0) items_bound, h.2),
        )
