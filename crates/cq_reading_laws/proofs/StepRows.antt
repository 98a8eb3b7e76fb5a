-- The steps in a query and in a FROM at the nodes as the walk makes them, where a query's parts are lists.
use Rattle.std.proofs.Common.{◌≡◌, ℕ, ◌+◌, List, [], ◌∷◌, ◌++◌, length, refl, sym, ap, ◌∙◌, arith, append_assoc}
use Rattle.std.specs.List.{AllByRecursion}
use denote.Hole.Carrier.{hidden}
use Rattle.cq_tree.specs.declared.expression.Cond.{Cond}
use Rattle.cq_tree.specs.declared.query.FromTree.{FromTree, Sub, Cross, Inner, Left}
use Rattle.cq_tree.specs.declared.query.FromTree.TheBlock.{hidden-the_row-FromTree-1, hidden-the_row-Query-0, hidden-the_row-Query-2}
use Rattle.cq_tree.specs.declared.query.FromTree.TheOpen.{Query-F}
use Rattle.cq_tree.specs.declared.query.Query.{Query, Row_of-Query, end_of-Query, more_of-Query, items-the_row-Query, items_hidden-the_row-Query-2, roll-Query}
use Rattle.cq_meaning.specs.Results.{ins_in, ins_in_from, ins_in_all, ins_in_ctes, count_of}
use Rattle.cq_meaning_laws.specs.WholeRules.{Step, steps_in, steps_in_from, steps_in_all, steps_in_ctes, steps_of}

-- ---- lists of queries

abbrev pub ins_all : List Query → ℕ
ins_all [] = 0
ins_all (q ∷ more) = 1 + ins_in q + ins_all more

abbrev pub steps_all : ℕ → List Query → List Step
steps_all k [] = []
steps_all k (q ∷ more) = steps_in (k + 1) q ++ (record { number = k; query = q } ∷ steps_all (k + 1 + ins_in q) more)

abbrev pub ins_ctes : List Query → ℕ
ins_ctes [] = 0
ins_ctes (q ∷ more) = ins_in q + ins_ctes more

abbrev pub steps_ctes : ℕ → ℕ → List Query → List Step
steps_ctes i k [] = []
steps_ctes i k (q ∷ more) = steps_in k q ++ (record { number = i; query = q } ∷ steps_ctes (i + 1) (k + ins_in q) more)

ins_row : {n : _} (qs : Row_of-Query n) → ins_in_all qs ≡ ins_all (items-the_row-Query _ qs)
ins_row end_of-Query = refl
ins_row (more_of-Query q more) = ap (λ n. 1 + ins_in q + n) (ins_row more)

steps_row : {n : _} (qs : Row_of-Query n) (k : ℕ) → steps_in_all k qs ≡ steps_all k (items-the_row-Query _ qs)
steps_row end_of-Query k = refl
steps_row (more_of-Query q more) k = ap (λ ss. steps_in (k + 1) q ++ (record { number = k; query = q } ∷ ss)) (steps_row more (k + 1 + ins_in q))

count_row : {n : _} (qs : Row_of-Query n) → count_of qs ≡ length (items-the_row-Query _ qs)
count_row end_of-Query = refl
count_row (more_of-Query q more) = let e = count_row more in omega (arith, e)

ins_ctes_row : {n : _} (qs : Row_of-Query n) → ins_in_ctes qs ≡ ins_ctes (items-the_row-Query _ qs)
ins_ctes_row end_of-Query = refl
ins_ctes_row (more_of-Query q more) = ap (λ n. ins_in q + n) (ins_ctes_row more)

steps_ctes_row : {n : _} (qs : Row_of-Query n) (i k : ℕ) → steps_in_ctes i k qs ≡ steps_ctes i k (items-the_row-Query _ qs)
steps_ctes_row end_of-Query i k = refl
steps_ctes_row (more_of-Query q more) i k = ap (λ ss. steps_in k q ++ (record { number = i; query = q } ∷ ss)) (steps_ctes_row more (i + 1) (k + ins_in q))

ins_hidden : (qs : List Query) → ins_in_all (hidden-the_row-Query-2 qs) ≡ ins_all qs
ins_hidden qs = ins_row (hidden-the_row-Query-2 qs) ∙ ap ins_all (items_hidden-the_row-Query-2 qs)

steps_hidden : (qs : List Query) (k : ℕ) → steps_in_all k (hidden-the_row-Query-2 qs) ≡ steps_all k qs
steps_hidden qs k = steps_row (hidden-the_row-Query-2 qs) k ∙ ap (λ qs. steps_all k qs) (items_hidden-the_row-Query-2 qs)

pub count_hidden : (qs : List Query) → count_of (hidden-the_row-Query-2 qs) ≡ length qs
count_hidden qs = count_row (hidden-the_row-Query-2 qs) ∙ ap length (items_hidden-the_row-Query-2 qs)

pub ins_ctes_hidden : (qs : List Query) → ins_in_ctes (hidden-the_row-Query-2 qs) ≡ ins_ctes qs
ins_ctes_hidden qs = ins_ctes_row (hidden-the_row-Query-2 qs) ∙ ap ins_ctes (items_hidden-the_row-Query-2 qs)

steps_ctes_hidden : (qs : List Query) (i k : ℕ) → steps_in_ctes i k (hidden-the_row-Query-2 qs) ≡ steps_ctes i k qs
steps_ctes_hidden qs i k = steps_ctes_row (hidden-the_row-Query-2 qs) i k ∙ ap (λ qs. steps_ctes i k qs) (items_hidden-the_row-Query-2 qs)

-- ---- a query

pub ins_query : (x : Query-F FromTree Query) → ins_in (roll-Query x) ≡ ins_in_from x.from + ins_all x.subs
unfolding roll-Query denote.Hole.Carrier.roll
ins_query x = ap (λ n. ins_in_from x.from + n) (ins_hidden x.subs)

pub steps_query : (x : Query-F FromTree Query) (k : ℕ) → steps_in k (roll-Query x) ≡ steps_in_from k x.from ++ steps_all (k + ins_in_from x.from) x.subs
unfolding roll-Query denote.Hole.Carrier.roll
steps_query x k = ap (λ ss. steps_in_from k x.from ++ ss) (steps_hidden x.subs (k + ins_in_from x.from))

-- the steps of a whole statement behind n CTEs, which hold m IN subqueries
abbrev steps_behind : ℕ → ℕ → Query-F FromTree Query → List Step
steps_behind n m x = steps_ctes 0 n x.ctes ++ (steps_in_from (n + m) x.from ++ steps_all (n + m + ins_in_from x.from) x.subs)

steps_of_rows : (x : Query-F FromTree Query) → steps_of (roll-Query x) ≡ (
    let n = count_of (hidden-the_row-Query-2 x.ctes) in
    let m = n + ins_in_ctes (hidden-the_row-Query-2 x.ctes) in
    steps_in_ctes 0 n (hidden-the_row-Query-2 x.ctes) ++ (steps_in_from m x.from ++ steps_in_all (m + ins_in_from x.from) (hidden-the_row-Query-2 x.subs)))
unfolding roll-Query denote.Hole.Carrier.roll
steps_of_rows x = refl

pub steps_statement : (x : Query-F FromTree Query) → steps_of (roll-Query x) ≡ steps_behind (length x.ctes) (ins_ctes x.ctes) x
steps_statement x =
    let row = hidden-the_row-Query-2 x.ctes in
    let n = count_of row in
    let m = n + ins_in_ctes row in
    steps_of_rows x ∙ (ap (λ ss. ss ++ (steps_in_from m x.from ++ steps_in_all (m + ins_in_from x.from) (hidden-the_row-Query-2 x.subs))) (steps_ctes_hidden x.ctes 0 n)
    ∙ (ap (λ ss. steps_ctes 0 n x.ctes ++ (steps_in_from m x.from ++ ss)) (steps_hidden x.subs (m + ins_in_from x.from))
    ∙ (ap (λ j. steps_behind n j x) (ins_ctes_hidden x.ctes) ∙ ap (λ i. steps_behind i (ins_ctes x.ctes) x) (count_hidden x.ctes))))

-- ---- a FROM

pub ins_cross : (a b : FromTree) → ins_in_from (Cross a b) ≡ ins_in_from a + ins_in_from b
unfolding hidden-the_row-FromTree-1 hidden
ins_cross a b = refl

pub ins_inner : (a b : FromTree) (c : Cond) → ins_in_from (Inner a b c) ≡ ins_in_from a + ins_in_from b
unfolding hidden-the_row-FromTree-1 hidden
ins_inner a b c = refl

pub ins_left : (a b : FromTree) (c : Cond) → ins_in_from (Left a b c) ≡ ins_in_from a + ins_in_from b
unfolding hidden-the_row-FromTree-1 hidden
ins_left a b c = refl

pub ins_sub : (q : Query) → ins_in_from (Sub q) ≡ ins_in q
unfolding hidden-the_row-Query-0 hidden
ins_sub q = refl

pub steps_cross : (k : ℕ) (a b : FromTree) → steps_in_from k (Cross a b) ≡ steps_in_from k a ++ steps_in_from (k + ins_in_from a) b
unfolding hidden-the_row-FromTree-1 hidden
steps_cross k a b = refl

pub steps_inner : (k : ℕ) (a b : FromTree) (c : Cond) → steps_in_from k (Inner a b c) ≡ steps_in_from k a ++ steps_in_from (k + ins_in_from a) b
unfolding hidden-the_row-FromTree-1 hidden
steps_inner k a b c = refl

pub steps_left : (k : ℕ) (a b : FromTree) (c : Cond) → steps_in_from k (Left a b c) ≡ steps_in_from k a ++ steps_in_from (k + ins_in_from a) b
unfolding hidden-the_row-FromTree-1 hidden
steps_left k a b c = refl

pub steps_sub : (k : ℕ) (q : Query) → steps_in_from k (Sub q) ≡ steps_in k q
unfolding hidden-the_row-Query-0 hidden
steps_sub k q = refl

-- ---- lists behind one another

pub all_as : {A : Type 0} (P Q : A → Type 0) (xs : List A) → ((x : A) → P x → Q x) → AllByRecursion P xs → AllByRecursion Q xs
all_as P Q [] f h = tt
all_as P Q (x ∷ xs) f h = (f x h.0, all_as P Q xs f h.1)

pub ins_append : (ps qs : List Query) → ins_all (ps ++ qs) ≡ ins_all ps + ins_all qs
ins_append [] qs = omega arith
ins_append (p ∷ ps) qs = let e = ins_append ps qs in omega (arith, e)

pub steps_append : (k : ℕ) (ps qs : List Query) → steps_all k (ps ++ qs) ≡ steps_all k ps ++ steps_all (k + ins_all ps) qs
steps_append k [] qs = let e : k ≡ k + 0 = omega arith in ap (λ i. steps_all i qs) e
steps_append k (p ∷ ps) qs =
    let e : k + 1 + ins_in p + ins_all ps ≡ k + (1 + ins_in p + ins_all ps) = omega arith in
    ap (λ ss. steps_in (k + 1) p ++ (record { number = k; query = p } ∷ ss)) (steps_append (k + 1 + ins_in p) ps qs ∙ ap (λ i. steps_all (k + 1 + ins_in p) ps ++ steps_all i qs) e)
    ∙ sym (append_assoc (steps_in (k + 1) p) (record { number = k; query = p } ∷ steps_all (k + 1 + ins_in p) ps) (steps_all (k + (1 + ins_in p + ins_all ps)) qs))

pub ins_ctes_last : (qs : List Query) (q : Query) → ins_ctes (qs ++ q ∷ []) ≡ ins_ctes qs + ins_in q
ins_ctes_last [] q = omega arith
ins_ctes_last (p ∷ ps) q = let e = ins_ctes_last ps q in omega (arith, e)

pub steps_ctes_last : (i k : ℕ) (qs : List Query) (q : Query) → steps_ctes i k (qs ++ q ∷ []) ≡ steps_ctes i k qs ++ (steps_in (k + ins_ctes qs) q ++ (record { number = i + length qs; query = q } ∷ []))
steps_ctes_last i k [] q =
    let d : k ≡ k + 0 = omega arith in
    let e : i ≡ i + 0 = omega arith in
    ap (λ j. steps_in j q ++ (record { number = i; query = q } ∷ [])) d ∙ ap (λ j. steps_in (k + 0) q ++ (record { number = j; query = q } ∷ [])) e
steps_ctes_last i k (p ∷ ps) q =
    let d : k + ins_in p + ins_ctes ps ≡ k + (ins_in p + ins_ctes ps) = omega arith in
    let e : i + 1 + length ps ≡ i + length (p ∷ ps) = omega arith in
    let step : ℕ → Step = λ j. record { number = j; query = q } in
    ap (λ ss. steps_in k p ++ (record { number = i; query = p } ∷ ss)) (steps_ctes_last (i + 1) (k + ins_in p) ps q
    ∙ (ap (λ j. steps_ctes (i + 1) (k + ins_in p) ps ++ (steps_in j q ++ (step (i + 1 + length ps) ∷ []))) d
    ∙ ap (λ j. steps_ctes (i + 1) (k + ins_in p) ps ++ (steps_in (k + (ins_in p + ins_ctes ps)) q ++ (step j ∷ []))) e))
    ∙ sym (append_assoc (steps_in k p) (record { number = i; query = p } ∷ steps_ctes (i + 1) (k + ins_in p) ps) (steps_in (k + (ins_in p + ins_ctes ps)) q ++ (step (i + length (p ∷ ps)) ∷ [])))
